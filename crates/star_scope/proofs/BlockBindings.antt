-- The bindings of a file's block, one level at a time.
use Rattle.std.proofs.Common.{arith, ◌≡◌, ◌<◌, ◌≤◌, ◌+◌, ℕ, List, [], ◌∷◌, ◌++◌, ap, sym, ◌∙◌, length, map, take, append-nil, subst, ◌⊎◌, inl, inr, Option}
use Rattle.std.specs.List.{flat_map}
use Rattle.std.proofs.Math.ListN.{get_or}
use Rattle.std.proofs.Math.Seq.{take-length}
use Rattle.std.proofs.lemmas.List.{append_assoc, take_more}
use Rattle.std.proofs.lemmas.Grind.{flat_map-append}
use Rattle.star_tree.specs.declared.tree.Target.{Target}
use Rattle.star_tree.specs.declared.tree.Target.TheVariants as t
use Rattle.star_tree.specs.declared.tree.Expression.{Expression}
use Rattle.star_tree.specs.declared.tree.Parameter.{Parameter}
use Rattle.star_tree.specs.declared.tree.Argument.TheOpen as tree
use Rattle.star_tree.specs.declared.tree.Argument.TheFolds.{fold-roll-Target}
use Rattle.star_tree.specs.declared.tree.Form.{Form, roll-Form, map-Form}
use Rattle.star_tree.specs.declared.tree.Form.TheVariants as v
use Rattle.star_tree.specs.declared.tree.Arm.{Arm, out-Arm}
use Rattle.star_tree.specs.declared.tree.Statement.{Statement, out-Statement}
use Rattle.star_tree.specs.declared.tree.Form.TheOpen as form
use Rattle.star_tree.specs.declared.tree.Form.TheFolds.{fold-roll-Form, fold_out-Arm, fold_out-Statement}
use Rattle.star_tree.specs.declared.tree.Literal.{Literal}
use Rattle.star_tree.specs.declared.tree.LoadedName.{LoadedName}
use Rattle.star_tree.specs.declared.tree.BinaryOperator.{BinaryOperator}
use Rattle.star_tree.specs.declared.tree.Name.{Name}
use Rattle.star_scope.specs.declared.conflicts.Bound.{Bound}
use Rattle.star_scope.specs.Bound.{Binds}
use Rattle.star_scope.specs.Conflicts.{Bindings, all_of, arm_bindings, arm_step, arms_bindings, form_bindings, form_step, loaded_binding, nothing, shared, statement_bindings, statement_step, statements_bindings, target_bindings, target_step, targets_bindings}
use Rattle.star_scope.proofs.Bindings.{bind_both, bind_none}

-- a turn of a loop that adds the bindings of a list's items, and its end
pub binds_turn : {A : Type 0} (one : A → Bindings) (each : List A → Bindings) (next : (xs : List A) (x : A) → each (xs ++ x ∷ []) ≡ each xs ++ one x)
    (xs : List A) (i : ℕ) (x : A) (a b c : Bound) → i < length xs → x ≡ get_or xs i x → Binds (each (take i xs)) a b → Binds (one x) b c → Binds (each (take (i + 1) xs)) a c
binds_turn one each next xs i x a b c lt is f g =
    subst (λ bs. Binds bs a c)
    (sym (ap each (take_more xs i x lt) ∙ ap (λ y. each (take i xs ++ y ∷ [])) (sym is) ∙ next (take i xs) x))
    (bind_both (each (take i xs)) (one x) a b c f g)

pub binds_done : {A : Type 0} (each : List A → Bindings) (xs : List A) (i : ℕ) (a b : Bound) → length xs ≤ i → i ≤ length xs → Binds (each (take i xs)) a b → Binds (each xs) a b
binds_done each xs i a b le ge f = subst (λ ys. Binds (each ys) a b) (ap (λ k. take k xs) (omega (arith, le, ge)) ∙ take-length xs) f

pub all_next : {A : Type 0} (one : A → Bindings) (xs : List A) (x : A) → all_of (map one (xs ++ x ∷ [])) ≡ all_of (map one xs) ++ one x
all_next one [] x = append-nil (one x)
all_next one (y ∷ ys) x = ap (λ bs. one y ++ bs) (all_next one ys x) ∙ sym (append_assoc (one y) (all_of (map one ys)) (one x))

pub loaded_next : (xs : List LoadedName) (x : LoadedName) → flat_map loaded_binding (xs ++ x ∷ []) ≡ flat_map loaded_binding xs ++ loaded_binding x
loaded_next xs x = flat_map-append loaded_binding xs (x ∷ []) ∙ ap (λ bs. flat_map loaded_binding xs ++ bs) (append-nil (loaded_binding x))

-- ---- targets

pub of_Name : (n : Name) → target_bindings (t.Name n) ≡ shared n
of_Name n = ap target_bindings (sym (t.rolls-Name n)) ∙ fold-roll-Target Bindings Bindings Bindings Bindings Bindings Bindings Bindings nothing nothing nothing nothing target_step nothing nothing (tree.Target-F.Target::Name n)

pub of_Index : (e i : Expression) → target_bindings (t.Index e i) ≡ []
of_Index e i = ap target_bindings (sym (t.rolls-Index e i)) ∙ fold-roll-Target Bindings Bindings Bindings Bindings Bindings Bindings Bindings nothing nothing nothing nothing target_step nothing nothing (tree.Target-F.Target::Index e i)

pub of_Tuple : (ts : List Target) → target_bindings (t.Tuple ts) ≡ targets_bindings ts
of_Tuple ts = ap target_bindings (sym (t.rolls-Tuple ts)) ∙ fold-roll-Target Bindings Bindings Bindings Bindings Bindings Bindings Bindings nothing nothing nothing nothing target_step nothing nothing (tree.Target-F.Target::Tuple ts)

pub of_List : (ts : List Target) → target_bindings (t.List ts) ≡ targets_bindings ts
of_List ts = ap target_bindings (sym (t.rolls-List ts)) ∙ fold-roll-Target Bindings Bindings Bindings Bindings Bindings Bindings Bindings nothing nothing nothing nothing target_step nothing nothing (tree.Target-F.Target::List ts)

pub of_display : (x : Target) (ts : List Target) → (x ≡ t.Tuple ts) ⊎ (x ≡ t.List ts) → target_bindings x ≡ targets_bindings ts
of_display x ts (inl e) = ap target_bindings e ∙ of_Tuple ts
of_display x ts (inr e) = ap target_bindings e ∙ of_List ts

-- ---- statements

pub arm_opened : (a : Arm) → arm_bindings a ≡ statements_bindings (out-Arm a).body
arm_opened a = fold_out-Arm Bindings Bindings Bindings form_step arm_step statement_step a

pub statement_opened : (s : Statement) → statement_bindings s ≡ form_bindings (out-Statement s).form
statement_opened s = fold_out-Statement Bindings Bindings Bindings form_step arm_step statement_step s

pub of_assigned : (f : Form) (x : Target) → ((e : Expression) × (f ≡ v.Assign x e)) ⊎ ((op : BinaryOperator) × (e : Expression) × (f ≡ v.Augment x op e)) → form_bindings f ≡ target_bindings x
of_assigned f x (inl (e, is)) = ap form_bindings (is ∙ sym (v.rolls-Assign x e)) ∙ fold-roll-Form Bindings Bindings Bindings form_step arm_step statement_step (form.Assign x e)
of_assigned f x (inr (op, e, is)) = ap form_bindings (is ∙ sym (v.rolls-Augment x op e)) ∙ fold-roll-Form Bindings Bindings Bindings form_step arm_step statement_step (form.Augment x op e)

pub of_Load : (l : Literal) (ns : List LoadedName) → form_bindings (v.Load l ns) ≡ flat_map loaded_binding ns
of_Load l ns = ap form_bindings (sym (v.rolls-Load l ns)) ∙ fold-roll-Form Bindings Bindings Bindings form_step arm_step statement_step (form.Load l ns)

pub of_If : (arms : List Arm) (ss : List Statement) → form_bindings (v.If arms ss) ≡ arms_bindings arms ++ statements_bindings ss
of_If arms ss = ap form_bindings (sym (v.rolls-If arms ss)) ∙ fold-roll-Form Bindings Bindings Bindings form_step arm_step statement_step (form.If arms ss)

pub of_For : (x : Target) (e : Expression) (ss : List Statement) → form_bindings (v.For x e ss) ≡ target_bindings x ++ statements_bindings ss
of_For x e ss = ap form_bindings (sym (v.rolls-For x e ss)) ∙ fold-roll-Form Bindings Bindings Bindings form_step arm_step statement_step (form.For x e ss)

pub of_Def : (n : Name) (ps : List Parameter) (ss : List Statement) → form_bindings (v.Def n ps ss) ≡ shared n
of_Def n ps ss = ap form_bindings (sym (v.rolls-Def n ps ss)) ∙ fold-roll-Form Bindings Bindings Bindings form_step arm_step statement_step (form.Def n ps ss)

step_of : (l : form.Form-F Form Arm Statement) → form_bindings (roll-Form l) ≡ form_step (map-Form Form Arm Statement Bindings Bindings Bindings form_bindings arm_bindings statement_bindings l)
step_of l = fold-roll-Form Bindings Bindings Bindings form_step arm_step statement_step l

-- a statement that binds nothing
of_others : (f : Form) → ((e : Expression) × (f ≡ v.Expression e)) ⊎ ((f ≡ v.Pass) ⊎ ((f ≡ v.Break) ⊎ ((f ≡ v.Continue) ⊎ ((e : Option Expression) × (f ≡ v.Return e))))) → form_bindings f ≡ []
of_others f (inl (e, is)) = ap form_bindings (is ∙ sym (v.rolls-Expression e)) ∙ step_of (form.Expression e)
of_others f (inr (inl is)) = ap form_bindings (is ∙ sym v.rolls-Pass) ∙ step_of form.Pass
of_others f (inr (inr (inl is))) = ap form_bindings (is ∙ sym v.rolls-Break) ∙ step_of form.Break
of_others f (inr (inr (inr (inl is)))) = ap form_bindings (is ∙ sym v.rolls-Continue) ∙ step_of form.Continue
of_others f (inr (inr (inr (inr (e, is))))) = ap form_bindings (is ∙ sym (v.rolls-Return e)) ∙ step_of (form.Return e)

pub bind_others : (f : Form) (b : Bound) → ((e : Expression) × (f ≡ v.Expression e)) ⊎ ((f ≡ v.Pass) ⊎ ((f ≡ v.Break) ⊎ ((f ≡ v.Continue) ⊎ ((e : Option Expression) × (f ≡ v.Return e))))) → Binds (form_bindings f) b b
bind_others f b is = subst (λ bs. Binds bs b b) (sym (of_others f is)) (bind_none b)
