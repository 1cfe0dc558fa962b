-- The names that the parts of a file bind, one after another, and one level of the tree at a time.
use Rattle.std.proofs.Common.{◌≡◌, ◌<◌, ◌≤◌, ◌+◌, ℕ, List, [], ◌∷◌, ◌++◌, refl, ap, sym, ◌∙◌, length, drop}
use Rattle.std.proofs.Math.ListN.{get_or}
use Rattle.star_tree.specs.declared.tree.Target.{Target, out-Target, roll-Target, roll-out-Target}
use Rattle.star_tree.specs.declared.tree.Argument.TheOpen as tree
use Rattle.star_tree.specs.declared.tree.Argument.TheFolds.{fold-roll-Target}
use Rattle.star_tree.specs.declared.tree.Parameter.{out-Parameter, out-roll-Parameter}
use Rattle.star_tree.specs.declared.tree.Parameter.TheVariants as p
use Rattle.star_tree.specs.declared.tree.Clause.{out-Clause, out-roll-Clause}
use Rattle.star_tree.specs.declared.tree.Clause.TheVariants as c
use Rattle.star_tree.specs.declared.tree.Form.{Form, out-Form, roll-Form, roll-out-Form}
use Rattle.star_tree.specs.declared.tree.Arm.{Arm, out-Arm}
use Rattle.star_tree.specs.declared.tree.Statement.{Statement, out-Statement}
use Rattle.star_tree.specs.declared.tree.Form.TheOpen as form
use Rattle.star_tree.specs.declared.tree.Form.TheVariants as v
use Rattle.star_tree.specs.declared.tree.Expression.{Expression}
use Rattle.star_tree.specs.declared.tree.Form.TheFolds.{fold-roll-Form, fold_out-Arm, fold_out-Statement}
use Rattle.star_outline.specs.Names.{Names, with_name, with_names}
use Rattle.star_outline.specs.Syntax.{TargetForm}
use Rattle.star_outline.specs.Outlines.{arm_step, arms_loaded, arms_names, block_names, bound_step, clause_names, clause_step, form_loaded, form_names, loaded_names, loads_step, names_step, no_names, parameter_names, parameter_step, target_names, target_step, targets_names, bound_by, loads_by}
use Rattle.star_outline.proofs.Turns.{added, added_all}

pub with_joined : (known ns ms : Names) → with_names known (ns ++ ms) ≡ with_names (with_names known ns) ms
unfolding with_names
with_joined known [] ms = refl
with_joined known (n ∷ ns) ms = with_joined (with_name known n) ns ms

pub with_none : (known : Names) → with_names known [] ≡ known
unfolding with_names
with_none known = refl

pub with_one : (known : Names) (n : List ℕ) → with_names known (n ∷ []) ≡ with_name known n
unfolding with_names
with_one known n = refl

-- a turn of a loop over parts that bind names, and its end
pub names_turn : {A : Type 0} (one : A → Names) (each : List A → Names) (next : (x : A) (xs : List A) → each (x ∷ xs) ≡ one x ++ each xs)
    (xs : List A) (i : ℕ) (x : A) (old more total : Names) → i < length xs → x ≡ get_or xs i x → more ≡ with_names old (one x)
    → with_names old (each (drop i xs)) ≡ total → with_names more (each (drop (i + 1) xs)) ≡ total
names_turn one each next = added with_names (λ ns ms. ns ++ ms) with_joined one each next

pub names_done : {A : Type 0} (each : List A → Names) (xs : List A) (i : ℕ) (old total : Names) → each [] ≡ [] → length xs ≤ i → with_names old (each (drop i xs)) ≡ total → old ≡ total
names_done each xs i old total none le inv = added_all with_names each xs i old total (ap (with_names old) none ∙ with_none old) le inv

-- ---- targets

abbrev pub target_level : TargetForm → Names
target_level (tree.Target-F.Target::Name n) = n.text ∷ []
target_level (tree.Target-F.Target::Index e i) = []
target_level (tree.Target-F.Target::Tuple ts) = targets_names ts
target_level (tree.Target-F.Target::List ts) = targets_names ts

-- (a clause with a form comes first, so that the last one is read at each form by itself)
target_rolled : (l : TargetForm) → target_names (roll-Target l) ≡ target_level l
target_rolled (tree.Target-F.Target::Name n) = fold-roll-Target Names Names Names Names Names Names Names no_names no_names no_names no_names target_step no_names no_names (tree.Target-F.Target::Name n)
target_rolled l = fold-roll-Target Names Names Names Names Names Names Names no_names no_names no_names no_names target_step no_names no_names l

pub target_opened : (t : Target) → target_names t ≡ target_level (out-Target t)
target_opened t = ap target_names (sym (roll-out-Target t)) ∙ target_rolled (out-Target t)

-- ---- parameters and clauses

pub of_BareStar : parameter_names p.BareStar ≡ []
of_BareStar = ap parameter_step (ap out-Parameter (sym p.rolls-BareStar) ∙ out-roll-Parameter tree.BareStar)

pub of_condition : (e : Expression) → clause_names (c.If e) ≡ []
of_condition e = ap clause_step (ap out-Clause (sym (c.rolls-If e)) ∙ out-roll-Clause (tree.If e))

-- ---- statements

-- (a clause with a form comes first, so that the last one is read at each form by itself)
form_rolled : (l : form.Form-F Form Arm Statement) → form_names (roll-Form l) ≡ bound_by arms_names block_names l
form_rolled (form.Expression e) = fold-roll-Form Names Names Names bound_step arm_step names_step (form.Expression e)
form_rolled l = fold-roll-Form Names Names Names bound_step arm_step names_step l

pub form_opened : (f : Form) → form_names f ≡ bound_by arms_names block_names (out-Form f)
form_opened f = ap form_names (sym (roll-out-Form f)) ∙ form_rolled (out-Form f)

-- (a clause with a form comes first, so that the last one is read at each form by itself)
loads_rolled : (l : form.Form-F Form Arm Statement) → form_loaded (roll-Form l) ≡ loads_by arms_loaded loaded_names l
loads_rolled (form.Expression e) = fold-roll-Form Names Names Names loads_step arm_step names_step (form.Expression e)
loads_rolled l = fold-roll-Form Names Names Names loads_step arm_step names_step l

pub loads_opened : (f : Form) → form_loaded f ≡ loads_by arms_loaded loaded_names (out-Form f)
loads_opened f = ap form_loaded (sym (roll-out-Form f)) ∙ loads_rolled (out-Form f)

-- statements of two parts
pub names_both : (ns ms all old mid new : Names) → all ≡ ns ++ ms → mid ≡ with_names old ns → new ≡ with_names mid ms → new ≡ with_names old all
names_both ns ms all old mid new whole first then = then ∙ ap (λ m. with_names m ms) first ∙ sym (with_joined old ns ms) ∙ ap (with_names old) (sym whole)

pub form_If : (arms : List Arm) (ss : List Statement) → form_names (v.If arms ss) ≡ arms_names arms ++ block_names ss
form_If arms ss = ap form_names (sym (v.rolls-If arms ss)) ∙ form_rolled (form.If arms ss)

pub form_For : (t : Target) (e : Expression) (ss : List Statement) → form_names (v.For t e ss) ≡ target_names t ++ block_names ss
form_For t e ss = ap form_names (sym (v.rolls-For t e ss)) ∙ form_rolled (form.For t e ss)

pub loads_If : (arms : List Arm) (ss : List Statement) → form_loaded (v.If arms ss) ≡ arms_loaded arms ++ loaded_names ss
loads_If arms ss = ap form_loaded (sym (v.rolls-If arms ss)) ∙ loads_rolled (form.If arms ss)

pub statements_next : (s : Statement) (ss : List Statement) → block_names (s ∷ ss) ≡ form_names (out-Statement s).form ++ block_names ss
statements_next s ss = ap (λ ns. ns ++ block_names ss) (fold_out-Statement Names Names Names bound_step arm_step names_step s)

pub arms_next : (a : Arm) (arms : List Arm) → arms_names (a ∷ arms) ≡ block_names (out-Arm a).body ++ arms_names arms
arms_next a arms = ap (λ ns. ns ++ arms_names arms) (fold_out-Arm Names Names Names bound_step arm_step names_step a)

pub loads_next : (s : Statement) (ss : List Statement) → loaded_names (s ∷ ss) ≡ form_loaded (out-Statement s).form ++ loaded_names ss
loads_next s ss = ap (λ ns. ns ++ loaded_names ss) (fold_out-Statement Names Names Names loads_step arm_step names_step s)

pub loading_arms_next : (a : Arm) (arms : List Arm) → arms_loaded (a ∷ arms) ≡ loaded_names (out-Arm a).body ++ arms_loaded arms
loading_arms_next a arms = ap (λ ns. ns ++ arms_loaded arms) (fold_out-Arm Names Names Names loads_step arm_step names_step a)
