-- The parts of a program, by places and by names: each does the same, if its parts do.
use Rattle.std.proofs.Common.{◌≡◌, ℕ, ◌+◌, List, [], ◌∷◌, ◌++◌, length, nat_eq, Option, Some, None, refl, sym, ◌∙◌, subst}
use Rattle.std.specs.List.{Contains}
use Rattle.std.specs.Option.{option_map}
use Rattle.star_store.specs.declared.values.Value.{Value}
use Rattle.star_store.specs.declared.values.Function.{Function}
use Rattle.star_store.specs.declared.arena.write.Change.TheVariants as change_to
use Rattle.star_tree.specs.declared.tree.Clause.{Clause}
use Rattle.star_tree.specs.declared.tree.Clauses.{Clauses, out-Clauses}
use Rattle.star_tree.specs.declared.tree.Entry.{Entry, out-Entry}
use Rattle.star_tree.specs.declared.tree.Expression.{Expression}
use Rattle.star_tree.specs.declared.tree.Name.{Name}
use Rattle.star_tree.specs.declared.tree.Parameter.{Parameter}
use Rattle.star_tree.specs.declared.tree.Statement.{Statement}
use Rattle.star_tree.specs.declared.tree.Target.{Target}
use Rattle.star_tree.specs.declared.tree.Argument.TheOpen as tree
use Rattle.star_outline.specs.Definitions.{Body, Statements, Answer, Definition}
use Rattle.star_outline.specs.Syntax.{ClauseForm, ParameterForm, TargetForm, clause, parameter, target}
use Rattle.star_scope.specs.Uses.{Defined, Named, Within, all_uses, in_clause, in_clauses, in_entry, in_expression, in_parameters, in_statement, in_target, inner_of, maybe_use, outer_of, uses}
use Rattle.star_scope.proofs.UseForms.{of_entry, of_first, of_rest}
use Rattle.star_meaning.specs.declared.fault.FaultCode.TheVariants as code
use Rattle.star_meaning.specs.declared.site.Site.{Site}
use Rattle.star_meaning.specs.Run.{Outcome, Done, Failed, Action, and_then, ◌>>=◌, give, pay}
use Rattle.star_meaning.specs.Program.{Setting, definition_of}
use Rattle.star_meaning.specs.Variables.{by_names, new_frame}
use Rattle.star_meaning.specs.Semantics.{Semantics}
use Rattle.star_meaning.specs.Binding.{BoundArgument}
use Rattle.star_meaning.specs.Targets.{to_form, to_target, to_each, unpack, target_node, parts_node}
use Rattle.star_meaning.specs.Comprehensions.{clause_turn, over, clause_node, clauses, all_clauses, add_element, add_entry, inner, list_comprehension, dict_comprehension}
use Rattle.star_meaning.specs.Expressions.{defaults_after, defaults, new_function, entry_of, maybe}
use Rattle.star_meaning.specs.Local.{Trees}
use Rattle.star_meaning.specs.Places.{Stands, Tables, by_places, new_slots}
use Rattle.star_meaning.proofs.Agree.{Agree, Every, Good, Resolved, agree_bind, agree_fail, agree_frame, agree_function, agree_give, agree_if, agree_kept, agree_quiet, agree_repeat, agree_then}
use Rattle.star_meaning.proofs.UsesOf.{Sub, by, first, left, of_clause, of_outer, of_target, outer_level, clause_level, target_level, right}
use Rattle.star_meaning.proofs.Quiet as quiet
use Rattle.star_meaning.proofs.Keeps.{kept_by}
use Rattle.star_meaning.proofs.KeepsValues.{respects-is_true, respects-take_all, respects-take_item, respects-check_key}
use Rattle.star_meaning.proofs.KeepsSubscript.{respects-index, respects-set_index, respects-put_entry}

-- the body of a call, as names and definitions
abbrev pub body_uses : Body → Within
body_uses (Statements body) = all_uses in_statement body
body_uses (Answer e) = in_expression e

-- a definition's parameters and body are in its own block, in the chain of the definition
abbrev pub DefinitionsStand : Trees → Setting → Type 0
DefinitionsStand trees w = (file : ℕ) (ss : List Statement) (number : ℕ) (chain : List ℕ) (d : Definition)
    → Stands trees file ss → Contains (uses ss) (Defined number chain) → definition_of w file number ≡ Some d
    → Sub (inner_of (in_parameters d.parameters) ((1 + number) ∷ chain)) (uses ss) × Sub (body_uses d.body ((1 + number) ∷ chain)) (uses ss)

pub record Known (tables : Tables) (trees : Trees) (w : Setting) : Type 0 where
  pub resolved : Resolved tables trees w
  pub definitions : DefinitionsStand trees w

-- all parts of a program do the same
pub record AllAgree (trees : Trees) (w : Setting) (m n : Semantics) : Type 0 where
  pub expr : (p : Site) (e : Expression) (ss : List Statement) (chain : List ℕ) → Stands trees p.file ss → Sub (in_expression e chain) (uses ss) → Agree trees w p.file chain (Some p.frame) (m.expr p e) (n.expr p e)
  pub stmt : (p : Site) (x : Statement) (ss : List Statement) (chain : List ℕ) → Stands trees p.file ss → Sub (in_statement x chain) (uses ss) → Agree trees w p.file chain (Some p.frame) (m.stmt p x) (n.stmt p x)
  pub assign : (p : Site) (t : Target) (v : Value) (ss : List Statement) (chain : List ℕ) → Stands trees p.file ss → Sub (in_target t chain) (uses ss) → Agree trees w p.file chain (Some p.frame) (m.assign p t v) (n.assign p t v)
  pub parts : (p : Site) (e i : Expression) (ss : List Statement) (chain : List ℕ) → Stands trees p.file ss → Sub (in_expression e chain) (uses ss) → Sub (in_expression i chain) (uses ss) → Agree trees w p.file chain (Some p.frame) (m.parts p e i) (n.parts p e i)
  pub call : (p : Site) (f : Function) (d : Definition) (shares : List (Name × BoundArgument)) (ss : List Statement) (chain : List ℕ) → Stands trees f.file ss → Contains (uses ss) (Defined f.definition chain) → definition_of w f.file f.definition ≡ Some d
      → Every (λ x. Contains (uses ss) (Named x.0 ((1 + f.definition) ∷ chain))) shares → Agree trees w f.file chain (Some f.frame) (m.call p f d shares) (n.call p f d shares)

-- a place of a file, in a chain of blocks, and the parts of a program
pub record Scene (tables : Tables) (trees : Trees) (w : Setting) (m n : Semantics) (p : Site) (ss : List Statement) (chain : List ℕ) : Type 0 where
  pub known : Known tables trees w
  pub parts : AllAgree trees w m n
  pub stands : Stands trees p.file ss

-- ---- targets

pub agree-to_form : (tables : Tables) (trees : Trees) (w : Setting) (m n : Semantics) (p : Site) (ss : List Statement) (chain : List ℕ) → Scene tables trees w m n p ss chain → (t : Target) (v : Value) (x : TargetForm) → Sub (in_target t chain) (uses ss) → Sub (target_level x chain) (uses ss) → Agree trees w p.file chain (Some p.frame) (to_form (by_places tables w) m p t v x) (to_form (by_names w) n p t v x)
agree-to_form tables trees w m n p ss chain h t v (tree.Target-F.Target::Name x) k l = agree_bind tables trees w h.known.resolved p x v ss chain h.stands (first _ _ (uses ss) l)
agree-to_form tables trees w m n p ss chain h t v (tree.Target-F.Target::Index e i) k l = h.parts.assign p t v ss chain h.stands k
agree-to_form tables trees w m n p ss chain h t v (tree.Target-F.Target::Tuple ts) k l = h.parts.assign p t v ss chain h.stands k
agree-to_form tables trees w m n p ss chain h t v (tree.Target-F.Target::List ts) k l = h.parts.assign p t v ss chain h.stands k

pub agree-to_target : (tables : Tables) (trees : Trees) (w : Setting) (m n : Semantics) (p : Site) (ss : List Statement) (chain : List ℕ) → Scene tables trees w m n p ss chain → (t : Target) (v : Value) → Sub (in_target t chain) (uses ss) → Agree trees w p.file chain (Some p.frame) (to_target (by_places tables w) m p t v) (to_target (by_names w) n p t v)
agree-to_target tables trees w m n p ss chain h t v k = agree-to_form tables trees w m n p ss chain h t v (target t) k (by _ _ (uses ss) (of_target t chain) k)

pub agree-to_each : (tables : Tables) (trees : Trees) (w : Setting) (m n : Semantics) (p : Site) (ss : List Statement) (chain : List ℕ) → Scene tables trees w m n p ss chain → (ts : List Target) (xs : List Value) → Sub (all_uses in_target ts chain) (uses ss) → Agree trees w p.file chain (Some p.frame) (to_each (by_places tables w) m p ts xs) (to_each (by_names w) n p ts xs)
agree-to_each tables trees w m n p ss chain h [] [] k = agree_give {A = Unit {0}} trees w p.file chain (Some p.frame) tt
agree-to_each tables trees w m n p ss chain h [] (v ∷ xs) k = agree_fail (Unit {0}) trees w p.file chain (Some p.frame) code.BadValue p.line
agree-to_each tables trees w m n p ss chain h (t ∷ ts) [] k = agree_fail (Unit {0}) trees w p.file chain (Some p.frame) code.BadValue p.line
agree-to_each tables trees w m n p ss chain h (t ∷ ts) (v ∷ xs) k = agree_then trees w p.file chain (Some p.frame) _ _ _ _ (agree-to_target tables trees w m n p ss chain h t v (left _ _ (uses ss) (k))) (λ _. agree-to_each tables trees w m n p ss chain h ts xs (right _ _ (uses ss) (k)))

pub agree-unpack : (tables : Tables) (trees : Trees) (w : Setting) (m n : Semantics) (p : Site) (ss : List Statement) (chain : List ℕ) → Scene tables trees w m n p ss chain → (ts : List Target) (v : Value) → Sub (all_uses in_target ts chain) (uses ss) → Agree trees w p.file chain (Some p.frame) (unpack (by_places tables w) w m p ts v) (unpack (by_names w) w n p ts v)
agree-unpack tables trees w m n p ss chain h ts v k = agree_then trees w p.file chain (Some p.frame) _ _ _ _ (agree_kept trees w p.file chain (Some p.frame) _ (kept_by w (respects-take_all w p.line v))) (λ xs. agree_then trees w p.file chain (Some p.frame) _ _ _ _ (agree_quiet trees w p.file chain (Some p.frame) _ (quiet.keeps_check code.BadValue p.line (nat_eq (length xs) (length ts)))) (λ _. agree-to_each tables trees w m n p ss chain h ts xs k))

pub agree-target_node : (tables : Tables) (trees : Trees) (w : Setting) (m n : Semantics) (p : Site) (ss : List Statement) (chain : List ℕ) → Scene tables trees w m n p ss chain → (levels : ℕ) (x : TargetForm) (v : Value) → Sub (target_level x chain) (uses ss) → Agree trees w p.file chain (Some p.frame) (target_node (by_places tables w) w levels m p x v) (target_node (by_names w) w levels n p x v)
agree-target_node tables trees w m n p ss chain h levels (tree.Target-F.Target::Name x) v k = agree_bind tables trees w h.known.resolved p x v ss chain h.stands (first _ _ (uses ss) k)
agree-target_node tables trees w m n p ss chain h levels (tree.Target-F.Target::Index e i) v k = agree_then trees w p.file chain (Some p.frame) _ _ _ _ (h.parts.expr p e ss chain h.stands (left _ _ (uses ss) (k))) (λ x. agree_then trees w p.file chain (Some p.frame) _ _ _ _ (h.parts.expr p i ss chain h.stands (right _ _ (uses ss) (k))) (λ j. agree_kept trees w p.file chain (Some p.frame) _ (kept_by w (respects-set_index w levels p.line x j v))))
agree-target_node tables trees w m n p ss chain h levels (tree.Target-F.Target::Tuple ts) v k = agree-unpack tables trees w m n p ss chain h ts v k
agree-target_node tables trees w m n p ss chain h levels (tree.Target-F.Target::List ts) v k = agree-unpack tables trees w m n p ss chain h ts v k

pub agree-parts_node : (tables : Tables) (trees : Trees) (w : Setting) (m n : Semantics) (p : Site) (ss : List Statement) (chain : List ℕ) → Scene tables trees w m n p ss chain → (levels : ℕ) (e i : Expression) → Sub (in_expression e chain) (uses ss) → Sub (in_expression i chain) (uses ss) → Agree trees w p.file chain (Some p.frame) (parts_node w levels m p e i) (parts_node w levels n p e i)
agree-parts_node tables trees w m n p ss chain h levels e i k l = agree_then trees w p.file chain (Some p.frame) _ _ _ _ (h.parts.expr p e ss chain h.stands (k)) (λ x. agree_then trees w p.file chain (Some p.frame) _ _ _ _ (h.parts.expr p i ss chain h.stands (l)) (λ j. agree_then trees w p.file chain (Some p.frame) _ _ _ _ (agree_kept trees w p.file chain (Some p.frame) _ (kept_by w (respects-index w levels p.line x j))) (λ v. agree_give trees w p.file chain (Some p.frame) (record { base = x; index = j; old = v }))))

-- ---- comprehensions

pub agree-clause_turn : (tables : Tables) (trees : Trees) (w : Setting) (m n : Semantics) (p : Site) (ss : List Statement) (chain : List ℕ) → Scene tables trees w m n p ss chain → (t : Target) (v : Value) (a b : Action (Unit {0})) (i : ℕ) → Sub (in_target t chain) (uses ss) → Agree trees w p.file chain (Some p.frame) (a) (b) → Agree trees w p.file chain (Some p.frame) (clause_turn (by_places tables w) w m p t v a i) (clause_turn (by_names w) w n p t v b i)
agree-clause_turn tables trees w m n p ss chain h t v a b i k r = agree_then trees w p.file chain (Some p.frame) _ _ _ _ (agree_kept trees w p.file chain (Some p.frame) _ (kept_by w (respects-take_item w p.line v i))) (λ x. agree_then trees w p.file chain (Some p.frame) _ _ _ _ (agree-to_target tables trees w m n p ss chain h t x k) (λ _. r))

pub agree-over : (tables : Tables) (trees : Trees) (w : Setting) (m n : Semantics) (p : Site) (ss : List Statement) (chain : List ℕ) → Scene tables trees w m n p ss chain → (t : Target) (v : Value) (a b : Action (Unit {0})) → Sub (in_target t chain) (uses ss) → Agree trees w p.file chain (Some p.frame) (a) (b) → Agree trees w p.file chain (Some p.frame) (over (by_places tables w) w m p t v a) (over (by_names w) w n p t v b)
agree-over tables trees w m n p ss chain h t v a b k r = agree_then trees w p.file chain (Some p.frame) _ _ _ _ (agree_quiet trees w p.file chain (Some p.frame) _ (quiet.keeps_iterate w p.line v)) (λ c. agree_then trees w p.file chain (Some p.frame) _ _ _ _ (agree_repeat trees w p.file chain (Some p.frame) _ _ c 0 (λ i. agree-clause_turn tables trees w m n p ss chain h t v a b i k r)) (λ _. agree_quiet trees w p.file chain (Some p.frame) _ (quiet.keeps_leave v)))

pub agree-clause_node : (tables : Tables) (trees : Trees) (w : Setting) (m n : Semantics) (p : Site) (ss : List Statement) (chain : List ℕ) → Scene tables trees w m n p ss chain → (x : ClauseForm) (a b : Action (Unit {0})) → Sub (clause_level x chain) (uses ss) → Agree trees w p.file chain (Some p.frame) (a) (b) → Agree trees w p.file chain (Some p.frame) (clause_node (by_places tables w) w m p x a) (clause_node (by_names w) w n p x b)
agree-clause_node tables trees w m n p ss chain h (tree.For t e) a b k r = agree_then trees w p.file chain (Some p.frame) _ _ _ _ (h.parts.expr p e ss chain h.stands (right _ _ (uses ss) (k))) (λ v. agree-over tables trees w m n p ss chain h t v a b (left _ _ (uses ss) (k)) r)
agree-clause_node tables trees w m n p ss chain h (tree.If e) a b k r = agree_then trees w p.file chain (Some p.frame) _ _ _ _ (agree_then trees w p.file chain (Some p.frame) _ _ _ _ (h.parts.expr p e ss chain h.stands (k)) (λ x. agree_kept trees w p.file chain (Some p.frame) _ (kept_by w (respects-is_true w x)))) (λ t. agree_if trees w p.file chain (Some p.frame) t _ _ _ _ (r) (agree_give {A = Unit {0}} trees w p.file chain (Some p.frame) tt))

pub agree-clauses : (tables : Tables) (trees : Trees) (w : Setting) (m n : Semantics) (p : Site) (ss : List Statement) (chain : List ℕ) → Scene tables trees w m n p ss chain → (cs : List Clause) (a b : Action (Unit {0})) → Sub (all_uses in_clause cs chain) (uses ss) → Agree trees w p.file chain (Some p.frame) (a) (b) → Agree trees w p.file chain (Some p.frame) (clauses (by_places tables w) w m p cs a) (clauses (by_names w) w n p cs b)
agree-clauses tables trees w m n p ss chain h [] a b k r = r
agree-clauses tables trees w m n p ss chain h (c ∷ cs) a b k r = agree-clause_node tables trees w m n p ss chain h (clause c) _ _ (by _ _ (uses ss) (of_clause c chain) (left _ _ (uses ss) (k))) (agree-clauses tables trees w m n p ss chain h cs a b (right _ _ (uses ss) (k)) r)

pub agree-all_clauses : (tables : Tables) (trees : Trees) (w : Setting) (m n : Semantics) (p : Site) (ss : List Statement) (chain : List ℕ) → Scene tables trees w m n p ss chain → (cs : Clauses) (v : Value) (a b : Action (Unit {0})) → Sub ((in_clauses cs).rest chain) (uses ss) → Agree trees w p.file chain (Some p.frame) (a) (b) → Agree trees w p.file chain (Some p.frame) (all_clauses (by_places tables w) w m p cs v a) (all_clauses (by_names w) w n p cs v b)
agree-all_clauses tables trees w m n p ss chain h cs v a b k r =
    let l : Sub (in_target (out-Clauses cs).target chain ++ all_uses in_clause (out-Clauses cs).more chain) (uses ss) = by _ _ (uses ss) (of_rest cs chain) k in
    agree-over tables trees w m n p ss chain h (out-Clauses cs).target v _ _ (left _ _ (uses ss) (l)) (agree-clauses tables trees w m n p ss chain h (out-Clauses cs).more a b (right _ _ (uses ss) (l)) r)

pub agree-add_element : (tables : Tables) (trees : Trees) (w : Setting) (m n : Semantics) (p : Site) (ss : List Statement) (chain : List ℕ) → Scene tables trees w m n p ss chain → (e : Expression) (l : Value) → Sub (in_expression e chain) (uses ss) → Agree trees w p.file chain (Some p.frame) (add_element w m p e l) (add_element w n p e l)
agree-add_element tables trees w m n p ss chain h e l k = agree_then trees w p.file chain (Some p.frame) _ _ _ _ (h.parts.expr p e ss chain h.stands (k)) (λ x. agree_then trees w p.file chain (Some p.frame) _ _ _ _ (agree_quiet trees w p.file chain (Some p.frame) _ (quiet.keeps_pay p.line 1)) (λ _. agree_then trees w p.file chain (Some p.frame) _ _ _ _ (agree_quiet trees w p.file chain (Some p.frame) _ (quiet.keeps_change w p.line l (change_to.Append x))) (λ _. agree_give {A = Unit {0}} trees w p.file chain (Some p.frame) tt)))

pub agree-add_entry : (tables : Tables) (trees : Trees) (w : Setting) (m n : Semantics) (p : Site) (ss : List Statement) (chain : List ℕ) → Scene tables trees w m n p ss chain → (levels : ℕ) (e : Entry) (d : Value) → Sub (in_entry e chain) (uses ss) → Agree trees w p.file chain (Some p.frame) (add_entry w levels m p e d) (add_entry w levels n p e d)
agree-add_entry tables trees w m n p ss chain h levels e d k =
    let l : Sub (in_expression (out-Entry e).key chain ++ in_expression (out-Entry e).value chain) (uses ss) = by _ _ (uses ss) (of_entry e chain) k in
    agree_then trees w p.file chain (Some p.frame) _ _ _ _ (h.parts.expr p (out-Entry e).key ss chain h.stands (left _ _ (uses ss) (l))) (λ x. agree_then trees w p.file chain (Some p.frame) _ _ _ _ (h.parts.expr p (out-Entry e).value ss chain h.stands (right _ _ (uses ss) (l))) (λ v. agree_then trees w p.file chain (Some p.frame) _ _ _ _ (agree_kept trees w p.file chain (Some p.frame) _ (kept_by w (respects-check_key w levels p.line x))) (λ _. agree_kept trees w p.file chain (Some p.frame) _ (kept_by w (respects-put_entry w p.line d x v)))))

assoc : {A B C : Type 0} (o : Outcome A) (f : A → Action B) (g : B → Action C) → and_then (and_then o f) g ≡ and_then o (λ x. f x >>= g)
assoc (Done x s) f g = refl
assoc (Failed e lines) f g = refl

-- a place in another frame
abbrev pub at_frame : Site → Value → Action Site
at_frame p v = give (record p { frame = v })

-- the actions after those that follow
pub agree_assoc : {A B D : Type 0} (trees : Trees) (w : Setting) (file : ℕ) (chain : List ℕ) (frame : Option Value) (a b : Action A) (f g : A → Action B) (i j : B → Action D)
    → Agree trees w file chain frame (a >>= λ x. f x >>= i) (b >>= λ x. g x >>= j) → Agree trees w file chain frame (a >>= f >>= i) (b >>= g >>= j)
agree_assoc trees w file chain frame a b f g i j k = record {
  holds = λ s fit fits.
      let r = k.holds s fit fits in
      (assoc (a s) f i ∙ r.0 ∙ sym (assoc (b s) g j), subst (λ o. Good trees w s o) (sym (assoc (b s) g j)) r.1);
}

pub agree_inner : {B : Type 0} (tables : Tables) (trees : Trees) (w : Setting) (m n : Semantics) (p : Site) (ss : List Statement) (chain : List ℕ) → Scene tables trees w m n p ss chain → (number : ℕ) (f g : Site → Action B)
    → ((v : Value) → Agree trees w p.file (number ∷ chain) (Some v) (f (record p { frame = v })) (g (record p { frame = v })))
    → Agree trees w p.file chain (Some p.frame) (inner (by_places tables w) p number >>= f) (inner (by_names w) p number >>= g)
agree_inner tables trees w m n p ss chain h number f g k =
    agree_assoc trees w p.file chain (Some p.frame) (pay p.line 1) (pay p.line 1) (λ _. new_slots tables p.file number (Some p.frame) >>= at_frame p) (λ _. new_frame w p.file number (Some p.frame) >>= at_frame p) f g
    (agree_then trees w p.file chain (Some p.frame) (pay p.line 1) (pay p.line 1) (λ _. new_slots tables p.file number (Some p.frame) >>= at_frame p >>= f) (λ _. new_frame w p.file number (Some p.frame) >>= at_frame p >>= g) (agree_quiet trees w p.file chain (Some p.frame) _ (quiet.keeps_pay p.line 1))
    (λ _. agree_assoc trees w p.file chain (Some p.frame) (new_slots tables p.file number (Some p.frame)) (new_frame w p.file number (Some p.frame)) (at_frame p) (at_frame p) f g
    (agree_frame tables trees w h.known.resolved p.file number ss chain (Some p.frame) (λ v. at_frame p v >>= f) (λ v. at_frame p v >>= g) h.stands k)))

inside : (tables : Tables) (trees : Trees) (w : Setting) (m n : Semantics) (p : Site) (ss : List Statement) (chain : List ℕ) → Scene tables trees w m n p ss chain → (number : ℕ) (v : Value) → Scene tables trees w m n (record p { frame = v }) ss (number ∷ chain)
inside tables trees w m n p ss chain h number v = record { known = h.known; parts = h.parts; stands = h.stands }

pub agree-list_comprehension : (tables : Tables) (trees : Trees) (w : Setting) (m n : Semantics) (p : Site) (ss : List Statement) (chain : List ℕ) → Scene tables trees w m n p ss chain → (token : ℕ) (e : Expression) (cs : Clauses) → Sub ((in_clauses cs).first chain) (uses ss) → Sub ((in_clauses cs).rest ((1 + token) ∷ chain)) (uses ss) → Sub (in_expression e ((1 + token) ∷ chain)) (uses ss) → Agree trees w p.file chain (Some p.frame) (list_comprehension (by_places tables w) w m p (1 + token) e cs) (list_comprehension (by_names w) w n p (1 + token) e cs)
agree-list_comprehension tables trees w m n p ss chain h token e cs k l j =
    agree_then trees w p.file chain (Some p.frame) _ _ _ _ (h.parts.expr p (out-Clauses cs).iterable ss chain h.stands (by _ _ (uses ss) (of_first cs chain) k)) (λ u. agree_inner tables trees w m n p ss chain h (1 + token) _ _ (λ v.
    let i = inside tables trees w m n p ss chain h (1 + token) v in
    agree_then trees w p.file ((1 + token) ∷ chain) (Some v) _ _ _ _ (agree_quiet trees w p.file ((1 + token) ∷ chain) (Some v) _ (quiet.keeps_build_list p.line 1 [])) (λ c. agree_then trees w p.file ((1 + token) ∷ chain) (Some v) _ _ _ _ (agree-all_clauses tables trees w m n (record p { frame = v }) ss ((1 + token) ∷ chain) i cs u _ _ l (agree-add_element tables trees w m n (record p { frame = v }) ss ((1 + token) ∷ chain) i e c j)) (λ _. agree_give trees w p.file ((1 + token) ∷ chain) (Some v) c))))

pub agree-dict_comprehension : (tables : Tables) (trees : Trees) (w : Setting) (m n : Semantics) (p : Site) (ss : List Statement) (chain : List ℕ) → Scene tables trees w m n p ss chain → (levels : ℕ) (token : ℕ) (e : Entry) (cs : Clauses) → Sub ((in_clauses cs).first chain) (uses ss) → Sub ((in_clauses cs).rest ((1 + token) ∷ chain)) (uses ss) → Sub (in_entry e ((1 + token) ∷ chain)) (uses ss) → Agree trees w p.file chain (Some p.frame) (dict_comprehension (by_places tables w) w levels m p (1 + token) e cs) (dict_comprehension (by_names w) w levels n p (1 + token) e cs)
agree-dict_comprehension tables trees w m n p ss chain h levels token e cs k l j =
    agree_then trees w p.file chain (Some p.frame) _ _ _ _ (h.parts.expr p (out-Clauses cs).iterable ss chain h.stands (by _ _ (uses ss) (of_first cs chain) k)) (λ u. agree_inner tables trees w m n p ss chain h (1 + token) _ _ (λ v.
    let i = inside tables trees w m n p ss chain h (1 + token) v in
    agree_then trees w p.file ((1 + token) ∷ chain) (Some v) _ _ _ _ (agree_quiet trees w p.file ((1 + token) ∷ chain) (Some v) _ (quiet.keeps_build_dict p.line 1 [])) (λ c. agree_then trees w p.file ((1 + token) ∷ chain) (Some v) _ _ _ _ (agree-all_clauses tables trees w m n (record p { frame = v }) ss ((1 + token) ∷ chain) i cs u _ _ l (agree-add_entry tables trees w m n (record p { frame = v }) ss ((1 + token) ∷ chain) i levels e c j)) (λ _. agree_give trees w p.file ((1 + token) ∷ chain) (Some v) c))))

-- ---- parts of expressions

pub agree-defaults_after : (tables : Tables) (trees : Trees) (w : Setting) (m n : Semantics) (p : Site) (ss : List Statement) (chain : List ℕ) → Scene tables trees w m n p ss chain → (a b : Action (List Value)) (x : ParameterForm) → Agree trees w p.file chain (Some p.frame) (a) (b) → Sub (outer_level x chain) (uses ss) → Agree trees w p.file chain (Some p.frame) (defaults_after a m p x) (defaults_after b n p x)
agree-defaults_after tables trees w m n p ss chain h a b (tree.Default x e) r k = agree_then trees w p.file chain (Some p.frame) _ _ _ _ (h.parts.expr p e ss chain h.stands (k)) (λ v. agree_then trees w p.file chain (Some p.frame) _ _ _ _ (r) (λ vs. agree_give trees w p.file chain (Some p.frame) (v ∷ vs)))
agree-defaults_after tables trees w m n p ss chain h a b (tree.Plain x) r k = r
agree-defaults_after tables trees w m n p ss chain h a b (tree.Parameter-F.Parameter::Star x) r k = r
agree-defaults_after tables trees w m n p ss chain h a b tree.BareStar r k = r
agree-defaults_after tables trees w m n p ss chain h a b (tree.Parameter-F.Parameter::StarStar x) r k = r

pub agree-defaults : (tables : Tables) (trees : Trees) (w : Setting) (m n : Semantics) (p : Site) (ss : List Statement) (chain : List ℕ) → Scene tables trees w m n p ss chain → (ps : List Parameter) → Sub (outer_of (in_parameters ps) chain) (uses ss) → Agree trees w p.file chain (Some p.frame) (defaults m p ps) (defaults n p ps)
agree-defaults tables trees w m n p ss chain h [] k = agree_give {A = List Value} trees w p.file chain (Some p.frame) []
agree-defaults tables trees w m n p ss chain h (x ∷ ps) k = agree-defaults_after tables trees w m n p ss chain h _ _ (parameter x) (agree-defaults tables trees w m n p ss chain h ps (right _ _ (uses ss) (k))) (by _ _ (uses ss) (of_outer x chain) (left _ _ (uses ss) (k)))

pub agree-new_function : (tables : Tables) (trees : Trees) (w : Setting) (m n : Semantics) (p : Site) (ss : List Statement) (chain : List ℕ) → Scene tables trees w m n p ss chain → (number : ℕ) (name : List ℕ) (ps : List Parameter) → Contains (uses ss) (Defined number chain) → Sub (outer_of (in_parameters ps) chain) (uses ss) → Agree trees w p.file chain (Some p.frame) (new_function m p number name ps) (new_function n p number name ps)
agree-new_function tables trees w m n p ss chain h number name ps k l = agree_then trees w p.file chain (Some p.frame) _ _ _ _ (agree-defaults tables trees w m n p ss chain h ps l) (λ vs. agree_function trees w p.line 1 (record { file = p.file; definition = number; name = name; defaults = vs; frame = p.frame }) ss chain h.stands k)

pub agree-entry_of : (tables : Tables) (trees : Trees) (w : Setting) (m n : Semantics) (p : Site) (ss : List Statement) (chain : List ℕ) → Scene tables trees w m n p ss chain → (e : Entry) → Sub (in_entry e chain) (uses ss) → Agree trees w p.file chain (Some p.frame) (entry_of m p e) (entry_of n p e)
agree-entry_of tables trees w m n p ss chain h e k =
    let l : Sub (in_expression (out-Entry e).key chain ++ in_expression (out-Entry e).value chain) (uses ss) = by _ _ (uses ss) (of_entry e chain) k in
    agree_then trees w p.file chain (Some p.frame) _ _ _ _ (h.parts.expr p (out-Entry e).key ss chain h.stands (left _ _ (uses ss) (l))) (λ x. agree_then trees w p.file chain (Some p.frame) _ _ _ _ (h.parts.expr p (out-Entry e).value ss chain h.stands (right _ _ (uses ss) (l))) (λ v. agree_give trees w p.file chain (Some p.frame) (x, v)))

pub agree-maybe : (tables : Tables) (trees : Trees) (w : Setting) (m n : Semantics) (p : Site) (ss : List Statement) (chain : List ℕ) → Scene tables trees w m n p ss chain → (o : Option Expression) → Sub (maybe_use (option_map in_expression o) chain) (uses ss) → Agree trees w p.file chain (Some p.frame) (maybe m p o) (maybe n p o)
agree-maybe tables trees w m n p ss chain h None k = agree_give {A = Option Value} trees w p.file chain (Some p.frame) None
agree-maybe tables trees w m n p ss chain h (Some e) k = agree_then trees w p.file chain (Some p.frame) _ _ _ _ (h.parts.expr p e ss chain h.stands (k)) (λ v. agree_give trees w p.file chain (Some p.frame) (Some v))
