-- What is known of the parts of a program over both shelves: variables, the parts that open a level, and statements by
-- their places, since a load is only found among the statements of the file itself.
use Rattle.std.proofs.Common.{◌≡◌, ℕ, List, [], ◌∷◌, ◌++◌, Option, true, false, refl, sym, ◌∙◌}
use Rattle.std.proofs.lemmas.Bool.{false≢true}
use Rattle.star_store.specs.declared.values.Function.{Function}
use Rattle.star_store.specs.declared.values.Value.{Value}
use Rattle.star_tree.specs.declared.tree.Expression.{Expression}
use Rattle.star_tree.specs.declared.tree.Name.{Name}
use Rattle.star_tree.specs.declared.tree.Position.{Position}
use Rattle.star_tree.specs.declared.tree.Statement.{Statement, out-Statement}
use Rattle.star_tree.specs.declared.tree.Target.{Target}
use Rattle.star_scope.specs.declared.placement.StatementContext.{StatementContext}
use Rattle.star_scope.specs.Placement.{in_statement, in_statements}
use Rattle.star_scope.proofs.Placements.{form_level, form_opened, statement_opened}
use Rattle.star_outline.specs.Definitions.{Definition}
use Rattle.star_outline.specs.Syntax.{StatementForm, form_of, position_of}
use Rattle.star_meaning.specs.declared.site.Site.{Site}
use Rattle.star_meaning.specs.Binding.{BoundArgument}
use Rattle.star_meaning.specs.Program.{Setting, Variables}
use Rattle.star_meaning.specs.Run.{Action, each}
use Rattle.star_meaning.specs.Semantics.{Semantics}
use Rattle.star_unseen.specs.Veil.{Every, FileIsVisible, IsVisible, VisibleIfThere}
use Rattle.star_unseen.specs.Shelves.{FormIsShared, BodyIsPlaced, LoadsAreShared, Veil}
use Rattle.star_unseen.proofs.Alike.{Alike, Any, FlowIsVisible, alike_each}
use Rattle.star_unseen.proofs.Visible.{FunctionIsVisible, ReadIsVisible, ShareIsVisible, SiteIsVisible}

-- a statement in which nothing is misplaced; if it is one of the file itself, the names that it loads are read
abbrev pub IsPlaced : {w : Setting} → Veil w → StatementContext → Statement → Type 0
IsPlaced k here x = (in_statement x here ≡ []) × (here.in_file ≡ true → LoadsAreShared k x)

abbrev pub FormIsPlaced : {w : Setting} → Veil w → StatementContext → Position → StatementForm → Type 0
FormIsPlaced k here at l = (form_level l at here ≡ []) × (here.in_file ≡ true → FormIsShared k at.token l)

pub placed_form : {w : Setting} (k : Veil w) (here : StatementContext) (x : Statement) → IsPlaced k here x → FormIsPlaced k here (position_of x) (form_of x)
placed_form k here x h = (sym (form_opened (out-Statement x).form (out-Statement x).position here) ∙ sym (statement_opened x here) ∙ h.0, h.1)

-- ---- nothing is misplaced in the parts of a row in which nothing is

pub left_none : {A : Type 0} (xs ys : List A) → xs ++ ys ≡ [] → xs ≡ []
left_none [] ys e = refl
left_none (x ∷ xs) ys e = absurd (let no : ⊥ = cc in no)

pub right_none : {A : Type 0} (xs ys : List A) → xs ++ ys ≡ [] → ys ≡ []
right_none [] ys e = e
right_none (x ∷ xs) ys e = absurd (let no : ⊥ = cc in no)

pub placed_each : {w : Setting} (k : Veil w) (here : StatementContext) (xs : List Statement) → in_statements xs here ≡ [] → (here.in_file ≡ true → Every (LoadsAreShared k) xs) → Every (IsPlaced k here) xs
placed_each k here [] h r = tt
placed_each k here (x ∷ xs) h r = ((left_none (in_statement x here) (in_statements xs here) h, λ e. (r e).0), placed_each k here xs (right_none (in_statement x here) (in_statements xs here) h) (λ e. (r e).1))

-- statements inside others
pub placed_inside : {w : Setting} (k : Veil w) (here : StatementContext) (xs : List Statement) → here.in_file ≡ false → in_statements xs here ≡ [] → Every (IsPlaced k here) xs
placed_inside k here xs out h = placed_each k here xs h (λ e. absurd (false≢true (sym out ∙ e)))

-- a row of which nothing is said
pub every_any : {A : Type 0} (xs : List A) → Every (Any {A = A}) xs
every_any [] = tt
every_any (x ∷ xs) = (tt, every_any xs)

pub alike_every : {A B : Type 0} {w : Setting} {k : Veil w} (Q : B → Type 0) (f g : A → Action B) (xs : List A) → ((x : A) → Alike k Q (f x) (g x)) → Alike k (Every Q) (each f xs) (each g xs)
alike_every {A = A} Q f g xs l = alike_each (Any {A = A}) Q f g xs (every_any xs) (λ x _. l x)

-- ---- what the parts do

pub record VariablesAlike {w : Setting} (k : Veil w) (vs us : Variables) : Type 0 where
  pub read : (p : Site) (n : Name) → SiteIsVisible k.hides p → Alike k (IsVisible k.hides) (vs.read p n) (us.read p n)
  pub bind : (p : Site) (n : Name) (v : Value) → SiteIsVisible k.hides p → IsVisible k.hides v → Alike k Any (vs.bind p n v) (us.bind p n v)
  pub frame : (file number : ℕ) (parent : Option Value) → FileIsVisible k.hides file → VisibleIfThere k.hides parent → Alike k (IsVisible k.hides) (vs.frame file number parent) (us.frame file number parent)

pub record AllAlike {w : Setting} (k : Veil w) (m n : Semantics) : Type 0 where
  pub expr : (p : Site) (e : Expression) → SiteIsVisible k.hides p → Alike k (IsVisible k.hides) (m.expr p e) (n.expr p e)
  pub stmt : (p : Site) (x : Statement) (here : StatementContext) → SiteIsVisible k.hides p → IsPlaced k here x → Alike k (FlowIsVisible k.hides) (m.stmt p x) (n.stmt p x)
  pub assign : (p : Site) (t : Target) (v : Value) → SiteIsVisible k.hides p → IsVisible k.hides v → Alike k Any (m.assign p t v) (n.assign p t v)
  pub parts : (p : Site) (e i : Expression) → SiteIsVisible k.hides p → Alike k (ReadIsVisible k.hides) (m.parts p e i) (n.parts p e i)
  pub call : (p : Site) (f : Function) (d : Definition) (shares : List (Name × BoundArgument)) → SiteIsVisible k.hides p → FunctionIsVisible k.hides f → BodyIsPlaced d.body → Every (ShareIsVisible k.hides) shares → Alike k (IsVisible k.hides) (m.call p f d shares) (n.call p f d shares)
