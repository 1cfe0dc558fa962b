-- A target that an expression in order is, is in order.
use Rattle.std.proofs.Common.{◌≡◌, true, List, [], ◌∷◌, map, Option, Some, None, refl, ap, sym, ◌∙◌, subst}
use Rattle.star_tree.specs.declared.tree.Argument.{Argument}
use Rattle.star_tree.specs.declared.tree.Clause.{Clause}
use Rattle.star_tree.specs.declared.tree.Expression.{Expression, roll-Expression, out-Expression, roll-out-Expression, ind-Expression}
use Rattle.star_tree.specs.declared.tree.Parameter.{Parameter}
use Rattle.star_tree.specs.declared.tree.Target.{Target}
use Rattle.star_tree.specs.declared.tree.Target.TheVariants as targets
use Rattle.star_tree.specs.declared.tree.Clauses.{Clauses}
use Rattle.star_tree.specs.declared.tree.Entry.{Entry}
use Rattle.star_tree.specs.declared.tree.Argument.TheOpen as tree
use Rattle.star_tree.specs.declared.tree.Argument.TheFolds as folds
use Rattle.star_syntax.specs.Keeps.{target_of, targets_of, tuple_target, list_target, augmented_level, augmented_of}
use Rattle.star_syntax.specs.InOrder.{each_in_order, in_order}
use Rattle.star_syntax.proofs.Makes.{Each, nothing-found, same_some}
use Rattle.star_syntax.proofs.Kept.{OfExpression, OfTarget, of-NameTarget, of-IndexTarget, of-TupleTarget, of-ListTarget}
use Rattle.star_syntax.proofs.Orders.{both-true, Form, opened}
use Rattle.star_syntax.proofs.Targets.{rolled}

abbrev PE : Expression → Type 0
PE x = (t : Target) → in_order x ≡ true → target_of x ≡ Some t → OfTarget t

abbrev Any : {A : Type 0} → A → Type 0
Any x = Unit {0}

abbrev Such : Type 0
Such = tree.Expression-F ((x : Argument) × Any x) ((x : Clause) × Any x) ((x : Expression) × PE x) ((x : Parameter) × Any x) ((x : Target) × Any x) ((x : Clauses) × Any x) ((x : Entry) × Any x)

abbrev bare : Such → Form tree.Expression-F
bare y = folds.map-Expression ((x : Argument) × Any x) ((x : Clause) × Any x) ((x : Expression) × PE x) ((x : Parameter) × Any x) ((x : Target) × Any x) ((x : Clauses) × Any x) ((x : Entry) × Any x) Argument Clause Expression Parameter Target Clauses Entry (λ z. z.0) (λ z. z.0) (λ z. z.0) (λ z. z.0) (λ z. z.0) (λ z. z.0) (λ z. z.0) y

-- the targets of the parts of a tuple or list display
parted : (o : Option Target) (r : Option (List Target)) (ts : List Target) → elim o [ None ↦ None | Some y ↦ elim r [ None ↦ None | Some ys ↦ Some (y ∷ ys) ] ] ≡ Some ts
    → (y : Target) × (ys : List Target) × (o ≡ Some y) × (r ≡ Some ys) × (y ∷ ys ≡ ts)
parted None r ts e = absurd (nothing-found ts e)
parted (Some y) None ts e = absurd (nothing-found ts e)
parted (Some y) (Some ys) ts e = (y, ys, refl, refl, same_some (y ∷ ys) ts e)

several : (ys : List ((x : Expression) × PE x)) (ts : List Target) → each_in_order (map (λ z. (z, in_order z)) (map (λ y. y.0) ys)) ≡ true → targets_of (map (λ y. y.0) ys) ≡ Some ts → Each OfTarget ts
unfolding targets_of
several [] ts k e = subst (Each OfTarget) (same_some [] ts e) tt
several (y ∷ ys) ts k e =
    let q = both-true _ _ k in
    let p = parted (target_of y.0) (targets_of (map (λ z. z.0) ys)) ts e in
    subst (Each OfTarget) p.4 (y.1 p.0 q.0 p.2, several ys p.1 q.1 p.3)

as_tuple : (o : Option (List Target)) (t : Target) → tuple_target o ≡ Some t → (ts : List Target) × (o ≡ Some ts) × (targets.Tuple ts ≡ t)
as_tuple None t e = absurd (nothing-found t e)
as_tuple (Some ts) t e = (ts, refl, same_some (targets.Tuple ts) t e)

as_list : (o : Option (List Target)) (t : Target) → list_target o ≡ Some t → (ts : List Target) × (o ≡ Some ts) × (targets.List ts ≡ t)
as_list None t e = absurd (nothing-found t e)
as_list (Some ts) t e = (ts, refl, same_some (targets.List ts) t e)

layer : (y : Such) → PE (roll-Expression (bare y))
layer (tree.Expression-F.Expression::Name n) t k e = subst OfTarget (same_some (targets.Name n) t (sym (rolled (tree.Expression-F.Expression::Name n)) ∙ e)) (of-NameTarget n)
layer (tree.Expression-F.Expression::Index a b) t k e =
    let q = both-true _ _ (sym (opened.expression' (bare (tree.Expression-F.Expression::Index a b))) ∙ k) in
    subst OfTarget (same_some (targets.Index a.0 b.0) t (sym (rolled (tree.Expression-F.Expression::Index a.0 b.0)) ∙ e)) (of-IndexTarget a.0 b.0 q.0 q.1)
layer (tree.Expression-F.Expression::Tuple ys) t k e =
    let p = as_tuple (targets_of (map (λ y. y.0) ys)) t (sym (rolled (bare (tree.Expression-F.Expression::Tuple ys))) ∙ e) in
    subst OfTarget p.2 (of-TupleTarget p.0 (several ys p.0 (sym (opened.expression' (bare (tree.Expression-F.Expression::Tuple ys))) ∙ k) p.1))
layer (tree.Expression-F.Expression::List ys) t k e =
    let p = as_list (targets_of (map (λ y. y.0) ys)) t (sym (rolled (bare (tree.Expression-F.Expression::List ys))) ∙ e) in
    subst OfTarget p.2 (of-ListTarget p.0 (several ys p.0 (sym (opened.expression' (bare (tree.Expression-F.Expression::List ys))) ∙ k) p.1))
layer y t k e = absurd (nothing-found t (sym (rolled (bare y)) ∙ e))

pub target-kept : (x : Expression) (t : Target) → OfExpression x → target_of x ≡ Some t → OfTarget t
target-kept x = ind-Expression Any Any PE Any Any Any Any (λ x' y p. tt) (λ x' y p. tt) (λ x' y p. subst (λ z. PE (roll-Expression z)) p (layer y)) (λ x' y p. tt) (λ x' y p. tt) (λ x' y p. tt) (λ x' y p. tt) x

augmented-layer : (l : Form tree.Expression-F) (t : Target) → in_order (roll-Expression l) ≡ true → augmented_level l ≡ Some t → OfTarget t
augmented-layer (tree.Expression-F.Expression::Name n) t k e = subst OfTarget (same_some (targets.Name n) t e) (of-NameTarget n)
augmented-layer (tree.Expression-F.Expression::Index a b) t k e =
    let q = both-true _ _ (sym (opened.expression' (tree.Expression-F.Expression::Index a b)) ∙ k) in
    subst OfTarget (same_some (targets.Index a b) t e) (of-IndexTarget a b q.0 q.1)
augmented-layer y t k e = absurd (nothing-found t e)

pub augmented-kept : (x : Expression) (t : Target) → OfExpression x → augmented_of x ≡ Some t → OfTarget t
augmented-kept x t k e = augmented-layer (out-Expression x) t (ap in_order (roll-out-Expression x) ∙ k) e
