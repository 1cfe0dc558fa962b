-- The targets of a list of expressions, made from the last to the first.
use Rattle.std.proofs.Common.{◌≡◌, ◌≤◌, ℕ, max, arith, List, [], ◌∷◌, ◌++◌, Option, Some, None, map, reverse, refl, ap, sym, ◌∙◌, append-nil}
use Rattle.std.proofs.lemmas.List.{reverse-append}
use denote.Param.Weighed.{most, most-append}
use Rattle.star_tree.specs.declared.tree.Name.{Name}
use Rattle.star_tree.specs.declared.tree.Expression.TheVariants as e
use Rattle.star_syntax.specs.Keeps.{all_of, target_of, targets_of, tuple_target, list_target}
use Rattle.star_tree.specs.declared.tree.Argument.{Argument}
use Rattle.star_tree.specs.declared.tree.Argument.TheOpen.{Expression-F}
use Rattle.star_tree.specs.declared.tree.Clause.{Clause}
use Rattle.star_tree.specs.declared.tree.Clauses.{Clauses}
use Rattle.star_tree.specs.declared.tree.Entry.{Entry}
use Rattle.star_tree.specs.declared.tree.Parameter.{Parameter}
use Rattle.star_tree.specs.declared.tree.Target.{Target}
use Rattle.star_tree.specs.declared.tree.Expression.{Expression, para-roll-Expression, roll-Expression, out-Expression, roll-out-Expression}
use Rattle.star_tree.specs.declared.tree.Target.TheVariants as target

-- the values of a function for a list, if it has one for each
abbrev pub all : {A B : Type 0} → (A → Option B) → List A → Option (List B)
all f xs = all_of (map (λ x. (x, f x)) xs)

abbrev pub onto : {B : Type 0} → Option B → Option (List B) → Option (List B)
onto o r = elim o [ None ↦ None | Some y ↦ elim r [ None ↦ None | Some ys ↦ Some (y ∷ ys) ] ]

-- the values of the front, and after them those that were found, the last first
abbrev pub joined : {B : Type 0} → Option (List B) → List B → Option (List B)
joined None found = None
joined (Some ys) found = Some (ys ++ reverse found)

push : {B : Type 0} (o : Option B) (r : Option (List B)) (found : List B) → joined (onto o r) found ≡ onto o (joined r found)
push None r found = refl
push (Some y) None found = refl
push (Some y) (Some ys) found = refl

onto-none : {B : Type 0} (o : Option B) → onto o None ≡ None
onto-none None = refl
onto-none (Some y) = refl

pub none_found : {B : Type 0} (r : Option (List B)) → r ≡ joined r []
none_found None = refl
none_found {B = B} (Some ys) = ap (λ (zs : List B). Some zs) (sym (append-nil ys))

pub last_some : {A B : Type 0} (f : A → Option B) (xs : List A) (x : A) (y : B) (found : List B) → f x ≡ Some y
    → joined (all f (xs ++ x ∷ [])) found ≡ joined (all f xs) (found ++ y ∷ [])
last_some {B = B} f [] x y found e = rw e (ap (λ (zs : List B). Some zs) (sym (reverse-append found (y ∷ []))))
last_some f (z ∷ zs) x y found e =
    push (f z) (all f (zs ++ x ∷ [])) found ∙ ap (λ r. onto (f z) r) (last_some f zs x y found e) ∙ sym (push (f z) (all f zs) (found ++ y ∷ []))

pub last_none : {A B : Type 0} (f : A → Option B) (xs : List A) (x : A) → f x ≡ None → all f (xs ++ x ∷ []) ≡ None
last_none f [] x e = rw e refl
last_none f (z ∷ zs) x e = ap (λ r. onto (f z) r) (last_none f zs x e) ∙ onto-none (f z)

-- ---- one level of a target

abbrev pub Layer : Type 0
Layer = Expression-F Argument Clause Expression Parameter Target Clauses Entry

abbrev pub target_level : Layer → Option Target
target_level (Expression-F.Expression::Name name) = Some (target.Name name)
target_level (Expression-F.Expression::Index value index) = Some (target.Index value index)
target_level (Expression-F.Expression::Tuple parts) = tuple_target (targets_of parts)
target_level (Expression-F.Expression::List parts) = list_target (targets_of parts)
target_level _ = None

pub rolled : (l : Layer) → target_of (roll-Expression l) ≡ target_level l
unfolding target_of targets_of
rolled (Expression-F.Expression::Name name) = para-roll-Expression _ _ _ _ _ _ _ _ _ _ _ _ _ _ _
rolled (Expression-F.Expression::Index value index) = para-roll-Expression _ _ _ _ _ _ _ _ _ _ _ _ _ _ _
rolled (Expression-F.Expression::Tuple parts) = para-roll-Expression _ _ _ _ _ _ _ _ _ _ _ _ _ _ _
rolled (Expression-F.Expression::List parts) = para-roll-Expression _ _ _ _ _ _ _ _ _ _ _ _ _ _ _
rolled _ = para-roll-Expression _ _ _ _ _ _ _ _ _ _ _ _ _ _ _

pub none_found_of : (xs : List Expression) → targets_of xs ≡ joined (targets_of xs) []
none_found_of xs = none_found (targets_of xs)

pub none_left : (found : List Target) → joined (targets_of []) found ≡ Some (reverse found)
unfolding targets_of
none_left found = refl

pub last_some_of : (xs : List Expression) (x : Expression) (y : Target) (found : List Target) → target_of x ≡ Some y
    → joined (targets_of (xs ++ x ∷ [])) found ≡ joined (targets_of xs) (found ++ y ∷ [])
unfolding targets_of
last_some_of xs x y found e = last_some target_of xs x y found e

pub last_none_of : (xs : List Expression) (x : Expression) → target_of x ≡ None → targets_of (xs ++ x ∷ []) ≡ None
unfolding targets_of
last_none_of xs x e = last_none target_of xs x e

pub opened : (x : Expression) → target_of x ≡ target_level (out-Expression x)
opened x = ap target_of (sym (roll-out-Expression x)) ∙ rolled (out-Expression x)

pub target-Name : (n : Name) → target_of (e.Name n) ≡ Some (target.Name n)
target-Name n = ap target_of (sym (e.rolls-Name n)) ∙ rolled (Expression-F.Expression::Name n)

pub target-Index : (v i : Expression) → target_of (e.Index v i) ≡ Some (target.Index v i)
target-Index v i = ap target_of (sym (e.rolls-Index v i)) ∙ rolled (Expression-F.Expression::Index v i)

pub target-Tuple : (xs : List Expression) → target_of (e.Tuple xs) ≡ tuple_target (targets_of xs)
target-Tuple xs = ap target_of (sym (e.rolls-Tuple xs)) ∙ rolled (Expression-F.Expression::Tuple xs)

pub target-List : (xs : List Expression) → target_of (e.List xs) ≡ list_target (targets_of xs)
target-List xs = ap target_of (sym (e.rolls-List xs)) ∙ rolled (Expression-F.Expression::List xs)

-- the rest of a list is not deeper than the list
pub no_deeper : {X : Type 0} (size : X → ℕ) (all front : List X) (x : X) (bound : ℕ) → all ≡ front ++ x ∷ [] → most size all ≤ bound → most size front ≤ bound
no_deeper size all front x bound e h =
    let p = most-append size front (x ∷ []) in
    let q : most size all ≡ max (most size front) (most size (x ∷ [])) = ap (most size) e ∙ p in
    omega arith
