-- What reports show of a join.
use Rattle.std.proofs.Common.{arith, ◌≡◌, ◌⊎◌, ◌++◌, ◌||◌, ℕ, Bool, true, false, not, List, [], ◌∷◌, if◌then◌else◌, refl, subst, inl, inr}
use Rattle.std.specs.Prelude.{Contains, nat_eq}
use Rattle.std.specs.List.{filter, list_any}
use Rattle.std.proofs.lemmas.Bool.Decides.{nat_tests}
use Rattle.star_join.specs.Join.{InOrder, IsJoin}
use Rattle.star_join.proofs.Rows.{Up, either, first, later, member, none, to_order, to_up}

from_filter : {A : Type 0} (P : A → Bool) (xs : List A) (z : A) → Contains (filter P xs) z → Contains xs z × (P z ≡ true)
from_filter P [] z c = absurd (none z c)
from_filter P (x ∷ xs) z c = by (from_filter P xs z) (P x) refl c
  where
    by : (Contains (filter P xs) z → Contains xs z × (P z ≡ true)) → (b : Bool) → P x ≡ b → Contains (if b then x ∷ filter P xs else filter P xs) z → Contains (x ∷ xs) z × (P z ≡ true)
    by more true e h = either (λ p. (subst (λ w. Contains (x ∷ xs) w) p (first x xs), subst (λ w. P w ≡ true) p e)) (λ k. (let it = more k in (later x z xs it.0, it.1))) (member x (filter P xs) z h)
    by more false e h = let it = more h in (later x z xs it.0, it.1)

to_filter : {A : Type 0} (P : A → Bool) (xs : List A) (z : A) → Contains xs z → P z ≡ true → Contains (filter P xs) z
to_filter P [] z c t = absurd (none z c)
to_filter P (x ∷ xs) z c t = by (λ h. to_filter P xs z h t) (P x) refl (member x xs z c)
  where
    by : (Contains xs z → Contains (filter P xs) z) → (b : Bool) → P x ≡ b → ((x ≡ z) ⊎ Contains xs z) → Contains (if b then x ∷ filter P xs else filter P xs) z
    by more true e (inl p) = subst (λ w. Contains (x ∷ filter P xs) w) p (first x (filter P xs))
    by more true e (inr h) = later x z (filter P xs) (more h)
    by more false e (inl p) = absurd (let two : P z ≡ false = subst (λ w. P w ≡ false) p e in let no : ⊥ = cc in no)
    by more false e (inr h) = more h

up_filter : {A : Type 0} (number : A → ℕ) (P : A → Bool) (xs : List A) → Up number xs → Up number (filter P xs)
up_filter number P [] u = tt
up_filter number P (x ∷ xs) u = by (up_filter number P xs u.1) (P x)
  where
    by : Up number (filter P xs) → (b : Bool) → Up number (if b then x ∷ filter P xs else filter P xs)
    by more true = (λ z c. u.0 z (from_filter P xs z c).0, more)
    by more false = more

pub order_filter : {A : Type 0} (number : A → ℕ) (P : A → Bool) (xs : List A) → InOrder number xs → InOrder number (filter P xs)
order_filter number P xs h = to_order number (filter P xs) (up_filter number P xs (to_up number xs h))

pub there : {A : Type 0} (P : A → Bool) (xs : List A) (z : A) → Contains (filter P xs) z → Contains xs z
there P xs z c = (from_filter P xs z c).0

-- what is shown of a join is the join of what is shown, if this holds of each thing
pub filter_join : {A : Type 0} (number : A → ℕ) (P Q R : A → Bool) (xs ys zs : List A) → IsJoin number xs ys zs
    → ((z : A) → Contains xs z → R z ≡ true → (P z ≡ true) ⊎ (Contains ys z × (Q z ≡ true)))
    → ((z : A) → Contains ys z → R z ≡ true → (Q z ≡ true) ⊎ (Contains xs z × (P z ≡ true)))
    → ((z : A) → P z ≡ true → R z ≡ true) → ((z : A) → Q z ≡ true → R z ≡ true)
    → IsJoin number (filter P xs) (filter Q ys) (filter R zs)
filter_join number P Q R xs ys zs h left right f g = record {
  in_order = order_filter number R zs h.in_order;
  all = λ z. (
    λ c. (let at = from_filter R zs z c in
        either
        (λ k. either (λ t. inl (to_filter P xs z k t)) (λ t. inr (to_filter Q ys z t.0 t.1)) (left z k at.1))
        (λ k. either (λ t. inr (to_filter Q ys z k t)) (λ t. inl (to_filter P xs z t.0 t.1)) (right z k at.1))
        ((h.all z).0 at.0)),
    either
        (λ c. (let at = from_filter P xs z c in to_filter R zs z ((h.all z).1 (inl at.0)) (f z at.1)))
        (λ c. (let at = from_filter Q ys z c in to_filter R zs z ((h.all z).1 (inr at.0)) (g z at.1))),
  );
}

-- ---- the tests

pub any_both : (n : ℕ) (xs ys : List ℕ) → list_any (nat_eq n) (xs ++ ys) ≡ (list_any (nat_eq n) xs || list_any (nat_eq n) ys)
any_both n [] ys = refl
any_both n (x ∷ xs) ys = by (nat_eq n x) (any_both n xs ys)
  where
    by : (b : Bool) → list_any (nat_eq n) (xs ++ ys) ≡ (list_any (nat_eq n) xs || list_any (nat_eq n) ys) → (b || list_any (nat_eq n) (xs ++ ys)) ≡ ((b || list_any (nat_eq n) xs) || list_any (nat_eq n) ys)
    by true e = refl
    by false e = e

pub any_there : (n : ℕ) (xs : List ℕ) → list_any (nat_eq n) xs ≡ true → Contains xs n
any_there n [] e = absurd (let no : ⊥ = cc in no)
any_there n (x ∷ xs) e = by (any_there n xs) (nat_eq n x) refl e
  where
    by : (list_any (nat_eq n) xs ≡ true → Contains xs n) → (b : Bool) → nat_eq n x ≡ b → (b || list_any (nat_eq n) xs) ≡ true → Contains (x ∷ xs) n
    by more true h k = let same : x ≡ n = grind (arith, nat_tests) in subst (λ w. Contains (x ∷ xs) w) same (first x xs)
    by more false h k = later x n xs (more k)

pub left_or : (o k a b : Bool) → (not o || (not k || (a || b))) ≡ true → ((not o || (not k || a)) ≡ true) ⊎ (b ≡ true)
left_or false k a b e = inl refl
left_or true false a b e = inl refl
left_or true true true b e = inl refl
left_or true true false b e = inr e

pub right_or : (o k a b : Bool) → (not o || (not k || (a || b))) ≡ true → ((not o || (not k || b)) ≡ true) ⊎ (a ≡ true)
right_or false k a b e = inl refl
right_or true false a b e = inl refl
right_or true true true b e = inr refl
right_or true true false b e = inl e

pub or_left : (o k a b : Bool) → (not o || (not k || a)) ≡ true → (not o || (not k || (a || b))) ≡ true
or_left false k a b e = refl
or_left true false a b e = refl
or_left true true true b e = refl
or_left true true false b e = absurd (let no : ⊥ = cc in no)

pub or_right : (o k a b : Bool) → (not o || (not k || b)) ≡ true → (not o || (not k || (a || b))) ≡ true
or_right false k a b e = refl
or_right true false a b e = refl
or_right true true true b e = refl
or_right true true false b e = e

pub or_true : (o k b : Bool) → b ≡ true → (not o || (not k || b)) ≡ true
or_true false k b e = refl
or_true true false b e = refl
or_true true true b e = e
