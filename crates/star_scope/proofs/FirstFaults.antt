-- The first of several faults: the order of faults, and the first of the faults found in two places.
use Rattle.std.proofs.Common.{arith, ◌≡◌, ℕ, Bool, true, false, ◌&&◌, ◌||◌, List, [], ◌∷◌, Option, Some, None, refl, ap, sym, ◌∙◌, nat_lt, nat_eq, if◌then◌else◌, ◌⊎◌, inl, inr}
use Rattle.star_scope.specs.declared.error.LocatedFault.{LocatedFault}
use Rattle.star_scope.specs.Faults.{FirstIsFirst, IsFirst, earlier, first_from, first_of, rank, comes_before}

-- an order of pairs of numbers
abbrev before : ℕ → ℕ → ℕ → ℕ → Bool
before t r u s = nat_lt t u || (nat_eq t u && nat_lt r s)

along : (t r u s v q : ℕ) → before u s t r ≡ true → before v q u s ≡ true → before v q t r ≡ true
along t r u s v q x y = grind arith

not_along : (t r u s v q : ℕ) → before u s t r ≡ false → before v q u s ≡ false → before v q t r ≡ false
not_along t r u s v q x y = grind arith

pub before_along : (a b c : LocatedFault) → comes_before b a ≡ true → comes_before c b ≡ true → comes_before c a ≡ true
before_along a b c x y = along a.token (rank a.fault) b.token (rank b.fault) c.token (rank c.fault) x y

pub not_before_along : (a b c : LocatedFault) → comes_before b a ≡ false → comes_before c b ≡ false → comes_before c a ≡ false
not_before_along a b c x y = not_along a.token (rank a.fault) b.token (rank b.fault) c.token (rank c.fault) x y

chosen : (p q r : Bool) (a b c : LocatedFault) → (p ≡ true → q ≡ true → r ≡ true) → (p ≡ false → q ≡ false → r ≡ false) → p ≡ comes_before b a → q ≡ comes_before c b → r ≡ comes_before c a
    → earlier (if p then Some b else Some a) c ≡ first_of (Some a) (if q then Some c else Some b)
chosen true true r a b c f g x y z = ap (λ k. if k then Some c else Some b) (sym y) ∙ sym (ap (λ k. if k then Some c else Some a) (sym z ∙ f refl refl))
chosen true false r a b c f g x y z = ap (λ k. if k then Some c else Some b) (sym y) ∙ sym (ap (λ k. if k then Some b else Some a) (sym x))
chosen false true r a b c f g x y z = refl
chosen false false r a b c f g x y z = ap (λ k. if k then Some c else Some a) (sym z ∙ g refl refl) ∙ sym (ap (λ k. if k then Some b else Some a) (sym x))

alone : (k : Bool) (b c : LocatedFault) → (if k then Some c else Some b) ≡ first_of None (if k then Some c else Some b)
alone true b c = refl
alone false b c = refl

-- the earliest of three faults, compared in either way
pub earlier_both : (found : Option LocatedFault) (b c : LocatedFault) → earlier (earlier found b) c ≡ first_of found (earlier (Some b) c)
earlier_both None b c = alone (comes_before c b) b c
earlier_both (Some a) b c =
    chosen (comes_before b a) (comes_before c b) (comes_before c a) a b c (before_along a b c) (not_before_along a b c) refl refl refl

joined : (found more : Option LocatedFault) (f : LocatedFault) → first_of (earlier found f) more ≡ first_of found (first_of (Some f) more)
joined found None f = refl
joined found (Some g) f = earlier_both found f g

-- the first of a fault found and further faults is the earlier of it and the first of these
pub first_apart : (found : Option LocatedFault) (fs : List LocatedFault) → first_from found fs ≡ first_of found (first_from None fs)
unfolding first_from
first_apart found [] = refl
first_apart found (f ∷ fs) =
    first_apart (earlier found f) fs ∙ joined found (first_from None fs) f ∙ ap (first_of found) (sym (first_apart (Some f) fs))

picked : (k : Bool) (a b : LocatedFault) → (if k then Some a else Some b) ≡ None → ⊥
picked true a b e = cc
picked false a b e = cc

never : (found : Option LocatedFault) (more : LocatedFault) → earlier found more ≡ None → ⊥
never None more e = cc
never (Some f) more e = picked (comes_before more f) more f e

-- if nothing was found in two places, nothing was found in the second
pub none_of : (found more : Option LocatedFault) → first_of found more ≡ None → more ≡ None
none_of found None e = refl
none_of found (Some r) e = elim (never found r e) [ ]

-- ---- the first of faults is one of them, and none comes before it

not_itself : (t r : ℕ) → before t r t r ≡ false
not_itself t r = grind arith

-- a fault that came before the first would come before another one too
not_less : (p q s : Bool) → (p ≡ true → q ≡ true → s ≡ true) → q ≡ true → s ≡ false → p ≡ false
not_less false q s f x y = refl
not_less true q s f x y = let z = f refl x in cc

more_first : (b : Bool) (a g r : LocatedFault) (gs : List LocatedFault) → comes_before g a ≡ b → ((x : LocatedFault) → first_from (Some x) gs ≡ Some r → IsFirst (x ∷ gs) r)
    → first_from (if b then Some g else Some a) gs ≡ Some r → IsFirst (a ∷ g ∷ gs) r
more_first true a g r gs x rec e =
    let h = rec g e in
    let least : comes_before a r ≡ false = not_less (comes_before a r) (comes_before g a) (comes_before g r) (λ p q. before_along r a g p q) x (h.1 g (inl refl)) in
    (inr h.0, λ f i. elim i [ inl is ↦ ap (λ y. comes_before y r) is ∙ least | inr j ↦ h.1 f j ])
more_first false a g r gs x rec e =
    let h = rec a e in
    let least : comes_before g r ≡ false = not_before_along r a g (h.1 a (inl refl)) x in (
      elim h.0 [ inl is ↦ inl is | inr j ↦ inr (inr j) ],
      λ f i. elim i [ inl is ↦ h.1 f (inl is) | inr j ↦ elim j [ inl is ↦ ap (λ y. comes_before y r) is ∙ least | inr k ↦ h.1 f (inr k) ] ],
    )

first_some : (a r : LocatedFault) (fs : List LocatedFault) → first_from (Some a) fs ≡ Some r → IsFirst (a ∷ fs) r
unfolding first_from
first_some a r [] e =
    let same : a ≡ r = cc in
    (inl (sym same), λ f i. elim i [ inl is ↦ ap (λ y. comes_before y r) (is ∙ same) ∙ not_itself r.token (rank r.fault) | inr absent ↦ elim absent [ ] ])
first_some a r (g ∷ gs) e = more_first (comes_before g a) a g r gs refl (λ x. first_some x r gs) e

if_some : (b : Bool) (x y : LocatedFault) → ((if b then Some x else Some y) ≡ Some x) ⊎ ((if b then Some x else Some y) ≡ Some y)
if_some true x y = inl refl
if_some false x y = inr refl

never_from : (a : LocatedFault) (fs : List LocatedFault) → first_from (Some a) fs ≡ None → ⊥
unfolding first_from
never_from a [] e = cc
never_from a (g ∷ gs) e = elim (if_some (comes_before g a) g a) [ inl is ↦ never_from g gs (ap (λ o. first_from o gs) (sym is) ∙ e) | inr is ↦ never_from a gs (ap (λ o. first_from o gs) (sym is) ∙ e) ]

pub first_is : (fs : List LocatedFault) (r : LocatedFault) → first_from None fs ≡ Some r → IsFirst fs r
unfolding first_from
first_is [] r e = cc
first_is (f ∷ fs) r e = first_some f r fs e

pub none_first : (fs : List LocatedFault) → first_from None fs ≡ None → fs ≡ []
unfolding first_from
none_first [] e = refl
none_first (f ∷ fs) e = elim (never_from f fs e) [ ]

pub first_is_first : FirstIsFirst
unfolding first_from
first_is_first = record { some = first_is; none = none_first; empty = refl }
