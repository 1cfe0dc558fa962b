-- The first place at which one of two tests passes.
use Rattle.std.proofs.Common.{◌≡◌, ℕ, suc, ◌+◌, Bool, true, false, not, cond, nat_lt, ◌||◌, List, [], ◌∷◌, ◌++◌, length, map, Option, Some, None, position, refl, ap, sym, ◌∙◌, arith}
use Rattle.std.specs.List.{prefix_len}
use Rattle.star_store.specs.Table.{earlier}
use Rattle.star_store.proofs.Indexes.{alike}

later : Option ℕ → Option ℕ
later None = None
later (Some i) = Some (1 + i)

step : (b : Bool) (n m : ℕ) → cond (nat_lt (cond (not b) (1 + n) 0) (suc m)) (Some (cond (not b) (1 + n) 0)) None ≡ cond b (Some 0) (later (cond (nat_lt n m) (Some n) None))
unfolding later
step true n m = grind arith
step false n m = grind arith

position_cons : {X : Type 0} (p : X → Bool) (x : X) (xs : List X) → position p (x ∷ xs) ≡ cond (p x) (Some 0) (later (position p xs))
position_cons p x xs = step (p x) (prefix_len (λ y. not (p y)) xs) (length xs)

first_left : (o : Option ℕ) → earlier (Some 0) o ≡ Some 0
first_left None = refl
first_left (Some j) = ap Some (omega arith)

first_right : (o : Option ℕ) → earlier (later o) (Some 0) ≡ Some 0
unfolding later
first_right None = refl
first_right (Some j) = ap Some (omega arith)

both_later : (o p : Option ℕ) → later (earlier o p) ≡ earlier (later o) (later p)
unfolding later
both_later None p = refl
both_later (Some i) None = refl
both_later (Some i) (Some j) = ap Some (omega arith)

either : (b c : Bool) (o p q : Option ℕ) → o ≡ earlier p q → cond (b || c) (Some 0) (later o) ≡ earlier (cond b (Some 0) (later p)) (cond c (Some 0) (later q))
either true c o p q h = sym (first_left (cond c (Some 0) (later q)))
either false true o p q h = sym (first_right p)
either false false o p q h = ap later h ∙ both_later p q

-- the first place at which one of two tests passes is the earlier one of theirs
pub position_or : {X : Type 0} (p q : X → Bool) (xs : List X) → position (λ x. p x || q x) xs ≡ earlier (position p xs) (position q xs)
position_or p q [] = refl
position_or p q (x ∷ xs) =
    position_cons (λ y. p y || q y) x xs
    ∙ either (p x) (q x) (position (λ y. p y || q y) xs) (position p xs) (position q xs) (position_or p q xs)
    ∙ ap (λ (o : Option ℕ). earlier o (cond (q x) (Some 0) (later (position q xs)))) (sym (position_cons p x xs))
    ∙ ap (earlier (position p (x ∷ xs))) (sym (position_cons q x xs))

pub earlier_none : (o : Option ℕ) → earlier o None ≡ o
earlier_none None = refl
earlier_none (Some i) = refl

pub earlier_assoc : (o p q : Option ℕ) → earlier o (earlier p q) ≡ earlier (earlier o p) q
earlier_assoc None p q = refl
earlier_assoc (Some i) None q = refl
earlier_assoc (Some i) (Some j) None = refl
earlier_assoc (Some i) (Some j) (Some k) = ap Some (omega arith)

-- a test that never passes has no place
pub position_never : {X : Type 0} (p : X → Bool) (xs : List X) → ((x : X) → p x ≡ false) → position p xs ≡ None
unfolding later
position_never p [] h = refl
position_never p (x ∷ xs) h =
    position_cons p x xs
    ∙ ap (λ (b : Bool). cond b (Some 0) (later (position p xs))) (h x)
    ∙ ap later (position_never p xs h)

-- tests that answer the same have the same place
pub position_same : {X : Type 0} (p q : X → Bool) (xs : List X) → ((x : X) → p x ≡ q x) → position p xs ≡ position q xs
position_same {X} p q xs h = alike p q xs xs (each xs)
  where
    each : (ys : List X) → map p ys ≡ map q ys
    each [] = refl
    each (y ∷ ys) = ap (λ (b : Bool). b ∷ map p ys) (h y) ∙ ap (λ (bs : List Bool). q y ∷ bs) (each ys)

-- a place, or another if there is none
abbrev pub or_place : Option ℕ → Option ℕ → Option ℕ
or_place (Some i) o = Some i
or_place None o = o

last_or : (b : Bool) (o : Option ℕ) (n : ℕ) → later (or_place o (cond b (Some n) None)) ≡ or_place (later o) (cond b (Some (suc n)) None)
unfolding later
last_or b (Some i) n = refl
last_or true None n = ap Some (omega arith)
last_or false None n = refl

first_or : (b c : Bool) (o p : Option ℕ) (n : ℕ) → o ≡ or_place p (cond c (Some n) None) → cond b (Some 0) (later o) ≡ or_place (cond b (Some 0) (later p)) (cond c (Some (suc n)) None)
first_or true c o p n h = refl
first_or false c o p n h = ap later h ∙ last_or c p n

-- the place in a list with one item more
pub position_push : {X : Type 0} (p : X → Bool) (xs : List X) (y : X) → position p (xs ++ y ∷ []) ≡ or_place (position p xs) (cond (p y) (Some (length xs)) None)
unfolding later
position_push p [] y = position_cons p y []
position_push p (x ∷ xs) y =
    position_cons p x (xs ++ y ∷ [])
    ∙ first_or (p x) (p y) (position p (xs ++ y ∷ [])) (position p xs) (length xs) (position_push p xs y)
    ∙ ap (λ (o : Option ℕ). or_place o (cond (p y) (Some (suc (length xs))) None)) (sym (position_cons p x xs))
