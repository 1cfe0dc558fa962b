-- Lists from a place on, as their fronts change.
use Rattle.std.proofs.Common.{◌≡◌, ℕ, zero, suc, ◌+◌, ◌-◌, ◌<◌, ◌≤◌, Bool, true, false, not, cond, if◌then◌else◌, Option, Some, None, IfSome, List, [], ◌∷◌, ◌++◌, length, take, drop, set, slice_get, slice_index_or, position, replicate, refl, ap, sym, ◌∙◌, arith}
use Rattle.std.specs.List.{AllByRecursion, IsDistinct, insert, prefix_len, remove, swap_remove}
use Rattle.std.proofs.lemmas.List.{drop-append-le, drop-drop, drop-replicate, drop-set, drop-set-lt, length-append, length-drop, length-replicate, length-set, set-append_left, take_at}

-- an item is taken out after the places that have gone
pub removed_after : {X : Type 0} (n i m : ℕ) (xs : List X) → m ≡ n + i → n ≤ length xs → drop n (remove xs m) ≡ remove (drop n xs) i
removed_after zero i m xs e h = let k : m ≡ i = omega arith in ap (λ (j : ℕ). remove xs j) k
removed_after (suc n) i m [] e h = absurd (omega arith)
removed_after (suc n) i zero (x ∷ xs) e h = absurd (omega arith)
removed_after (suc n) i (suc m) (x ∷ xs) e h = removed_after n i m xs (omega arith) (omega arith)

-- an item is put in after them
pub inserted_after : {X : Type 0} (n i m : ℕ) (xs : List X) (y : X) → m ≡ n + i → n ≤ length xs → drop n (insert xs m y) ≡ insert (drop n xs) i y
inserted_after zero i m xs y e h = let k : m ≡ i = omega arith in ap (λ (j : ℕ). insert xs j y) k
inserted_after (suc n) i m [] y e h = absurd (omega arith)
inserted_after (suc n) i zero (x ∷ xs) y e h = absurd (omega arith)
inserted_after (suc n) i (suc m) (x ∷ xs) y e h = inserted_after n i m xs y (omega arith) (omega arith)

-- one more place has gone
pub first_removed : {X : Type 0} (n at : ℕ) (xs : List X) → at ≤ 0 → drop (n + 1) xs ≡ remove (drop n xs) at
first_removed n zero xs h = sym (drop-drop 1 n xs)
first_removed n (suc at) xs h = absurd (omega arith)

-- one less
pub first_inserted : {X : Type 0} (n at : ℕ) (xs : List X) (y : X) → 0 < n → n ≤ length xs → at ≤ 0 → drop (n - 1) (set xs (n - 1) y) ≡ insert (drop n xs) at y
first_inserted n zero xs y p h k =
    let e : (n - 1) + 1 ≡ n = omega arith in
    drop-set xs (n - 1) y (omega arith) ∙ ap (λ (j : ℕ). y ∷ drop j xs) e
first_inserted n (suc at) xs y p h k = absurd (omega arith)

-- the last of the places before the items has the new one
pub roomy_inserted : {X : Type 0} (n at : ℕ) (xs : List X) (y : X) → at ≤ 0 → drop n (replicate (n + 1) y ++ xs) ≡ insert xs at y
roomy_inserted n zero xs y h =
    let l : length (replicate (n + 1) y) ≡ n + 1 = length-replicate (n + 1) y in
    let e : (n + 1) - n ≡ 1 = omega arith in
    drop-append-le n (replicate (n + 1) y) xs (omega arith) ∙ ap (λ ys. ys ++ xs) (drop-replicate n (n + 1) y ∙ ap (λ (j : ℕ). replicate j y) e)
roomy_inserted n (suc at) xs y h = absurd (omega arith)

-- the items that are left, after those that have gone were brought to the end
pub brought_to_front : {X : Type 0} (n left : ℕ) (xs : List X) → left ≡ length xs - n → take left (drop n xs ++ take n xs) ≡ drop n xs
brought_to_front n left xs e = take_at (drop n xs) (take n xs) left (length-drop n xs ∙ sym e)

-- the last of a list that takes the place of one that has gone
some_at : {X : Type 0} (xs : List X) (i : ℕ) → i < length xs → slice_get xs i ≡ None → ⊥
some_at [] i h e = absurd (omega arith)
some_at (x ∷ xs) zero h e = cc
some_at (x ∷ xs) (suc i) h e = some_at xs i (omega arith) e

swapped : {X : Type 0} (gone at : ℕ) (xs : List X) (o z : X) → gone ≤ length xs → at < gone → drop gone (take (length (xs ++ o ∷ []) - 1) (set (xs ++ o ∷ []) at z)) ≡ drop gone xs
swapped gone at xs o z h k =
    let n : length (xs ++ o ∷ []) - 1 ≡ length xs = omega (arith, length-append xs (o ∷ [])) in
    let s : set (xs ++ o ∷ []) at z ≡ set xs at z ++ o ∷ [] = set-append_left xs (o ∷ []) at z (omega arith) in
    ap (drop gone) (ap (λ (m : ℕ). take m (set (xs ++ o ∷ []) at z)) n ∙ ap (take (length xs)) s ∙ take_at (set xs at z) (o ∷ []) (length xs) (length-set xs at z))
    ∙ drop-set-lt gone xs at z k

pub buried : {X : Type 0} (gone at : ℕ) (xs ys zs : List X) (o : X) (r : Option X) → gone ≤ length xs → at < gone → ys ≡ xs ++ o ∷ [] → r ≡ slice_get ys at → IfSome r (λ k. zs ≡ swap_remove ys at k) → drop gone zs ≡ drop gone xs
buried gone at xs ys zs o None h k e f g =
    absurd (some_at (xs ++ o ∷ []) at (omega (arith, length-append xs (o ∷ []))) (ap (λ l. slice_get l at) (sym e) ∙ sym f))
buried gone at xs ys zs o (Some y) h k e f g =
    ap (drop gone) (g ∙ ap (λ l. swap_remove l at y) e)
    ∙ swapped gone at xs o (slice_index_or (xs ++ o ∷ []) (length (xs ++ o ∷ []) - 1) y) h k

pub added_last : {X : Type 0} (b r : Bool) (xs ys zs : List X) → r ≡ not b → r ≡ true → zs ≡ (if b then xs else ys) → zs ≡ ys
added_last true r xs ys zs e f h = cc
added_last false r xs ys zs e f h = h

-- places from a place on

module _ {X : Type 0} (eq : X → X → Bool) (p : X → Bool) (alike : (x y : X) → p x ≡ true → p y ≡ eq x y) where
  walked : List X → ℕ
  walked xs = prefix_len (λ x. not (p x)) xs

  none_later : (x : X) → p x ≡ true → (n : ℕ) (xs : List X) → AllByRecursion (λ y. eq x y ≡ false) xs → walked (drop n xs) ≡ length (drop n xs)
  unfolding walked
  none_later x t zero [] h = refl
  none_later x t (suc n) [] h = refl
  none_later x t zero (y ∷ ys) h =
      let rest : walked ys ≡ length ys = none_later x t zero ys h.1 in
      ap (λ b. cond (not b) (1 + walked ys) 0) (alike x y t ∙ h.0) ∙ omega arith
  none_later x t (suc n) (y ∷ ys) h = none_later x t n ys h.1

  found_before : (n : ℕ) (xs : List X) → IsDistinct eq xs → walked xs < n → walked (drop n xs) ≡ length (drop n xs)
  unfolding walked IsDistinct
  found_before zero xs d h = absurd (omega arith)
  found_before (suc n) [] d h = refl
  found_before (suc n) (x ∷ xs) d h = by (p x) refl h (found_before n xs d.1)
    where
      by : (b : Bool) → p x ≡ b → cond (not b) (1 + walked xs) 0 < suc n → (walked xs < n → walked (drop n xs) ≡ length (drop n xs)) → walked (drop n xs) ≡ length (drop n xs)
      by true e k rest = none_later x e n xs d.0
      by false e k rest = rest (omega arith)

  found_later : (n : ℕ) (xs : List X) → n ≤ walked xs → walked xs ≡ n + walked (drop n xs)
  unfolding walked
  found_later zero xs h = omega arith
  found_later (suc n) [] h = absurd (omega arith)
  found_later (suc n) (x ∷ xs) h = by (p x) h (found_later n xs)
    where
      by : (b : Bool) → suc n ≤ cond (not b) (1 + walked xs) 0 → (n ≤ walked xs → walked xs ≡ n + walked (drop n xs)) → cond (not b) (1 + walked xs) 0 ≡ suc n + walked (drop n xs)
      by true k rest = absurd (omega arith)
      by false k rest = let e : walked xs ≡ n + walked (drop n xs) = rest (omega arith) in omega arith

  -- the place of an absent content, of one that has gone and of a later one
  pub place_none : (n : ℕ) (xs : List X) → n ≤ length xs → position p xs ≡ None → position p (drop n xs) ≡ None
  unfolding walked
  place_none n xs h e = grind (arith, found_later n xs, length-drop n xs)

  pub place_gone : (n at : ℕ) (xs : List X) → IsDistinct eq xs → position p xs ≡ Some at → at < n → position p (drop n xs) ≡ None
  unfolding walked
  place_gone n at xs d e h = grind (arith, found_before n xs d, length-drop n xs)

  pub place_later : (n at : ℕ) (xs : List X) → position p xs ≡ Some at → n ≤ at → position p (drop n xs) ≡ Some (at - n)
  unfolding walked
  place_later n at xs e h = grind (arith, found_later n xs, length-drop n xs)
