-- A stable sort puts each item among those that come after it, before the first that is not less.
use Rattle.std.proofs.Common.{◌≡◌, ◌<◌, ◌≤◌, ℕ, zero, suc, ◌+◌, Bool, true, false, not, ◌&&◌, cond, List, [], ◌∷◌, length, get_or, refl, ap, sym, ◌∙◌, subst, add-one, arith}
use Rattle.std.specs.Prelude.{⊤, if◌then◌else◌}
use Rattle.std.specs.List.{All, AllByRecursion, filter}
use Rattle.std.specs.List.Sorted.{IsSortedBy, IsStableBy, ties}
use Rattle.std.specs.Cmp.{IsStrictWeakOrder}
use Rattle.std.proofs.lemmas.List.Elements.{recursion_from_All}
use Rattle.std.proofs.lemmas.List.Sorted.{sorted_far}

-- no item comes after one that it is less than
abbrev pub Rises : {X : Type 0} → (X → X → Bool) → List X → Type 0
Rises lt [] = ⊤
Rises lt (x ∷ xs) = AllByRecursion (λ y. lt y x ≡ false) xs × Rises lt xs

-- an item put before the first that is not less
abbrev pub put : {X : Type 0} → (X → X → Bool) → X → List X → List X
put lt x [] = x ∷ []
put lt x (y ∷ ys) = if lt y x then y ∷ put lt x ys else x ∷ y ∷ ys

abbrev pub sorted : {X : Type 0} → (X → X → Bool) → List X → List X
sorted lt [] = []
sorted lt (x ∷ xs) = put lt x (sorted lt xs)

module _ {X : Type 0} (lt : X → X → Bool) (o : IsStrictWeakOrder lt) where
  rises_from : (xs : List X) → IsSortedBy lt xs → Rises lt xs
  rises_from [] h = tt
  rises_from (x ∷ xs) h =
      let later : All (λ y. lt y x ≡ false) xs = λ k d l. sorted_far lt o (x ∷ xs) h zero (suc k) d (omega arith) (omega arith) in
      let rest : IsSortedBy lt xs = λ k d a b. simp add-one (simp add-one at (h (suc k) d (omega arith) (omega arith))) in
      (recursion_from_All (λ y. lt y x ≡ false) xs later, rises_from xs rest)

  not_itself : (x : X) → (b : Bool) → lt x x ≡ b → lt x x ≡ false
  not_itself x true h = o.one_way x x h
  not_itself x false h = h

  irreflexive : (x : X) → lt x x ≡ false
  irreflexive x = not_itself x (lt x x) refl

  ties_itself : (x : X) → ties lt x x ≡ true
  ties_itself x = rw (irreflexive x) refl

  tied : (x y : X) → lt x y ≡ false → lt y x ≡ false → ties lt x y ≡ true
  tied x y h k = rw (h, k) refl

  below : (x y : X) → lt x y ≡ true → ties lt x y ≡ false
  below x y h = rw h refl

  above : (x y : X) → lt y x ≡ true → ties lt x y ≡ false
  above x y h = rw (h, o.one_way y x h) refl

  -- an element below another is below all that are not below that one
  chained_by : (z w y : X) (b : Bool) → lt z w ≡ b → lt z y ≡ true → lt w y ≡ false → lt z w ≡ true
  chained_by z w y true e h k = e
  chained_by z w y false e h k = let c : lt z y ≡ false = o.chain z w y e k in cc

  chained : (z w y : X) → lt z y ≡ true → lt w y ≡ false → lt z w ≡ true
  chained z w y h k = chained_by z w y (lt z w) refl h k

  -- nothing that is not less than y ties with an element less than y
  none_tie : (z y : X) (ws : List X) → lt z y ≡ true → AllByRecursion (λ w. lt w y ≡ false) ws → filter (ties lt z) ws ≡ []
  none_tie z y [] h k = refl
  none_tie z y (w ∷ ws) h k = rw (below z w (chained z w y h k.0)) (none_tie z y ws h k.1)

  kept : (a x : X) (xs : List X) → ties lt a x ≡ true → filter (ties lt a) (x ∷ xs) ≡ x ∷ filter (ties lt a) xs
  kept a x xs h = rw h refl

  left_out : (a x : X) (xs : List X) → ties lt a x ≡ false → filter (ties lt a) (x ∷ xs) ≡ filter (ties lt a) xs
  left_out a x xs h = rw h refl

  -- the first items tie
  first_not_less : (y z : X) (ys zs : List X) (b : Bool) → lt z y ≡ b → AllByRecursion (λ w. lt w y ≡ false) ys → filter (ties lt z) (y ∷ ys) ≡ filter (ties lt z) (z ∷ zs) → lt z y ≡ false
  first_not_less y z ys zs true e h k =
      let none : filter (ties lt z) (y ∷ ys) ≡ [] = left_out z y ys (below z y e) ∙ none_tie z y ys e h in
      let one : filter (ties lt z) (z ∷ zs) ≡ z ∷ filter (ties lt z) zs = kept z z zs (ties_itself z) in
      cc
  first_not_less y z ys zs false e h k = e

  -- two rising lists with the same ties in order are one
  one_order : (ys zs : List X) → Rises lt ys → Rises lt zs → IsStableBy lt ys zs → ys ≡ zs
  one_order [] [] h k s = refl
  one_order [] (z ∷ zs) h k s = let e = s z in let one : filter (ties lt z) (z ∷ zs) ≡ z ∷ filter (ties lt z) zs = kept z z zs (ties_itself z) in cc
  one_order (y ∷ ys) [] h k s = let e = s y in let one : filter (ties lt y) (y ∷ ys) ≡ y ∷ filter (ties lt y) ys = kept y y ys (ties_itself y) in cc
  one_order (y ∷ ys) (z ∷ zs) h k s =
      let zy : lt z y ≡ false = first_not_less y z ys zs (lt z y) refl h.0 (sym (s z)) in
      let yz : lt y z ≡ false = first_not_less z y zs ys (lt y z) refl k.0 (s y) in
      let there : filter (ties lt y) (z ∷ zs) ≡ z ∷ filter (ties lt y) zs = kept y z zs (tied y z yz zy) in
      let here : filter (ties lt y) (y ∷ ys) ≡ y ∷ filter (ties lt y) ys = kept y y ys (ties_itself y) in
      let same = s y in
      let e : y ≡ z = cc in
      let t : ys ≡ zs = one_order ys zs h.1 k.1 (rest y z ys zs e s) in
      cc
    where
      rest_at : (y z : X) (ys zs : List X) → y ≡ z → (x : X) (b : Bool) → ties lt x y ≡ b → ties lt x z ≡ b → filter (ties lt x) (z ∷ zs) ≡ filter (ties lt x) (y ∷ ys) → filter (ties lt x) zs ≡ filter (ties lt x) ys
      rest_at y z ys zs e x true p q s = let a = kept x z zs q in let b = kept x y ys p in cc
      rest_at y z ys zs e x false p q s = let a = left_out x z zs q in let b = left_out x y ys p in cc

      rest : (y z : X) (ys zs : List X) → y ≡ z → IsStableBy lt (y ∷ ys) (z ∷ zs) → IsStableBy lt ys zs
      rest y z ys zs e s = λ x. rest_at y z ys zs e x (ties lt x y) refl (ap (ties lt x) (sym e)) (s x)

  all_put : (P : X → Type 0) (x : X) (ys : List X) → P x → AllByRecursion P ys → AllByRecursion P (put lt x ys)
  all_put P x [] h k = (h, tt)
  all_put P x (y ∷ ys) h k = elim (lt y x) as (λ b. AllByRecursion P (if b then y ∷ put lt x ys else x ∷ y ∷ ys)) [ true ↦ (k.0, all_put P x ys h k.1) | false ↦ (h, k) ]

  all_not_less : (x y : X) (ys : List X) → lt y x ≡ false → AllByRecursion (λ w. lt w y ≡ false) ys → AllByRecursion (λ w. lt w x ≡ false) ys
  all_not_less x y [] h k = tt
  all_not_less x y (w ∷ ws) h k = (o.chain w y x k.0 h, all_not_less x y ws h k.1)

  rises_put_by : (x y : X) (ys : List X) (b : Bool) → lt y x ≡ b → Rises lt (y ∷ ys) → Rises lt (put lt x ys) → Rises lt (if b then y ∷ put lt x ys else x ∷ y ∷ ys)
  rises_put_by x y ys true e h k = (all_put (λ w. lt w y ≡ false) x ys (o.one_way y x e) h.0, k)
  rises_put_by x y ys false e h k = ((e, all_not_less x y ys e h.0), h)

  rises_put : (x : X) (ys : List X) → Rises lt ys → Rises lt (put lt x ys)
  rises_put x [] h = (tt, tt)
  rises_put x (y ∷ ys) h = rises_put_by x y ys (lt y x) refl h (rises_put x ys h.1)

  rises_sorted : (xs : List X) → Rises lt (sorted lt xs)
  rises_sorted [] = tt
  rises_sorted (x ∷ xs) = rises_put x (sorted lt xs) (rises_sorted xs)

  not_below_by : (x y : X) (b : Bool) → lt x y ≡ b → ties lt x y ≡ true → b ≡ false
  not_below_by x y true e h = let g = below x y e in cc
  not_below_by x y false e h = refl

  not_below : (x y : X) → ties lt x y ≡ true → lt x y ≡ false
  not_below x y h = not_below_by x y (lt x y) refl h

  not_above_by : (x y : X) (c : Bool) → lt y x ≡ c → ties lt x y ≡ true → c ≡ false
  not_above_by x y true f h = let g = above x y f in cc
  not_above_by x y false f h = refl

  not_above : (x y : X) → ties lt x y ≡ true → lt y x ≡ false
  not_above x y h = not_above_by x y (lt y x) refl h

  -- a first item is kept in both lists, or in none
  same_first : (a x : X) (ys zs : List X) (b : Bool) → ties lt a x ≡ b → filter (ties lt a) ys ≡ filter (ties lt a) zs → filter (ties lt a) (x ∷ ys) ≡ filter (ties lt a) (x ∷ zs)
  same_first a x ys zs true e h = kept a x ys e ∙ ap (λ l. x ∷ l) h ∙ sym (kept a x zs e)
  same_first a x ys zs false e h = left_out a x ys e ∙ h ∙ sym (left_out a x zs e)

  -- of two items, one less than the other, at most one ties with a third
  swapped : (a x y : X) (xs ys : List X) (p q : Bool) → ties lt a x ≡ p → ties lt a y ≡ q → lt y x ≡ true → filter (ties lt a) xs ≡ filter (ties lt a) (x ∷ ys) → filter (ties lt a) (y ∷ xs) ≡ filter (ties lt a) (x ∷ y ∷ ys)
  swapped a x y xs ys true true e f h s =
      let no : lt y x ≡ false = o.chain y a x (not_above a y f) (not_below a x e) in
      cc
  swapped a x y xs ys true false e f h s = left_out a y xs f ∙ s ∙ kept a x ys e ∙ ap (λ l. x ∷ l) (sym (left_out a y ys f)) ∙ sym (kept a x (y ∷ ys) e)
  swapped a x y xs ys false q e f h s = same_first a y xs ys q f (s ∙ left_out a x ys e) ∙ sym (left_out a x (y ∷ ys) e)

  stable_put_by : (a x y : X) (ys : List X) (b : Bool) → lt y x ≡ b → filter (ties lt a) (put lt x ys) ≡ filter (ties lt a) (x ∷ ys) → filter (ties lt a) (if b then y ∷ put lt x ys else x ∷ y ∷ ys) ≡ filter (ties lt a) (x ∷ y ∷ ys)
  stable_put_by a x y ys true e h = swapped a x y (put lt x ys) ys (ties lt a x) (ties lt a y) refl refl e h
  stable_put_by a x y ys false e h = refl

  stable_put : (a x : X) (ys : List X) → filter (ties lt a) (put lt x ys) ≡ filter (ties lt a) (x ∷ ys)
  stable_put a x [] = refl
  stable_put a x (y ∷ ys) = stable_put_by a x y ys (lt y x) refl (stable_put a x ys)

  stable_sorted : (xs : List X) → IsStableBy lt xs (sorted lt xs)
  stable_sorted [] a = refl
  stable_sorted (x ∷ xs) a = stable_put a x (sorted lt xs) ∙ same_first a x (sorted lt xs) xs (ties lt a x) refl (stable_sorted xs a)

  -- a stable sort of a list
  pub sorted_is : (xs ys : List X) → IsSortedBy lt ys → IsStableBy lt xs ys → ys ≡ sorted lt xs
  sorted_is xs ys h s = one_order ys (sorted lt xs) (rises_from ys h) (rises_sorted xs) (λ x. stable_sorted xs x ∙ sym (s x))
