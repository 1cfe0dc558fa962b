-- A sorted list whose ties keep their order is the list with each element placed in turn.
use Rattle.std.proofs.Common.{◌≡◌, suc, ◌+◌, List, [], ◌∷◌, Bool, true, false, not, ◌&&◌, if◌then◌else◌, refl, sym, ap, ◌∙◌, arith}
use Rattle.std.specs.List.{filter}
use Rattle.std.specs.List.Sorted.{IsSortedBy, IsStableBy, ties}
use Rattle.std.specs.Cmp.{IsStrictWeakOrder}
use Rattle.std.specs.Fn.{Called, ComparesAs}
use Rattle.std.specs.Ordering.{is_lt}
use Rattle.std.specs.declared.cmp.Ordering.{Ordering}
use Rattle.std.proofs.lemmas.Fn.{always_returns_same}
use denote.Ref.{Bor}
use denote.Param.Members.{Mut}
use Rattle.star_store.specs.Sorting.{placed, in_order}

-- no element of a list comes before x
abbrev None_below : {A : Type 0} → (A → A → Bool) → A → List A → Type 0
None_below lt x [] = Unit {0}
None_below lt x (y ∷ ys) = (lt y x ≡ false) × None_below lt x ys

-- no element is less than one in front of it
abbrev Rises : {A : Type 0} → (A → A → Bool) → List A → Type 0
Rises lt [] = Unit {0}
Rises lt (x ∷ xs) = None_below lt x xs × Rises lt xs

both_low : (a b : Bool) → (not a && not b) ≡ true → (a ≡ false) × (b ≡ false)
both_low false false e = (refl, refl)
both_low false true e = cc
both_low true b e = cc

-- one of two elements at most passes, so their order does not matter
swapped : {A : Type 0} (x y : A) (rest : List A) (a b : Bool) → (a ≡ true → b ≡ true → ⊥) → (if b then y ∷ (if a then x ∷ rest else rest) else (if a then x ∷ rest else rest)) ≡ (if a then x ∷ (if b then y ∷ rest else rest) else (if b then y ∷ rest else rest))
swapped x y rest true true h = absurd (h refl refl)
swapped x y rest true false h = refl
swapped x y rest false b h = refl

same_rest : {A : Type 0} (y z : A) (ys zs : List A) (a b : Bool) → a ≡ b → (if a then y ∷ ys else ys) ≡ (if b then z ∷ zs else zs) → ys ≡ zs
same_rest y z ys zs true true h e = cc
same_rest y z ys zs false false h e = e
same_rest y z ys zs true false h e = cc
same_rest y z ys zs false true h e = cc

module _ {A : Type 0} (lt : A → A → Bool) (o : IsStrictWeakOrder lt) where
  never_itself_by : (x : A) (b : Bool) → lt x x ≡ b → lt x x ≡ false
  never_itself_by x false e = e
  never_itself_by x true e = o.one_way x x e

  never_itself : (x : A) → lt x x ≡ false
  never_itself x = never_itself_by x (lt x x) refl

  ties_itself : (x : A) → ties lt x x ≡ true
  ties_itself x = rw (never_itself x) refl

  below_lower : (x y : A) (ys : List A) → lt y x ≡ false → None_below lt y ys → None_below lt x ys
  below_lower x y [] h k = tt
  below_lower x y (z ∷ zs) h k = (o.chain z y x k.0 h, below_lower x y zs h k.1)

  below_turn : (x v y : A) (ys : List A) (b : Bool) → lt y x ≡ b → lt x v ≡ false → None_below lt v (y ∷ ys) → None_below lt v (placed lt x ys) → None_below lt v (placed lt x (y ∷ ys))
  below_turn x v y ys true e h k ih = rw e (k.0, ih)
  below_turn x v y ys false e h k ih = rw e (h, k)

  below_placed : (x v : A) (ys : List A) → lt x v ≡ false → None_below lt v ys → None_below lt v (placed lt x ys)
  below_placed x v [] h k = (h, tt)
  below_placed x v (y ∷ ys) h k = below_turn x v y ys (lt y x) refl h k (below_placed x v ys h k.1)

  rises_turn : (x y : A) (ys : List A) (b : Bool) → lt y x ≡ b → Rises lt (y ∷ ys) → Rises lt (placed lt x ys) → Rises lt (placed lt x (y ∷ ys))
  rises_turn x y ys true e k ih = rw e (below_placed x y ys (o.one_way y x e) k.0, ih)
  rises_turn x y ys false e k ih = rw e ((e, below_lower x y ys e k.0), k)

  rises_placed : (x : A) (ys : List A) → Rises lt ys → Rises lt (placed lt x ys)
  rises_placed x [] k = (tt, tt)
  rises_placed x (y ∷ ys) k = rises_turn x y ys (lt y x) refl k (rises_placed x ys k.1)

  rises_in_order : (xs : List A) → Rises lt (in_order lt xs)
  rises_in_order [] = tt
  rises_in_order (x ∷ xs) = rises_placed x (in_order lt xs) (rises_in_order xs)

  apart : (x y z : A) → lt y x ≡ true → ties lt z x ≡ true → ties lt z y ≡ true → ⊥
  apart x y z h p q =
      let a = both_low (lt z x) (lt x z) p in
      let b = both_low (lt z y) (lt y z) q in
      let e = o.chain y z x b.1 a.0 in
      cc

  stable_turn : (z x y : A) (ys : List A) (b : Bool) → lt y x ≡ b → filter (ties lt z) (placed lt x ys) ≡ filter (ties lt z) (x ∷ ys) → filter (ties lt z) (placed lt x (y ∷ ys)) ≡ filter (ties lt z) (x ∷ y ∷ ys)
  stable_turn z x y ys true e ih = rw e (ap (λ l. if ties lt z y then y ∷ l else l) ih ∙ swapped x y (filter (ties lt z) ys) (ties lt z x) (ties lt z y) (apart x y z e))
  stable_turn z x y ys false e ih = rw e refl

  stable_placed : (z x : A) (ys : List A) → filter (ties lt z) (placed lt x ys) ≡ filter (ties lt z) (x ∷ ys)
  stable_placed z x [] = refl
  stable_placed z x (y ∷ ys) = stable_turn z x y ys (lt y x) refl (stable_placed z x ys)

  stable_in_order : (z : A) (xs : List A) → filter (ties lt z) (in_order lt xs) ≡ filter (ties lt z) xs
  stable_in_order z [] = refl
  stable_in_order z (x ∷ xs) = stable_placed z x (in_order lt xs) ∙ ap (λ l. if ties lt z x then x ∷ l else l) (stable_in_order z xs)

  held_turn : (p : A → Bool) (v y x : A) (rest xs : List A) (b : Bool) → p x ≡ b → lt x v ≡ false → (y ∷ rest ≡ filter p xs → lt y v ≡ false) → y ∷ rest ≡ filter p (x ∷ xs) → lt y v ≡ false
  held_turn p v y x rest xs true e h ih f = let g : y ∷ rest ≡ x ∷ filter p xs = rw e at f in let k : y ≡ x = cc in rw k h
  held_turn p v y x rest xs false e h ih f = ih (rw e at f)

  -- an element that passes is one of them
  held_below : (p : A → Bool) (v y : A) (rest xs : List A) → None_below lt v xs → y ∷ rest ≡ filter p xs → lt y v ≡ false
  held_below p v y rest [] k f = cc
  held_below p v y rest (x ∷ xs) k f = held_turn p v y x rest xs (p x) refl k.0 (held_below p v y rest xs k.1) f

  same_front : (y z : A) (ys zs : List A) → Rises lt (y ∷ ys) → Rises lt (z ∷ zs) → ((x : A) → filter (ties lt x) (y ∷ ys) ≡ filter (ties lt x) (z ∷ zs)) → y ≡ z
  same_front y z ys zs k m f =
      let e1 : y ∷ filter (ties lt y) ys ≡ filter (ties lt y) (z ∷ zs) = rw (ties_itself y) at (f y) in
      let e2 : z ∷ filter (ties lt z) zs ≡ filter (ties lt z) (y ∷ ys) = sym (rw (ties_itself z) at (f z)) in
      let a : lt y z ≡ false = held_below (ties lt y) z y (filter (ties lt y) ys) (z ∷ zs) (never_itself z, m.0) e1 in
      let b : lt z y ≡ false = held_below (ties lt z) y z (filter (ties lt z) zs) (y ∷ ys) (never_itself y, k.0) e2 in
      let t : ties lt y z ≡ true = rw (a, b) refl in
      let e : y ∷ filter (ties lt y) ys ≡ z ∷ filter (ties lt y) zs = rw t at e1 in
      cc

  nothing_is : (z : A) (zs : List A) → [] ≡ filter (ties lt z) (z ∷ zs) → ⊥
  nothing_is z zs f = let e : [] ≡ z ∷ filter (ties lt z) zs = rw (ties_itself z) at f in cc

  same : (ys zs : List A) → Rises lt ys → Rises lt zs → ((x : A) → filter (ties lt x) ys ≡ filter (ties lt x) zs) → ys ≡ zs
  same [] [] k m f = refl
  same [] (z ∷ zs) k m f = absurd (nothing_is z zs (f z))
  same (y ∷ ys) [] k m f = absurd (nothing_is y ys (sym (f y)))
  same (y ∷ ys) (z ∷ zs) k m f =
      let e : y ≡ z = same_front y z ys zs k m f in
      let g : ys ≡ zs = same ys zs k.1 m.1 (λ x. same_rest y z (filter (ties lt x) ys) (filter (ties lt x) zs) (ties lt x y) (ties lt x z) (ap (ties lt x) e) (f x)) in
      cc

  rest_sorted : (y : A) (ys : List A) → IsSortedBy lt (y ∷ ys) → IsSortedBy lt ys
  rest_sorted y ys h k d a b = rw (let e : suc k + 1 ≡ suc (k + 1) = omega arith in e) at (h (suc k) d (omega arith) (omega arith))

  rises_sorted : (ys : List A) → IsSortedBy lt ys → Rises lt ys
  rises_sorted [] h = tt
  rises_sorted (y ∷ []) h = (tt, tt)
  rises_sorted (y ∷ z ∷ zs) h =
      let r = rises_sorted (z ∷ zs) (rest_sorted y (z ∷ zs) h) in
      let e : lt z y ≡ false = h 0 y (omega arith) (omega arith) in
      ((e, below_lower y z zs e r.0), r)

  is_in_order : (xs ys : List A) → IsSortedBy lt ys → IsStableBy lt xs ys → ys ≡ in_order lt xs
  is_in_order xs ys up stays = same ys (in_order lt xs) (rises_sorted ys up) (rises_in_order xs) (λ x. stays x ∙ sym (stable_in_order x xs))

  -- the result of a sort by a closure; each call answers by the order and leaves the closure
  pub sorted_by : {F : Type 0} {g : Mut F (Bor A × (Bor A × Unit {0})) Ordering} {f : F} (xs ys : List A)
      → ((before : A → A → Bool) → IsStrictWeakOrder before → ComparesAs g before f → IsSortedBy before ys)
      → ((before : A → A → Bool) → IsStrictWeakOrder before → ComparesAs g before f → IsStableBy before xs ys)
      → ((a : Bor A × (Bor A × Unit {0})) (r : Ordering) (f' : F) → Called g f a r f' → (is_lt r ≡ lt a.0.now a.1.0.now) × (f' ≡ f))
      → ys ≡ in_order lt xs
  sorted_by {g = g} {f = f} xs ys up stays h =
      let k : ComparesAs g lt f = always_returns_same g (λ a r. is_lt r ≡ lt a.0.now a.1.0.now) f h in
      is_in_order xs ys (up lt o k) (stays lt o k)
