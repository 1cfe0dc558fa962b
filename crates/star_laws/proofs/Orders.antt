-- Sorting by keys keeps the items.
use Rattle.std.proofs.Common.{◌≡◌, ℕ, zero, suc, ◌/◌, nat_lt, List, [], ◌∷◌, ◌++◌, length, take, drop, take-append-drop, Bool, true, false, map, if◌then◌else◌, refl, ap, subst}
use Rattle.std.specs.Prelude.{IsPermutation}
use Rattle.std.proofs.lemmas.List.Sorted.{IsPermutation-refl, IsPermutation-cons, IsPermutation-trans, IsPermutation-append, IsPermutation-middle}
use Rattle.star_meaning.specs.Calls.{AFunction, ABuiltIn, AMethod, called_built_in, takes_key}
use Rattle.star_meaning.specs.Merging.{in_front, first_among, merged, halved, merge_sort}
use Rattle.star_meaning.specs.Orders.{can_sort, is_before_by, precedes, sorted_free}
use Rattle.star_meaning.specs.Run.{State, Action, Outcome, Done, Failed, and_then, give}
use Rattle.star_store.specs.Sorting.{placed, in_order}
use Rattle.star_meaning.specs.Values.{content}
use Rattle.star_laws.specs.Orders.{SortingKeepsTheItems, CoreHasNoKeys}

-- what ends well began well
bound : {A B : Type 0} (o : Outcome A) (f : A → Action B) (y : B) (t : State) → and_then o f ≡ Done y t → (x : A) × (s : State) × (o ≡ Done x s) × (f x s ≡ Done y t)
bound (Done x s) f y t e = (x, s, refl, e)
bound (Failed c ls) f y t e = cc

given : {A : Type 0} (x y : A) (s t : State) → Done x s ≡ Done y t → x ≡ y
given x y s t e = cc

module _ {A : Type 0} where
  fronted : (x : A) (zs : List A) (o : Outcome (List A)) (t : State) (ys : List A) → ((vs : List A) (u : State) → o ≡ Done vs u → IsPermutation ys vs) → and_then o (λ vs. give (x ∷ vs)) ≡ Done zs t → IsPermutation (x ∷ ys) zs
  fronted x zs o t ys h e =
      let b = bound o (λ vs. give (x ∷ vs)) zs t e in
      subst (λ l. IsPermutation (x ∷ ys) l) (given (x ∷ b.0) zs b.1 t b.3) (IsPermutation-cons x ys b.0 (h b.0 b.1 b.2))

  chosen : (b : Bool) (m n : Action (List A)) (s : State) (xs zs : List A) (t : State) → (m s ≡ Done zs t → IsPermutation xs zs) → (n s ≡ Done zs t → IsPermutation xs zs) → (if b then m else n) s ≡ Done zs t → IsPermutation xs zs
  chosen true m n s xs zs t h k e = h e
  chosen false m n s xs zs t h k e = k e

  first_keeps : (before : A → A → Action Bool) (x : A) (more : List A → Action (List A)) (xs ys : List A) (s : State) (zs : List A) (t : State) → ((us vs : List A) (u v : State) → more us u ≡ Done vs v → IsPermutation (xs ++ us) vs) → first_among before x more ys s ≡ Done zs t → IsPermutation (x ∷ (xs ++ ys)) zs
  first_keeps before x more xs [] s zs t h e = fronted x zs (more [] s) t (xs ++ []) (λ vs u k. h [] vs s u k) e
  first_keeps before x more xs (y ∷ ys) s zs t h e =
      let b = bound (before y x s) (λ c. if c then in_front y (first_among before x more ys) else in_front x (more (y ∷ ys))) zs t e in
      chosen b.0 (in_front y (first_among before x more ys)) (in_front x (more (y ∷ ys))) b.1 (x ∷ (xs ++ y ∷ ys)) zs t
      (λ k. IsPermutation-trans (x ∷ (xs ++ y ∷ ys)) (y ∷ x ∷ (xs ++ ys)) zs (IsPermutation-middle (x ∷ xs) y ys) (fronted y zs (first_among before x more ys b.1) t (x ∷ (xs ++ ys)) (λ vs u l. first_keeps before x more xs ys b.1 vs u h l) k))
      (λ k. fronted x zs (more (y ∷ ys) b.1) t (xs ++ y ∷ ys) (λ vs u l. h (y ∷ ys) vs b.1 u l) k)
      b.3

  merged_keeps : (before : A → A → Action Bool) (xs ys : List A) (s : State) (zs : List A) (t : State) → merged before xs ys s ≡ Done zs t → IsPermutation (xs ++ ys) zs
  merged_keeps before [] ys s zs t e = subst (λ l. IsPermutation ys l) (given ys zs s t e) (IsPermutation-refl ys)
  merged_keeps before (x ∷ xs) ys s zs t e = first_keeps before x (merged before xs) xs ys s zs t (λ us vs u v k. merged_keeps before xs us u vs v k) e

  halved_keeps : (before : A → A → Action Bool) (n : ℕ) (xs : List A) (s : State) (zs : List A) (t : State) → halved before n xs s ≡ Done zs t → IsPermutation xs zs
  halved_keeps before zero xs s zs t e = subst (λ l. IsPermutation xs l) (given xs zs s t e) (IsPermutation-refl xs)
  halved_keeps before (suc n) xs s zs t e =
      let half = length xs / 2 in
      let rest : List A → Action (List A) = λ fs u. and_then (halved before n (drop half xs) u) (λ rs. merged before fs rs) in
      chosen (nat_lt (length xs) 2) (give xs) (λ u. and_then (halved before n (take half xs) u) rest) s xs zs t
      (λ k. subst (λ l. IsPermutation xs l) (given xs zs s t k) (IsPermutation-refl xs))
      (λ k. let a = bound (halved before n (take half xs) s) rest zs t k in
      let b = bound (halved before n (drop half xs) a.1) (λ rs. merged before a.0 rs) zs t a.3 in
      let front = halved_keeps before n (take half xs) s a.0 a.1 a.2 in
      let back = halved_keeps before n (drop half xs) a.1 b.0 b.1 b.2 in
      let both = IsPermutation-append (take half xs) a.0 (drop half xs) b.0 front back in
      let whole = subst (λ l. IsPermutation l (a.0 ++ b.0)) (take-append-drop half xs) both in
      IsPermutation-trans xs (a.0 ++ b.0) zs whole (merged_keeps before a.0 b.0 b.1 zs t b.3))
      e

  placed_by : (lt : A → A → Bool) (x y : A) (ys : List A) (b : Bool) → IsPermutation (x ∷ ys) (placed lt x ys) → IsPermutation (x ∷ y ∷ ys) (if b then y ∷ placed lt x ys else x ∷ y ∷ ys)
  placed_by lt x y ys true h = IsPermutation-trans (x ∷ y ∷ ys) (y ∷ x ∷ ys) (y ∷ placed lt x ys) (IsPermutation-middle (x ∷ []) y ys) (IsPermutation-cons y (x ∷ ys) (placed lt x ys) h)
  placed_by lt x y ys false h = IsPermutation-refl (x ∷ y ∷ ys)

  placed_keeps : (lt : A → A → Bool) (x : A) (ys : List A) → IsPermutation (x ∷ ys) (placed lt x ys)
  placed_keeps lt x [] = IsPermutation-refl (x ∷ [])
  placed_keeps lt x (y ∷ ys) = placed_by lt x y ys (lt y x) (placed_keeps lt x ys)

  order_keeps : (lt : A → A → Bool) (xs : List A) → IsPermutation xs (in_order lt xs)
  order_keeps lt [] = IsPermutation-refl []
  order_keeps lt (x ∷ xs) = IsPermutation-trans (x ∷ xs) (x ∷ in_order lt xs) (placed lt x (in_order lt xs)) (IsPermutation-cons x xs (in_order lt xs) (order_keeps lt xs)) (placed_keeps lt x (in_order lt xs))

pub sorting_keeps_the_items : SortingKeepsTheItems
sorting_keeps_the_items w levels line backwards ps qs s t e =
    let free = sorted_free w s backwards ps in
    chosen (can_sort (map (λ p. content w s p.0) ps)) (give free) (merge_sort (precedes w levels line backwards) ps) s ps qs t
    (λ k. subst (λ l. IsPermutation ps l) (given free qs s t k) (order_keeps (λ p q. is_before_by backwards (content w s p.0) (content w s q.0)) ps))
    (λ k. halved_keeps (precedes w levels line backwards) (length ps) ps s qs t k)
    e

pub core_has_no_keys : CoreHasNoKeys
core_has_no_keys w levels m p (AFunction f d) g e = refl
core_has_no_keys w levels m p (ABuiltIn b) g e = ap (λ d. called_built_in w levels m p b g (takes_key d g)) e
core_has_no_keys w levels m p (AMethod b x) g e = refl
