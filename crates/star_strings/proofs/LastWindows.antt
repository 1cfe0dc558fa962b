-- The last place of a string in another one, and places within bounds.
use Rattle.std.proofs.Common.{◌≡◌, ℕ, zero, suc, ◌+◌, ◌-◌, ◌<◌, ◌≤◌, Bool, true, false, List, [], ◌∷◌, length, take, drop, Option, Some, None, refl, ap, sym, ◌∙◌, arith, inl, inr, if◌then◌else◌}
use Rattle.std.specs.Prelude.{IfSome}
use Rattle.std.specs.Option.{option_map}
use Rattle.std.proofs.Math.Nat.{eq-or-lt_of_le}
use Rattle.std.proofs.lemmas.Bool.{false≢true}
use Rattle.memchr.specs.Find.{FindsLastNeedle}
use Rattle.star_strings.specs.Places.{first_place, first_between, last_place, last_between, stands_at}
use Rattle.star_strings.proofs.Windows.{passed, taken, is_not, stands, occurs, part, width, wide, apart}

nowhere : (t u : List ℕ) (n i : ℕ) → ((k : ℕ) → i ≤ k → k < i + n → stands_at t u k ≡ false) → last_place t u n i ≡ None
nowhere t u zero i h = refl
nowhere t u (suc n) i h = passed (stands_at t u (i + n)) (i + n) _ (h (i + n) (omega arith) (omega arith)) ∙ nowhere t u n i (λ k a b. h k a (omega arith))

last : (t u : List ℕ) (n i k : ℕ) → i ≤ k → k < i + n → stands_at t u k ≡ true → ((j : ℕ) → k < j → j < i + n → stands_at t u j ≡ false) → last_place t u n i ≡ Some k
last t u zero i k a b h after = absurd (omega arith)
last t u (suc n) i k a b h after = elim (eq-or-lt_of_le (let e : k ≤ i + n = omega arith in e)) [
  | inl same ↦ taken (stands_at t u (i + n)) (i + n) _ (ap (stands_at t u) (sym same) ∙ h) ∙ ap Some (sym same)
  | inr lt ↦ passed (stands_at t u (i + n)) (i + n) _ (after (i + n) lt (omega arith)) ∙ last t u n i k a lt h (λ j c d. after j c (omega arith))
]

module _ (t u : List ℕ) (from end : ℕ) (inside : from ≤ end) (within : end ≤ length t) where
  pub last_in_part : (r : Option ℕ) → 0 < length u → FindsLastNeedle (part t u from end inside within) u r → option_map (λ k. from + k) r ≡ last_between t u from end
  last_in_part None w h =
      let l = width t u from end inside within in
      sym (nowhere t u (end + 1 - (from + length u)) from (λ k a b.
      is_not (stands_at t u k) (λ s.
      let f = (occurs t u k w s).fits in
      let gone = apart t u from end inside within k w a (omega (arith, f, b)) (h (k - from) (omega arith) (omega (arith, l, f, b))) in
      false≢true (sym gone ∙ s))))
  last_in_part (Some k) w h =
      let l = width t u from end inside within in
      let o = h.1 in
      let f = o.fits in
      sym (last t u (end + 1 - (from + length u)) from (from + k) (omega arith) (omega (arith, l, f)) (stands t u (from + k) (wide t u from end inside within k o))
      (λ j a b. apart t u from end inside within j w (omega arith) (omega (arith, b)) (h.0.after (j - from) (omega arith) (omega (arith, l, b)))))

-- an empty string is at each place
pub last_empty : (t u : List ℕ) (from to : ℕ) → length u ≡ 0 → from ≤ to → Some to ≡ last_between t u from to
last_empty t [] from to w h =
    let n : to + 1 - (from + 0) ≡ suc (to - from) = omega arith in
    let e : to ≡ from + (to - from) = omega arith in
    ap Some e ∙ sym (ap (λ m. last_place t [] m from) n)
last_empty t (x ∷ xs) from to w h = absurd (omega arith)

pub last_empty_past : (t u : List ℕ) (from to : ℕ) → to < from → None ≡ last_between t u from to
last_empty_past t u from to h = let n : 0 ≡ to + 1 - (from + length u) = omega arith in ap (λ m. last_place t u m from) n

-- a place that is found lies within the bounds
first_turn : (t u : List ℕ) (n i m : ℕ) (e : Bool) → IfSome (first_place t u n (i + 1)) (λ j. j ≤ m) → i ≤ m → IfSome (if e then Some i else first_place t u n (i + 1)) (λ j. j ≤ m)
first_turn t u n i m true f h = h
first_turn t u n i m false f h = f

first_up_to : (t u : List ℕ) (n i m : ℕ) → i + n ≤ m + 1 → IfSome (first_place t u n i) (λ j. j ≤ m)
first_up_to t u zero i m h = tt
first_up_to t u (suc n) i m h = first_turn t u n i m (stands_at t u i) (first_up_to t u n (i + 1) m (omega arith)) (omega arith)

last_turn : (t u : List ℕ) (n i m : ℕ) (e : Bool) → IfSome (last_place t u n i) (λ j. j ≤ m) → i + n ≤ m → IfSome (if e then Some (i + n) else last_place t u n i) (λ j. j ≤ m)
last_turn t u n i m true f h = h
last_turn t u n i m false f h = f

last_up_to : (t u : List ℕ) (n i m : ℕ) → i + n ≤ m + 1 → IfSome (last_place t u n i) (λ j. j ≤ m)
last_up_to t u zero i m h = tt
last_up_to t u (suc n) i m h = last_turn t u n i m (stands_at t u (i + n)) (last_up_to t u n i m (omega arith)) (omega arith)

pub first_inside : (t u : List ℕ) (a b m : ℕ) → a ≤ m → b ≤ m → IfSome (first_between t u a b) (λ j. j ≤ m)
first_inside t u a b m h k = first_up_to t u (b + 1 - (a + length u)) a m (omega arith)

pub last_inside : (t u : List ℕ) (a b m : ℕ) → a ≤ m → b ≤ m → IfSome (last_between t u a b) (λ j. j ≤ m)
last_inside t u a b m h k = last_up_to t u (b + 1 - (a + length u)) a m (omega arith)
