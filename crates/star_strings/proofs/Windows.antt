-- The places of a string in another one, and the result of a search in a part of it.
use Rattle.std.proofs.Common.{◌≡◌, ℕ, zero, suc, ◌+◌, ◌-◌, ◌<◌, ◌≤◌, min, Bool, true, false, List, [], ◌∷◌, length, take, drop, slice_index, Option, Some, None, refl, ap, sym, subst, ◌∙◌, arith, inl, inr, if◌then◌else◌, length-take, length-drop, get_or-take, get_or-drop}
use Rattle.std.specs.Option.{option_map}
use Rattle.std.proofs.Math.Nat.{eq-or-lt_of_le}
use Rattle.std.proofs.lemmas.Bool.{false≢true}
use Rattle.std.proofs.lemmas.Slice.Eq.{bytes_eq-Decides}
use Rattle.memchr.specs.Find.{OccursAt, FindsNeedle}
use Rattle.memchr.proofs.lemmas.MatchLemmas.{OccursAt-part, OccursAt-from_part}
use Rattle.star_strings.specs.Places.{first_place, first_between, stands_at}

-- ---- the first place

pub passed : (b : Bool) (x : ℕ) (o : Option ℕ) → b ≡ false → (if b then Some x else o) ≡ o
passed true x o h = cc
passed false x o h = refl

pub taken : (b : Bool) (x : ℕ) (o : Option ℕ) → b ≡ true → (if b then Some x else o) ≡ Some x
taken true x o h = refl
taken false x o h = cc

pub is_not : (b : Bool) → (b ≡ true → ⊥) → b ≡ false
is_not true h = absurd (h refl)
is_not false h = refl

nowhere : (t u : List ℕ) (n i : ℕ) → ((k : ℕ) → i ≤ k → k < i + n → stands_at t u k ≡ false) → first_place t u n i ≡ None
nowhere t u zero i h = refl
nowhere t u (suc n) i h = passed (stands_at t u i) i _ (h i (omega arith) (omega arith)) ∙ nowhere t u n (i + 1) (λ k a b. h k (omega arith) (omega arith))

first : (t u : List ℕ) (n i k : ℕ) → i ≤ k → k < i + n → stands_at t u k ≡ true → ((j : ℕ) → i ≤ j → j < k → stands_at t u j ≡ false) → first_place t u n i ≡ Some k
first t u zero i k a b h before = absurd (omega arith)
first t u (suc n) i k a b h before = elim (eq-or-lt_of_le a) [
  | inl same ↦ taken (stands_at t u i) i _ (ap (stands_at t u) same ∙ h) ∙ ap Some same
  | inr lt ↦ passed (stands_at t u i) i _ (before i (omega arith) lt) ∙ first t u n (i + 1) k (omega arith) (omega arith) h (λ j c d. before j (omega arith) d)
]

-- ---- a part of the text

module _ (t u : List ℕ) where
  pub stands : (i : ℕ) → OccursAt t u i → stands_at t u i ≡ true
  stands i h = (bytes_eq-Decides u (take (length u) (drop i t))).1 (sym (OccursAt-part t u i h))

  pub occurs : (i : ℕ) → 0 < length u → stands_at t u i ≡ true → OccursAt t u i
  occurs i w h =
      let e = (bytes_eq-Decides u (take (length u) (drop i t))).0 h in
      let l : length u ≡ min (length u) (length (drop i t)) = ap length e ∙ length-take (length u) (drop i t) in
      OccursAt-from_part t u i (omega (arith, l, length-drop i t)) (sym e)

  module _ (from end : ℕ) (inside : from ≤ end) (within : end ≤ length t) where
    abbrev pub part : List ℕ
    part = take (end - from) (drop from t)

    pub width : length part ≡ end - from
    width = let l : length part ≡ min (end - from) (length (drop from t)) = length-take (end - from) (drop from t) in omega (arith, l, length-drop from t)

    reads : (k j : ℕ) → k + j < end - from → slice_index part (k + j) ≡ slice_index t ((from + k) + j)
    reads k j h = get_or-take (end - from) (drop from t) (k + j) 0 h ∙ get_or-drop from t (k + j) 0 ∙ ap (λ m. slice_index t m) (let e : from + (k + j) ≡ (from + k) + j = omega arith in e)

    pub wide : (k : ℕ) → OccursAt part u k → OccursAt t u (from + k)
    wide k h = let f = h.fits in record {
      fits = omega (arith, width, f);
      reads = λ j l. sym (reads k j (omega (arith, width, f, l))) ∙ h.reads j l;
    }

    narrow : (k : ℕ) → k + length u ≤ end - from → OccursAt t u (from + k) → OccursAt part u k
    narrow k f h = record {
      fits = omega (arith, width, f);
      reads = λ j l. reads k j (omega (arith, f, l)) ∙ h.reads j l;
    }

    -- it is at no place before one that does not have it
    pub apart : (k : ℕ) → 0 < length u → from ≤ k → k + length u ≤ end → (OccursAt part u (k - from) → ⊥) → stands_at t u k ≡ false
    apart k w a b never = is_not (stands_at t u k) (λ s.
        let e : from + (k - from) ≡ k = omega arith in
        never (narrow (k - from) (omega arith) (subst (OccursAt t u) (sym e) (occurs k w s))))

    pub found_in_part : (r : Option ℕ) → 0 < length u → FindsNeedle part u 0 r → option_map (λ k. from + k) r ≡ first_between t u from end
    found_in_part None w h =
        sym (nowhere t u (end + 1 - (from + length u)) from (λ k a b.
        is_not (stands_at t u k) (λ s.
        let f = (occurs k w s).fits in
        let gone = apart k w a (omega (arith, f, b)) (h (k - from) (omega arith) (omega (arith, width, f, b))) in
        false≢true (sym gone ∙ s))))
    found_in_part (Some k) w h =
        let o = h.1 in
        let f = o.fits in
        sym (first t u (end + 1 - (from + length u)) from (from + k) (omega arith) (omega (arith, width, f)) (stands (from + k) (wide k o))
        (λ j a b. apart j w a (omega (arith, width, f, b)) (h.0.before (j - from) (omega arith) (omega arith))))

-- an empty string is at each place
pub empty_stands : (t u : List ℕ) (from to : ℕ) → length u ≡ 0 → from ≤ to → Some from ≡ first_between t u from to
empty_stands t [] from to w h =
    let n : to + 1 - (from + 0) ≡ suc (to - from) = omega arith in
    sym (ap (λ m. first_place t [] m from) n)
empty_stands t (x ∷ xs) from to w h = absurd (omega arith)

pub empty_past : (t u : List ℕ) (from to : ℕ) → to < from → None ≡ first_between t u from to
empty_past t u from to h = let n : 0 ≡ to + 1 - (from + length u) = omega arith in ap (λ m. first_place t u m from) n
