-- Bits of words.
use Rattle.std.proofs.Common.{◌≡◌, ◌+◌, ◌-◌, ◌*◌, ◌/◌, ◌%◌, ◌^◌, ◌<◌, ◌≤◌, ◌⊎◌, inl, inr, ℕ, List, [], ◌∷◌, ◌++◌, length, get_or, set, take, max, min, refl, sym, ap, ◌∙◌, arith, w64}
use Rattle.std.specs.Prelude.{◌↔◌, bit_and, bit_or, replicate}
use Rattle.std.specs.Int.{bit_at}
use Rattle.std.proofs.lemmas.Bool.{cases_eq, cases_lt}
use Rattle.std.proofs.lemmas.List.{get_or-append_right, get_or-replicate, get_or-set_other, get_or-set_same, get_or_append_left, get_or_past, get_or_read, length-replicate, take_all}
use Rattle.std.proofs.lemmas.List.Elements.{Contains-append_left, Contains-push, Contains-push_cases}
use Rattle.std.proofs.lemmas.Nat.Bits.{bit_at-lt, bit_at-zero, bit_at_and, bit_at_or, bit_at_set_other, bit_at_set_same, shr_and_one}
use Rattle.star_outcome.specs.Numbers.{Has, HasAmong, IsIn}
use Rattle.star_outcome.specs.declared.numbers.NumberWord.{NumberWord}

zeros : (n i : ℕ) → get_or {A = ℕ} (replicate n 0) i 0 ≡ 0
zeros n i = elim (cases_lt i n) [
  | inl low ↦ get_or-replicate n i 0 0 low
  | inr high ↦ get_or_past (replicate n 0) i 0 (let long : length {A = ℕ} (replicate n 0) ≡ n = length-replicate n 0 in omega (arith, long, high))
]

widened : (ws : List ℕ) (n i : ℕ) → get_or (ws ++ replicate n 0) i 0 ≡ get_or ws i 0
widened ws n i = elim (cases_lt i (length ws)) [
  | inl low ↦ get_or_append_left ws (replicate n 0) 0 i low
  | inr high ↦ get_or-append_right ws (replicate n 0) (length ws) i 0 refl high ∙ (zeros n (i - length ws) ∙ sym (get_or_past ws i 0 high))
]

-- words that are 0 have no number
pub has_widened : (ws more : List ℕ) (m n : ℕ) → length ws ≤ m → more ≡ take m ws ++ replicate n 0 → (k : ℕ) → Has more k ↔ Has ws k
unfolding Has
has_widened ws more m n short is k =
    let all : more ≡ ws ++ replicate n 0 = is ∙ ap (λ xs. xs ++ replicate n 0) (take_all m ws short) in
    let same : bit_at (get_or more (k / 64) 0) (k % 64) ≡ bit_at (get_or ws (k / 64) 0) (k % 64) =
    ap (λ w. bit_at w (k % 64)) (ap (λ xs. get_or xs (k / 64) 0) all ∙ widened ws n (k / 64)) in
    (λ h. sym same ∙ h, λ h. same ∙ h)

pub has_inserted : (ws : List ℕ) (w n : ℕ) → w ≡ get_or ws (n / 64) w → n / 64 < length ws → (k : ℕ)
    → Has (set ws (n / 64) (bit_or w (1 * 2 ^ (n % 64) % 2 ^ 64))) k ↔ ((k ≡ n) ⊎ Has ws k)
unfolding Has
has_inserted ws w n at room k =
    let is : w ≡ get_or ws (n / 64) 0 = get_or_read ws (n / 64) w room at 0 in
    let new : ℕ = bit_or w (1 * 2 ^ (n % 64) % 2 ^ 64) in
    let small : n % 64 < 64 = omega arith in
    elim (cases_eq (k / 64) (n / 64)) [
      | inl here ↦
          let word : get_or (set ws (n / 64) new) (k / 64) 0 ≡ new = ap (λ j. get_or (set ws (n / 64) new) j 0) here ∙ get_or-set_same ws (n / 64) new 0 room in
          let bits : bit_at (get_or (set ws (n / 64) new) (k / 64) 0) (k % 64) ≡ bit_at new (k % 64) = ap (λ x. bit_at x (k % 64)) word in
          elim (cases_eq (k % 64) (n % 64)) [
            | inl bit ↦ (λ h. inl (omega arith), λ h. bits ∙ (ap (bit_at new) bit ∙ bit_at_set_same w64 w (n % 64) small))
            | inr apart ↦
                let old : bit_at w (k % 64) ≡ bit_at (get_or ws (k / 64) 0) (k % 64) = ap (λ x. bit_at x (k % 64)) (is ∙ ap (λ j. get_or ws j 0) (sym here)) in
                let same = bits ∙ (bit_at_set_other w64 w (n % 64) small (k % 64) apart ∙ old) in
                (λ h. inr (sym same ∙ h), λ h. elim h [ inl e ↦ absurd (apart (ap (λ x. x % 64) e)) | inr had ↦ same ∙ had ])
          ]
      | inr other ↦
          let same = ap (λ x. bit_at x (k % 64)) (get_or-set_other ws (n / 64) (k / 64) new 0 other) in
          (λ h. inr (sym same ∙ h), λ h. elim h [ inl e ↦ absurd (other (ap (λ x. x / 64) e)) | inr had ↦ same ∙ had ])
    ]

-- a set has a number whose bit is 1
pub has_bit : (ws : List ℕ) (n bits : ℕ) → bits ≡ get_or ws (n / 64) 0 → bit_and (bits / 2 ^ (n % 64)) 1 ≡ 1 → Has ws n
unfolding Has
has_bit ws n bits is bit = ap (λ x. bit_at x (n % 64)) (sym is) ∙ (sym (shr_and_one bits (n % 64)) ∙ bit)

-- the numbers of a word are put into the set
pub has_joined : (ws : List ℕ) (w : NumberWord) (old : ℕ) → old ≡ get_or ws w.index old → w.index < length ws → (k : ℕ) → Has (set ws w.index (bit_or old w.bits)) k → IsIn w k ⊎ Has ws k
unfolding Has IsIn
has_joined ws w old at room k h =
    let is : old ≡ get_or ws w.index 0 = get_or_read ws w.index old room at 0 in
    let new : ℕ = bit_or old w.bits in
    elim (cases_eq (k / 64) w.index) [
      | inl here ↦
          let word : get_or (set ws w.index new) (k / 64) 0 ≡ new = ap (λ j. get_or (set ws w.index new) j 0) here ∙ get_or-set_same ws w.index new 0 room in
          let bits : bit_at new (k % 64) ≡ 1 = ap (λ x. bit_at x (k % 64)) (sym word) ∙ h in
          let both : bit_at new (k % 64) ≡ max (bit_at old (k % 64)) (bit_at w.bits (k % 64)) = bit_at_or old w.bits (k % 64) in
          elim (cases_eq (bit_at w.bits (k % 64)) 1) [
            | inl it ↦ inl (sym here, it)
            | inr other ↦
                let low = bit_at-lt w.bits (k % 64) in
                let mine : bit_at old (k % 64) ≡ 1 = omega (arith, bits, both, other, low) in
                inr (ap (λ x. bit_at x (k % 64)) (ap (λ j. get_or ws j 0) here ∙ sym is) ∙ mine)
          ]
      | inr other ↦ inr (sym (ap (λ x. bit_at x (k % 64)) (get_or-set_other ws w.index (k / 64) new 0 other)) ∙ h)
    ]

-- a set has all numbers of a word, if its own word there has all of its bits
pub has_covered : (ws : List ℕ) (w : NumberWord) (bits : ℕ) → bits ≡ get_or ws w.index 0 → bit_and w.bits bits ≡ w.bits → (k : ℕ) → IsIn w k → Has ws k
unfolding Has IsIn
has_covered ws w bits is within k h =
    let index = h.0 in
    let bit = h.1 in
    let both : bit_at w.bits (k % 64) ≡ min (bit_at w.bits (k % 64)) (bit_at bits (k % 64)) = ap (λ x. bit_at x (k % 64)) (sym within) ∙ bit_at_and w.bits bits (k % 64) in
    let low = bit_at-lt bits (k % 64) in
    ap (λ j. bit_at (get_or ws j 0) (k % 64)) (sym index) ∙ (ap (λ x. bit_at x (k % 64)) (sym is) ∙ omega (arith, both, bit, low))

-- a number is in a word of the set
pub has_below : (ws : List ℕ) (k : ℕ) → Has ws k → k / 64 < length ws
unfolding Has
has_below ws k h = elim (cases_lt (k / 64) (length ws)) [
  | inl low ↦ low
  | inr high ↦
      let none : bit_at (get_or ws (k / 64) 0) (k % 64) ≡ 0 = ap (λ x. bit_at x (k % 64)) (get_or_past ws (k / 64) 0 high) ∙ bit_at-zero (k % 64) in
      absurd (omega (arith, h, none))
]

-- the words below an index have the numbers of the set there
abbrev pub AreWordsBelow : List ℕ → List NumberWord → ℕ → Type 0
AreWordsBelow ws found i = (k : ℕ) → HasAmong found k ↔ ((k / 64 < i) × Has ws k)

pub no_words : (ws : List ℕ) → AreWordsBelow ws [] 0
no_words ws k = (λ h. let inside = h.1.1 in absurd (omega (arith, inside)), λ h. let low = h.0 in absurd (omega (arith, low)))

pub words_past : (ws : List ℕ) (found : List NumberWord) (i bits : ℕ) → i < length ws → bits ≡ get_or ws i bits → bits ≡ 0 → AreWordsBelow ws found i → AreWordsBelow ws found (i + 1)
unfolding Has
words_past ws found i bits inside at none before k =
    let is : bits ≡ get_or ws i 0 = get_or_read ws i bits inside at 0 in (
      λ h. let b = before k in let it = b.0 h in let low = it.0 in (omega (arith, low), it.1),
      λ h. elim (cases_eq (k / 64) i) [
        | inl here ↦
            let zero : bit_at (get_or ws (k / 64) 0) (k % 64) ≡ 0 = ap (λ x. bit_at x (k % 64)) (ap (λ j. get_or ws j 0) here ∙ (sym is ∙ none)) ∙ bit_at-zero (k % 64) in
            let one = h.1 in
            absurd (omega (arith, zero, one))
        | inr other ↦ let low = h.0 in (before k).1 (omega (arith, low, other), h.1)
      ],
    )

pub words_more : (ws : List ℕ) (found : List NumberWord) (w : NumberWord) → w.index < length ws → w.bits ≡ get_or ws w.index w.bits → AreWordsBelow ws found w.index → AreWordsBelow ws (found ++ w ∷ []) (w.index + 1)
unfolding Has IsIn
words_more ws found w inside at before k =
    let is : w.bits ≡ get_or ws w.index 0 = get_or_read ws w.index w.bits inside at 0 in (
      λ h. elim (Contains-push_cases found w h.0 h.1) [
        | inl old ↦ let it = (before k).0 (h.0, old, h.2) in let low = it.0 in (omega (arith, low), it.1)
        | inr same ↦
            let here : w.index ≡ k / 64 = ap (λ (x : NumberWord). x.index) same ∙ h.2.0 in
            let bit : bit_at w.bits (k % 64) ≡ 1 = ap (λ (x : NumberWord). bit_at x.bits (k % 64)) same ∙ h.2.1 in
            (omega (arith, here), ap (λ j. bit_at (get_or ws j 0) (k % 64)) (sym here) ∙ (ap (λ x. bit_at x (k % 64)) (sym is) ∙ bit))
      ],
      λ h. elim (cases_eq (k / 64) w.index) [
        | inl here ↦ (w, Contains-push found w, (sym here, ap (λ x. bit_at x (k % 64)) (is ∙ ap (λ j. get_or ws j 0) (sym here)) ∙ h.1))
        | inr other ↦
            let low = h.0 in
            let it = (before k).1 (omega (arith, low, other), h.1) in
            (it.0, Contains-append_left found (w ∷ []) it.0 it.1, it.2)
      ],
    )

-- all words of the set
pub all_words : (ws : List ℕ) (found : List NumberWord) (n : ℕ) → length ws ≤ n → AreWordsBelow ws found n → (k : ℕ) → HasAmong found k ↔ Has ws k
all_words ws found n long before k = (
  λ h. ((before k).0 h).1,
  λ h. let low = has_below ws k h in (before k).1 (omega (arith, low, long), h),
)

-- no number is in no word
pub has_none : (k : ℕ) → Has [] k → ⊥
has_none k h = let low = has_below [] k h in omega (arith, low)
