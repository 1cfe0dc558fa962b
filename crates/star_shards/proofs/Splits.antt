-- The lines of a text, from its first line end.
use Rattle.std.proofs.Common.{◌≡◌, ℕ, zero, suc, ◌+◌, ◌<◌, ◌≤◌, Bool, true, false, cond, List, [], ◌∷◌, length, drop, take, refl, ap, sym, ◌∙◌, arith}
use Rattle.std.specs.Prelude.{nat_eq, slice_index}
use Rattle.memchr.specs.Find.{is_byte}
use Rattle.star_shards.specs.Lines.{lines, onto_first}

not_true : (b : Bool) → (b ≡ true → ⊥) → b ≡ false
not_true true h = absurd (h refl)
not_true false h = refl

pub lines_none : lines [] ≡ []
unfolding lines
lines_none = refl

pub lines_first : (k : ℕ) (xs : List ℕ) → k < length xs → ((j : ℕ) → 0 ≤ j → j < k → is_byte 10 (slice_index xs j) ≡ true → ⊥) → is_byte 10 (slice_index xs k) ≡ true
    → lines xs ≡ take k xs ∷ lines (drop (k + 1) xs)
unfolding lines
lines_first k [] lt none here = absurd (omega (arith, lt))
lines_first zero (x ∷ xs) lt none here = ap (λ t. cond t ([] ∷ lines xs) (onto_first x (lines xs))) here
lines_first (suc k) (x ∷ xs) lt none here =
    let other : nat_eq x 10 ≡ false = not_true (nat_eq x 10) (none 0 (omega arith) (omega arith)) in
    let rest = lines_first k xs (omega (arith, lt)) (λ j low high h. none (suc j) (omega arith) (omega (arith, high)) h) here in
    let next : suc (k + 1) ≡ suc k + 1 = omega arith in
    ap (λ t. cond t ([] ∷ lines xs) (onto_first x (lines xs))) other ∙ ap (onto_first x) rest ∙ ap (λ n. (x ∷ take k xs) ∷ lines (drop n (x ∷ xs))) next

pub lines_last : (xs : List ℕ) → 0 < length xs → ((j : ℕ) → 0 ≤ j → j < length xs → is_byte 10 (slice_index xs j) ≡ true → ⊥) → lines xs ≡ xs ∷ []
unfolding lines
lines_last [] lt none = absurd (omega (arith, lt))
lines_last (x ∷ []) lt none =
    let other : nat_eq x 10 ≡ false = not_true (nat_eq x 10) (none 0 (omega arith) (omega arith)) in
    ap (λ t. cond t ([] ∷ []) ((x ∷ []) ∷ [])) other
lines_last (x ∷ y ∷ ys) lt none =
    let other : nat_eq x 10 ≡ false = not_true (nat_eq x 10) (none 0 (omega arith) (omega arith)) in
    let rest = lines_last (y ∷ ys) (omega arith) (λ j low high h. none (suc j) (omega arith) (omega (arith, high)) h) in
    ap (λ t. cond t ([] ∷ lines (y ∷ ys)) (onto_first x (lines (y ∷ ys)))) other ∙ ap (onto_first x) rest
