-- The places of a range lie between its ends; an int is in a range by its distance from the start.
use Rattle.std.proofs.Common.{◌≡◌, ℕ, zero, suc, ◌+◌, ◌-◌, ◌*◌, ◌/◌, ◌<◌, ◌≤◌, ℤ, pos, negsuc, neg_ℤ, ◌+ℤ◌, ◌-ℤ◌, ◌*ℤ◌, ◌<ℤ◌, unsigned_abs, refl, ap, sym, nat_eq, nat_lt, ◌%◌, Bool, true, false, not, ◌&&◌, if◌then◌else◌, arith}
use Rattle.std.specs.Int.{int_gap}
use Rattle.std.proofs.Math.Nat.{le-div_iff_mul-le}
use Rattle.std.proofs.lemmas.Int.{ints}
use Rattle.std.proofs.lemmas.Bool.Decides.{nat_tests}
use Rattle.std.proofs.Math.Nat.{mul-zero}
use Rattle.std.specs.Ordering.{int_eq}
use Rattle.star_store.specs.Arithmetic.{left_by, floored_by}
use Rattle.star_meaning.specs.Operators.{range_has, is_below}
use Rattle.star_operators.specs.Reached.{reached}
use Rattle.star_machine.proofs.Ranges.{below_zero}
use Rattle.star_store.specs.declared.range.Range.{Range}
use Rattle.star_store.specs.Range.{steps_within, range_length}

within_if : (b : Bool) (gap n i : ℕ) → nat_eq gap 0 ≡ b → 0 < n → i < (if b then 0 else (gap - 1) / n + 1) → i * n < gap
within_if true gap n i e h k = absurd (omega arith)
within_if false gap n i e h k =
    let g : 0 < gap = grind (arith, nat_tests) in
    let l : i ≤ (gap - 1) / n = omega arith in
    let q : i * n ≤ gap - 1 = (le-div_iff_mul-le h).0 l in omega arith

within : (gap n i : ℕ) → 0 < n → i < steps_within gap n → i * n < gap
within gap n i h k = within_if (nat_eq gap 0) gap n i refl h k

within_by : (start stop step : ℤ) (i : ℕ) → pos 0 <ℤ step → i < range_length (record { start = start; stop = stop; step = step }) → i * unsigned_abs step < int_gap start stop
within_by start stop (pos zero) i h k = absurd (omega arith)
within_by start stop (pos (suc n)) i h k = within (int_gap start stop) (suc n) i (omega arith) k
within_by start stop (negsuc n) i h k = absurd (omega (arith, ints))

pub within_up : (r : Range) (i : ℕ) → pos 0 <ℤ r.step → i < range_length r → i * unsigned_abs r.step < int_gap r.start r.stop
within_up r i h k = within_by r.start r.stop r.step i h k

within_back : (start stop step : ℤ) (i : ℕ) → (pos 0 <ℤ step → ⊥) → i < range_length (record { start = start; stop = stop; step = step }) → i * unsigned_abs step < int_gap stop start
within_back start stop (pos zero) i h k = absurd (omega arith)
within_back start stop (pos (suc n)) i h k = absurd (h (omega (arith, ints)))
within_back start stop (negsuc n) i h k = within (int_gap stop start) (suc n) i (omega arith) k

pub within_down : (r : Range) (i : ℕ) → (pos 0 <ℤ r.step → ⊥) → i < range_length r → i * unsigned_abs r.step < int_gap r.stop r.start
within_down r i h k = within_back r.start r.stop r.step i h k

steps_over : (i : ℕ) (step : ℤ) → pos 0 <ℤ step → pos i *ℤ step ≡ pos (i * unsigned_abs step)
steps_over i (pos n) h = refl
steps_over i (negsuc n) h = absurd (omega (arith, ints))

pub steps_up : (start : ℤ) (i : ℕ) (step : ℤ) → pos 0 <ℤ step → start +ℤ pos (i * unsigned_abs step) ≡ (start +ℤ pos i *ℤ step)
steps_up start i step h = sym (ap (λ z. start +ℤ z) (steps_over i step h))

steps_under : (i : ℕ) (step : ℤ) → (pos 0 <ℤ step → ⊥) → pos i *ℤ step ≡ neg_ℤ (pos (i * unsigned_abs step))
steps_under i (pos zero) h = simp mul-zero
steps_under i (pos (suc n)) h = absurd (h (omega (arith, ints)))
steps_under i (negsuc n) h = refl

pub steps_down : (start : ℤ) (i : ℕ) (step : ℤ) → (pos 0 <ℤ step → ⊥) → start -ℤ pos (i * unsigned_abs step) ≡ (start +ℤ pos i *ℤ step)
steps_down start i step h = let e = steps_under i step h in omega (arith, ints)

-- ints of a range, by their distance from its start
some_below : (n q : ℕ) (p : Bool) → (not (nat_eq n 0) && p && nat_lt q n) ≡ (p && nat_lt q n)
some_below zero q true = sym (below_zero q)
some_below zero q false = refl
some_below (suc n) q p = let e : nat_eq (suc n) 0 ≡ false = grind (arith, nat_tests) in rw e refl

never : (p q : Bool) → (p && q && false) ≡ false
never true true = refl
never true false = refl
never false q = refl

whole_rest : (m : ℕ) → int_eq (pos m) (pos 0) ≡ nat_eq m 0
whole_rest zero = refl
whole_rest (suc m) = let e : nat_eq (suc m) 0 ≡ false = grind (arith, nat_tests) in let f : int_eq (pos (suc m)) (pos 0) ≡ false = grind (arith, nat_tests, ints) in cc

reach_nat : (d : ℤ) (n count : ℕ) → (not (nat_eq count 0) && nat_eq (left_by d n) 0 && is_below (floored_by d n) count) ≡ reached d n count
reach_nat (pos a) n count = some_below count (a / n) (nat_eq (a % n) 0)
reach_nat (negsuc a) n count = never (not (nat_eq count 0)) (nat_eq (left_by (negsuc a) n) 0)

reach : (d : ℤ) (n count : ℕ) → (not (nat_eq count 0) && int_eq (pos (left_by d n)) (pos 0) && is_below (floored_by d n) count) ≡ reached d n count
reach d n count = rw (whole_rest (left_by d n)) (reach_nat d n count)

has_by_up : (start stop step z : ℤ) → pos 0 <ℤ step → range_has (record { start = start; stop = stop; step = step }) z ≡ reached (z -ℤ start) (unsigned_abs step) (range_length (record { start = start; stop = stop; step = step }))
has_by_up start stop (pos n) z h = reach (z -ℤ start) n (range_length (record { start = start; stop = stop; step = pos n }))
has_by_up start stop (negsuc n) z h = absurd (omega (arith, ints))

pub has_up : (r : Range) (z : ℤ) → pos 0 <ℤ r.step → range_has r z ≡ reached (z -ℤ r.start) (unsigned_abs r.step) (range_length r)
has_up r z h = has_by_up r.start r.stop r.step z h

no_rest : (m : ℕ) → int_eq (neg_ℤ (pos m)) (pos 0) ≡ nat_eq m 0
no_rest zero = refl
no_rest (suc m) = let e : nat_eq (suc m) 0 ≡ false = grind (arith, nat_tests) in sym e

reach_down : (d e : ℤ) (n count : ℕ) → neg_ℤ d ≡ e → (not (nat_eq count 0) && int_eq (neg_ℤ (pos (left_by (neg_ℤ d) n))) (pos 0) && is_below (floored_by (neg_ℤ d) n) count) ≡ reached e n count
reach_down d e n count h = rw (no_rest (left_by (neg_ℤ d) n), h) (reach_nat e n count)

has_by_down : (start stop step z : ℤ) → step <ℤ pos 0 → range_has (record { start = start; stop = stop; step = step }) z ≡ reached (start -ℤ z) (unsigned_abs step) (range_length (record { start = start; stop = stop; step = step }))
has_by_down start stop (pos n) z h = absurd (omega (arith, ints))
has_by_down start stop (negsuc n) z h = reach_down (z -ℤ start) (start -ℤ z) (suc n) (range_length (record { start = start; stop = stop; step = negsuc n })) (omega (arith, ints))

pub has_down : (r : Range) (z : ℤ) → r.step <ℤ pos 0 → range_has r z ≡ reached (r.start -ℤ z) (unsigned_abs r.step) (range_length r)
has_down r z h = has_by_down r.start r.stop r.step z h

has_by_none : (start stop step z : ℤ) → (pos 0 <ℤ step → ⊥) → (step <ℤ pos 0 → ⊥) → range_has (record { start = start; stop = stop; step = step }) z ≡ false
has_by_none start stop (pos zero) z h k = refl
has_by_none start stop (pos (suc n)) z h k = absurd (h (omega (arith, ints)))
has_by_none start stop (negsuc n) z h k = absurd (k (omega (arith, ints)))

pub has_none : (r : Range) (z : ℤ) → (pos 0 <ℤ r.step → ⊥) → (r.step <ℤ pos 0 → ⊥) → range_has r z ≡ false
has_none r z h k = has_by_none r.start r.stop r.step z h k
