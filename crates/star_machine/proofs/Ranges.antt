-- The ints of a range lie between its start and its stop.
use Rattle.std.proofs.Common.{◌≡◌, ℕ, zero, suc, ◌+◌, ◌-◌, ◌*◌, ◌/◌, ◌<◌, ◌≤◌, ℤ, pos, negsuc, neg_ℤ, ◌+ℤ◌, ◌-ℤ◌, ◌*ℤ◌, ◌<ℤ◌, unsigned_abs, Some, None, refl, ap, sym, ◌∙◌, nat_eq, nat_lt, Bool, true, false, if◌then◌else◌, arith}
use Rattle.std.specs.Int.{int_gap}
use Rattle.std.proofs.Math.Nat.{le-div_iff_mul-le}
use Rattle.std.proofs.lemmas.Int.{ints}
use Rattle.std.proofs.lemmas.Bool.Decides.{nat_tests}
use Rattle.std.proofs.lemmas.Bool.{le-ltb, lt-ltb, ltb-true}
use Rattle.std.specs.Cmp.{both_ways}
use Rattle.star_meaning.specs.Values.{range_item}
use Rattle.star_machine.specs.Search.{some_above, some_under}
use Rattle.star_store.specs.declared.range.Range.{Range}
use Rattle.star_store.specs.declared.values.Value.TheVariants as value
use Rattle.star_store.specs.Range.{steps_within}

pub below_zero : (q : ℕ) → nat_lt q 0 ≡ false
below_zero q = le-ltb q 0 (omega arith)

-- a step begins within a gap exactly if the way to it is shorter than the gap
fits_if : (b : Bool) (gap n i : ℕ) → nat_eq gap 0 ≡ b → nat_lt i (if b then 0 else (gap - 1) / suc n + 1) ≡ nat_lt (i * suc n) gap
fits_if true gap n i e = let z : gap ≡ 0 = grind (arith, nat_tests) in below_zero i ∙ sym (ap (nat_lt (i * suc n)) z ∙ below_zero (i * suc n))
fits_if false gap n i e =
    let g : 0 < gap = grind (arith, nat_tests) in
    let k : 0 < suc n = omega arith in
    both_ways (nat_lt i ((gap - 1) / suc n + 1)) (nat_lt (i * suc n) gap)
    (λ h. let l : i < (gap - 1) / suc n + 1 = ltb-true i ((gap - 1) / suc n + 1) h in
    let m : i * suc n ≤ gap - 1 = (le-div_iff_mul-le k).0 (omega arith) in
    lt-ltb (i * suc n) gap (omega arith))
    (λ h. let l : i * suc n < gap = ltb-true (i * suc n) gap h in
    let m : i ≤ (gap - 1) / suc n = (le-div_iff_mul-le k).1 (omega arith) in
    lt-ltb i ((gap - 1) / suc n + 1) (omega arith))

fits : (gap n i : ℕ) → nat_lt i (steps_within gap (suc n)) ≡ nat_lt (i * suc n) gap
fits gap n i = fits_if (nat_eq gap 0) gap n i refl

-- an item by the way to it
item_by_up : (start stop step : ℤ) (i : ℕ) → pos 0 <ℤ step → range_item (record { start = start; stop = stop; step = step }) i ≡ some_above start stop (i * unsigned_abs step)
item_by_up start stop (pos zero) i h = absurd (omega arith)
item_by_up start stop (pos (suc n)) i h = ap (λ b. if b then Some (value.Int (start +ℤ pos (i * suc n))) else None) (fits (int_gap start stop) n i)
item_by_up start stop (negsuc n) i h = absurd (omega (arith, ints))

pub item_up : (r : Range) (i : ℕ) → pos 0 <ℤ r.step → range_item r i ≡ some_above r.start r.stop (i * unsigned_abs r.step)
item_up r i h = item_by_up r.start r.stop r.step i h

item_by_down : (start stop step : ℤ) (i : ℕ) → step <ℤ pos 0 → range_item (record { start = start; stop = stop; step = step }) i ≡ some_under start stop (i * unsigned_abs step)
item_by_down start stop (pos n) i h = absurd (omega (arith, ints))
item_by_down start stop (negsuc n) i h =
    let e : (start +ℤ neg_ℤ (pos (i * suc n))) ≡ (start -ℤ pos (i * suc n)) = omega (arith, ints) in
    ap (λ b. if b then Some (value.Int (start +ℤ neg_ℤ (pos (i * suc n)))) else None) (fits (int_gap stop start) n i)
    ∙ ap (λ z. if nat_lt (i * suc n) (int_gap stop start) then Some (value.Int z) else None) e

pub item_down : (r : Range) (i : ℕ) → r.step <ℤ pos 0 → range_item r i ≡ some_under r.start r.stop (i * unsigned_abs r.step)
item_down r i h = item_by_down r.start r.stop r.step i h

item_by_none : (start stop step : ℤ) (i : ℕ) → (pos 0 <ℤ step → ⊥) → (step <ℤ pos 0 → ⊥) → range_item (record { start = start; stop = stop; step = step }) i ≡ None
item_by_none start stop (pos zero) i h k = ap (λ b. if b then Some (value.Int (start +ℤ pos i *ℤ pos zero)) else None) (below_zero i)
item_by_none start stop (pos (suc n)) i h k = absurd (h (omega (arith, ints)))
item_by_none start stop (negsuc n) i h k = absurd (k (omega (arith, ints)))

pub item_still : (r : Range) (i : ℕ) → (pos 0 <ℤ r.step → ⊥) → (r.step <ℤ pos 0 → ⊥) → range_item r i ≡ None
item_still r i h k = item_by_none r.start r.stop r.step i h k

pub above_there : (a b : ℤ) (o : ℕ) → o < int_gap a b → some_above a b o ≡ Some (value.Int (a +ℤ pos o))
above_there a b o h = ap (λ t. if t then Some (value.Int (a +ℤ pos o)) else None) (lt-ltb o (int_gap a b) h)

pub above_none : (a b : ℤ) (o : ℕ) → int_gap a b ≤ o → some_above a b o ≡ None
above_none a b o h = ap (λ t. if t then Some (value.Int (a +ℤ pos o)) else None) (le-ltb o (int_gap a b) h)

pub under_there : (a b : ℤ) (o : ℕ) → o < int_gap b a → some_under a b o ≡ Some (value.Int (a -ℤ pos o))
under_there a b o h = ap (λ t. if t then Some (value.Int (a -ℤ pos o)) else None) (lt-ltb o (int_gap b a) h)

pub under_none : (a b : ℤ) (o : ℕ) → int_gap b a ≤ o → some_under a b o ≡ None
under_none a b o h = ap (λ t. if t then Some (value.Int (a -ℤ pos o)) else None) (le-ltb o (int_gap b a) h)
