-- Ranges: the ints that they have at each place, and when two are the same.
use Rattle.std.proofs.Common.{◌≡◌, ◌≢◌, ◌↔◌, inl, inr, ℕ, zero, suc, ◌+◌, ◌-◌, ◌*◌, ◌/◌, ◌<◌, ◌≤◌, nat_eq, nat_lt, Bool, true, false, not, ◌&&◌, ◌||◌, Some, None, if◌then◌else◌, ℤ, pos, negsuc, ◌+ℤ◌, ◌-ℤ◌, ◌*ℤ◌, ◌<ℤ◌, int_eq, refl, ap, sym, ◌∙◌, arith}
use Rattle.std.specs.Int.{int_gap}
use Rattle.std.proofs.Math.Nat.{div-mul-le_self}
use Rattle.std.proofs.lemmas.Nat.{le-div, mul-le}
use Rattle.std.proofs.lemmas.Bool.{lt-ltb, ltb-true, le-ltb, ltb-false, eq-eqb, eqb-true, eqb-false}
use Rattle.std.proofs.lemmas.Bool.Decides.{Decides-int_eq}
use Rattle.std.proofs.lemmas.Int.{ints}
use Rattle.star_store.specs.declared.values.Value.{Value}
use Rattle.star_store.specs.declared.values.Value.TheVariants as value
use Rattle.star_store.specs.declared.range.Range.{Range}
use Rattle.star_store.specs.Range.{length_by, range_length, same_range, steps_within}
use Rattle.star_store.specs.Arithmetic.{floored, left_over}
use Rattle.star_meaning.specs.Values.{range_item}
use Rattle.star_meaning.specs.Operators.{is_below, range_has}
use Rattle.star_laws.specs.Division.{IsRemainder}
use Rattle.star_laws.specs.Ranges.{IsBefore, stepped}
use Rattle.star_laws.proofs.Division.{one_quotient, quotient_and_remainder}

-- a gap, and the steps that begin within it

gap_above : (a b : ℤ) (k : ℕ) → k < int_gap a b → (a +ℤ pos k) <ℤ b
gap_above (pos a) (pos b) k h = omega (arith, ints)
gap_above (pos a) (negsuc b) k h = absurd (omega arith)
gap_above (negsuc a) (pos b) k h = omega (arith, ints)
gap_above (negsuc a) (negsuc b) k h = omega (arith, ints)

above_gap : (a b : ℤ) (k : ℕ) → (a +ℤ pos k) <ℤ b → k < int_gap a b
above_gap (pos a) (pos b) k h = omega (arith, ints)
above_gap (pos a) (negsuc b) k h = absurd (omega (arith, ints))
above_gap (negsuc a) (pos b) k h = omega (arith, ints)
above_gap (negsuc a) (negsuc b) k h = omega (arith, ints)

no_equal : (a b : ℕ) → a ≢ b → nat_eq a b ≡ false
no_equal a b h = by (nat_eq a b) refl
  where
    by : (e : Bool) → nat_eq a b ≡ e → nat_eq a b ≡ false
    by true e = absurd (h (eqb-true a b e))
    by false e = e

steps_are : (gap n : ℕ) → 0 < gap → steps_within gap n ≡ (gap - 1) / n + 1
steps_are gap n h = ap (λ b. if b then 0 else (gap - 1) / n + 1) (no_equal gap 0 (omega arith))

within : (gap n i : ℕ) → i < steps_within gap n → i * n < gap
within zero n i h = absurd (omega arith)
within (suc g) n i h =
    let e : steps_within (suc g) n ≡ (suc g - 1) / n + 1 = steps_are (suc g) n (omega arith) in
    omega (arith, div-mul-le_self (suc g - 1) n, mul-le i n ((suc g - 1) / n) n (omega arith) (omega arith))

inside : (gap n i : ℕ) → 0 < n → i * n < gap → i < steps_within gap n
inside gap n i h k = omega (arith, steps_are gap n (omega arith), le-div i (gap - 1) n h (omega arith))

-- ints before the stop

before : (a b c : ℤ) (i : ℕ) → i < length_by a b c → IsBefore c (a +ℤ pos i *ℤ c) b
before a b (pos zero) i h = absurd (omega arith)
before a b (pos (suc n)) i h = inl (omega (arith, ints), gap_above a b (i * suc n) (within (int_gap a b) (suc n) i h))
before a b (negsuc n) i h = let w : (b +ℤ pos (i * suc n)) <ℤ a = gap_above b a (i * suc n) (within (int_gap b a) (suc n) i h) in inr (omega (arith, ints), omega (arith, ints))

counted : (a b c : ℤ) (i : ℕ) → IsBefore c (a +ℤ pos i *ℤ c) b → i < length_by a b c
counted a b (pos zero) i (inl h) = absurd (omega (arith, ints, h.0))
counted a b (pos zero) i (inr h) = absurd (omega (arith, ints, h.0))
counted a b (pos (suc n)) i (inl h) = inside (int_gap a b) (suc n) i (omega arith) (above_gap a b (i * suc n) (h.1))
counted a b (pos (suc n)) i (inr h) = absurd (omega (arith, ints, h.0))
counted a b (negsuc n) i (inl h) = absurd (omega (arith, ints, h.0))
counted a b (negsuc n) i (inr h) = inside (int_gap b a) (suc n) i (omega arith) (above_gap b a (i * suc n) (omega (arith, ints, h.1)))

has_step : (a b c : ℤ) (i : ℕ) → i < length_by a b c → c ≢ pos 0
has_step a b (pos zero) i h = absurd (omega arith)
has_step a b (pos (suc n)) i h = λ e. absurd (omega (arith, ints))
has_step a b (negsuc n) i h = λ e. absurd (omega (arith, ints))

-- items

item_at : (r : Range) (i : ℕ) → i < range_length r → range_item r i ≡ Some (value.Int (stepped r i))
item_at r i h = ap (λ b. if b then Some (value.Int (stepped r i)) else None) (lt-ltb i (range_length r) h)

no_item : (r : Range) (i : ℕ) → range_length r ≤ i → range_item r i ≡ None
no_item r i h = ap (λ b. if b then Some (value.Int (stepped r i)) else None) (le-ltb i (range_length r) h)

chosen : (b : Bool) (x v : Value) → (if b then Some x else None) ≡ Some v → (b ≡ true) × (v ≡ x)
chosen true x v h = (refl, cc)
chosen false x v h = absurd cc

item_is : (r : Range) (i : ℕ) (v : Value) → range_item r i ≡ Some v → (i < range_length r) × (v ≡ value.Int (stepped r i))
item_is r i v h = let w : (nat_lt i (range_length r) ≡ true) × (v ≡ value.Int (stepped r i)) = chosen (nat_lt i (range_length r)) (value.Int (stepped r i)) v h in (ltb-true i (range_length r) (w.0), w.1)

pub ranges_step_to_their_stop : (r : Range) (i : ℕ) (v : Value) → range_item r i ≡ Some v ↔ (v ≡ value.Int (stepped r i)) × IsBefore r.step (stepped r i) r.stop
ranges_step_to_their_stop r i v = (there, back)
  where
    there : range_item r i ≡ Some v → (v ≡ value.Int (stepped r i)) × IsBefore r.step (stepped r i) r.stop
    there h = let w : (i < range_length r) × (v ≡ value.Int (stepped r i)) = item_is r i v h in (w.1, before r.start r.stop r.step i (w.0))

    back : (v ≡ value.Int (stepped r i)) × IsBefore r.step (stepped r i) r.stop → range_item r i ≡ Some v
    back h = item_at r i (counted r.start r.stop r.step i (h.1)) ∙ ap Some (sym (h.0))

-- membership

both : (a b : Bool) → (a && b) ≡ true → (a ≡ true) × (b ≡ true)
both true b h = (refl, h)
both false b h = absurd cc

below_is : (q : ℤ) (n : ℕ) → is_below q n ≡ true → (k : ℕ) × (q ≡ pos k) × (k < n)
below_is (pos k) n h = (k, refl, ltb-true k n h)
below_is (negsuc k) n h = absurd cc

all_three : (a b c : Bool) → a ≡ true → b ≡ true → c ≡ true → (a && b && c) ≡ true
all_three true true true h k l = refl
all_three true true false h k l = l
all_three true false c h k l = k
all_three false b c h k l = h

nothing_left : (y : ℤ) → y ≢ pos 0 → IsRemainder (pos 0) y
nothing_left (pos zero) h = absurd (h refl)
nothing_left (pos (suc n)) h = inl (omega (arith, ints), omega (arith, ints))
nothing_left (negsuc n) h = inr (omega (arith, ints), omega (arith, ints))

int_same : (a b : ℤ) → value.Int a ≡ value.Int b → a ≡ b
int_same a b h = cc

pub ranges_have_their_items : (r : Range) (z : ℤ) → range_has r z ≡ true ↔ ((i : ℕ) × (range_item r i ≡ Some (value.Int z)))
ranges_have_their_items r z = (there, λ h. back (h.0) (h.1))
  where
    there : range_has r z ≡ true → (i : ℕ) × (range_item r i ≡ Some (value.Int z))
    there h =
        let w : ((not (nat_eq (range_length r) 0) && int_eq (left_over (z -ℤ r.start) r.step) (pos 0)) ≡ true) × (is_below (floored (z -ℤ r.start) r.step) (range_length r) ≡ true) = both (not (nat_eq (range_length r) 0) && int_eq (left_over (z -ℤ r.start) r.step) (pos 0)) (is_below (floored (z -ℤ r.start) r.step) (range_length r)) h in
        let l : left_over (z -ℤ r.start) r.step ≡ pos 0 = (Decides-int_eq (left_over (z -ℤ r.start) r.step) (pos 0)).0 ((both (not (nat_eq (range_length r) 0)) (int_eq (left_over (z -ℤ r.start) r.step) (pos 0)) (w.0)).1) in
        let k : (k : ℕ) × (floored (z -ℤ r.start) r.step ≡ pos k) × (k < range_length r) = below_is (floored (z -ℤ r.start) r.step) (range_length r) (w.1) in
        let e : z -ℤ r.start ≡ floored (z -ℤ r.start) r.step *ℤ r.step +ℤ left_over (z -ℤ r.start) r.step = (quotient_and_remainder (z -ℤ r.start) r.step (has_step r.start r.stop r.step (k.0) (k.2))).0 in
        let f : z -ℤ r.start ≡ pos (k.0) *ℤ r.step +ℤ pos 0 = e ∙ ap (λ q. q *ℤ r.step +ℤ left_over (z -ℤ r.start) r.step) (k.1) ∙ ap (λ m. pos (k.0) *ℤ r.step +ℤ m) l in
        (k.0, item_at r (k.0) (k.2) ∙ ap (λ y. Some (value.Int y)) (omega (arith, ints)))

    back : (i : ℕ) → range_item r i ≡ Some (value.Int z) → range_has r z ≡ true
    back i h =
        let w : (i < range_length r) × (value.Int z ≡ value.Int (stepped r i)) = item_is r i (value.Int z) h in
        let s : r.step ≢ pos 0 = has_step r.start r.stop r.step i (w.0) in
        let e : z ≡ stepped r i = int_same z (stepped r i) (w.1) in
        let q : (pos i ≡ floored (z -ℤ r.start) r.step) × (pos 0 ≡ left_over (z -ℤ r.start) r.step) = one_quotient (z -ℤ r.start) r.step (pos i) (pos 0) s (omega (arith, ints)) (nothing_left r.step s) in
        all_three (not (nat_eq (range_length r) 0)) (int_eq (left_over (z -ℤ r.start) r.step) (pos 0)) (is_below (floored (z -ℤ r.start) r.step) (range_length r))
        (ap not (no_equal (range_length r) 0 (omega (arith, w.0))))
        ((Decides-int_eq (left_over (z -ℤ r.start) r.step) (pos 0)).1 (sym (q.1)))
        (ap (λ y. is_below y (range_length r)) (sym (q.0)) ∙ lt-ltb i (range_length r) (w.0))

-- sameness

no_shorter : (r s : Range) → ((i : ℕ) → range_item r i ≡ range_item s i) → range_length s ≤ range_length r
no_shorter r s f = by (nat_lt (range_length r) (range_length s)) refl
  where
    by : (b : Bool) → nat_lt (range_length r) (range_length s) ≡ b → range_length s ≤ range_length r
    by true e =
        let n : range_item r (range_length r) ≡ None = no_item r (range_length r) (omega arith) in
        let m : range_item s (range_length r) ≡ Some (value.Int (stepped s (range_length r))) = item_at s (range_length r) (ltb-true (range_length r) (range_length s) e) in
        let g : range_item r (range_length r) ≡ range_item s (range_length r) = f (range_length r) in
        absurd cc
    by false e = ltb-false (range_length r) (range_length s) e

some_same : (a b : ℤ) → Some (value.Int a) ≡ Some (value.Int b) → a ≡ b
some_same a b h = cc

stepped_same : (r s : Range) (i : ℕ) → ((i : ℕ) → range_item r i ≡ range_item s i) → i < range_length r → range_length r ≡ range_length s → stepped r i ≡ stepped s i
stepped_same r s i f h e = some_same (stepped r i) (stepped s i) (sym (item_at r i h) ∙ f i ∙ item_at s i (omega arith))

same_int : (x y : ℤ) → x ≡ y → int_eq x y ≡ true
same_int x y h = (Decides-int_eq x y).1 h

either : (a b : Bool) → (a ≡ false → b ≡ true) → (a || b) ≡ true
either true b h = refl
either false b h = h refl

one_of : (a b : Bool) → (a || b) ≡ true → a ≡ false → b ≡ true
one_of true b h k = absurd cc
one_of false b h k = h

and_both : (a b : Bool) → a ≡ true → b ≡ true → (a && b) ≡ true
and_both true b h k = k
and_both false b h k = h

some_from : (n k : ℕ) → nat_eq n k ≡ false → n ≢ k
some_from n k h = eqb-false n k h

pub same_ranges_have_the_same_items : (r s : Range) → same_range r s ≡ true ↔ ((i : ℕ) → range_item r i ≡ range_item s i)
same_ranges_have_the_same_items r s = (there, back)
  where
    there : same_range r s ≡ true → (i : ℕ) → range_item r i ≡ range_item s i
    there h i = by (nat_lt i (range_length r)) refl
      where
        w : (nat_eq (range_length r) (range_length s) ≡ true) × ((nat_eq (range_length r) 0 || (int_eq r.start s.start && (nat_eq (range_length r) 1 || int_eq r.step s.step))) ≡ true)
        w = both (nat_eq (range_length r) (range_length s)) (nat_eq (range_length r) 0 || (int_eq r.start s.start && (nat_eq (range_length r) 1 || int_eq r.step s.step))) h

        e : range_length r ≡ range_length s
        e = eqb-true (range_length r) (range_length s) (w.0)

        parts : 0 < range_length r → (int_eq r.start s.start ≡ true) × ((nat_eq (range_length r) 1 || int_eq r.step s.step) ≡ true)
        parts k = both (int_eq r.start s.start) (nat_eq (range_length r) 1 || int_eq r.step s.step) (one_of (nat_eq (range_length r) 0) (int_eq r.start s.start && (nat_eq (range_length r) 1 || int_eq r.step s.step)) (w.1) (no_equal (range_length r) 0 (omega arith)))

        start : 0 < range_length r → r.start ≡ s.start
        start k = (Decides-int_eq r.start s.start).0 ((parts k).0)

        step : 1 < range_length r → r.step ≡ s.step
        step k = (Decides-int_eq r.step s.step).0 (one_of (nat_eq (range_length r) 1) (int_eq r.step s.step) ((parts (omega arith)).1) (no_equal (range_length r) 1 (omega arith)))

        at : (j : ℕ) → j < range_length r → stepped r j ≡ stepped s j
        at zero k = omega (arith, ints, start (omega arith))
        at (suc j) k = ap (λ a. a +ℤ pos (suc j) *ℤ r.step) (start (omega arith)) ∙ ap (λ c. s.start +ℤ pos (suc j) *ℤ c) (step (omega arith))

        by : (b : Bool) → nat_lt i (range_length r) ≡ b → range_item r i ≡ range_item s i
        by true k = let l : i < range_length r = ltb-true i (range_length r) k in item_at r i l ∙ ap (λ z. Some (value.Int z)) (at i l) ∙ sym (item_at s i (omega (arith, e)))
        by false k = let l : range_length r ≤ i = ltb-false i (range_length r) k in no_item r i l ∙ sym (no_item s i (omega (arith, e)))

    back : ((i : ℕ) → range_item r i ≡ range_item s i) → same_range r s ≡ true
    back f =
        and_both (nat_eq (range_length r) (range_length s)) (nat_eq (range_length r) 0 || (int_eq r.start s.start && (nat_eq (range_length r) 1 || int_eq r.step s.step)))
        (eq-eqb (range_length r) (range_length s) e)
        (either (nat_eq (range_length r) 0) (int_eq r.start s.start && (nat_eq (range_length r) 1 || int_eq r.step s.step)) (λ h. and_both (int_eq r.start s.start) (nat_eq (range_length r) 1 || int_eq r.step s.step)
        (same_int r.start s.start (start (omega (arith, some_from (range_length r) 0 h))))
        (either (nat_eq (range_length r) 1) (int_eq r.step s.step) (λ k. same_int r.step s.step (step (omega (arith, some_from (range_length r) 0 h, some_from (range_length r) 1 k)))))))
      where
        e : range_length r ≡ range_length s
        e = omega (arith, no_shorter r s f, no_shorter s r (λ i. sym (f i)))

        start : 0 < range_length r → r.start ≡ s.start
        start h = omega (arith, ints, stepped_same r s 0 f h e)

        step : 1 < range_length r → r.step ≡ s.step
        step h = omega (arith, ints, start (omega arith), stepped_same r s 1 f h e)
