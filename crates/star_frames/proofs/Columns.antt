-- The units of columns.
use Rattle.std.proofs.Common.{◌≡◌, ◌≤◌, ◌<◌, ◌+◌, ◌-◌, ℕ, List, Bool, true, false, length, get_or, take, arith, rules, refl, min, subst, sym, take-take, inl, inr}
use Rattle.std.specs.List.{sum_by}
use Rattle.std.proofs.lemmas.Bool.{cases_lt}
use Rattle.std.proofs.lemmas.List.Sums.{sum_by-take-le, sum_by_more}
use Rattle.star_frames.specs.declared.place.Units.{Units}
use Rattle.star_frames.specs.declared.place.Units.TheVariants.{Utf8, Utf16}
use Rattle.star_frames.specs.Place.{goes_on, units_before, units_of}

-- one byte more
pub units_more : (units : Units) (text : List ℕ) (n : ℕ) → n < length text → units_before units text (n + 1) ≡ units_before units text n + units_of units (get_or text n 0)
units_more units text n h = sum_by_more (units_of units) text n 0 h

-- more bytes have no fewer units
pub units_grow : (units : Units) (text : List ℕ) (m n : ℕ) → m ≤ n → units_before units text m ≤ units_before units text n
units_grow units text m n h =
    subst (λ v. sum_by (units_of units) v ≤ units_before units text n) (take-take m n text h) (sum_by-take-le (units_of units) (take n text) m)

-- a byte counts for at most two units
pub units_few : (units : Units) (b : ℕ) → units_of units b ≤ 2
units_few Utf8 b = omega arith
units_few Utf16 b = grind arith

-- a byte with which a character begins counts for one unit or more
pub units_some : (units : Units) (b : ℕ) → goes_on b ≡ false → 1 ≤ units_of units b
units_some Utf8 b h = omega arith
units_some Utf16 b h = grind (arith, h)

-- where no unit is left and a character begins, the place is the one with the units that were asked for
pub stops : (units : Units) (text : List ℕ) (start at offset column left : ℕ) → at ≤ offset → offset ≤ length text → left ≡ column - (units_before units text at - units_before units text start) → units_before units text start ≤ units_before units text at → column ≡ units_before units text offset - units_before units text start → left ≡ 0 → goes_on (get_or text at 0) ≡ false → at ≡ offset
stops units text start at offset column left le within was low named none begins =
    elim (cases_lt at offset) [
      | inl lt ↦
          let inside : at < length text = omega arith in
          let next : at + 1 ≤ offset = omega arith in
          absurd (omega (arith, units_more units text at inside, units_grow units text (at + 1) offset next, units_some units (get_or text at 0) begins, was, low, named, none))
      | inr ge ↦ omega arith
    ]
