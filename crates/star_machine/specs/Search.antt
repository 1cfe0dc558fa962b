-- The first of some values that is equal to another one, and the int at a distance from another one.
use Rattle.std.specs.Int.{int_gap}
use Rattle.std.specs.Prelude.{ℕ, ◌+◌, ◌+ℤ◌, ◌-ℤ◌, nat_lt, ℤ, pos, Bool, List, [], ◌∷◌, Option, Some, None, if◌then◌else◌}
use Rattle.star_store.specs.declared.values.Value.{Value}
use Rattle.star_store.specs.declared.values.Value.TheVariants as value
use Rattle.star_store.specs.declared.values.Cell.{Cell}
use Rattle.star_store.specs.Spend.{Spend, answer, spend_then}
use Rattle.star_store.specs.Equal.{same}
use Rattle.star_meaning.specs.Run.{Action, visiting}
use Rattle.star_meaning.specs.Program.{Setting, seen}
use Rattle.star_machine.specs.Kinds.{row_in}

-- the place of the first one, counted from a number on, that passes a test which costs steps
abbrev pub first_place_where : (Value → Spend Bool) → ℕ → List Value → Spend (Option ℕ)
first_place_where f i [] = answer None
first_place_where f i (y ∷ ys) =
    λ n. spend_then (f y n) (λ b. if b then answer (Some i) else first_place_where f (i + 1) ys)

-- the place of the first value that is equal to another one, among these and in a list or tuple, if this many levels
-- may be opened
abbrev pub place_among : (Value → Option Cell) → ℕ → Value → List Value → Spend (Option ℕ)
place_among look levels x ys = first_place_where (λ y. same look levels y x) 0 ys

abbrev pub place_in_row : (Value → Option Cell) → ℕ → Value → Value → Spend (Option ℕ)
place_in_row look levels x row = place_among look levels x (row_in (look row))

-- the place of the first value that is equal to another one, with the visits of both up to it
unfoldable pub found_place : Setting → ℕ → ℕ → Value → List Value → Action (Option ℕ)
found_place w levels line x ys = visiting line (λ s. first_place_where (λ y. same (seen w s) levels y x) 0 ys)

-- the int at a distance above a start, if it is below a stop; and at a distance below a start, if it is above a stop
abbrev pub some_above : ℤ → ℤ → ℕ → Option Value
some_above start stop way = if nat_lt way (int_gap start stop) then Some (value.Int (start +ℤ pos way)) else None

abbrev pub some_under : ℤ → ℤ → ℕ → Option Value
some_under start stop way = if nat_lt way (int_gap stop start) then Some (value.Int (start -ℤ pos way)) else None
