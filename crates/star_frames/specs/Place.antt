-- The lines and the columns of a text.
use Rattle.std.specs.Prelude.{◌≡◌, ℕ, ◌+◌, ◌-◌, ◌≤◌, ◌<◌, ◌==◌, ◌&&◌, ◌||◌, ◌⊎◌, not, List, ◌∷◌, [], ◌++◌, Bool, true, false, if◌then◌else◌, length, slice_index, nat_lt, zero, suc, take}
use Rattle.std.specs.List.{sum_by}
use Rattle.star_frames.specs.declared.place.Places.{Places}
use Rattle.star_frames.specs.declared.place.Position.{Position}
use Rattle.star_frames.specs.declared.place.Units.{Units}
use Rattle.star_frames.specs.declared.place.Units.TheVariants.{Utf8, Utf16}

-- a line ends with the byte there: a line feed, or a carriage return with no line feed after it
abbrev pub ends_at : List ℕ → ℕ → Bool
ends_at text n = (slice_index text n == 10) || ((slice_index text n == 13) && not (slice_index text (n + 1) == 10))

-- where lines begin among the first bytes of a text, but for the first line, which begins at 0
abbrev pub starts_in : List ℕ → ℕ → List ℕ
starts_in text zero = []
starts_in text (suc n) = if ends_at text n then starts_in text n ++ (suc n ∷ []) else starts_in text n

-- a byte of UTF-8 that goes on with a character, and begins none
abbrev pub goes_on : ℕ → Bool
goes_on b = not (nat_lt b 128) && nat_lt b 192

-- how many units of a column a byte of UTF-8 counts for: in UTF-16 a character has two if it takes four bytes, else one
abbrev pub units_of : Units → ℕ → ℕ
units_of Utf8 b = 1
units_of Utf16 b = if goes_on b then 0 else (if nat_lt b 240 then 1 else 2)

-- how many units the first bytes of a text count for
abbrev pub units_before : Units → List ℕ → ℕ → ℕ
units_before units text n = sum_by (units_of units) (take n text)

-- a character begins at this place, or the text ends there
abbrev pub IsBoundary : List ℕ → ℕ → Type 0
IsBoundary text n = (n ≡ length text) ⊎ (goes_on (slice_index text n) ≡ false)

-- the lines are those of the text
abbrev pub AreOf : Places → List ℕ → Type 0
AreOf places text = places.starts.items ≡ starts_in text (length text)

-- where a line begins
abbrev pub start_of : Places → ℕ → ℕ
start_of places zero = 0
start_of places (suc n) = slice_index places.starts.items n

-- the offset is on the line
abbrev pub IsOnLine : Places → ℕ → ℕ → Type 0
IsOnLine places line offset =
    (line ≤ length places.starts.items) × (start_of places line ≤ offset)
    × (line < length places.starts.items → offset < slice_index places.starts.items line)

-- the position names the offset: its line, and the units on the line before it
abbrev pub Names : Places → List ℕ → Position → ℕ → Type 0
Names places text position offset =
    IsOnLine places position.line offset
    × (position.column ≡ units_before places.units text offset - units_before places.units text (start_of places position.line))
