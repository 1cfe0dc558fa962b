-- The lines of a stream, and its bytes that were read and not taken.
use Rattle.std.specs.Prelude.{◌≡◌, ◌≢◌, ◌≤◌, ◌<◌, ◌==◌, ◌+◌, ◌-◌, ℕ, List, [], ◌∷◌, ◌++◌, Bool, true, false, Option, None, Some, drop, length, take}
use Rattle.std.specs.List.{All, slice_range, slice_split}
use Rattle.star_serve.specs.Stream.{Gives, GivesAll, Said}
use Rattle.star_session.specs.declared.lines.Line.{Line}
use Rattle.star_session.specs.declared.lines.Line.TheVariants.{Lost, Ready, TooLong}
use Rattle.star_session.specs.declared.lines.Lines.{Lines}
use Rattle.star_session.specs.declared.lines.Taken.{Taken}

-- the most bytes of a line that is read as a request
abbrev pub line_limit : ℕ
line_limit = 268435456

-- a line end
abbrev pub is_end : ℕ → Bool
is_end b = b == 10

-- parts without the last one where it is empty
abbrev pub without_last : List (List ℕ) → List (List ℕ)
without_last [] = []
without_last ([] ∷ []) = []
without_last ((x ∷ xs) ∷ []) = (x ∷ xs) ∷ []
without_last (part ∷ p ∷ ps) = part ∷ without_last (p ∷ ps)

-- the lines of a text: the bytes before each line end, and those after the last one unless there are none
unfoldable pub lines_of : List ℕ → List (List ℕ)
lines_of text = without_last (slice_split is_end text)

-- no line end is among the bytes of a line
abbrev pub IsOneLine : List ℕ → Type 0
IsOneLine line = All (λ b. is_end b ≡ false) line

-- the bytes that were read and not taken
abbrev pub ahead_of : Lines → List ℕ
ahead_of lines = slice_range lines.buffer.items lines.start lines.end

-- this is the place of the first line end of it
abbrev pub IsLineEnd : Lines → ℕ → Type 0
IsLineEnd lines at =
    (at < lines.end - lines.start) × IsOneLine (take at (ahead_of lines))
    × (drop at (ahead_of lines) ≡ 10 ∷ drop (at + 1) (ahead_of lines))

-- the bytes ahead lie in the buffer, which is not empty
abbrev pub IsCut : Lines → Type 0
IsCut lines = (lines.start ≤ lines.end) × (lines.end ≤ length lines.buffer.items) × (0 < length lines.buffer.items)

-- the part that is kept of a line with these bytes, by how it was read
abbrev pub IsPiece : Line → List ℕ → List ℕ → Type 0
IsPiece Ready line bytes = (line ≡ bytes) × (length bytes ≤ line_limit)
IsPiece TooLong line bytes = line_limit < length bytes
IsPiece Lost line bytes = bytes ≢ []

-- between old and new these bytes were taken, with the line end after them: `ahead` was ahead before, and `left` is
-- ahead now
pub record Takes (old new : Said) (ahead left line : List ℕ) : Type 0 where
  pub given : List ℕ
  pub gives : Gives old new given
  pub split : ahead ++ given ≡ line ++ 10 ∷ left

-- all bytes that were ahead and all that the stream had left were taken, and they are these
pub record TakesAll (old new : Said) (ahead line : List ℕ) : Type 0 where
  pub given : List ℕ
  pub all_read : GivesAll old new given
  pub split : ahead ++ given ≡ line

-- a line was taken, which may be the last one
abbrev pub IsTaken : Said → Said → List ℕ → List ℕ → List ℕ → Bool → Type 0
IsTaken old new ahead left line false = Takes old new ahead left line
IsTaken old new ahead left line true = TakesAll old new ahead line × (line ≢ [])

-- the next line was taken, and this is its kept part, or there was no line
abbrev pub IsNext : Said → Said → List ℕ → List ℕ → List ℕ → Option Taken → Type 0
IsNext old new ahead left items None = TakesAll old new ahead []
IsNext old new ahead left items (Some t) =
    (line : List ℕ) × IsOneLine line × IsPiece t.line items line × IsTaken old new ahead left line t.is_last
