-- The fields of `format`, by the next place and by number.
use Rattle.std.specs.Prelude.{ℕ, List}
use Rattle.star_store.specs.declared.values.Value.{Value}
use Rattle.star_meaning.specs.Run.{Action, ◌>>=◌}
use Rattle.star_meaning.specs.Format.{Numbering, Unused, Automatic, ByNumber, next_place, numbered_place, placed_value}
use Rattle.star_meaning.specs.Spelling.{number_from}
use Rattle.star_attribute.specs.declared.fields.Numbering.{Numbering as Counting}
use Rattle.star_attribute.specs.declared.fields.Numbering.TheVariants as counting

-- the definition's numbering
abbrev pub as_numbering : Counting → Numbering
as_numbering counting.Unused = Unused
as_numbering (counting.Automatic n) = Automatic n
as_numbering counting.ByNumber = ByNumber

-- a value, or a text, and the numbering that follows
abbrev pub as_found : Value × Counting → Value × Numbering
as_found r = (r.0, as_numbering r.1)

abbrev pub text_and_numbering : List ℕ × Counting → List ℕ × Numbering
text_and_numbering r = (r.0, as_numbering r.1)

-- the value at the next place
abbrev pub next_value : ℕ → List Value → Numbering → Action (Value × Numbering)
next_value line xs k = next_place line k >>= placed_value line xs

-- the value at the place that digits write
abbrev pub numbered_value : ℕ → List Value → List ℕ → Numbering → Action (Value × Numbering)
numbered_value line xs f k = numbered_place line (number_from 0 f) k >>= placed_value line xs
