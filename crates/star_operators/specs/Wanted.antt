-- The place that an index names, and the item there.
use Rattle.std.specs.Prelude.{ℕ}
use Rattle.star_store.specs.declared.values.Value.{Value}
use Rattle.star_meaning.specs.declared.fault.FaultCode.TheVariants as code
use Rattle.star_meaning.specs.Run.{Action, ◌>>=◌, found}
use Rattle.star_meaning.specs.Program.{Setting}
use Rattle.star_meaning.specs.Values.{content, want_int}
use Rattle.star_meaning.specs.Subscript.{place_from, row_item}
use Rattle.star_machine.specs.Kinds.{size_of}

-- the place that an int says
abbrev pub place_wanted : Setting → ℕ → ℕ → Value → Action ℕ
place_wanted w line len i = want_int w line i >>= λ z. found code.Index line (place_from len z)

-- the item of a list, tuple or range, as it is in the state before
abbrev pub item_of_row : Setting → ℕ → Value → Value → Action Value
item_of_row w line row i = λ s. row_item w line (content w s row) (size_of (content w s row)) i s
