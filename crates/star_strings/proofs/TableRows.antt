-- Rows of the code's table, and those of the definitions.
use Rattle.std.proofs.Common.{◌≡◌, ℕ, List, map, sym}
use Rattle.std.specs.List.{slice_get}
use Rattle.std.specs.Option.{option_map}
use Rattle.std.proofs.lemmas.Option.{slice_get-map}
use Rattle.star_strings.specs.declared.table.Line.{Line}
use Rattle.star_strings.specs.Table.{line_of}

pub line_there : (rows : List Line) (n : ℕ) → option_map line_of (slice_get rows n) ≡ slice_get (map line_of rows) n
line_there rows n = sym (slice_get-map line_of rows n)
