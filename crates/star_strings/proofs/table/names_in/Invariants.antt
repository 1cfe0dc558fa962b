use Rattle.std.proofs.Common.{◌≡◌, map, take}
use Rattle.star_strings.specs.Table.{line_of}
use Rattle.star_strings.proofs.table.names_in.Given as goal

abbrev pub invariant-loop-line : goal.invariant-loop-line
invariant-loop-line l = map (λ n. n.now) l.names.items ≡ map (λ r. r.row.name) (map line_of (take l.line-index l.rows))
