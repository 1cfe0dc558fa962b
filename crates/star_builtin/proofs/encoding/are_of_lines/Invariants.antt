use Rattle.std.proofs.Common.{◌≡◌, drop}
use Rattle.std.specs.List.{list_all}
use Rattle.star_meaning.specs.Json.{is_of_lines}
use Rattle.star_builtin.proofs.encoding.are_of_lines.Given as goal

abbrev pub invariant-loop-value : goal.invariant-loop-value
invariant-loop-value l = list_all is_of_lines (drop l.value-index l.named) ≡ list_all is_of_lines l.named
