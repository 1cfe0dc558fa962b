use Rattle.std.proofs.Common.{◌≡◌, drop}
use Rattle.std.specs.List.{list_any}
use Rattle.star_outline.specs.Names.{same_name}
use Rattle.star_meaning.specs.Binding.{keywords_of}
use Rattle.star_call.proofs.binding.takes_keyword.Given as goal

abbrev pub invariant-loop-parameter : goal.invariant-loop-parameter
invariant-loop-parameter l = list_any (same_name l.name) (keywords_of (drop l.parameter-index l.parameters)) ≡ list_any (same_name l.name) (keywords_of l.parameters)
