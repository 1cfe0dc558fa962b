use Rattle.std.proofs.Common.{◌≡◌, ℕ, ◌||◌, List, drop}
use Rattle.std.specs.List.{list_any}
use Rattle.star_outline.specs.Names.{same_name}
use Rattle.star_meaning.specs.Binding.{keywords_of}
use Rattle.star_call.specs.Seen.{has}
use Rattle.star_call.proofs.binding.names_of.Given as goal

abbrev pub invariant-loop-parameter : goal.invariant-loop-parameter
invariant-loop-parameter l =
    (q : List ℕ) → (has l.names q || list_any (same_name q) (keywords_of (drop l.parameter-index l.parameters))) ≡ list_any (same_name q) (keywords_of l.parameters)
