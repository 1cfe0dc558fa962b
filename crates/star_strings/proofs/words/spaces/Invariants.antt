use Rattle.std.proofs.Common.{◌≡◌, take, true}
use Rattle.std.specs.List.{list_all}
use Rattle.star_strings.specs.Words.{is_space}
use Rattle.star_strings.proofs.words.spaces.Given as goal

abbrev pub invariant-loop-at : goal.invariant-loop-at
invariant-loop-at l = list_all is_space (take l.at l.bytes) ≡ true
