use Rattle.std.proofs.Common.{◌≡◌, take, true}
use Rattle.std.specs.List.{list_all}
use Rattle.star_strings.specs.Cuts.{not_space}
use Rattle.star_strings.proofs.words.word_end.Given as goal

abbrev pub invariant-loop-at : goal.invariant-loop-at
invariant-loop-at l = list_all not_space (take l.at l.bytes) ≡ true
