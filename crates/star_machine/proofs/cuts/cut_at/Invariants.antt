use Rattle.std.proofs.Common.{◌≡◌, take, true}
use Rattle.std.specs.List.{list_all}
use Rattle.star_machine.specs.Cuts.{is_neither}
use Rattle.star_machine.proofs.cuts.cut_at.Given as goal

abbrev pub invariant-loop-at : goal.invariant-loop-at
invariant-loop-at l = list_all (is_neither l.first l.second) (take l.at l.text) ≡ true
