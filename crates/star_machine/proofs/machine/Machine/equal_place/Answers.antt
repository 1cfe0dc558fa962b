use Rattle.std.proofs.Common.{rules}
use Rattle.star_machine.specs.Search.{found_place}
use Rattle.star_machine.proofs.machine.Machine.equal_place.Goals as goal

pub returns-clause-answer : goal.returns-clause-answer
unfolding found_place
returns-clause-answer c = rw (← c.self.view_is, ← c.homes.ensures) (search rules)
