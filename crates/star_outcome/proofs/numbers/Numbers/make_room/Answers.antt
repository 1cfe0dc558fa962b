use Rattle.std.proofs.Common.{rules}
use Rattle.star_outcome.specs.Numbers.{HasRoom}
use Rattle.star_outcome.proofs.numbers.Numbers.make_room.Goals as goal

pub returns-clause-room : goal.returns-clause-room
unfolding HasRoom
returns-clause-room c = search rules
