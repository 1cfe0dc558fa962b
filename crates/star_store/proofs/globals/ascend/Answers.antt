use Rattle.std.proofs.Common.{arith}
use Rattle.star_store.proofs.GlobalNames.{none_ascend}
use Rattle.star_store.proofs.globals.ascend.Goals as goal

pub returns : goal.returns
returns c = λ t. c.loop-rest.invariant (none_ascend c.loop-rest.rest.now (omega (arith, c.in_default.len_below)))
