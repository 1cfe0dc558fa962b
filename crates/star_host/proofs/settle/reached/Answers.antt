use Rattle.std.proofs.Common.{arith}
use Rattle.star_reading.proofs.PlacesRead.{read_within}
use Rattle.star_host.proofs.Settled.{contains_more, passed_by}
use Rattle.star_host.proofs.settle.reached.Goals as goal

pub returns : goal.returns
returns c = λ n is. let h = read_within c.args.reads.now n is in c.loop-n.invariant n (omega (arith, h)) is

pub loop-n-preserved : goal.loop-n-preserved
loop-n-preserved c = rw c.in_ok-push.ensures.items (contains_more c.args.reads.now c.loop-n.n c.loop-n.numbers.items c.loop-n.invariant)
