use Rattle.std.proofs.Common.{length}
use Rattle.star_cache.specs.State.{stack_of}
use Rattle.star_cache.proofs.Abandon.{IsGivingUp}
use Rattle.star_cache.proofs.book.Book.abandon.Given as goal

abbrev pub invariant-loop-top : goal.invariant-loop-top
invariant-loop-top g l = IsGivingUp l.fn.self l.self l.seat

abbrev pub decreases-loop-top : goal.decreases-loop-top
decreases-loop-top g l = length (stack_of l.self l.seat)
