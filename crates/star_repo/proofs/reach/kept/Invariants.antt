use Rattle.std.proofs.Common.{length}
use Rattle.star_repo.proofs.Kept.{AreKept}
use Rattle.star_repo.proofs.reach.kept.Given as goal

abbrev pub invariant-loop-label : goal.invariant-loop-label
invariant-loop-label l = AreKept l.initial.looked.entries l.texts.entries l.parses.items l.looked.entries

abbrev pub decreases-loop-label : goal.decreases-loop-label
decreases-loop-label l = length l.looked.entries
