use Rattle.std.proofs.Common.{◌≡◌, length}
use Rattle.star_graph.proofs.walk.Walk.next.Given as goal

abbrev pub invariant-loop-label : goal.invariant-loop-label
invariant-loop-label g l = g.F.Repo.says l.folder ≡ g.F.Repo.says l.initial.folder

abbrev pub decreases-loop-label : goal.decreases-loop-label
decreases-loop-label g l = length l.self.waiting.keys
