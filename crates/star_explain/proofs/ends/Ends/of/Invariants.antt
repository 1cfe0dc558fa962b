use Rattle.std.proofs.Common.{◌≡◌, length}
use Rattle.star_explain.proofs.ends.Ends.of.Given as goal

abbrev pub invariant-loop-i : goal.invariant-loop-i
invariant-loop-i l = (l.run ≡ l.initial.run) × (l.i-end ≡ length l.run.kept)
