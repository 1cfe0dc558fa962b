use Rattle.std.proofs.Common.{◌≡◌, length}
use Rattle.star_store.specs.Fields.{rises}
use Rattle.star_store.proofs.fields.rise.Given as goal

abbrev pub invariant-loop-rest : goal.invariant-loop-rest
invariant-loop-rest l = rises l.rest ≡ rises l.names

abbrev pub decreases-loop-rest : goal.decreases-loop-rest
decreases-loop-rest l = length l.rest
