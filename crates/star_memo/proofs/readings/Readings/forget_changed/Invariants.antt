use Rattle.star_memo.proofs.ReadingsStay.{StayBelow}
use Rattle.star_memo.proofs.readings.Readings.forget_changed.Given as goal

abbrev pub invariant-loop-n : goal.invariant-loop-n
invariant-loop-n l = StayBelow l.compared.before l.compared.files l.n l.initial.self l.self
