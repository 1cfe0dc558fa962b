use Rattle.std.proofs.Common.{◌≡◌, None, vec_len}
use Rattle.std.specs.Prelude.{All}
use Rattle.star_reading.proofs.reading.Found.new.Given as goal

abbrev pub invariant-loop : goal.invariant-loop
invariant-loop l = (vec_len l.reads ≡ l.counter) × All (λ o. o ≡ None) l.reads.items
