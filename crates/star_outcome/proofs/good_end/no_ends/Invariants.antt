use Rattle.std.proofs.Common.{◌≡◌, None, vec_len}
use Rattle.std.specs.Prelude.{All}
use Rattle.star_outcome.proofs.good_end.no_ends.Given as goal

abbrev pub invariant-loop : goal.invariant-loop
invariant-loop l = (vec_len l.ends ≡ l.counter) × All (λ o. o ≡ None) l.ends.items
