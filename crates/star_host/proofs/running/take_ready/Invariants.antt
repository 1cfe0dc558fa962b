use Rattle.std.proofs.Common.{◌≡◌}
use Rattle.star_host.proofs.running.take_ready.Given as goal

abbrev pub invariant-loop : goal.invariant-loop
invariant-loop g l =
    (goal.iterator-loop g).can_next l.iterator' × (goal.iterator-loop g).is_finite l.iterator' × (l.loader.seat.number ≡ l.initial.loader.seat.number)
