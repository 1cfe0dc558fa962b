use Rattle.std.proofs.Common.{◌≡◌, map}
use Rattle.star_host.proofs.running.loaders_of.Given as goal

abbrev pub invariant-loop-seat : goal.invariant-loop-seat
invariant-loop-seat g l = map (λ w. w.seat) l.loaders.items ≡ l.yielded
