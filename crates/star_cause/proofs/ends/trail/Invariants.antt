use Rattle.std.proofs.Common.{◌≡◌, ◌<◌, length}
use Rattle.star_cause.specs.Ways.{Way}
use Rattle.star_cause.proofs.ends.trail.Given as goal

abbrev pub invariant-loop : goal.invariant-loop
invariant-loop l = record {
  way : Way l.nexts l.first l.found.items l.at;
  long : length l.found.items ≡ l.counter;
  inside : l.counter < l.count → l.at < length l.nexts;
}
