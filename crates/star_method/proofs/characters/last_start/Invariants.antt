use Rattle.std.proofs.Common.{◌≡◌, ◌<◌, ◌+◌, drop, length, true}
use Rattle.std.specs.List.{list_all}
use Rattle.star_meaning.specs.Texts.{goes_on}
use Rattle.star_method.proofs.characters.last_start.Given as goal

abbrev pub invariant-loop-at : goal.invariant-loop-at
invariant-loop-at l = record {
  within : l.at < length l.bytes;
  inside : list_all goes_on (drop (l.at + 1) l.bytes) ≡ true;
}

abbrev pub decreases-loop-at : goal.decreases-loop-at
decreases-loop-at l = l.at
