use Rattle.std.proofs.Common.{◌≡◌, ◌<◌, ℕ, length, vec_len}
use Rattle.star_cause.specs.Ends.{AreEnds, IsKnown}
use Rattle.star_cause.proofs.ends.ends_of.Given as goal

abbrev pub invariant-loop-n : goal.invariant-loop-n
invariant-loop-n l = record {
  are : AreEnds l.nexts l.ends.items;
  places : vec_len l.places ≡ length l.nexts;
  known : (k : ℕ) → k < l.n → IsKnown l.ends.items k;
}
