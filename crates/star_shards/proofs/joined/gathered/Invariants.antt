use Rattle.std.proofs.Common.{◌≡◌, ℕ, List, take}
use Rattle.star_shards.specs.Joined.{is_among}
use Rattle.star_shards.specs.Read.{texts}
use Rattle.star_shards.proofs.Gathering.{Keyed, kept}
use Rattle.star_shards.proofs.joined.gathered.Given as goal

abbrev pub invariant-loop-entry : goal.invariant-loop-entry
invariant-loop-entry l = record {
  keyed : Keyed l.known.entries;
  all : (t : List ℕ) → is_among (kept l.known.entries) t ≡ is_among (texts (take l.entry-index l.entries)) t;
}
