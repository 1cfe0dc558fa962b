use Rattle.std.proofs.Common.{◌≡◌, drop}
use Rattle.star_shards.specs.Entries.{quote_from}
use Rattle.star_shards.proofs.entry.quote_in.Given as goal

abbrev pub invariant-loop-i : goal.invariant-loop-i
invariant-loop-i l = quote_from l.i (drop l.i l.bytes) ≡ quote_from 0 l.bytes
