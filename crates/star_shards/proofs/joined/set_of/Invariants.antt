use Rattle.std.proofs.Common.{◌≡◌, ℕ, List, map, take}
use Rattle.std.specs.Prelude.{string_bytes}
use Rattle.star_shards.specs.Joined.{is_among}
use Rattle.star_shards.specs.Read.{has}
use Rattle.star_shards.proofs.joined.set_of.Given as goal

abbrev pub invariant-loop-word : goal.invariant-loop-word
invariant-loop-word l = (q : List ℕ) → has l.set q ≡ is_among (map string_bytes (take l.word-index l.words)) q
