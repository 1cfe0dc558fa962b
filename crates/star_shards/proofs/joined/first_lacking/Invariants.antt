use Rattle.std.proofs.Common.{◌≡◌, true, take}
use Rattle.std.specs.Prelude.{All, string_bytes}
use Rattle.star_shards.specs.Read.{has}
use Rattle.star_shards.proofs.joined.first_lacking.Given as goal

abbrev pub invariant-loop-word : goal.invariant-loop-word
invariant-loop-word l = All (λ w. has l.known (string_bytes w) ≡ true) (take l.word-index l.words)
