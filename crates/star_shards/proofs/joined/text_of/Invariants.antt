use Rattle.std.proofs.Common.{◌≡◌, ◌++◌, take}
use Rattle.star_shards.specs.Lines.{front, listed}
use Rattle.star_shards.specs.Read.{texts}
use Rattle.star_shards.proofs.joined.text_of.Given as goal

abbrev pub invariant-loop-i : goal.invariant-loop-i
invariant-loop-i l = l.text.items ≡ front l.begun ++ listed (texts (take l.i l.entries))
