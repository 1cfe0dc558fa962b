use Rattle.std.proofs.Common.{◌≡◌, take}
use Rattle.star_dialect.proofs.shares.Given as goal

abbrev pub invariant-loop-text : goal.invariant-loop-text
invariant-loop-text l = l.again.items ≡ take l.text-index l.texts
