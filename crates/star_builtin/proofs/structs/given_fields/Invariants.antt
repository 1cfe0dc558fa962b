use Rattle.std.proofs.Common.{◌≡◌, take}
use Rattle.star_meaning.specs.Structs.{given_fields}
use Rattle.star_builtin.proofs.structs.given_fields.Given as goal

abbrev pub invariant-loop-argument : goal.invariant-loop-argument
invariant-loop-argument l = l.fields.items ≡ given_fields (take l.argument-index l.named)
