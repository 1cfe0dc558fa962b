use Rattle.std.proofs.Common.{◌≡◌, take}
use Rattle.star_attribute.proofs.attributes.shared.Given as goal

abbrev pub invariant-loop-name : goal.invariant-loop-name
invariant-loop-name l = l.texts.items ≡ take l.name-index l.names
