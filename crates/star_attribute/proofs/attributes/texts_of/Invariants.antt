use Rattle.std.proofs.Common.{◌≡◌, map, take}
use Rattle.star_attribute.proofs.attributes.texts_of.Given as goal

abbrev pub invariant-loop-name : goal.invariant-loop-name
invariant-loop-name l = l.texts.items ≡ map (λ n. n.now) (take l.name-index l.names)
