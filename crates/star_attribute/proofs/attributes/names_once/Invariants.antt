use Rattle.std.proofs.Common.{◌≡◌, drop}
use Rattle.star_meaning.specs.Attributes as spec
use Rattle.star_attribute.specs.Attributes.{shown_names}
use Rattle.star_attribute.proofs.attributes.names_once.Given as goal

abbrev pub invariant-loop-i : goal.invariant-loop-i
invariant-loop-i l = shown_names l.once.items ≡ spec.names_once (shown_names (drop l.i l.names))
