use Rattle.std.proofs.Common.{◌≡◌, map, take}
use Rattle.star_store.specs.Names.{method_name}
use Rattle.star_attribute.specs.Attributes.{shown_names}
use Rattle.star_attribute.proofs.attributes.names_of.Given as goal

abbrev pub invariant-loop-method : goal.invariant-loop-method
invariant-loop-method l = shown_names l.names.items ≡ map method_name (take l.method-index l.methods)
