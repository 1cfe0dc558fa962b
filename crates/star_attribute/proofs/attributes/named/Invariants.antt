use Rattle.std.proofs.Common.{◌≡◌, drop}
use Rattle.std.specs.List.{find}
use Rattle.star_outline.specs.Names.{same_name}
use Rattle.star_store.specs.Names.{method_name}
use Rattle.star_store.specs.declared.names.Method.{Method}
use Rattle.star_attribute.proofs.attributes.named.Given as goal

abbrev pub invariant-loop-method : goal.invariant-loop-method
invariant-loop-method l =
    let f = λ (m : Method). same_name (method_name m) l.name in
    find f (drop l.method-index l.methods) ≡ find f l.methods
