-- The methods of a type, as the code lists them.
use Rattle.std.proofs.Common.{◌≡◌, map, refl, ap}
use Rattle.std.specs.Prelude.{codes, filter}
use Rattle.star_outline.specs.Names.{same_name}
use Rattle.star_store.specs.Names.{method_name, receiver_type}
use Rattle.star_attribute.specs.Attributes.{of_dicts}
use Rattle.star_meaning.specs.Attributes.{core_names, methods}

dicts_alone : of_dicts ≡ filter (λ m. same_name (receiver_type m) (codes "dict")) methods
dicts_alone = refl

pub dict_names : map method_name of_dicts ≡ core_names (codes "dict")
dict_names = ap (map method_name) dicts_alone
