-- Attributes of the code, as the definitions have them, and names as their bytes.
use Rattle.std.specs.Prelude.{ℕ, List, [], ◌∷◌, map}
use denote.Ref.{Bor}
use Rattle.star_store.specs.declared.names.BuiltIn.{BuiltIn}
use Rattle.star_store.specs.declared.names.Method.{Method}
use Rattle.star_store.specs.declared.names.Method.TheVariants as method
use Rattle.star_store.specs.declared.values.Value.TheVariants as value
use Rattle.star_store.specs.Fields.{Fields}
use Rattle.star_attribute.specs.declared.attributes.Attribute.{Attribute}
use Rattle.star_attribute.specs.declared.attributes.Attribute.TheVariants as attribute
use Rattle.star_meaning.specs.Attributes as meaning

abbrev pub attribute_of : Attribute → meaning.Attribute
attribute_of (attribute.Field v) = meaning.Field v
attribute_of (attribute.OfType m) = meaning.OfType m

abbrev pub shown_names : List (Bor (List ℕ)) → List (List ℕ)
shown_names ns = map (λ n. n.now) ns

abbrev pub shown_members : List (Bor (List ℕ) × BuiltIn) → Fields
shown_members ms = map (λ m. (m.0.now, value.Builtin m.1)) ms

abbrev pub of_dicts : List Method
of_dicts =
    method.DictClear ∷ method.DictGet ∷ method.DictItems ∷ method.DictKeys ∷ method.DictPop ∷ method.DictPopitem
    ∷ method.DictSetdefault ∷ method.DictUpdate ∷ method.DictValues ∷ []
