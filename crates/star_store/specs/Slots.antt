-- The variables of a frame: the state of each slot.
use Rattle.std.specs.Prelude.{ℕ, zero, suc, ◌-◌, List, [], ◌∷◌, ◌++◌, length, replicate, Option, Some, None, slice_get}
use Rattle.std.specs.Option.{option_and_then, option_flatten, option_or}
use Rattle.std.specs.Arc.{arc_slice_items}
use Rattle.std.specs.BTreeMap.{BTreeMap, get_by}
use Rattle.std.specs.Ordering.{nat_cmp}
use Rattle.std.specs.Global.{Box}
use Rattle.star_store.specs.declared.values.Value.{Value}
use Rattle.star_store.specs.declared.slots.DefaultLayer.{DefaultLayer}

-- the value that a map has for a slot, if there is a map
abbrev pub far_at : Option (Box (BTreeMap ℕ Value)) → ℕ → Option Value
far_at None at = None
far_at (Some far) at = get_by (nat_cmp at) far.value

-- the default of a slot, by the numbers of the slots' defaults
abbrev pub default_at : List (Option ℕ) → List Value → ℕ → Option Value
default_at ranks defaults at = option_and_then (λ rank. slice_get defaults rank) (option_flatten (slice_get ranks at))

-- the default that is under a slot, if the slots are over defaults
abbrev pub under_at : Option (Box DefaultLayer) → ℕ → Option Value
under_at None at = None
under_at (Some under) at = default_at (arc_slice_items under.value.ranks) under.value.defaults at

-- the value of a slot: from the row, or else from the map, or else the default under it
abbrev pub slot_at : List (Option Value) → Option (Box (BTreeMap ℕ Value)) → Option (Box DefaultLayer) → ℕ → Option Value
slot_at near far under at =
    option_or (option_flatten (slice_get near at)) (option_or (far_at far at) (under_at under at))

-- the values of a function at the first numbers
abbrev pub row : {A : Type 0} → (ℕ → A) → ℕ → List A
row f zero = []
row f (suc n) = f 0 ∷ row (λ i. f (suc i)) n

-- the slots with room for a number of them; the new ones are unbound
abbrev pub widened : ℕ → List (Option Value) → List (Option Value)
widened n near = near ++ replicate (n - length near) None
