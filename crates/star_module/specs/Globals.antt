-- Names with values, as the code has them and as the meaning has them; and which of them are globals.
use denote.Ref.{Bor}
use Rattle.std.specs.Prelude.{ℕ, List, map, Option, Some, None, String, string_bytes, if◌then◌else◌}
use Rattle.star_store.specs.declared.values.Value.{Value}
use Rattle.star_outline.specs.Names.{Names, has_name}
use Rattle.star_meaning.specs.Module.{bound_names, loaded_names, without_loaded}
use Rattle.star_meaning.specs.Program.{Setting, outline_of}

-- names that are borrowed; such names with values; a name with a value that is owned, and such names with values
abbrev pub all_now : List (Bor (List ℕ)) → Names
all_now names = map (λ n. n.now) names

abbrev pub borrowed : {A : Type 0} → List (Bor (List ℕ) × A) → List (List ℕ × A)
borrowed xs = map (λ x. (x.0.now, x.1)) xs

abbrev pub owned_one : {A Z : Type 0} → String Z × A → List ℕ × A
owned_one x = (string_bytes x.0, x.1)

abbrev pub owned : {A Z : Type 0} → List (String Z × A) → List (List ℕ × A)
owned xs = map (λ x. (string_bytes x.0, x.1)) xs

-- the names that the running file loads
abbrev pub own_loads : Setting → Names
own_loads w = loaded_names (outline_of w w.home)

-- the global of a slot of the file's own frame, under its name: nothing without such a slot, if its variable is
-- unbound, and if the file loads the name
abbrev pub own_value : Names → List ℕ → Option (Option Value) → Option Value
own_value loaded name None = None
own_value loaded name (Some None) = None
own_value loaded name (Some (Some v)) = if has_name loaded name then None else Some v

-- the globals under names with slots, in order of the slots
abbrev pub in_slots : Setting → Names → List (Option Value) → List (List ℕ × Value)
in_slots w names slots = without_loaded (own_loads w) (bound_names names slots)
