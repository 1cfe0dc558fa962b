-- Tables by number, and the slots of names.
use Rattle.std.specs.Prelude.{◌≡◌, ℕ, nat_eq, List, Option, slice_get}
use Rattle.std.specs.List.{position}
use Rattle.std.specs.Option.{option_flatten}
use Rattle.std.specs.Cmp.Lexicographic.{slice_cmp}
use Rattle.std.specs.Ordering.{nat_cmp}
use Rattle.std.specs.BTreeMap.{BTreeMap, get_by}
use denote.Ref.{Bor}
use Rattle.star_outline.specs.declared.index.Index.{Index}
use Rattle.star_outline.specs.Names.{Names, slot_of}

-- the index of the item with a number
abbrev pub place_at : Index → ℕ → Option ℕ
place_at index number = option_flatten (slice_get index.places.items number)

-- each number has the index of the item with it
abbrev pub Finds : {A : Type 0} → (A → ℕ) → List A → Index → Type 0
Finds number_of things index = (number : ℕ) → place_at index number ≡ position (λ x. nat_eq (number_of x) number) things

-- each name is found with its slot
abbrev pub HaveSlots : Names → BTreeMap (Bor (List ℕ)) ℕ → Type 0
HaveSlots names slots = (name : List ℕ) → get_by (λ k. slice_cmp nat_cmp name k.now) slots ≡ slot_of name names
