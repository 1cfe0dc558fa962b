-- Keys: on them, to be the same key is to be equal.
use Rattle.std.specs.Prelude.{◌≡◌, ◌≤◌, ◌<◌, ◌⊎◌, ℕ, ◌+◌, Bool, true, Option}
use Rattle.star_store.specs.declared.values.Value.{Value}
use Rattle.star_store.specs.declared.values.Cell.{Cell}
use Rattle.star_store.specs.declared.fault.StoreFault.TheVariants.{Steps}
use Rattle.star_store.specs.Spend.{Spend, Enough, Lacks}
use Rattle.star_store.specs.Key.{is_key, same_key}
use Rattle.star_store.specs.Equal.{same}

-- one of two values, at least, is a key of this many levels
abbrev pub OneIsKey : (Value → Option Cell) → ℕ → Value → Value → Type 0
OneIsKey look n x y = (is_key look n x ≡ true) ⊎ (is_key look n y ≡ true)

-- The law: if one of two values is a key and equality answers, it answers whether they are the same key.
abbrev pub EqualKeysAreTheSame : Type 0
EqualKeysAreTheSame = (look : Value → Option Cell) (n levels steps left : ℕ) (x y : Value) (b : Bool)
    → OneIsKey look n x y → same look levels x y steps ≡ Enough b left → b ≡ same_key look n x y

-- an answer at a price: it leaves the other steps, and with fewer steps than the price it is refused for want of steps
abbrev pub Costs : Spend Bool → ℕ → Bool → Type 0
Costs f price b =
    ((more : ℕ) → f (price + more) ≡ Enough b more) × ((steps : ℕ) → steps < price → f steps ≡ Lacks Steps 0)

-- The law: if equality may open as many levels as the key has, it answers at a price, and is refused only for want of
-- steps.
abbrev pub KeysHaveEquality : Type 0
KeysHaveEquality = (look : Value → Option Cell) (n levels : ℕ) (x y : Value)
    → OneIsKey look n x y → n ≤ levels → (price : ℕ) × Costs (same look levels x y) price (same_key look n x y)
