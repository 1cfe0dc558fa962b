-- Paths of lists and dictionaries, each inside the one before, down to a value.
use Rattle.std.specs.Prelude.{◌≡◌, ℕ, suc, List, Option, Some, slice_get}
use Rattle.star_store.specs.declared.values.Value.{Value}
use Rattle.star_store.specs.declared.values.Cell.{Cell}
use Rattle.star_data.specs.Parts.{StandsIn}

-- the value is inside of each of these, at some depth
pub record StandsInEach (look : Value → Option Cell) (path : List Value) (v : Value) : Type 0 where
  pub each : (i : ℕ) (p : Value) → slice_get path i ≡ Some p → (k : ℕ) × StandsIn look (suc k) p v

-- so is each of these values
pub record AllStandInEach (look : Value → Option Cell) (path xs : List Value) : Type 0 where
  pub all : (i : ℕ) (x : Value) → slice_get xs i ≡ Some x → StandsInEach look path x
