-- Ints that are data.
use Rattle.std.proofs.Common.{◌≡◌, Bool, true, false, ℤ, Some, None, if◌then◌else◌, refl}
use Rattle.serde_json.specs.Data.{Data, number}
use Rattle.serde_json.specs.Find.{of_integer}
use Rattle.star_store.specs.Arithmetic.{fits}
use Rattle.star_data.specs.Data.{int_data}

-- they have 64 bits, and are themselves
pub int_is : (n : ℤ) (d : Data) → int_data n ≡ Some d → (fits n ≡ true) × (number (of_integer n) ≡ d)
int_is n d e = by (fits n) refl e
  where
    by : (b : Bool) → fits n ≡ b → (if b then Some (number (of_integer n)) else None) ≡ Some d → (fits n ≡ true) × (number (of_integer n) ≡ d)
    by true is e = (is, let same : number (of_integer n) ≡ d = cc in same)
    by false is e = absurd (let no : ⊥ = cc in no)
