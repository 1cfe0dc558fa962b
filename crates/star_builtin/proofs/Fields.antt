-- Fields as names beside values.
use Rattle.std.proofs.Common.{◌≡◌, List, [], ◌∷◌, ℕ, ap, refl}
use Rattle.std.specs.List.{zip}
use Rattle.star_store.specs.declared.values.Value.{Value}
use Rattle.star_store.specs.Fields.{names_of, values_of}

-- fields are their names beside their values
pub names_beside : (fs : List (List ℕ × Value)) → zip (names_of fs) (values_of fs) ≡ fs
names_beside [] = refl
names_beside (f ∷ fs) = ap (λ r. f ∷ r) (names_beside fs)
