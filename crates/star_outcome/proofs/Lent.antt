-- A row that was lent as a slice.
use Rattle.std.proofs.Common.{◌≡◌, ◌++◌, ◌∙◌, ℕ, List, arith, length, take}
use Rattle.std.proofs.lemmas.List.{take-append-le, take_all}

-- a slice as long as before leaves its items to its row
pub written_back : {X : Type 0} (n : ℕ) (new rest : List X) → length new ≡ n → take n (new ++ rest) ≡ new
written_back n new rest long = take-append-le n new rest (omega (arith, long)) ∙ take_all n new (omega (arith, long))
