-- Strings, by their bytes: the parts between cuts.
use Rattle.std.specs.Prelude.{ℕ, zero, suc, ◌+◌, ◌-◌, nat_eq, Bool, true, false, not, ◌&&◌, List, [], ◌∷◌, ◌++◌, length, Option, Some, None, if◌then◌else◌}
use Rattle.std.specs.List.{starts_with}

-- a number of cuts that may still be made; nothing if all may
abbrev pub may_cut : Option ℕ → Bool
may_cut None = true
may_cut (Some n) = not (nat_eq n 0)

abbrev pub one_less : Option ℕ → Option ℕ
one_less None = None
one_less (Some n) = Some (n - 1)

-- the parts of a string between the places, from the left, of a separator; the number counts its bytes that are still
-- to be passed over, and the list is the part begun so far
abbrev pub parts_from : List ℕ → Option ℕ → ℕ → List ℕ → List ℕ → List (List ℕ)
parts_from by left skip part [] = part ∷ []
parts_from by left (suc skip) part (b ∷ bs) = parts_from by left skip part bs
parts_from by left zero part (b ∷ bs) =
    if may_cut left && starts_with nat_eq (b ∷ bs) by then part ∷ parts_from by (one_less left) (length by - 1) [] bs
    else parts_from by left zero (part ++ b ∷ []) bs

-- the parts of t between cuts at the separator
abbrev pub parts : List ℕ → List ℕ → Option ℕ → List (List ℕ)
parts t by left = parts_from by left 0 [] t
