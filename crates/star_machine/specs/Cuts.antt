-- Places of cuts in strings.
use Rattle.std.specs.Prelude.{◌≡◌, ◌<◌, ◌++◌, ℕ, nat_eq, nat_lt, Bool, true, false, not, ◌||◌, List, [], ◌∷◌, length}
use Rattle.std.specs.List.{list_all}

-- whether a byte is neither of two
abbrev pub is_neither : ℕ → ℕ → ℕ → Bool
is_neither a b x = not (nat_eq x a || nat_eq x b)

-- a text is cut at the first byte that is one of two
abbrev pub IsCut : ℕ → ℕ → List ℕ → List ℕ → ℕ → List ℕ → Type 0
IsCut a b text before at rest = (text ≡ before ++ at ∷ rest) × (list_all (is_neither a b) before ≡ true)
    × (is_neither a b at ≡ false) × (length rest < length text)

-- whether a string begins with an ASCII byte
abbrev pub begins_plainly : List ℕ → Bool
begins_plainly [] = false
begins_plainly (b ∷ bs) = nat_lt b 128
