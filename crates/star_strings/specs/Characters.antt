-- The characters of strings by their numbers.
use Rattle.std.specs.Prelude.{ℕ, nat_lt, Bool, not, ◌&&◌, ◌||◌, List, [], ◌∷◌, Option, Some, None, ℤ, pos, negsuc, if◌then◌else◌}

-- the one character
abbrev pub only_char : List ℕ → Option ℕ
only_char (c ∷ []) = Some c
only_char _ = None

-- the character of a number; some numbers have none
abbrev pub is_char : ℕ → Bool
is_char n = nat_lt n 55296 || (not (nat_lt n 57344) && nat_lt n 1114112)

abbrev pub char_of : ℤ → Option ℕ
char_of (pos n) = if is_char n then Some n else None
char_of (negsuc n) = None
