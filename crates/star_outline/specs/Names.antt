-- Names, as lists of bytes, and sets of them in the order of their first bindings.
use Rattle.std.specs.Prelude.{ℕ, Bool, not, List, [], ◌∷◌, ◌++◌, Option, if◌then◌else◌}
use Rattle.std.specs.List.{filter, list_any, position}
use Rattle.std.specs.Str.{bytes_eq}

-- whether two names are the same
abbrev pub same_name : List ℕ → List ℕ → Bool
same_name a b = bytes_eq a b

-- names in order
abbrev pub Names : Type 0
Names = List (List ℕ)

-- whether a name is among others
abbrev pub has_name : Names → List ℕ → Bool
has_name names name = list_any (same_name name) names

-- each name once, at its first place
abbrev pub once : Names → Names
once [] = []
once (n ∷ ns) = n ∷ filter (λ m. not (same_name m n)) (once ns)

-- names with one more, after them, unless it is among them
abbrev pub with_name : Names → List ℕ → Names
with_name names n = if has_name names n then names else names ++ n ∷ []

-- the index of a name among names
abbrev pub slot_of : List ℕ → Names → Option ℕ
slot_of name names = position (same_name name) names

-- names with further names, added one after another
unfoldable pub with_names : Names → Names → Names
with_names known [] = known
with_names known (n ∷ ns) = with_names (with_name known n) ns
