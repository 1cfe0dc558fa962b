-- The fields of a struct: names with values, in byte order of the names.
use Rattle.std.specs.Prelude.{ℕ, nat_eq, Bool, true, ◌&&◌, List, [], ◌∷◌, map, Option, Some, None, if◌then◌else◌}
use Rattle.std.specs.Cmp.Lexicographic.{pointwise, slice_cmp}
use Rattle.std.specs.Ordering.{is_lt, nat_cmp}
use Rattle.star_store.specs.declared.values.Value.{Value}

abbrev pub Fields : Type 0
Fields = List (List ℕ × Value)

abbrev pub names_of : Fields → List (List ℕ)
names_of fs = map (λ f. f.0) fs

abbrev pub values_of : Fields → List Value
values_of fs = map (λ f. f.1) fs

-- whether a name is below the first of others, by their bytes
abbrev pub below_next : List ℕ → List (List ℕ) → Bool
below_next n [] = true
below_next n (m ∷ ms) = is_lt (slice_cmp nat_cmp n m)

-- whether each name is below the next one
abbrev pub rises : List (List ℕ) → Bool
rises [] = true
rises (n ∷ ns) = below_next n ns && rises ns

-- these fields, if their names rise
abbrev pub risen : Fields → Option Fields
risen fs = if rises (names_of fs) then Some fs else None

-- whether a field comes before another, by the bytes of their names
abbrev pub is_before : List ℕ × Value → List ℕ × Value → Bool
is_before e f = is_lt (slice_cmp nat_cmp e.0 f.0)

-- whether two rows of names are the same
abbrev pub same_names : List (List ℕ) → List (List ℕ) → Bool
same_names ns ms = pointwise (pointwise nat_eq) ns ms
