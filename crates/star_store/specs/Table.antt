-- Tables of published stores: the addresses where a store has the keys of a content.
use Rattle.std.specs.Prelude.{◌≡◌, ℕ, nat_eq, nat_lt, Bool, true, false, ◌&&◌, ◌||◌, List, [], ◌∷◌, Option, Some, None, slice_get, min}
use Rattle.std.specs.List.{list_all, list_any}
use Rattle.std.specs.Cmp.Lexicographic.{pointwise}
use Rattle.star_store.specs.declared.values.Value.{Value}
use Rattle.star_store.specs.declared.values.Value.TheVariants as value
use Rattle.star_store.specs.declared.values.Cell.{Cell}
use Rattle.star_store.specs.declared.values.Cell.TheVariants as cell
use Rattle.star_store.specs.declared.values.HeapCell.{HeapCell}
use Rattle.star_store.specs.declared.content.Atom.{Atom}
use Rattle.star_store.specs.declared.content.Atom.TheVariants as atom
use Rattle.star_store.specs.Content.{content, same_atom, same_content}
use Rattle.star_store.specs.Fields.{values_of}
use Rattle.star_store.specs.Index.{Shows, place_by}
use Rattle.star_store.specs.Key.{key_levels}

-- whether no other file made a value
abbrev pub is_home : ℕ → Value → Bool
is_home home (value.Ref h at) = nat_eq h home
is_home home _ = true

-- whether a cell is not a tuple or a struct with a value that another file made
abbrev pub is_closed_cell : ℕ → Cell → Bool
is_closed_cell home (cell.Tuple xs) = list_all (is_home home) xs
is_closed_cell home (cell.Struct fs) = list_all (is_home home) (values_of fs)
is_closed_cell home _ = true

-- whether no tuple or struct of a store has a value that another file made
abbrev pub is_closed : ℕ → List HeapCell → Bool
is_closed home cells = list_all (λ e. is_closed_cell home e.cell) cells

-- whether an address is in a row
abbrev pub has : List ℕ → ℕ → Bool
has row at = list_any (λ i. nat_eq i at) row

-- a row has the addresses of a file's keys that have a content
abbrev pub IsRow : (Value → Option Cell) → List Atom → ℕ → List ℕ → Type 0
IsRow look atoms home row =
    (at : ℕ) → has row at ≡ same_content (Some atoms) (content look key_levels (value.Ref home at))

-- it has them wherever the file's values lead to these cells
abbrev pub IsRowOf : ℕ → List HeapCell → List Atom → List ℕ → Type 0
IsRowOf home cells atoms row = (look : Value → Option Cell) → Shows look home cells → IsRow look atoms home row

-- a row, or an empty one
abbrev pub or_none : Option (List ℕ) → List ℕ
or_none (Some row) = row
or_none None = []

-- the row at a place, if there is one
abbrev pub row_at : List (List ℕ) → Option ℕ → Option (List ℕ)
row_at rows None = None
row_at rows (Some i) = slice_get rows i

-- the row of a content
abbrev pub row_by : List (List Atom) → List (List ℕ) → List Atom → List ℕ
row_by contents rows atoms = or_none (row_at rows (place_by atoms contents))

-- The rows of a table while it is made: they have a file's keys of a content, up to an address.
abbrev pub AreRowsUpTo : (Value → Option Cell) → ℕ → ℕ → List (List Atom) → List (List ℕ) → Type 0
AreRowsUpTo look home count contents rows = (atoms : List Atom) (at : ℕ) → has (row_by contents rows atoms) at
    ≡ (nat_lt at count && same_content (Some atoms) (content look key_levels (value.Ref home at)))

-- the rows of a table are right wherever a file's values lead to these cells
abbrev pub AreRows : ℕ → List HeapCell → List (List Atom) → List (List ℕ) → Type 0
AreRows home cells contents rows = (look : Value → Option Cell) → Shows look home cells → (atoms : List Atom)
    → IsRow look atoms home (row_by contents rows atoms)

-- the row of a content gets an address more
abbrev pub IsAdded : List Atom → ℕ → List (List Atom) → List (List ℕ) → List (List Atom) → List (List ℕ) → Type 0
IsAdded content at contents rows contents' rows' = (atoms : List Atom) (i : ℕ)
    → has (row_by contents' rows' atoms) i
    ≡ (has (row_by contents rows atoms) i || (nat_eq at i && pointwise same_atom atoms content))

-- the lesser of two places
abbrev pub earlier : Option ℕ → Option ℕ → Option ℕ
earlier None o = o
earlier (Some i) None = Some i
earlier (Some i) (Some j) = Some (min i j)

-- whether an index has the number of a file's value that is in a row
abbrev pub is_among : ℕ → List ℕ → List Atom → Bool
is_among home row k = list_any (λ at. pointwise same_atom (atom.Far home at ∷ []) k) row

-- whether an index has, under the number of a file's value, a key of this content
abbrev pub is_from : (Value → Option Cell) → List Atom → ℕ → List Atom → Bool
is_from look atoms home (atom.Far h at ∷ []) =
    nat_eq home h && same_content (Some atoms) (content look key_levels (value.Ref h at))
is_from look atoms home _ = false

-- the same for several files
abbrev pub is_from_any : (Value → Option Cell) → List Atom → List ℕ → List Atom → Bool
is_from_any look atoms homes k = list_any (λ home. is_from look atoms home k) homes
