-- Dictionaries whose keys differ: in the store of a run, and in those of the modules that it sees.
use Rattle.std.specs.Prelude.{◌≡◌, ℕ, List, [], ◌∷◌, Option, Some, None}
use Rattle.star_store.specs.declared.values.Value.{Value}
use Rattle.star_store.specs.declared.values.Value.TheVariants as value
use Rattle.star_store.specs.declared.values.Cell.{Cell}
use Rattle.star_store.specs.declared.values.Cell.TheVariants as cell
use Rattle.star_data.specs.Data.{cell_of, text_in}
use Rattle.star_meaning.specs.Run.{State}
use Rattle.star_meaning.specs.Program.{Setting, seen}

-- a cell that nothing changes, and that may be a key: a string, a tuple or a struct
abbrev pub IsFixed : Cell → Type 0
IsFixed (cell.Text t) = Unit {0}
IsFixed (cell.Tuple xs) = Unit {0}
IsFixed (cell.Struct fs) = Unit {0}
IsFixed _ = ⊥

abbrev pub LeadsToFixed : Option Cell → Type 0
LeadsToFixed (Some c) = IsFixed c
LeadsToFixed None = ⊥

-- a value that leads to no cell by itself, or to a string, a tuple or a struct
abbrev pub IsThere : (Value → Option Cell) → Value → Type 0
IsThere look (value.Ref h a) = LeadsToFixed (look (value.Ref h a))
IsThere look _ = Unit {0}

-- two values that are not the same string
abbrev pub Apart : (Value → Option Cell) → Value → Value → Type 0
Apart look x y = (t : List ℕ) → text_in (cell_of look x) ≡ Some t → text_in (cell_of look y) ≡ Some t → ⊥

-- a value that is none of the keys of entries
abbrev pub ApartFrom : (Value → Option Cell) → Value → List (Value × Value) → Type 0
ApartFrom look k [] = Unit {0}
ApartFrom look k (e ∷ es) = Apart look k e.0 × ApartFrom look k es

-- entries whose keys are there, no string twice
abbrev pub Differ : (Value → Option Cell) → List (Value × Value) → Type 0
Differ look [] = Unit {0}
Differ look (e ∷ es) = IsThere look e.0 × ApartFrom look e.0 es × Differ look es

-- so are the entries of each dictionary that a run sees
abbrev pub KeysDiffer : Setting → State → Type 0
KeysDiffer w s = (v : Value) (es : List (Value × Value)) → seen w s v ≡ Some (cell.Dict es) → Differ (seen w s) es
