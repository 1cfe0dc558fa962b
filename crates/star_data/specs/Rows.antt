-- Rows of names with values, in byte order of the names.
use Rattle.std.specs.Prelude.{◌≡◌, ℕ, List, [], ◌∷◌, Option, Some, None, map}
use Rattle.std.specs.Option.{option_map}
use Rattle.std.specs.Ordering.{match_ordering, nat_cmp}
use Rattle.std.specs.Cmp.Lexicographic.{slice_cmp}
use denote.Ref.{Bor}
use Rattle.serde_json.specs.Data.{Data}
use Rattle.star_store.specs.declared.values.Value.{Value}
use Rattle.star_store.specs.declared.values.Cell.{Cell}
use Rattle.star_data.specs.Data.{entries_data}
use Rattle.star_data.specs.Paths.{AllStandInEach}
use Rattle.star_data.specs.Texts.{row_data}

-- a new name with its value at its place: none if the name is there already
abbrev pub put_new : List (Bor (List ℕ) × Value) → Bor (List ℕ) → Value → Option (List (Bor (List ℕ) × Value))
put_new [] k v = Some ((k, v) ∷ [])
put_new (e ∷ es) k v =
    match_ordering (slice_cmp nat_cmp k.now e.0.now) (Some ((k, v) ∷ e ∷ es)) None
    (option_map (λ row. e ∷ row) (put_new es k v))

-- the row has the data of the entries, whatever values are data, and its values are theirs
pub record IsRowOf (look : Value → Option Cell) (es : List (Value × Value)) (row : List (Bor (List ℕ) × Value)) : Type 0 where
  pub data_as : (f : Value → Option Data) → entries_data look f es ≡ row_data f row
  pub stand : (path : List Value) → AllStandInEach look path (map (λ e. e.1) es)
      → AllStandInEach look path (map (λ e. e.1) row)
