-- Read files of the code, as the definitions have them.
use Rattle.std.specs.Prelude.{◌≡◌, ◌<◌, ℕ, All, List, map, length, Option, Some, None, Ok, slice_get, slice_index_or}
use Rattle.std.specs.Option.{option_map, option_flatten}
use Rattle.star_label.specs.Files.{File, text_at}
use Rattle.star_tree.specs.declared.tree.Tree.{Tree}
use Rattle.star_parser.specs.Sources.{Parses}
use Rattle.star_scope.specs.declared.loads.Load.{Load}
use Rattle.star_scope.specs.Resolve.{Outside, Resolves}
use Rattle.star_meaning.specs.Programs.{Files, IsOfFile, PlacedFile, placed_file}
use Rattle.star_plan.specs.Plan.{Plan, Reading, Sound, Faulty, loads_in}
use Rattle.star_plan.specs.Reading.{IsRead}
use Rattle.star_reading.specs.Codes.{fault_of}
use Rattle.star_reading.specs.declared.reading.Read.{Read}
use Rattle.star_reading.specs.declared.reading.Read.TheVariants as read

-- a row of read files, by number
abbrev pub Row : Type 0
Row = List (Option Read)

abbrev pub reading_of : Read → Reading
reading_of (read.Program p) = Sound p.statements.now p.loads.items
reading_of (read.Fault f) = Faulty (fault_of f)

-- the readings of a row
abbrev pub readings : Row → List (Option Reading)
readings row = map (option_map reading_of) row

abbrev pub read_at : Row → ℕ → Option Read
read_at row n = option_flatten (slice_get row n)

-- the loads of a file in a row
abbrev pub loads_at : Row → ℕ → List Load
loads_at row n = loads_in (option_map reading_of (read_at row n))

-- the loads of all read files lead to places of the row
abbrev pub LeadWithin : Row → Type 0
LeadWithin row = (n : ℕ) → All (λ l. l.file < length row) (loads_at row n)

-- this holds in each plan that has these readings
abbrev pub InReadPlans : Row → (Plan → Type 0) → Type 0
InReadPlans row P = (plan : Plan) → readings row ≡ plan.reads → P plan

-- the loads of a read file; none if it has a static fault
abbrev pub loads_read : Read → List Load
loads_read r = loads_in (Some (reading_of r))

-- the program of a file, placed
abbrev pub placed_in : Option Read → Option PlacedFile
placed_in None = None
placed_in (Some (read.Program p)) = Some (placed_file p)
placed_in (Some (read.Fault f)) = None

abbrev pub table_of : Row → Files
table_of row = map placed_in row

-- this is read of the file n: its program, by its text and what is outside of it, or its static fault
abbrev pub IsReadAs : List File → Outside → ℕ → Read → Type 0
IsReadAs files outside n (read.Program p) =
    (tree : Tree) × Parses (text_at files n) (Ok tree) × (p.statements.now ≡ tree.statements)
    × Resolves files n outside tree.statements (Ok p)
IsReadAs files outside n (read.Fault f) = IsRead files outside n (Faulty (fault_of f))

-- an entry of a row is empty, or the reading of the file
abbrev pub IsPlaceOf : List File → Outside → ℕ → Option Read → Type 0
IsPlaceOf files outside n None = Unit {0}
IsPlaceOf files outside n (Some r) = IsReadAs files outside n r

-- each entry of a row is empty or the reading of its file
abbrev pub AreReadAs : List File → Outside → Row → Type 0
AreReadAs files outside row =
    (n : ℕ) (d : Option Read) → n < length row → IsPlaceOf files outside n (slice_index_or row n d)

-- each of these is the reading of the file with its number
abbrev pub AreAllReadAs : List File → Outside → List (ℕ × Read) → Type 0
AreAllReadAs files outside reads = All (λ p. IsReadAs files outside p.0 p.1) reads

-- a program among the read files is the program of some file
abbrev pub IsPlaceable : Option Read → Type 0
IsPlaceable None = Unit {0}
IsPlaceable (Some (read.Program p)) = IsOfFile p
IsPlaceable (Some (read.Fault f)) = Unit {0}
