-- The programs of files, as a run gets them, and the law that their tables are right.
use Rattle.std.specs.Prelude.{◌≡◌, ℕ, List, [], ◌∷◌, map, length, Option, Some, None, slice_get}
use Rattle.std.specs.Option.{option_map, option_flatten}
use denote.Ref.{Bor}
use Rattle.star_dialect.specs.declared.Language.{Language}
use Rattle.star_tree.specs.declared.tree.Statement.{Statement}
use Rattle.star_scope.specs.declared.loads.Load.{Load}
use Rattle.star_scope.specs.declared.program.Prelude.{Prelude}
use Rattle.star_scope.specs.declared.program.Program.{Program}
use Rattle.star_scope.specs.declared.spot.Spot.{Spot}
use Rattle.star_scope.specs.Loads.{Read}
use Rattle.star_outline.specs.Outlines.{Outline, names_in, outline}
use Rattle.star_scope.specs.Places.{Spots}
use Rattle.star_scope.specs.Resolve.{IsProgram, Outside, prelude_names}
use Rattle.star_scope.specs.Spots.{spot_at}
use Rattle.star_meaning.specs.Program.{Setting}
use Rattle.star_meaning.specs.Local.{Trees, outlines}
use Rattle.star_meaning.specs.Places.{IsResolved, Stands, Tables}

-- the statements of a file, with the spots of their names, by token
pub record PlacedFile : Type 0 where
  pub statements : List Statement
  pub spots : List (Option Spot)

-- a program is the program of some file: the answer of `resolve` for it
abbrev pub IsOfFile : Program → Type 0
IsOfFile p =
    (file : ℕ) × (outside : Outside) × (ss : List Statement) × (reads : List Read)
    × IsProgram file outside ss reads p

-- files by their numbers: nothing for one that has no program, since its text does not parse or has a static fault
abbrev pub Files : Type 0
Files = List (Option PlacedFile)

abbrev pub placed_file : Program → PlacedFile
placed_file p = record { statements = p.statements.now; spots = p.spots }

-- the row of a run's programs; each is the program of some file
abbrev pub placed_files : List (Option (Bor Program)) → Files
placed_files programs = map (option_map (λ p. placed_file p.now)) programs

abbrev pub AllOfFiles : List (Option (Bor Program)) → Type 0
AllOfFiles [] = Unit {0}
AllOfFiles (None ∷ ps) = AllOfFiles ps
AllOfFiles (Some p ∷ ps) = IsOfFile p.now × AllOfFiles ps

-- the files of load statements, by their first tokens
abbrev pub with_load : Option ℕ → ℕ → List (ℕ × ℕ) → List (ℕ × ℕ)
with_load None file more = more
with_load (Some token) file more = (token, file) ∷ more

abbrev pub load_files : List Load → List (ℕ × ℕ)
load_files [] = []
load_files (l ∷ ls) = with_load l.token l.file (load_files ls)

abbrev pub file_in : Files → ℕ → Option PlacedFile
file_in files file = option_flatten (slice_get files file)

abbrev pub trees_of : Files → Trees
trees_of files = map (option_map (λ f. f.statements)) files

-- the outline of a file
abbrev pub outline_at : Files → ℕ → Option Outline
outline_at files file = option_map (λ f. outline f.statements) (file_in files file)

-- the outlines of all files; none if a run has no programs
abbrev pub outlines_in : Option (Bor Files) → List (Option Outline)
outlines_in None = []
outlines_in (Some files) = outlines (trees_of files.now)

-- the spot of the name at a token
abbrev pub spots_in : Option PlacedFile → Spots
spots_in None token = None
spots_in (Some f) token = spot_at f.spots token

-- as many slots as the block with a number has names
abbrev pub slots_in : Option PlacedFile → ℕ → ℕ
slots_in None number = 0
slots_in (Some f) number = length (names_in (outline f.statements).blocks number)

-- the tables that programs give
abbrev pub tables_of : Files → Tables
tables_of files =
    record { spots = λ file. spots_in (file_in files file); slots = λ file. slots_in (file_in files file) }

-- the prelude, with the names that the block of its file binds
abbrev pub prelude_in : Files → Option ℕ → Option Prelude
prelude_in files prelude =
    option_map (λ n. record { file = n; names = prelude_names (option_flatten (slice_get (trees_of files) n)) }) prelude

-- each file has its program: the answer of `resolve` for the file with this number, which sees this prelude or is it,
-- in a language
abbrev pub ArePrograms : Files → Option ℕ → Language → Type 0
ArePrograms files prelude d = (file : ℕ) (f : PlacedFile) → file_in files file ≡ Some f
    → (reads : List Read) × (p : Program) × (placed_file p ≡ f)
    × IsProgram file (record { prelude = prelude_in files prelude; language = d }) f.statements reads p

-- The law: the tables that the programs of files give are right for each of these files.
abbrev pub ProgramsPlaceNames : Type 0
ProgramsPlaceNames = (files : Files) (w : Setting)
    → w.outlines ≡ outlines (trees_of files)
    → ArePrograms files w.prelude w.language
    → (file : ℕ) (ss : List Statement) → Stands (trees_of files) file ss → IsResolved (tables_of files) w file ss
