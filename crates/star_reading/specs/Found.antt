-- The files that were found and read so far, and at the end all that roots reach.
use Rattle.std.specs.Prelude.{◌≡◌, ◌+◌, ◌<◌, ◌⊎◌, ℕ, Bool, true, false, List, [], ◌∷◌, ◌++◌, None, Option, length, All, IsSome, Contains, count_by, nat_eq, not, slice_index_or}
use Rattle.std.specs.List.{list_any}
use Rattle.star_dialect.specs.declared.Language.{Language}
use Rattle.star_dialect.specs.declared.Dialect.TheVariants.{Core}
use Rattle.star_label.specs.Files.{File}
use Rattle.star_scope.specs.declared.program.Prelude.{Prelude}
use Rattle.star_scope.specs.Resolve.{Outside, outside}
use Rattle.star_plan.specs.Plan.{Plan}
use Rattle.star_plan.specs.Reached.{IsReached}
use Rattle.star_plan.specs.Reading.{IsPrelude}
use Rattle.star_reading.specs.Readings.{AreReadAs, Row, loads_at, read_at, readings}
use Rattle.star_reading.specs.declared.reading.Found.{Found}

-- numbers of files
abbrev pub Within : List File → List ℕ → Type 0
Within files ns = All (λ n. n < length files) ns

-- the row has the readings of these files
abbrev pub AreRead : Row → List ℕ → Type 0
AreRead row ns = All (λ n. IsSome (read_at row n)) ns

-- a row has all roots, and all files that its files load
pub record IsClosed (row : Row) (roots : List ℕ) : Type 0 where
  pub starts : AreRead row roots
  pub loads : (n : ℕ) → All (λ l. IsSome (read_at row l.file)) (loads_at row n)

-- the read files as a plan for roots. The reached files do not depend on its mode, and depend on the prelude only
-- through the readings
abbrev pub plan_by : List ℕ → Row → Plan
plan_by roots row = record { roots = roots; prelude = None; mode = record { steps = 0; language = record { dialect = Core; recorded = [] } }; reads = readings row }

abbrev pub IsReachedBy : List ℕ → Row → ℕ → Type 0
IsReachedBy roots row n = IsReached (plan_by roots row) n

-- a file was found
abbrev pub IsMarked : List Bool → ℕ → Type 0
IsMarked marks n = slice_index_or marks n false ≡ true

-- each file is marked that is a root, and no other
abbrev pub AreMarked : List ℕ → List Bool → Type 0
AreMarked roots marks = (n : ℕ) → n < length marks → slice_index_or marks n false ≡ list_any (nat_eq n) roots

-- the number of files left: files not found yet, and files that wait to be read
abbrev pub left_of : List Bool → List ℕ → ℕ
left_of marks todo = count_by not marks + length todo

-- some of these files are found as well, and wait to be read. The number of files left stays
pub record Grew (ns : List ℕ) (marks : List Bool) (todo : List ℕ) (marks_after : List Bool) (todo_after : List ℕ) : Type
    0 where
  pub size : length marks_after ≡ length marks
  pub stay : (k : ℕ) → IsMarked marks k → IsMarked marks_after k
  pub fresh : (k : ℕ) → IsMarked marks_after k → IsMarked marks k ⊎ (Contains ns k × Contains todo_after k)
  pub waiting : (k : ℕ) → Contains todo k → Contains todo_after k
  pub found : All (IsMarked marks) todo → All (IsMarked marks_after) todo_after
  pub left : left_of marks_after todo_after ≡ left_of marks todo

-- the files found so far: the roots, and the loads of all read files. Each is reached, and is read or waits to be read
pub record AreFound (files : List File) (outside : Outside) (roots : List ℕ) (row : Row) (marks : List Bool)
    (todo : List ℕ) : Type 0 where
  pub right : AreReadAs files outside row
  pub sized : length row ≡ length files
  pub marked : length marks ≡ length files
  pub starts : All (IsMarked marks) roots
  pub loads : (n : ℕ) → All (λ l. IsMarked marks l.file) (loads_at row n)
  pub reached : (n : ℕ) → IsMarked marks n → IsReachedBy roots row n
  pub read : (n : ℕ) → IsSome (read_at row n) → IsMarked marks n
  pub done : (n : ℕ) → IsMarked marks n → IsSome (read_at row n) ⊎ Contains todo n
  pub waits : All (IsMarked marks) todo

-- this holds of the files that the code has found
abbrev pub HasFound : List File → Outside → List ℕ → Found → Type 0
HasFound files outside roots f = AreFound files outside roots f.reads.items f.marks.items f.todo.items

-- the same if one more file waits, the last
abbrev pub HasFoundWith : List File → Outside → List ℕ → Found → ℕ → Type 0
HasFoundWith files outside roots f n = AreFound files outside roots f.reads.items f.marks.items (f.todo.items ++ n ∷ [])

-- the row has the readings of all files that the roots reach, and of no others
pub record IsRowOf (files : List File) (outside : Outside) (roots : List ℕ) (row : Row) : Type 0 where
  pub right : AreReadAs files outside row
  pub sized : length row ≡ length files
  pub closed : IsClosed row roots
  pub reached : (n : ℕ) → IsSome (read_at row n) → IsReachedBy roots row n

-- whatever is there for a file, by its number, is its reading: the prelude is this file
abbrev pub AreKnown : List File → Option ℕ → Language → Row → Type 0
AreKnown files prelude d row =
    (block : Option Prelude) → IsPrelude files prelude block → AreReadAs files (outside block d) row

-- the row is right for the files that see this prelude, and for the prelude itself, in a language
abbrev pub IsReadOf : List File → List ℕ → Option ℕ → Language → Row → Type 0
IsReadOf files roots prelude d row =
    (block : Option Prelude) × IsPrelude files prelude block × IsRowOf files (outside block d) roots row
