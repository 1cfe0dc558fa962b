-- The answer of the program for files that roots reach in a folder.
use Rattle.std.specs.Prelude.{◌≡◌, ℕ, List, Bool, false, Option, Result, Ok, Err}
use Rattle.star_label.specs.Files.{File}
use Rattle.star_bundle.specs.Bundle.{Asked, asked_among}
use Rattle.star_bundle.specs.declared.error.ServeError.{ServeError}
use Rattle.star_bundle.specs.declared.error.ServeError.TheVariants.{BadPrelude, BadRecord, BadRoot, Memory, NoPrelude, NoRoot, Unpublished, Write}
use Rattle.star_words.specs.Named.{AreLabels, IsMisnamed}
use Rattle.star_serve.specs.Serve.{AsksAmong, prelude_word, root_words}
use Rattle.star_serve.specs.declared.serve.Options.{Options}
use Rattle.star_repo.specs.Asked.{AreFilesFor, IsUnread}
use Rattle.star_repo.specs.Held.{Said}
use Rattle.star_repo.specs.declared.error.RepoError.{RepoError}
use Rattle.star_repo.specs.declared.error.RepoError.TheVariants as why

-- the input that is asked for among such files, or its refusal, is this
abbrev pub AsksOf : Said → List (List ℕ) → Option (List ℕ) → Result Asked ServeError → Type 0
AsksOf said roots prelude given =
    (files : List File) × AreFilesFor said roots prelude files × (asked_among roots prelude files ≡ given)

-- .. by the words of the options
abbrev pub AsksForRepo : Said → Options → Result Asked ServeError → Type 0
AsksForRepo said options given =
    (files : List File) × AreFilesFor said (root_words options) (prelude_word options) files
    × AsksAmong files options given

-- a refusal before anything is read: of a word, or else of the names whose calls are to be recorded
abbrev pub IsUnrecorded : List (List ℕ) → Option (List ℕ) → ServeError → Type 0
IsUnrecorded roots prelude BadRecord = AreLabels roots prelude
IsUnrecorded roots prelude e = IsMisnamed roots prelude e

-- A refusal that is not about one file: first of the words, then of the names whose calls are to be recorded, then of
-- the input that is asked for, then of the run. `recorded` says whether these names may have that.
abbrev pub IsRefusedAll : Said → List (List ℕ) → Option (List ℕ) → Bool → Type 0 → ServeError → Type 0
IsRefusedAll said roots prelude recorded unwritten BadRoot = IsMisnamed roots prelude BadRoot × unwritten
IsRefusedAll said roots prelude recorded unwritten BadPrelude = IsMisnamed roots prelude BadPrelude × unwritten
IsRefusedAll said roots prelude recorded unwritten BadRecord = AreLabels roots prelude × (recorded ≡ false) × unwritten
IsRefusedAll said roots prelude recorded unwritten NoRoot = AsksOf said roots prelude (Err NoRoot) × unwritten
IsRefusedAll said roots prelude recorded unwritten NoPrelude = AsksOf said roots prelude (Err NoPrelude) × unwritten
IsRefusedAll said roots prelude recorded unwritten Memory = unwritten
IsRefusedAll said roots prelude recorded unwritten Unpublished =
    ((asked : Asked) × AsksOf said roots prelude (Ok asked)) × unwritten
IsRefusedAll said roots prelude recorded unwritten Write = (asked : Asked) × AsksOf said roots prelude (Ok asked)
IsRefusedAll said roots prelude recorded unwritten e = ⊥

-- A refusal of the input that is asked for, or of its run.
abbrev pub IsRefusedOf : Result Asked ServeError → Type 0 → ServeError → Type 0
IsRefusedOf given unwritten BadRoot = (given ≡ Err BadRoot) × unwritten
IsRefusedOf given unwritten BadPrelude = (given ≡ Err BadPrelude) × unwritten
IsRefusedOf given unwritten NoRoot = (given ≡ Err NoRoot) × unwritten
IsRefusedOf given unwritten NoPrelude = (given ≡ Err NoPrelude) × unwritten
IsRefusedOf given unwritten Memory = unwritten
IsRefusedOf given unwritten Unpublished = ((asked : Asked) × (given ≡ Ok asked)) × unwritten
IsRefusedOf given unwritten Write = (asked : Asked) × (given ≡ Ok asked)
IsRefusedOf given unwritten e = ⊥

-- The meaning of a refusal. If it is about the file at a label, this file is the first, by its round and its label,
-- that does not pass.
abbrev pub IsRefusedRepo : Said → List (List ℕ) → Option (List ℕ) → Bool → Type 0 → RepoError → Type 0
IsRefusedRepo said roots prelude recorded unwritten (why.File label error) =
    IsUnread said roots prelude (why.File label error) × unwritten
IsRefusedRepo said roots prelude recorded unwritten (why.Run error) =
    IsRefusedAll said roots prelude recorded unwritten error

-- one write failed if the answer is so, else none
abbrev pub failed_write : RepoError → ℕ
failed_write (why.Run Write) = 1
failed_write e = 0

abbrev pub repo_writes_failed : {T : Type 0} → Result T RepoError → ℕ
repo_writes_failed (Ok x) = 0
repo_writes_failed (Err e) = failed_write e
