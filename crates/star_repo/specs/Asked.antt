-- The files of a run that is asked for by the texts of labels.
use Rattle.std.specs.Prelude.{ℕ, List, Option, Result}
use Rattle.star_label.specs.Files.{File}
use Rattle.star_label.specs.View.{text_of}
use Rattle.star_bundle.specs.declared.error.ServeError.TheVariants.{BadFile}
use Rattle.star_folder.specs.Refusal.{failed_by}
use Rattle.star_words.specs.Named.{IsMisnamed}
use Rattle.star_repo.specs.Held.{Fits, Held, Said}
use Rattle.star_repo.specs.Reach.{Words}
use Rattle.star_repo.specs.Refusal.{AreFilesBy, IsRefusedAt}
use Rattle.star_repo.specs.declared.error.RepoError.{RepoError}
use Rattle.star_repo.specs.declared.error.RepoError.TheVariants as why

-- the words of a run: its roots and its prelude
abbrev pub words_for : List (List ℕ) → Option (List ℕ) → Words
words_for roots prelude = record { roots = roots; prelude = prelude }

-- these are the files that the roots and the prelude reach in some folder that fits all that this one tells, within the
-- limits
abbrev pub AreFilesFor : Said → List (List ℕ) → Option (List ℕ) → List File → Type 0
AreFilesFor said roots prelude files = AreFilesBy said (words_for roots prelude) files

-- Why they were not read. In some such folder the file at the label is the first, by its round and its label, that does
-- not pass. Or a root, or else the prelude, is not a label.
abbrev pub IsUnread : Said → List (List ℕ) → Option (List ℕ) → RepoError → Type 0
IsUnread said roots prelude (why.File label error) =
    (held : Held) × Fits said held × IsRefusedAt held (words_for roots prelude) (text_of label) error
IsUnread said roots prelude (why.Run error) = IsMisnamed roots prelude error

-- one read failed if the answer is so, else none
abbrev pub failed_find : RepoError → ℕ
failed_find (why.File label BadFile) = 1
failed_find e = 0

abbrev pub finds_failed : {T : Type 0} → Result T RepoError → ℕ
finds_failed r = failed_by failed_find r
