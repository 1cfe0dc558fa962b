-- Laws of the files that roots reach.
use Rattle.std.specs.Prelude.{◌≡◌, ◌≢◌, ◌↔◌, ℕ, Bool, true, List, Option, Some, Contains}
use Rattle.star_label.specs.Files.{File, IsOrdered}
use Rattle.star_label.specs.Label.{package_of}
use Rattle.star_repo.specs.Held.{Fits, Held, Said}
use Rattle.star_repo.specs.Loading.{LoadsLabel}
use Rattle.star_repo.specs.Reach.{AreReachedFiles, IsReachedOf, Words}
use Rattle.star_bundle.specs.declared.error.ServeError.{ServeError}
use Rattle.star_bundle.specs.declared.error.ServeError.TheVariants.{BadFile}
use Rattle.star_repo.specs.Refusal.{IsRefusedAt, Pass, ReachedIn}

-- the reached labels are in each set that has the roots, the prelude and all that its members load
abbrev pub ReachedIsLeast : Type 0
ReachedIsLeast =
    (held : Held) (words : Words) (is_in : List ℕ → Bool)
    → ((l : List ℕ) → Contains words.roots l → is_in l ≡ true)
    → ((l : List ℕ) → words.prelude ≡ Some l → is_in l ≡ true)
    → ((l m text : List ℕ) → is_in l ≡ true → held l ≡ Some text → LoadsLabel (package_of l) text m → is_in m ≡ true)
    → (l : List ℕ) → IsReachedOf held words l → is_in l ≡ true

-- a label is reached exactly if it is so after some number of loads
abbrev pub ReachedByRounds : Type 0
ReachedByRounds =
    (held : Held) (words : Words) (l : List ℕ) → IsReachedOf held words l ↔ ((d : ℕ) × ReachedIn held words d l)

-- there is at most one map of the files of a run
abbrev pub OneMap : Type 0
OneMap =
    (held : Held) (words : Words) (files others : List File) → AreReachedFiles held words files
    → AreReachedFiles held words others → files ≡ others

-- files at labels that are not reached change nothing
abbrev pub OthersChangeNothing : Type 0
OthersChangeNothing =
    (held other : Held) (words : Words) → ((l : List ℕ) → IsReachedOf held words l → held l ≡ other l)
    → (files : List File) → AreReachedFiles held words files → AreReachedFiles other words files

-- a folder that tells the file at each label has at most one map of the files of a run
abbrev pub OneMapOfSaid : Type 0
OneMapOfSaid =
    (said : Said) → ((l : List ℕ) → (found : Option (List ℕ)) × (said l ≡ Some found))
    → (held other : Held) → Fits said held → Fits said other → (words : Words) (files others : List File)
    → AreReachedFiles held words files → AreReachedFiles other words others → files ≡ others

-- these are all files of a folder
pub record AreAllFiles (held : Held) (files : List File) : Type 0 where
  pub ordered : IsOrdered files
  pub are : (l text : List ℕ) → Contains files (l, text) ↔ (held l ≡ Some text)

-- at the reached labels, the map of a run has exactly the files of the map of the whole folder
abbrev pub SameWhereReached : Type 0
SameWhereReached =
    (held : Held) (words : Words) (whole part : List File) → AreAllFiles held whole → AreReachedFiles held words part
    → (l text : List ℕ) → IsReachedOf held words l → Contains whole (l, text) ↔ Contains part (l, text)

-- the files of a run are refused in one way: at one label and with one error, unless a read fails
abbrev pub OneRefusal : Type 0
OneRefusal =
    (held : Held) (words : Words) (l m : List ℕ) (e f : ServeError) → IsRefusedAt held words l e
    → IsRefusedAt held words m f → e ≢ BadFile → f ≢ BadFile → (l ≡ m) × (e ≡ f)

-- files that all pass are not refused, unless a read fails
abbrev pub RefusedOrNot : Type 0
RefusedOrNot =
    (held : Held) (words : Words) (files : List File) → AreReachedFiles held words files → Pass files
    → (l : List ℕ) (e : ServeError) → IsRefusedAt held words l e → e ≢ BadFile → ⊥
