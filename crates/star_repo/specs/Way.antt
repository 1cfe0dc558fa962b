-- The state of a reading: by rounds, and within a round by the order of the labels.
use Rattle.std.specs.Prelude.{◌≡◌, ◌↔◌, ◌⊎◌, ℕ, ◌<◌, List, length, Option, Some}
use Rattle.std.specs.Cmp.Lexicographic.{slice_cmp}
use Rattle.std.specs.Ordering.{nat_cmp}
use Rattle.std.specs.declared.cmp.Ordering.TheVariants.{Less}
use Rattle.star_label.specs.Files.{File, IsOrdered}
use Rattle.star_label.specs.Label.{package_of}
use Rattle.star_repo.specs.Held.{Held, Said, Tells}
use Rattle.star_repo.specs.Loading.{LoadsLabel}
use Rattle.star_repo.specs.Reach.{Words}
use Rattle.star_repo.specs.Refusal.{IsRound, Pass, ReachedIn, size_of}
use Rattle.star_words.specs.Rows.{IsIn}

-- the label comes before these
abbrev pub IsBelow : List ℕ → List (List ℕ) → Type 0
IsBelow l rest = (r : List ℕ) → IsIn r rest → slice_cmp nat_cmp l r ≡ Less

-- the result of a look-up at a label: a text, or no file
abbrev pub Answer : Type 0
Answer = List ℕ × Option (List ℕ)

abbrev pub IsLooked : List ℕ → List Answer → Type 0
IsLooked l answers = (o : Option (List ℕ)) × IsIn (l, o) answers

abbrev pub Agrees : Held → List Answer → Type 0
Agrees held answers = (l : List ℕ) (o : Option (List ℕ)) → IsIn (l, o) answers → held l ≡ o

-- a label of an earlier round
abbrev pub IsEarlier : Held → Words → ℕ → List ℕ → Type 0
IsEarlier held words d l = (e : ℕ) × (e < d) × IsRound held words e l

-- a label of this round, before those that wait, whose file is fresh if it has one
pub record IsDone (held : Held) (words : Words) (d : ℕ) (fresh : List File) (rest : List (List ℕ)) (l : List ℕ)
    (o : Option (List ℕ)) : Type 0 where
  pub round : IsRound held words d l
  pub below : IsBelow l rest
  pub is_fresh : (t : List ℕ) → o ≡ Some t → IsIn (l, t) fresh

-- In the round d these labels were looked up, and these wait. All labels of the rounds before were looked up, and of
-- this round those that do not wait. The fresh files are the files of the latter.
pub record IsAtRound (held : Held) (words : Words) (d : ℕ) (answers : List Answer) (fresh : List File)
    (rest : List (List ℕ)) : Type 0 where
  pub met : (l : List ℕ) (o : Option (List ℕ)) → IsIn (l, o) answers
      → IsEarlier held words d l ⊎ IsDone held words d fresh rest l o
  pub fresh_are : (l t : List ℕ) → IsIn (l, t) fresh → IsIn (l, Some t) answers × IsRound held words d l
  pub waiting : (l : List ℕ) → IsIn l rest → ReachedIn held words d l
  pub all_now : (l : List ℕ) → ReachedIn held words d l → IsIn l rest ⊎ IsLooked l answers
  pub all_before : (e : ℕ) (l : List ℕ) → e < d → ReachedIn held words e l → IsLooked l answers

-- The reading has come so far, in each folder that agrees with the found files. The files so far pass, and `count` and
-- `size` are their number and their bytes.
pub record IsWay (said : Said) (words : Words) (d : ℕ) (answers : List Answer) (fresh : List File)
    (rest : List (List ℕ)) (count size : ℕ) : Type 0 where
  pub fits : (l : List ℕ) (o : Option (List ℕ)) → IsIn (l, o) answers → Tells (said l) o
  pub once : (l : List ℕ) (o p : Option (List ℕ)) → IsIn (l, o) answers → IsIn (l, p) answers → o ≡ p
  pub at_round : (held : Held) → Agrees held answers → IsAtRound held words d answers fresh rest
  pub files : List File
  pub ordered : IsOrdered files
  pub are : (l t : List ℕ) → IsIn (l, t) files ↔ IsIn (l, Some t) answers
  pub passed : Pass files
  pub counted : length files ≡ count
  pub sized : size_of files ≡ size

-- the labels that the texts of these files load
abbrev pub IsLoadedBy : List File → List ℕ → Type 0
IsLoadedBy files m = (l : List ℕ) × (t : List ℕ) × IsIn (l, t) files × LoadsLabel (package_of l) t m
