-- The one refusal of a run's files, in an order that the folder alone fixes: by round, then by label.
use Rattle.std.specs.Prelude.{◌≡◌, ◌↔◌, ◌⊎◌, ⊤, ℕ, zero, suc, ◌+◌, ◌<◌, ◌≤◌, All, List, length, sum_by, Some, Contains}
use Rattle.std.specs.Cmp.Lexicographic.{slice_cmp}
use Rattle.std.specs.Ordering.{nat_cmp}
use Rattle.std.specs.declared.cmp.Ordering.TheVariants.{Less}
use Rattle.std.specs.Str.{IsUtf8}
use Rattle.star_label.specs.Files.{File, IsOrdered}
use Rattle.star_label.specs.Label.{package_of}
use Rattle.star_bundle.specs.declared.error.ServeError.{ServeError}
use Rattle.star_bundle.specs.declared.error.ServeError.TheVariants.{BadFile, NotText, TooMany, TooLong, TooBig}
use Rattle.star_repo.specs.Held.{Fits, Held, Said}
use Rattle.star_repo.specs.Loading.{LoadsLabel}
use Rattle.star_repo.specs.Reach.{AreReachedFiles, Words}

-- a label is reached after this many loads
abbrev pub ReachedIn : Held → Words → ℕ → List ℕ → Type 0
ReachedIn held words zero l = Contains words.roots l ⊎ (words.prelude ≡ Some l)
ReachedIn held words (suc d) m =
    (l : List ℕ) × (text : List ℕ) × ReachedIn held words d l × (held l ≡ Some text) × LoadsLabel (package_of l) text m

-- its round: the fewest loads that reach it
pub record IsRound (held : Held) (words : Words) (d : ℕ) (l : List ℕ) : Type 0 where
  pub reached : ReachedIn held words d l
  pub fewest : (e : ℕ) → ReachedIn held words e l → d ≤ e

-- an earlier round, or the same and before it in the order of labels
abbrev pub ComesFirst : ℕ → List ℕ → ℕ → List ℕ → Type 0
ComesFirst e m d l = (e < d) ⊎ ((e ≡ d) × (slice_cmp nat_cmp m l ≡ Less))

-- the files that come before a label of this round
pub record AreBefore (held : Held) (words : Words) (d : ℕ) (l : List ℕ) (files : List File) : Type 0 where
  pub ordered : IsOrdered files
  pub are : (m text : List ℕ) → Contains files (m, text)
      ↔ ((e : ℕ) × IsRound held words e m × ComesFirst e m d l × (held m ≡ Some text))

abbrev pub size_of : List File → ℕ
size_of files = sum_by (λ f. length f.1) files

-- files that are texts within the limits
pub record Pass (files : List File) : Type 0 where
  pub texts : All (λ f. (length f.1 ≤ 1048576) × IsUtf8 f.1) files
  pub few : length files ≤ 10000
  pub small : size_of files ≤ 268435456

-- the files that these words reach in some folder that fits all that this one tells, within the limits
abbrev pub AreFilesBy : Said → Words → List File → Type 0
AreFilesBy said words files = (held : Held) × Fits said held × AreReachedFiles held words files × Pass files

-- A file with these bytes is refused after this many files and bytes. A read that failed says nothing about them.
abbrev pub Refuses : ℕ → ℕ → List ℕ → ServeError → Type 0
Refuses count size bytes TooMany = count ≡ 10000
Refuses count size bytes BadFile = ⊤
Refuses count size bytes TooLong = (count < 10000) × (1048576 < length bytes)
Refuses count size bytes NotText = (count < 10000) × (length bytes ≤ 1048576) × ¬ (IsUtf8 bytes)
Refuses count size bytes TooBig =
    (count < 10000) × (length bytes ≤ 1048576) × IsUtf8 bytes × (268435456 < size + length bytes)
Refuses count size bytes e = ⊥

-- A file with these bytes is at the label. If its read failed, nothing is known of it.
abbrev pub Stands : Held → List ℕ → List ℕ → ServeError → Type 0
Stands held l bytes BadFile = ⊤
Stands held l bytes e = held l ≡ Some bytes

-- the files of a run are refused so: at the first label, by its round and its bytes, whose file does not pass after
-- those before it
pub record IsRefusedAt (held : Held) (words : Words) (l : List ℕ) (e : ServeError) : Type 0 where
  pub rounds : ℕ
  pub bytes : List ℕ
  pub front : List File
  pub round : IsRound held words rounds l
  pub there : Stands held l bytes e
  pub before : AreBefore held words rounds l front
  pub passed : Pass front
  pub refused : Refuses (length front) (size_of front) bytes e
