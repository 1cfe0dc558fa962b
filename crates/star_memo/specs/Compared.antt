-- Which files have the same text before and after a change.
use Rattle.std.specs.Prelude.{◌≡◌, ◌<◌, ℕ, Bool, true, List, length}
use Rattle.star_label.specs.Files.{File, text_at}
use Rattle.star_memo.specs.Outcomes.{is_marked}

-- the files before and after a change
pub record ComparedView : Type 0 where
  pub before : List File
  pub files : List File

-- the row marks the numbers of the files that were there before with the same text
pub record AreSame (before files : List File) (same : List Bool) : Type 0 where
  pub texts : (n : ℕ) → is_marked same n ≡ true → text_at before n ≡ text_at files n
  pub each : (n : ℕ) → n < length before → n < length files → text_at before n ≡ text_at files n
      → is_marked same n ≡ true
