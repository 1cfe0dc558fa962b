-- Pages that are written one after another.
use Rattle.std.proofs.Common.{◌≡◌, ◌<◌, ◌≤◌, ℕ, List, length}
use Rattle.std.specs.Prelude.{slice_index_or}
use Rattle.star_label.specs.Files.{File}
use Rattle.star_cause.specs.Ways.{Nexts}
use Rattle.star_report.specs.Pages.{IsWritten}
use Rattle.star_report.specs.declared.pages.Page.{Page}
use Rattle.star_report.specs.declared.wanted.Wanted.{Wanted}

-- the first pages were written, and the others are as they were
pub record AreSoFar (wanted : Wanted) (files : List File) (nexts : Nexts) (old : List Page) (i : ℕ) (new : List Page) : Type 0 where
  pub size : length new ≡ length old
  pub written : (k : ℕ) (d : Page) → k < i → IsWritten wanted files nexts (slice_index_or old k d) (slice_index_or new k d)
  pub left : (k : ℕ) (d : Page) → i ≤ k → slice_index_or new k d ≡ slice_index_or old k d
