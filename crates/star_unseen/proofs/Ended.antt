-- The runs of whole files from their beginning.
use Rattle.std.proofs.Common.{ℕ, List, refl}
use Rattle.star_tree.specs.declared.tree.Statement.{Statement}
use Rattle.star_meaning.specs.Run.{Done, Failed, Outcome}
use Rattle.star_meaning.specs.Program.{Setting}
use Rattle.star_meaning.specs.Variables.{by_names}
use Rattle.star_meaning.specs.Module.{Ended, most_levels, run_file, start}
use Rattle.star_unseen.specs.Veil.{Hides, StateIsVisible}
use Rattle.star_unseen.specs.Shelves.{Veil}
use Rattle.star_unseen.specs.Laws.{FilesRunTheSame, EndIsVisible, FilesWithoutLoadsRunTheSame, RunsTheSame}
use Rattle.star_unseen.proofs.Alike.{Ends}
use Rattle.star_unseen.proofs.Runs.{EndedIsVisible, RunsAlike, own_alike, prelude_alike}

begins_visible : (hides : Hides) (w : Setting) (steps : ℕ) → StateIsVisible hides w.home (start w steps)
begins_visible hides w steps = record { home_is = refl; cells = tt }

leaves : (hides : Hides) (home : ℕ) (o : Outcome Ended) → Ends hides home (EndedIsVisible hides) o → EndIsVisible hides home o
leaves hides home (Done e t) h = h
leaves hides home (Failed f lines) h = tt

runs : (w : Setting) (k : Veil w) (steps : ℕ) (ss : List Statement) → RunsAlike k most_levels ss → RunsTheSame w k steps ss
runs w k steps ss h =
    let r = h.holds (start w steps) (begins_visible k.hides w steps) in
    (r.0, leaves k.hides w.home (run_file (by_names w) w most_levels ss (start w steps)) r.1)

pub files_run_the_same : FilesRunTheSame
files_run_the_same w k steps ss h r = runs w k steps ss (own_alike k most_levels ss h r)

pub files_without_loads_run_the_same : FilesWithoutLoadsRunTheSame
files_without_loads_run_the_same w k steps ss h = runs w k steps ss (prelude_alike k most_levels ss h)
