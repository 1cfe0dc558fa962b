-- The end of a file's run, and the premises of its meaning by names.
use Rattle.std.specs.Prelude.{◌≡◌, ℕ, List}
use Rattle.star_store.specs.Store.{put_up}
use Rattle.star_tree.specs.declared.tree.Statement.{Statement}
use Rattle.star_meaning.specs.Module.{Ended, Local, Good, Stopped, most_levels, run_file, start}
use Rattle.star_meaning.specs.Places.{AllFit}
use Rattle.star_meaning.specs.Program.{Setting}
use Rattle.star_meaning.specs.Programs.{ArePrograms, trees_of}
use Rattle.star_meaning.specs.Run as run
use Rattle.star_meaning.specs.Variables.{by_names}
use Rattle.star_world.specs.World.{World, variables}
use Rattle.star_module.specs.declared.module.Ended.{Ended as HeldEnded}
use Rattle.star_module.specs.declared.module.Outcome.{Outcome}
use Rattle.star_module.specs.declared.module.Outcome.TheVariants as outcome
use Rattle.star_module.specs.Globals.{owned}

-- the run of a file with this many steps, with variables by spots, and by names
abbrev pub run_by_places : World → ℕ → List Statement → run.Outcome Ended
run_by_places w steps ss = run_file (variables w) w.setting most_levels ss (start w.setting steps)

abbrev pub run_by_names : Setting → ℕ → List Statement → run.Outcome Ended
run_by_names w steps ss = run_file (by_names w) w most_levels ss (start w steps)

-- a module at its end
abbrev pub shown : HeldEnded → Ended
shown e = record { globals = owned e.globals.items; texts = owned e.texts.items }

-- an outcome is the outcome of a run: the cells, globals, texts and lines of a run that came to its end, and the steps
-- that are left; or the fault with the lines printed before it
abbrev pub IsOutcome : run.Outcome Ended → Outcome → Type 0
IsOutcome (run.Done e s) (outcome.Good frozen texts lines left) =
    (frozen ≡ record { cells = s.store.cells; globals = e.globals }) × (owned texts.items ≡ e.texts)
    × (lines.items ≡ s.lines) × (left ≡ s.steps)
IsOutcome (run.Done e s) (outcome.Fault code line lines remains) = ⊥
IsOutcome (run.Failed f printed) (outcome.Good frozen texts lines left) = ⊥
IsOutcome (run.Failed f printed) (outcome.Fault code line lines remains) =
    (f ≡ record { code = code; line = line }) × (lines.items ≡ printed)

-- an outcome as the local meaning of a file
abbrev pub semantics : Setting → Outcome → Local
semantics w (outcome.Good frozen texts lines left) =
    Good (put_up w.home frozen w.shelf) frozen.globals (owned texts.items) lines.items
semantics w (outcome.Fault code line lines remains) = Stopped (record { code = code; line = line }) lines.items

-- a file is ready to run: each file that has statements has the program that `resolve` answers for it, and each
-- function of a published module is one of its file's definitions, in frames that fit the blocks around it
pub record AreReady (w : World) (steps : ℕ) : Type 0 where
  pub programs : ArePrograms w.files w.setting.prelude w.setting.language
  pub functions : AllFit (trees_of w.files) w.setting (start w.setting steps)
