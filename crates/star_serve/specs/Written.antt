-- The plan that a run belongs to, so that its report is that plan's.
use Rattle.std.specs.Prelude.{◌≡◌, ◌<◌, ⊤, ℕ, List, [], Bool, true, false, length, string_bytes}
use Rattle.star_label.specs.Files.{File}
use Rattle.star_plan.specs.Plan.{Plan}
use Rattle.star_plan.specs.Reading.{IsPlanOf}
use Rattle.star_outcome.specs.Kept.{AreModules, RunView}
use Rattle.star_reading.specs.Found.{IsReadOf}
use Rattle.star_reading.specs.Readings.{Row}
use Rattle.star_report.specs.Got.{lack_line}
use Rattle.star_report.specs.Output.{IsOutput, IsSaid}
use Rattle.star_report.specs.declared.got.Got.{Got}
use Rattle.star_report.specs.declared.got.Got.TheVariants.{Lack as Lacking, Lines}
use Rattle.star_report.specs.declared.wanted.Output.{Output}
use Rattle.star_serve.specs.declared.written.Written.{Written}

-- a run has the modules of a plan of files that were read so
pub record IsRunOf (files : List File) (roots : List ℕ) (row : Row) (run : RunView) (plan : Plan) : Type 0 where
  pub planned : IsPlanOf files plan
  pub roots_are : plan.roots ≡ roots
  pub read : IsReadOf files roots plan.prelude plan.mode.language row
  pub modules : AreModules plan run.kept
  pub begun : run.begun ≡ length run.kept

-- the text and the answer are the wanted output of each plan that has this run
abbrev pub IsTextOf : Output → List File → List ℕ → Row → RunView → List ℕ → Bool → Type 0
IsTextOf output files roots row run text all_ok =
    (plan : Plan) → IsRunOf files roots row run plan → IsOutput output files plan text all_ok

-- .. and the line is the one that is written beside it
abbrev pub IsLineOf : Output → List File → List ℕ → Row → RunView → Bool → List ℕ → Type 0
IsLineOf output files roots row run all_ok line =
    (plan : Plan) → IsRunOf files roots row run plan → IsSaid output files plan all_ok line

-- a root that lacks something is among the files
abbrev pub IsLackBelow : ℕ → Got → Type 0
IsLackBelow count (Lines text) = ⊤
IsLackBelow count (Lacking root why) = root < count

-- the lines of the roots are written, or else the line about the first root that lacks something
abbrev pub IsGotAs : List File → Got → List ℕ → List ℕ → Bool → Type 0
IsGotAs files (Lines lines) text said ok = (text ≡ lines.items) × (said ≡ []) × (ok ≡ true)
IsGotAs files (Lacking root why) text said ok = (text ≡ []) × (said ≡ lack_line files root why) × (ok ≡ false)

abbrev pub IsGotWritten : List File → Got → Written → Type 0
IsGotWritten files got w = IsGotAs files got w.text.items (string_bytes w.said) w.all_ok
