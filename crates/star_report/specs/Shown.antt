-- Modules of the code, as the report shows them.
use Rattle.std.specs.Arc.{arc_value}
use Rattle.std.specs.Prelude.{◌≡◌, ℕ, Bool, List, length, map, codes}
use Rattle.std.specs.List.{All}
use Rattle.serde_json.specs.Data.{Data, string}
use Rattle.star_label.specs.Files.{File, label_at}
use Rattle.star_meaning.specs.declared.said.RecordedCall.{RecordedCall}
use Rattle.star_plan.specs.Causes.{Cause}
use Rattle.star_plan.specs.Plan.{Plan}
use Rattle.star_plan.specs.Reading.{IsPlanOf}
use Rattle.star_plan.specs.Report.{IsEnded, IsReport}
use Rattle.star_plan.specs.Text.{code_word, ill_data, lines_in, load_data, static_data, well_data}
use Rattle.star_cause.specs.Causes.{IsCauseBy}
use Rattle.star_cause.specs.Ways.{Nexts}
use Rattle.star_reading.specs.Codes.{fault_of}
use Rattle.star_reading.specs.Found.{IsReadOf}
use Rattle.star_reading.specs.Readings.{Row}
use Rattle.star_outcome.specs.Kept.{AreModules, KeptView, RunView}
use Rattle.star_report.specs.Calls.{calls_by}
use Rattle.star_report.specs.Wanted.{AreMore, Full, full_data, is_shown, whole_text}
use Rattle.star_report.specs.declared.wanted.Wanted.{Wanted}
use Rattle.star_outcome.specs.declared.module.Ended.{Ended}
use Rattle.star_outcome.specs.declared.module.Ended.TheVariants.{Static, Load as Unloaded, Stopped, Good}

-- data show a file that fails by a load at this line, with the cause of that
abbrev pub IsLoadShown : List File → Nexts → ℕ → ℕ → Data → Type 0
IsLoadShown files nexts n line d =
    (cause : Cause) × IsCauseBy nexts n cause × (d ≡ load_data files (label_at files n) cause line)

-- data show how the module of a file ended
abbrev pub IsShown : List File → Nexts → ℕ → Ended → Data → Type 0
IsShown files nexts n (Static f) d =
    d ≡ static_data (label_at files n) (fault_of f)
IsShown files nexts n (Unloaded index line) d = IsLoadShown files nexts n line d
IsShown files nexts n (Stopped code line lines trail) d =
    d ≡ ill_data (codes "fault") (string (code_word code)) (label_at files n) line (lines_in lines.items) (codes "fault")
IsShown files nexts n (Good body) d =
    d ≡ well_data (label_at files n) (arc_value (arc_value body).shown) (lines_in (arc_value body).lines.items)

-- these data are modules of a plan of these files: those of the files of these notes, in their order, each as it ended,
-- with its further members. `shown` has for each whether it is shown, and `calls` the calls that it recorded
pub record AreShown (wanted : Wanted) (files : List File) (plan : Plan) (ks : List KeptView) (ds : List Data)
    (shown : List Bool) (calls : List (List RecordedCall)) : Type 0 where
  pub fulls : List Full
  pub numbers : map (λ f. f.shown.file) fulls ≡ map (λ k. k.number) ks
  pub each_ended : All (λ f. IsEnded plan f.shown.file f.shown.ended) fulls
  pub more : All (λ f. AreMore wanted files plan f.shown.file f.more) fulls
  pub data_are : ds ≡ map (full_data files) fulls
  pub shown_are : shown ≡ map (is_shown wanted plan) fulls
  pub calls_are : calls ≡ map (λ f. calls_by f.shown.ended) fulls

-- a text is the report of a plan with `reached` reached files, except that it says how many were begun. If as many are
-- begun as are reached, it is the report with the wanted members (`IsFullText`)
pub record IsReportBut (wanted : Wanted) (files : List File) (plan : Plan) (reached begun : ℕ) (text : List ℕ) : Type 0
  where
    pub fulls : List Full
    pub report : IsReport plan reached (map (λ f. f.shown) fulls)
    pub more : All (λ f. AreMore wanted files plan f.shown.file f.more) fulls
    pub text_is : text ≡ whole_text wanted.calls wanted files plan begun fulls

-- this holds in the plan that files have for roots, by what was read of them, if a run has its modules
abbrev pub ReportsRun : Wanted → List File → Row → List ℕ → RunView → List ℕ → Type 0
ReportsRun wanted files row roots run text =
    (plan : Plan) → IsPlanOf files plan → plan.roots ≡ roots → IsReadOf files roots plan.prelude plan.mode.language row
    → AreModules plan run.kept → IsReportBut wanted files plan (length run.kept) run.begun text
