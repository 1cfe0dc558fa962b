-- The text that is written of a run.
use Rattle.std.proofs.Common.{◌≡◌, ◌<◌, ℕ, Bool, true, false, List, [], Option, length, map, sym, subst, Result, Ok, Err}
use Rattle.std.specs.Prelude.{IfOk}
use Rattle.std.specs.List.{All}
use Rattle.star_dialect.specs.declared.Language.{Language}
use Rattle.star_dialect.specs.declared.Mode.{Mode}
use Rattle.star_label.specs.Files.{File}
use Rattle.star_outcome.specs.Kept.{AllGood, AreModules, AreModulesOf, KeptView, RunView}
use Rattle.star_plan.specs.Plan.{Plan}
use Rattle.star_plan.specs.Report.{IsReport}
use Rattle.star_reading.specs.Found.{IsReadOf}
use Rattle.star_reading.specs.Readings.{Row, loads_at}
use Rattle.star_report.specs.Drawn.{LeadWithin}
use Rattle.star_report.specs.Output.{InPlanOf, IsAnswer, IsSaid}
use Rattle.star_report.specs.Shelf.{LeadToFiles}
use Rattle.star_report.specs.Shown.{IsReportBut}
use Rattle.star_report.specs.Wanted.{Full, IsFullText}
use Rattle.star_report.specs.declared.wanted.Output.{Output}
use Rattle.star_report.specs.declared.wanted.Output.TheVariants.{Calls, Check, Global, Graph, Report}
use Rattle.star_report.specs.declared.wanted.Wanted.{Wanted}
use Rattle.star_report.proofs.Planned.{lead_to_files}
use Rattle.star_serve.specs.Trace.{is_said}
use Rattle.star_serve.specs.Written.{IsRunOf}

-- if as many files were begun as are reached, the text is the text of the report
pub full_text_of : (wanted : Wanted) (files : List File) (plan : Plan) (ks : List KeptView) (begun : ℕ) (text : List ℕ) → begun ≡ length ks → IsReportBut wanted files plan (length ks) begun text → IsFullText wanted files plan text
full_text_of wanted files plan ks begun text count but = record {
  begun = begun;
  fulls = but.fulls;
  report = subst (λ b. IsReport plan b (map (λ (f : Full). f.shown) but.fulls)) (sym count) but.report;
  more = but.more;
  text_is = but.text_is;
}

pub lead_files : (files : List File) (row : Row) → length row ≡ length files → LeadWithin row → LeadToFiles files row
lead_files files row size within n = subst (λ k. All (λ l. l.file < k) (loads_at row n)) size (within n)

-- the readings of files have a place for each file, and loads within the files
pub row_size : (files : List File) (roots : List ℕ) (prelude : Option ℕ) (d : Language) (row : Row) → IsReadOf files roots prelude d row → length row ≡ length files
row_size files roots prelude d row (block, prelude_is, rows) = rows.sized

pub lead_within : (files : List File) (roots : List ℕ) (prelude : Option ℕ) (d : Language) (row : Row) → IsReadOf files roots prelude d row → LeadWithin row
lead_within files roots prelude d row read n = subst (λ k. All (λ l. l.file < k) (loads_at row n)) (sym (row_size files roots prelude d row read)) (lead_to_files files roots prelude d row read n)

-- the answer, by the modules of a run
pub answer_of : (plan : Plan) (ks : List KeptView) (ok : Bool) → AreModules plan ks → (ok ≡ true → AllGood ks) → (ok ≡ false → AllGood ks → ⊥) → IsAnswer plan ok
answer_of plan ks ok are good bad = (ks, are, good, bad)

-- a fact of each plan that has this run is a fact of the plan of the files
pub in_plan_of : (files : List File) (roots : List ℕ) (prelude : Option ℕ) (mode : Mode) (row : Row) (run : RunView) (P : Plan → Type 0) → run.begun ≡ length run.kept → AreModulesOf files roots prelude mode run.kept → IsReadOf files roots prelude mode.language row
    → ((plan : Plan) → IsRunOf files roots row run plan → P plan) → InPlanOf files roots prelude mode P
in_plan_of files roots prelude mode row run P begun (plan, planned, of_roots, of_prelude, of_mode, are) read each =
    (plan, planned, of_roots, of_prelude, of_mode, each plan (record { planned = planned; roots_are = of_roots; read = subst (λ (m : Mode). IsReadOf files roots plan.prelude m.language row) (sym of_mode) (subst (λ p. IsReadOf files roots p mode.language row) (sym of_prelude) read); modules = are; begun = begun }))

-- .. where the run was of roots that are the same
pub in_plan_of_same : (files : List File) (roots given : List ℕ) (prelude : Option ℕ) (mode : Mode) (row : Row) (run : RunView) (P : Plan → Type 0) → given ≡ roots → run.begun ≡ length run.kept → AreModulesOf files given prelude mode run.kept → IsReadOf files given prelude mode.language row
    → ((plan : Plan) → IsRunOf files roots row run plan → P plan) → InPlanOf files roots prelude mode P
in_plan_of_same files roots given prelude mode row run P same begun are read =
    in_plan_of files roots prelude mode row run P begun (subst (λ rs. AreModulesOf files rs prelude mode run.kept) same are) (subst (λ rs. IsReadOf files rs prelude mode.language row) same read)

none_said : (output : Output) (files : List File) (plan : Plan) (ok : Bool) (line : List ℕ) → IsSaid output files plan ok line → is_said output ok ≡ false → line ≡ []
none_said (Report wanted) files plan ok line is none = is
none_said (Global name) files plan true line is none = is
none_said (Global name) files plan false line is none = absurd (let no : ⊥ = cc in no)
none_said (Calls name) files plan true line is none = is
none_said (Calls name) files plan false line is none = absurd (let no : ⊥ = cc in no)
none_said Graph files plan ok line is none = is
none_said (Check only_roots calls) files plan ok line is none = is

-- an output that has no line beside it has an empty line
pub not_said : (output : Output) (files : List File) (roots : List ℕ) (prelude : Option ℕ) (mode : Mode) (ok : Bool) (line : List ℕ) → InPlanOf files roots prelude mode (λ plan. IsSaid output files plan ok line) → is_said output ok ≡ false → line ≡ []
not_said output files roots prelude mode ok line (plan, planned, of_roots, of_prelude, of_mode, is) none = none_said output files plan ok line is none

-- a value with a fact has a further fact
pub if_ok-map : {A E : Type 0} {P Q : A → Type 0} (r : Result A E) → ((x : A) → P x → Q x) → IfOk r P → IfOk r Q
if_ok-map (Ok x) f h = f x h
if_ok-map (Err e) f h = tt
