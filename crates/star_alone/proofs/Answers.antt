-- The answers for a run.
use Rattle.std.proofs.Common.{◌≡◌, ℕ, Bool, true, false, List, Option, length, map, sym, subst}
use Rattle.star_dialect.specs.declared.Mode.{Mode}
use Rattle.star_label.specs.Files.{File}
use Rattle.star_outcome.specs.Kept.{AllGood, AreModulesOf, RunView}
use Rattle.star_plan.specs.Report.{IsReport}
use Rattle.star_reading.specs.Found.{IsReadOf}
use Rattle.star_reading.specs.Readings.{Row}
use Rattle.star_report.specs.Output.{InPlanOf, IsOutput}
use Rattle.star_report.specs.Shown.{ReportsRun}
use Rattle.star_report.specs.Wanted.{Full}
use Rattle.star_report.specs.declared.wanted.Output.TheVariants.{Report}
use Rattle.star_report.specs.declared.wanted.Wanted.{Wanted}

-- the text of a run's report, and whether its modules are good, in the plan of the files
pub answered_in : (wanted : Wanted) (files : List File) (roots : List ℕ) (prelude : Option ℕ) (mode : Mode) (row : Row) (run : RunView) (text : List ℕ) (ok : Bool) → run.begun ≡ length run.kept → AreModulesOf files roots prelude mode run.kept → IsReadOf files roots prelude mode.language row
    → ReportsRun wanted files row roots run text → (ok ≡ true → AllGood run.kept) → (ok ≡ false → AllGood run.kept → ⊥)
    → InPlanOf files roots prelude mode (λ plan. IsOutput (Report wanted) files plan text ok)
answered_in wanted files roots prelude mode row run text ok count (plan, planned, of_roots, of_prelude, of_mode, are) read writes good bad =
    let but = writes plan planned of_roots (subst (λ (m : Mode). IsReadOf files roots plan.prelude m.language row) (sym of_mode) (subst (λ p. IsReadOf files roots p mode.language row) (sym of_prelude) read)) are in (
      plan,
      planned,
      of_roots,
      of_prelude,
      of_mode,
      (
        record {
          begun = run.begun;
          fulls = but.fulls;
          report = subst (λ b. IsReport plan b (map (λ (f : Full). f.shown) but.fulls)) (sym count) but.report;
          more = but.more;
          text_is = but.text_is;
        },
        (run.kept, are, good, bad),
      ),
    )
