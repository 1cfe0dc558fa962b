-- The text that is written if nothing is run.
use Rattle.std.proofs.Common.{arith, ◌≡◌, ◌<◌, ◌++◌, ℕ, Bool, false, List, [], ◌∷◌, Option, refl, sym, subst}
use Rattle.star_dialect.specs.declared.Mode.{Mode}
use Rattle.star_label.specs.Files.{File}
use Rattle.star_bundle.specs.Bundle.{Asked}
use Rattle.star_check.specs.Text.{IsCheckAnswer, IsCheckText}
use Rattle.star_outcome.specs.Refusals.{AreRefusalsOf}
use Rattle.star_plan.specs.Plan.{Plan}
use Rattle.star_plan.specs.Reading.{IsPlanOf}
use Rattle.star_reading.specs.Found.{IsReadOf}
use Rattle.star_reading.specs.Readings.{Row, readings}
use Rattle.star_reading.proofs.Plans.{planned_so}
use Rattle.star_report.specs.Output.{InPlanOf, IsOutput, IsSaid}
use Rattle.star_report.specs.declared.wanted.Output.TheVariants.{Check}
use Rattle.star_serve.specs.Stream.{Adds}
use Rattle.star_serve.specs.Trace.{Traces}
use Rattle.star_serve.proofs.Traced.{Adds-nothing}

-- a fact of each plan that has these readings is a fact of a plan of the files
pub checked_in : (files : List File) (roots : List ℕ) (prelude : Option ℕ) (mode : Mode) (row : Row) (only calls : Bool) (text : List ℕ) (ok : Bool) → IsReadOf files roots prelude mode.language row
    → ((plan : Plan) → IsPlanOf files plan → readings row ≡ plan.reads → plan.roots ≡ roots → IsCheckText only calls files plan text × IsCheckAnswer plan ok) → InPlanOf files roots prelude mode (λ plan. IsOutput (Check only calls) files plan text ok)
checked_in files roots prelude mode row only calls text ok (block, prelude_is, rows) each =
    let plan : Plan = record { roots = roots; prelude = prelude; mode = mode; reads = readings row } in
    let planned : IsPlanOf files plan = planned_so files block row plan refl prelude_is rows in
    (plan, planned, refl, refl, refl, each plan planned refl refl)

-- no line is written beside the check, and no load was refused
pub checked_said : (asked : Asked) (mode : Mode) (only calls ok trace : Bool) (text : List ℕ) (old new : Option (List ℕ)) → new ≡ old → InPlanOf asked.files asked.roots asked.prelude mode (λ plan. IsOutput (Check only calls) asked.files plan text ok)
    → Traces (Check only calls) asked mode ok trace old new
checked_said asked mode only calls ok trace text old new same (plan, planned, of_roots, of_prelude, of_mode, out) = (
  [],
  (plan, planned, of_roots, of_prelude, of_mode, refl),
  [],
  (plan, planned, of_roots, of_prelude, of_mode, λ k d lt. absurd (let no : ⊥ = omega (arith, lt) in no)),
  λ off. refl,
  subst (λ t. Adds old t []) (sym same) (Adds-nothing old),
)
