-- The run of each file whose loads are good, by places.
use Rattle.std.proofs.Common.{◌≡◌, refl, ap, sym, subst, ◌∙◌}
use Rattle.star_meaning.specs.Local.{Trees}
use Rattle.star_meaning.specs.Module.{local_of, start}
use Rattle.star_meaning.specs.Places.{AllFit, Stands}
use Rattle.star_meaning.specs.Programs.{tables_of, trees_of}
use Rattle.star_meaning.proofs.ByPlaces.{places_mean_names}
use Rattle.star_plan.specs.Laws.{PlansAreReady, PlansFit, PlansRunByPlaces}
use Rattle.star_plan.specs.Plan.{loaded, trees}
use Rattle.star_plan.specs.Results.{IsOutcome, Ran, ran}
use Rattle.star_plan.specs.Runs.{PreludeIsSound, given, run_by_names, run_by_places}
use Rattle.star_plan.proofs.Fit.{fit_at}
use Rattle.star_plan.proofs.Outcomes.{gather, runs-over_loads}
use Rattle.star_plan.proofs.Seen.{ran-is, stands}
use Rattle.star_plan.proofs.Tables.{are_programs, prelude_sound, tables_right}

pub plans_fit : PlansFit
plans_fit files plan placed is placed_so n ss ms e g =
    let sound : PreludeIsSound plan = prelude_sound files plan n ss ms is e g in
    let all = gather plan (loaded plan n) ms g in
    fit_at plan (tables_of placed) (tables_right files plan placed is placed_so sound) all.0 n ms all.1

pub plans_run_by_places : PlansRunByPlaces
plans_run_by_places files plan placed is placed_so n ss ms e g =
    let sound : PreludeIsSound plan = prelude_sound files plan n ss ms is e g in
    let same : run_by_places placed plan n ss ms ≡ run_by_names plan n ss ms = (places_mean_names (tables_of placed) (trees plan) (given plan n ms) ss plan.mode.steps refl (stands plan n ss e) (tables_right files plan placed is placed_so sound n ms) (plans_fit files plan placed is placed_so n ss ms e g)).0 in
    let comes : local_of (given plan n ms) (run_by_places placed plan n ss ms) ≡ ran plan n ms = ap (local_of (given plan n ms)) same ∙ ran-is plan n ss ms e in
    (same, comes, subst (λ m. IsOutcome plan n (Ran m)) (sym comes) (runs-over_loads plan n ss ms e g))

pub plans_are_ready : PlansAreReady
plans_are_ready files plan placed is placed_so n ss ms e g =
    let sound : PreludeIsSound plan = prelude_sound files plan n ss ms is e g in
    let same : trees plan ≡ trees_of placed = sym placed_so.statements in
    let comes : local_of (given plan n ms) (run_by_names plan n ss ms) ≡ ran plan n ms = ran-is plan n ss ms e in (
      subst (λ (t : Trees). Stands t n ss) same (stands plan n ss e),
      are_programs files plan placed is placed_so sound,
      subst (λ (t : Trees). AllFit t (given plan n ms) (start (given plan n ms) plan.mode.steps)) same (plans_fit files plan placed is placed_so n ss ms e g),
      subst (λ m. IsOutcome plan n (Ran m)) (sym comes) (runs-over_loads plan n ss ms e g),
    )
