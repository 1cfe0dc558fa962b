-- The good ends that a run leaves.
use Rattle.std.proofs.Common.{◌≡◌, ℕ, List, [], Option}
use Rattle.star_dialect.specs.declared.Mode.{Mode}
use Rattle.star_label.specs.Files.{File}
use Rattle.star_plan.specs.Plan.{Plan}
use Rattle.star_outcome.specs.GoodEnds.{AreEndsInPlans, AreReachedEnds}
use Rattle.star_outcome.specs.Kept.{AreModulesOf, KeptView}
use Rattle.star_outcome.specs.declared.good_end.GoodEnd.{GoodEnd}
use Rattle.star_report.specs.Output.{InPlanOf}

module _ (files : List File) (roots : List ℕ) (prelude : Option ℕ) (mode : Mode) where
  pub ends_in : (ks : List KeptView) (es : List (Option GoodEnd)) → AreModulesOf files roots prelude mode ks → AreEndsInPlans ks es → InPlanOf files roots prelude mode (λ plan. AreReachedEnds plan es)
  ends_in ks es (plan, planned, of_roots, of_prelude, of_mode, are) ends = (plan, planned, of_roots, of_prelude, of_mode, ends plan are)

  -- a plan of which nothing is run leaves no good ends
  pub none_in : (P : Plan → Type 0) → InPlanOf files roots prelude mode P → InPlanOf files roots prelude mode (λ plan. AreReachedEnds plan [])
  none_in P (plan, planned, of_roots, of_prelude, of_mode, so) = (plan, planned, of_roots, of_prelude, of_mode, λ n e at. absurd (let no : ⊥ = cc in no))
