-- The end of a file says whether the file is good.
use Rattle.std.specs.Arc.{arc_value}
use Rattle.std.specs.Prelude.{◌≡◌, ◌↔◌, ℕ, true, List}
use Rattle.std.proofs.Common.{◌∙◌, sym}
use Rattle.star_label.specs.Files.{File}
use Rattle.star_meaning.specs.Module.{Good as WentWell, Stopped as HadFault}
use Rattle.star_plan.specs.Plan.{Plan}
use Rattle.star_plan.specs.Results.{IsGood, Ran, Static as StaticOutcome, Unloaded as UnloadedOutcome}
use Rattle.star_plan.proofs.Goodness.{good}
use Rattle.star_reading.specs.Codes.{fault_of}
use Rattle.star_outcome.specs.Views.{IsEnd, IsTold, ToldView, ended_well}
use Rattle.star_outcome.specs.declared.module.Ended.{Ended}
use Rattle.star_outcome.specs.declared.module.Ended.TheVariants.{Static, Load as Unloaded, Stopped, Good}
use Rattle.std.proofs.Common.{refl}

-- the end of a file says whether the file is good
pub end_good : (plan : Plan) (n : ℕ) (e : Ended) → IsEnd plan n e → (ended_well e ≡ true) ↔ IsGood plan n
end_good plan n (Static f) is = good plan n (StaticOutcome (fault_of f)) _ refl is
end_good plan n (Unloaded index line) is = good plan n (UnloadedOutcome index) _ refl is.0
end_good plan n (Stopped code line lines left) is =
    good plan n (Ran (HadFault (record { code = code; line = line }) lines.items)) _ refl is
end_good plan n (Good b) is =
    let body = arc_value b in
    good plan n (Ran (WentWell is.shelf is.globals (arc_value body.shown) body.lines.items)) _ refl is.outcome

-- the product of a file says whether the file is good
pub told_good : (files : List File) (plan : Plan) (n : ℕ) (t : ToldView) → IsTold files plan n t
    → (t.good ≡ true) ↔ IsGood plan n
told_good files plan n t is =
    let it = end_good plan n is.found.ended is.right.ended in
    ((λ well. it.0 (sym is.good ∙ well)), (λ g. is.good ∙ it.1 g))
