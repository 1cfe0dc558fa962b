use Rattle.std.proofs.Common.{◌<◌, ℕ, length, sym, subst}
use Rattle.std.proofs.lemmas.Result.{IfOk-weaker}
use Rattle.std.specs.Arc.{arc_value}
use Rattle.std.specs.Prelude.{IfSome}
use Rattle.star_plan.specs.Shelves.{Needs}
use Rattle.star_outcome.specs.Fits.{asked_below}
use Rattle.star_outcome.specs.Gathered.{AreNeeded, IsListed}
use Rattle.star_outcome.specs.GoodEnds.{IsLasting}
use Rattle.star_outcome.specs.Reaches.{row_of}
use Rattle.star_outcome.specs.Views.{IsBody}
use Rattle.star_host.proofs.work.renewed.Goals as goal

pub file_number-home-requires : goal.file_number-home-requires
file_number-home-requires g c = subst (λ fs. c.args.n < length fs) (sym c.requires.world.files_are) (asked_below g.J.RunId.files g.J.RunId.plan c.args.n c.requires.asked)

pub over-requires-clause-lasting : goal.over-requires-clause-lasting
over-requires-clause-lasting g c =
    let plan = g.J.RunId.plan in
    let end = c.in-Some.end.now in
    let is = c.requires.world.ends_are c.args.n end c.in-Some.ensures c.requires.asked.1 in
    subst (IsLasting plan c.file_number-home.result) (sym c.deref.ensures) (subst (λ k. IsLasting plan k (arc_value end.body)) (sym c.file_number-home.ensures) is.lasting)

pub over-requires-clause-needed : goal.over-requires-clause-needed
over-requires-clause-needed g c = subst (λ k. AreNeeded g.J.RunId.plan k (row_of c.in_ok-reaches.reaches)) (sym c.file_number-home.ensures) c.in_ok-reaches.ensures.needed

pub over-requires-clause-all : goal.over-requires-clause-all
over-requires-clause-all g c = subst (λ m. (k : ℕ) → Needs g.J.RunId.plan m k → IsListed (row_of c.in_ok-reaches.reaches) k) (sym c.file_number-home.ensures) c.in_ok-reaches.ensures.all

pub returns : goal.returns
returns g c = IfOk-weaker c.over.result _ _ (λ r some. subst (λ k. IfSome r (IsBody g.J.RunId.plan k)) c.file_number-home.ensures some) c.over.ensures
