use Rattle.std.proofs.Common.{refl, ap, sym, ◌∙◌, subst}
use Rattle.star_outcome.specs.Views.{IsModule, IsTold, ended_well}
use Rattle.star_host.proofs.Ends.{told_is}
use Rattle.star_host.proofs.loading.published.Goals as goal

pub new-requires-clause-right : goal.new-requires-clause-right
new-requires-clause-right g c = told_is g.J.RunId.files g.J.RunId.plan c.number-n.result c.in_ok-module.module.value _ refl c.number-n.ensures.asked c.in-Ok.ensures.1 (subst (IsModule g.J.RunId.plan c.number-n.result) (sym c.in_ok-module.ensures) c.in_ok-made.ensures) (c.is_good-good.ensures ∙ ap (λ m. ended_well m.ended) (sym c.in_ok-module.ensures))

pub returns : goal.returns
returns g c = subst (λ n. IsTold g.J.RunId.files g.J.RunId.plan n c.new.result) c.number-n.ensures.number (rw c.new.ensures (told_is g.J.RunId.files g.J.RunId.plan c.number-n.result c.in_ok-module.module.value _ refl c.number-n.ensures.asked c.in-Ok.ensures.1 (subst (IsModule g.J.RunId.plan c.number-n.result) (sym c.in_ok-module.ensures) c.in_ok-made.ensures) (c.is_good-good.ensures ∙ ap (λ m. ended_well m.ended) (sym c.in_ok-module.ensures))))
