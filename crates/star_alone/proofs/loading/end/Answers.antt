use Rattle.std.proofs.Common.{sym, subst}
use Rattle.star_outcome.specs.Views.{IsTold}
use Rattle.star_alone.proofs.loading.end.Goals as goal

pub finish-requires : goal.finish-requires
finish-requires g c = record { right = subst (λ n. IsTold g.J.RunId.files g.J.RunId.plan n c.in_ok-told.told) (sym c.number-n.ensures.number) c.in_ok-told.ensures }
