use Rattle.std.proofs.Common.{◌≡◌, sym, subst}
use Rattle.star_outcome.specs.Gathered.{AreNeeded}
use Rattle.star_outcome.specs.Reaches.{row_of}
use Rattle.star_outcome.proofs.module.Body.over.Goals as goal

pub stores_with-requires-clause-needed : goal.stores_with-requires-clause-needed
stores_with-requires-clause-needed g c =
    let number : c.in_ok-again.field-0.number ≡ c.args.home = cc (c.in_ok-again.ensures, c.in-Some.ensures.0) in
    subst (λ n. AreNeeded g.J.RunId.plan n (row_of c.args.reaches)) (sym number) c.requires.needed
