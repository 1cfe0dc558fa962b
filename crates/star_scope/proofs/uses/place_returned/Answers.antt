use Rattle.std.proofs.Common.{[], ap}
use Rattle.star_scope.specs.Uses.{in_returned}
use Rattle.star_scope.proofs.Placing.{place_as, place_none}
use Rattle.star_scope.proofs.uses.place_returned.Goals as goal

pub returns-in-None : goal.returns-in-None
returns-in-None c =
    place_as c.args.scope.now [] _ c.args.placed.now c.args.placed.now (ap (λ o. in_returned o c.args.chain.now) c.in-None.is)
    (place_none c.args.scope.now c.args.placed.now)
