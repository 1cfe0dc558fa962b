use Rattle.star_scope.proofs.Placing.{place_as, place_none}
use Rattle.star_scope.proofs.UseForms.{of_bare}
use Rattle.star_scope.proofs.uses.place_parameter_name.Goals as goal

pub returns-in-BareStar : goal.returns-in-BareStar
returns-in-BareStar c = place_as c.args.scope.now _ _ _ _ (of_bare c.args.parameter.now c.in-BareStar.is c.args.chain.now) (place_none c.args.scope.now c.args.placed.now)
