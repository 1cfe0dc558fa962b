use Rattle.std.proofs.Common.{◌≡◌, [], ap, sym, ◌∙◌, subst}
use Rattle.star_scope.specs.Bound.{Binds}
use Rattle.star_scope.specs.Conflicts.{alone, parameter_binding}
use Rattle.star_scope.proofs.Bindings.{bind_none, of_BareStar, of_named}
use Rattle.star_scope.proofs.conflicts.bind_parameter.Goals as goal

pub returns-in-BareStar : goal.returns-in-BareStar
returns-in-BareStar c =
    let is : parameter_binding c.args.parameter.now ≡ [] = ap parameter_binding c.in-BareStar.is ∙ of_BareStar in
    subst (λ bs. Binds bs c.args.bound.now c.args.bound.now) (sym is) (bind_none c.args.bound.now)

pub returns-in_ok-bind-in-Plain : goal.returns-in_ok-bind-in-Plain
returns-in_ok-bind-in-Plain c =
    let is : parameter_binding c.args.parameter.now ≡ alone c.in-Plain.name = of_named c.args.parameter.now c.in-Plain.name c.in-Plain.is in
    subst (λ bs. Binds bs c.args.bound.now c.bind.new.bound) (sym is) c.in_ok-bind-in-Plain.ensures
