use Rattle.std.proofs.Common.{subst}
use Rattle.star_scope.specs.Loads.{written}
use Rattle.star_label.specs.View.{text_of}
use Rattle.star_repo.specs.Views.{GainsLabels, IsNamed}
use Rattle.star_repo.proofs.Loads.{loads_of_text}
use Rattle.star_repo.proofs.text.loads_of.Goals as goal

pub returns-in_ok-add_loads-in-Ok : goal.returns-in_ok-add_loads-in-Ok
returns-in_ok-add_loads-in-Ok c =
    let here = c.package.result.now in
    let old = c.new-loads.result.keys in
    let new = c.add_loads.new.waiting.keys in
    let gains = subst (λ ss. GainsLabels old new (IsNamed here (written ss))) c.as_slice-statements.ensures c.in_ok-add_loads-in-Ok.ensures in
    loads_of_text (text_of c.args.label.now) c.args.text.now here c.in-Ok.tree old new c.package.ensures.value c.new-loads.ensures.empty c.in-Ok.ensures gains
