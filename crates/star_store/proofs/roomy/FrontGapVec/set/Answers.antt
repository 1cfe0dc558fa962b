use Rattle.std.proofs.Common.{◌∙◌, ap, set}
use Rattle.std.proofs.lemmas.List.{drop-set-add}
use Rattle.star_store.proofs.roomy.FrontGapVec.set.Goals as goal

pub returns : goal.returns
returns g c = drop-set-add c.self.inside.gone c.self.inside.items.items c.args.at c.args.item ∙ ap (λ l. set l c.args.at c.args.item) c.self.view_is
