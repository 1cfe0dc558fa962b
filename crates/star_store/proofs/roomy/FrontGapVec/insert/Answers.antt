use Rattle.std.proofs.Common.{◌+◌, ◌∙◌, ap, refl, drop}
use Rattle.std.specs.List.{insert}
use Rattle.star_store.proofs.Fronts.{inserted_after}
use Rattle.star_store.proofs.roomy.FrontGapVec.insert.Goals as goal

pub returns-then-at-gt0-clause-inserted : goal.returns-then-at-gt0-clause-inserted
returns-then-at-gt0-clause-inserted g c =
    ap (drop c.self.inside.gone) c.in_ok-insert.ensures.items
    ∙ inserted_after c.self.inside.gone c.args.at (c.self.inside.gone + c.args.at) c.self.inside.items.items c.args.item refl c.self.invariant
    ∙ ap (λ l. insert l c.args.at c.args.item) c.self.view_is
