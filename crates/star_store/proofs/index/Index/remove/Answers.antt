use Rattle.std.proofs.Common.{◌+◌, ◌∙◌, ap, drop, refl}
use Rattle.std.specs.List.{remove}
use Rattle.star_store.proofs.Fronts.{first_removed, removed_after}
use Rattle.star_store.proofs.index.Index.remove.Goals as goal

pub returns-then-at-gt0 : goal.returns-then-at-gt0
returns-then-at-gt0 c =
    ap (drop c.self.inside.gone) c.shift_remove_index-content.ensures.keys
    ∙ removed_after c.self.inside.gone c.args.at (c.self.inside.gone + c.args.at) c.self.inside.contents.keys refl c.self.invariant
    ∙ ap (λ l. remove l c.args.at) c.self.view_is

pub returns-then-count-self : goal.returns-then-count-self
returns-then-count-self c =
    c.close_up-self-inside.ensures.same
    ∙ first_removed c.self.inside.gone c.args.at c.self.inside.contents.keys c.if-at-gt0.false
    ∙ ap (λ l. remove l c.args.at) c.self.view_is

pub returns-else-count-self : goal.returns-else-count-self
returns-else-count-self c = first_removed c.self.inside.gone c.args.at c.self.inside.contents.keys c.if-at-gt0.false ∙ ap (λ l. remove l c.args.at) c.self.view_is
