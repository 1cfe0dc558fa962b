use Rattle.std.proofs.Common.{◌≡◌, ◌-◌, ◌+◌, ◌∙◌, ap, refl, take, drop, length, arith}
use Rattle.std.specs.List.{remove}
use Rattle.star_store.proofs.Fronts.{brought_to_front, first_removed, removed_after}
use Rattle.star_store.proofs.roomy.FrontGapVec.remove.Goals as goal

pub returns-then-at-gt0 : goal.returns-then-at-gt0
returns-then-at-gt0 g c =
    ap (drop c.self.inside.gone) c.remove-item.ensures.items
    ∙ removed_after c.self.inside.gone c.args.at (c.self.inside.gone + c.args.at) c.self.inside.items.items refl c.self.invariant
    ∙ ap (λ l. remove l c.args.at) c.self.view_is

pub returns-then-left-self : goal.returns-then-left-self
returns-then-left-self g c =
    let left : c.len-2.result - (c.self.inside.gone + 1) ≡ length c.self.inside.items.items - (c.self.inside.gone + 1) = omega (arith, c.len-2.ensures, c.self.inside.items.ok) in
    c.truncate.ensures.items
    ∙ ap (take (c.len-2.result - (c.self.inside.gone + 1))) c.rotate_left.ensures.items
    ∙ brought_to_front (c.self.inside.gone + 1) (c.len-2.result - (c.self.inside.gone + 1)) c.self.inside.items.items left
    ∙ first_removed c.self.inside.gone c.args.at c.self.inside.items.items c.if-at-gt0.false
    ∙ ap (λ l. remove l c.args.at) c.self.view_is

pub returns-else-left-self : goal.returns-else-left-self
returns-else-left-self g c = first_removed c.self.inside.gone c.args.at c.self.inside.items.items c.if-at-gt0.false ∙ ap (λ l. remove l c.args.at) c.self.view_is
