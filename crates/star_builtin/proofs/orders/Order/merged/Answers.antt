use Rattle.std.proofs.Common.{rules, ◌≡◌, ◌++◌, ap, sym, ◌∙◌}
use Rattle.star_meaning.specs.Run.{Done}
use Rattle.star_builtin.specs.Orders.{precedes}
use Rattle.star_builtin.proofs.Merging.{front_ends, rest_ends}
use Rattle.star_builtin.proofs.orders.Order.merged.Goals.{in_default, in-len1-up+in_default-rest}
use Rattle.star_builtin.proofs.orders.Order.merged.Goals as goal

pub returns : goal.returns
returns c =
    let p = precedes c.args.self.now in
    let made = c.loop-front.made.items in
    let xs = c.loop-front.front.now in
    let ys = c.loop-front.rest.now in
    let s = c.loop-front.machine in
    let items : (made ++ xs) ++ ys ≡ c.extend_from_slice-2.new.self.items = search rules in
    elim c.if-front-lt1.branch [ in_default w ↦ sym c.loop-front.invariant ∙ (front_ends p made xs ys s (search rules) ∙ ap (λ zs. Done zs s) items) | in-len1-up+in_default-rest w ↦ sym c.loop-front.invariant ∙ (rest_ends p made xs ys s (search rules) ∙ ap (λ zs. Done zs s) items) ]
