use Rattle.std.proofs.Common.{Contains, subst}
use Rattle.std.proofs.lemmas.List.Elements.{Contains-append_left, Contains-append_right}
use Rattle.star_trail.specs.Trails.{bodies}
use Rattle.star_trail.proofs.Within.{within_if}
use Rattle.star_trail.proofs.statements.block_at.Goals as goal

pub returns-in-If : goal.returns-in-If
returns-in-If c =
    let otherwise = c.in-If.otherwise in
    λ s h. within_if _ c.in-If.arms otherwise s c.in-If.is
    (Contains-append_right (bodies c.in-If.arms) otherwise s (subst (λ ss. Contains ss s) c.as_slice-in-If.ensures h))

pub returns-in-If-2 : goal.returns-in-If-2
returns-in-If-2 c =
    let arms = c.in-If-2.arms in
    λ s h. within_if _ arms c.in-If-2.otherwise s c.in-If-2.is
    (Contains-append_left (bodies arms) c.in-If-2.otherwise s
    (subst (λ rows. Contains (bodies rows) s) c.as_slice-in-If-2.ensures (c.body_at.ensures s h)))
