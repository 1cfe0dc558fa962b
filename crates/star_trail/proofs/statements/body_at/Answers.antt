use Rattle.std.proofs.Common.{Contains, length, refl, subst}
use Rattle.std.proofs.lemmas.Option.{slice_get_read}
use Rattle.star_trail.proofs.Within.{in_bodies}
use Rattle.star_trail.proofs.statements.body_at.Goals as goal

pub returns-in-Some : goal.returns-in-Some
returns-in-Some c =
    let arms = c.args.arms.now in
    let at = c.saturating_sub.result in
    let found = c.in-Some.ensures.lookup in
    let there = slice_get_read arms (length arms) at c.in-Some.arm.now refl found.3.0 found.1 in
    λ s h. in_bodies arms at c.in-Some.arm.now s there (subst (λ ss. Contains ss s) c.as_slice.ensures h)
