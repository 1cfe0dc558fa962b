use Rattle.std.proofs.Common.{pos, ◌<ℤ◌, arith}
use Rattle.std.proofs.lemmas.Int.{ints, to_z-of_z}
use Rattle.star_operators.specs.Slices.{as_range}
use Rattle.star_operators.proofs.Ranges.{within_up, within_down}
use Rattle.star_operators.proofs.slices.Span.place.Goals as goal

pub place_above-requires-clause-within : goal.place_above-requires-clause-within
place_above-requires-clause-within c =
    let up : pos 0 <ℤ c.args.self.step = omega (arith, ints) in
    let within = within_up (as_range c.args.self) c.args.at up c.requires.within in
    grind (arith, to_z-of_z, c.unsigned_abs-step.ensures.value, within)

pub place_below-requires-clause-within : goal.place_below-requires-clause-within
place_below-requires-clause-within c =
    let within = within_down (as_range c.args.self) c.args.at (λ h. omega (arith, ints)) c.requires.within in
    grind (arith, to_z-of_z, c.unsigned_abs-step.ensures.value, within)
