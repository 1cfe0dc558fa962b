use Rattle.std.proofs.Common.{sym, ◌∙◌, w64, FitsSigned, rules}
use Rattle.std.proofs.lemmas.Int.{to_z-of_z}
use Rattle.star_operators.proofs.Ranges.{has_down}
use Rattle.star_operators.proofs.comparisons.range_has_down.Goals as goal

pub returns : goal.returns
returns c =
    let r = c.args.range in
    let f : FitsSigned w64 r.start = search rules in
    let g : FitsSigned w64 r.step = search rules in
    let h = rw (to_z-of_z w64 r.start f, to_z-of_z w64 c.args.int c.ranges.int, c.unsigned_abs-step.ensures.value, to_z-of_z w64 r.step g, c.len.ensures) at c.is_reached.ensures in
    h ∙ sym (has_down r c.args.int c.requires)
