use Rattle.std.proofs.Common.{◌<◌, length, arith}
use Rattle.star_strings.proofs.Numbers.{number_over}
use Rattle.star_strings.proofs.ints.number_from.Goals as goal

pub returns-then-number-ge-BEYOND : goal.returns-then-number-ge-BEYOND
returns-then-number-ge-BEYOND c =
    let h : c.loop-digit.digit-index < length c.args.digits.now = omega arith in
    number_over c.args.base c.loop-digit.number c.loop-digit.digit-index c.args.digits.now c.requires h c.loop-digit.invariant.rest (omega arith)
