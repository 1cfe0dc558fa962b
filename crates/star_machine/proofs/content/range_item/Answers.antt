use Rattle.std.proofs.Common.{◌<ℤ◌, pos, arith}
use Rattle.std.proofs.lemmas.Int.{ints, to_z-of_z}
use Rattle.star_machine.proofs.Ranges.{item_down, item_up}
use Rattle.star_machine.proofs.content.range_item.Goals as goal

pub returns-then-range-gt0 : goal.returns-then-range-gt0
returns-then-range-gt0 c =
    let up : pos 0 <ℤ c.args.range.step = omega (arith, ints) in
    let item = item_up c.args.range c.args.at up in
    grind (arith, to_z-of_z, c.unsigned_abs.ensures.value, c.int_above.ensures, item)

pub returns-then-range-lt0 : goal.returns-then-range-lt0
returns-then-range-lt0 c =
    let down : c.args.range.step <ℤ pos 0 = omega (arith, ints) in
    let item = item_down c.args.range c.args.at down in
    grind (arith, to_z-of_z, c.unsigned_abs.ensures.value, c.int_below.ensures, item)
