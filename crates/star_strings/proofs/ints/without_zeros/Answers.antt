use Rattle.std.proofs.Common.{◌∙◌}
use Rattle.star_strings.proofs.Numbers.{digits_past, number_past, zeros_past}
use Rattle.star_strings.proofs.ints.without_zeros.Goals as goal

pub loop-more-preserved : goal.loop-more-preserved
loop-more-preserved c =
    let e = c.in-Some.ensures.zeros in
    record {
      digits = digits_past c.args.base c.loop-more.rest.now c.in-Some.more.now c.requires e ∙ c.loop-more.invariant.digits;
      number = number_past c.args.base c.loop-more.rest.now c.in-Some.more.now e ∙ c.loop-more.invariant.number;
      zeros = zeros_past c.loop-more.rest.now c.in-Some.more.now e ∙ c.loop-more.invariant.zeros;
    }
