use Rattle.std.proofs.Common.{arith, length, rules, ◌<◌}
use Rattle.star_dialect.proofs.Same.{one_more}
use Rattle.star_dialect.proofs.are_same.Goals as goal

pub loop-n-preserved : goal.loop-n-preserved
loop-n-preserved c =
    let low : c.loop-n.n < length c.args.texts.now = search rules in
    let room : c.loop-n.n < length c.args.others.now = omega (arith, low, c.loop-n.invariant.size) in
    record {
      same = one_more c.args.texts.now c.args.others.now c.loop-n.n c.index-texts-n.result c.index-others-n.result low room c.index-texts-n.is c.index-others-n.is
          (c.is_equal.ensures.equal c.if-not-is_equal.false) c.loop-n.invariant.same;
      size = c.loop-n.invariant.size;
    }
