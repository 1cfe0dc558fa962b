use Rattle.std.proofs.Common.{arith, map}
use Rattle.star_check.specs.Judged.{judged_view}
use Rattle.star_check.proofs.Rows.{check_all}
use Rattle.star_check.proofs.judge.judged_by.Goals as goal

pub loop-n-preserved : goal.loop-n-preserved
loop-n-preserved c = record {
  within = c.in_ok-push_judged.ensures.within c.loop-n.invariant.within;
  check = λ files plan planned is are nexts. c.in_ok-push_judged.ensures.check files plan c.args.prospects.now planned is c.prospect_at-prospect.ensures c.requires.sized are nexts (c.loop-n.invariant.check files plan planned is are nexts);
}

pub returns-clause-check : goal.returns-clause-check
returns-clause-check c = λ files plan planned is are nexts.
    check_all files c.args.reads.now.all.items plan c.loop-n.n (map judged_view c.loop-n.all.items) planned is (omega (arith, c.requires.sized, c.loop-n-test.false, c.loop-n.auto.n-end)) (c.loop-n.invariant.check files plan planned is are nexts)
