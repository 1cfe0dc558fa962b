use Rattle.std.proofs.Common.{arith}
use Rattle.star_check.proofs.Rows.{nexts_all, nexts_more}
use Rattle.star_check.proofs.judge.nexts_of.Goals as goal

pub loop-n-preserved : goal.loop-n-preserved
loop-n-preserved c =
    nexts_more c.args.reads.now.all.items c.args.prospects.now c.loop-n.n c.loop-n.nexts.items c.push.new.self.items c.prospect_at-prospect.result c.next_of.result c.loop-n.invariant c.prospect_at-prospect.ensures c.in_ok-push.ensures.items
    c.next_of.ensures.within c.next_of.ensures.fails c.next_of.ensures.none

pub returns-clause-nexts : goal.returns-clause-nexts
returns-clause-nexts c = nexts_all c.args.reads.now.all.items c.args.prospects.now c.loop-n.n c.loop-n.nexts.items (omega (arith, c.loop-n-test.false, c.loop-n.auto.n-end)) c.loop-n.invariant
