use Rattle.std.proofs.Common.{◌∙◌}
use Rattle.star_memo.proofs.EndsLast.{all_added, more_among}
use Rattle.star_memo.proofs.outcomes.Outcomes.add.Goals as goal

pub loop-n-preserved : goal.loop-n-preserved
loop-n-preserved c =
    let so_far = c.loop-n.invariant in
    record {
      sized = c.take_end-end.ensures.sized ∙ so_far.sized;
      terms = so_far.terms;
      rest = λ k e at. so_far.rest k e (c.take_end-end.ensures.left k e at);
      all = more_among c.args.ends.items c.loop-n.rest.items c.args.self.now.all.items c.loop-n.self.all.items c.fill.new.ends.items c.loop-n.n c.take_end-end.result so_far.rest c.take_end-end.ensures.taken so_far.all c.fill.ensures;
    }

pub returns-clause-all : goal.returns-clause-all
returns-clause-all c = all_added c.args.ends.items c.args.self.now.all.items c.loop-n.self.all.items c.loop-n.invariant.all
