use Rattle.std.proofs.Common.{rules}
use Rattle.star_reading.proofs.Finds.{grew_more, there_more}
use Rattle.star_reading.proofs.reading.Found.mark_each.Goals as goal

pub loop-n-preserved : goal.loop-n-preserved
loop-n-preserved c =
    let next = c.in_ok-mark.ensures in
    let before = c.loop-n.invariant in
    record {
      reads = search rules;
      grew = grew_more c.args.numbers.now _ _ _ _ _ _ _ (search rules) before.grew next.grew;
      there = there_more (λ n. n) c.args.numbers.now c.loop-n.n-index 0 c.args.self.now.marks.items c.loop-n.self.marks.items c.mark.new.self.marks.items (search rules) before.grew.size before.there next.grew.stay next.there;
    }
