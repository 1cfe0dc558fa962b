use Rattle.std.proofs.Common.{List, [], sym, subst}
use Rattle.star_outcome.specs.Gathered.{IsGathered}
use Rattle.star_outcome.specs.Reaches.{ReachView, StoreRowView, row_of}
use Rattle.star_outcome.proofs.Stores.{listed_left, needed_front}
use Rattle.star_outcome.proofs.reachable.ReachableStores.over_row.Goals as goal

pub invariant_of-result : goal.invariant_of-result
invariant_of-result g c =
    let plan = g.J.RunId.plan in
    let base : List ReachView = c.args.stores.now.base in
    subst (λ (s : StoreRowView). IsGathered plan c.args.file c.in_ok-numbers.numbers (row_of s)) (sym c.in_ok-reaches.ensures)
    (record {
      needed = needed_front plan c.args.file base c.args.stores.now.more c.requires;
      listed = λ k h. listed_left base [] k (c.in_ok-numbers.ensures k h);
    })
