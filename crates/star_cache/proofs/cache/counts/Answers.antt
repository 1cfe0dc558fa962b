use Rattle.std.proofs.Common.{◌∙◌, ap, arith, set}
use Rattle.star_cache.specs.State.{idle}
use Rattle.star_cache.proofs.Counts.{counts-next, counts-done}
use Rattle.star_cache.proofs.cache.counts.Goals as goal

pub loop-seat-preserved : goal.loop-seat-preserved
loop-seat-preserved g c =
    let few = c.loaders-seat-end.ensures.book.seats in
    ap (λ v. set c.loop-seat.counts c.loop-seat.seat v) c.count.ensures
    ∙ counts-next c.loop-seat.seat c.args.book.now.loaders idle c.loop-seat.counts (omega arith) few c.loop-seat.invariant

pub returns-clause-counts : goal.returns-clause-counts
returns-clause-counts g c = counts-done c.loop-seat.seat c.args.book.now.loaders c.loop-seat.counts (omega arith) c.loop-seat.invariant
