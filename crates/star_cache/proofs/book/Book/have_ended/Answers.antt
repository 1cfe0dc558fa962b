use Rattle.std.proofs.Common.{◌<◌, length, arith, below_more, subst}
use Rattle.std.specs.Prelude.{slice_index_or}
use Rattle.std.proofs.lemmas.List.{get_or_default}
use Rattle.star_cache.specs.State.{HasEnded}
use Rattle.star_cache.proofs.book.Book.have_ended.Goals as goal

pub loop-n-preserved : goal.loop-n-preserved
loop-n-preserved g c k d h =
    let inside : c.loop-n.n-index < length c.args.files.now = c.loop-n-test.true in
    below_more (λ j. HasEnded c.args.self.now (slice_index_or c.args.files.now j d)) c.loop-n.n-index (λ j l. c.loop-n.invariant j d l)
    (subst (HasEnded c.args.self.now) (get_or_default c.args.files.now c.loop-n.n-index _ d inside) (c.has_ended.ensures.0 c.if-not-has_ended.false)) k h
