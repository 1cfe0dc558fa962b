use Rattle.std.proofs.Common.{ℕ, sym, subst}
use Rattle.std.specs.Prelude.{All}
use Rattle.star_cache.specs.State.{BookState, HasEnded}
use Rattle.star_outcome.specs.Views.{ToldView}
use Rattle.star_host.proofs.Settled.{of_reached}
use Rattle.star_alone.proofs.running.run_named.Goals as goal

pub ended_of-requires-clause-ended : goal.ended_of-requires-clause-ended
ended_of-requires-clause-ended g c =
    let P : ℕ → Type 0 = λ n. HasEnded c.into_parts-book.result.0 n in
    let found = subst (All (HasEnded c.load_each.new.cache)) c.deref.ensures.value (c.have_ended.ensures c.if-not-have_ended.false) in
    of_reached P g.J.RunId.files g.J.RunId.plan c.args.common.now.reads.now c.in_ok-reached.reached.items c.requires.world.row_is c.requires.world.planned c.in_ok-reached.ensures
    (subst (λ (b : BookState ToldView). All (HasEnded b) c.in_ok-reached.reached.items) (sym c.into_parts-book.ensures.book) found)

pub returns-clause-kept : goal.returns-clause-kept
returns-clause-kept g c = rw c.requires.world.cells_are c.in_ok-ended_of.ensures.kept
