use Rattle.std.proofs.Common.{◌∙◌, ℕ, sym, subst}
use Rattle.std.specs.Prelude.{All}
use Rattle.star_cache.specs.Seats.{AreAll}
use Rattle.star_cache.specs.State.{HasEnded}
use Rattle.star_host.proofs.SeatsBack.{same_all}
use Rattle.star_host.proofs.Settled.{of_reached}
use Rattle.star_host.proofs.settle.closed.Goals as goal

pub returns-in-Ok-clause-ended : goal.returns-in-Ok-clause-ended
returns-in-Ok-clause-ended g c =
    let P : ℕ → Type 0 = λ n. HasEnded c.in-Ok.closed.0 n in
    of_reached P g.J.RunId.files g.J.RunId.plan c.args.common.now.reads.now c.in_ok-reached.reached.items c.requires.world.row_is c.requires.world.planned c.in_ok-reached.ensures (subst (All P) c.deref.ensures.value c.in-Ok.ensures.ended)

pub close_ended-requires-2 : goal.close_ended-requires-2
close_ended-requires-2 g c =
    let before = subst (λ v. AreAll g.J.Ledger.parts v.items) (sym c.in-Err.ensures.back) c.requires.seats in
    record { all = same_all g.J.Ledger.parts c.in-Err.open.1.items c.settle_first.new.seats.items c.settle_first.ensures.numbers before }

pub returns-in-Ok-close_ended-clause-loaders : goal.returns-in-Ok-close_ended-clause-loaders
returns-in-Ok-close_ended-clause-loaders g c =
    let before = subst (λ v. AreAll g.J.Ledger.parts v.items) (sym c.in-Err.ensures.back) c.requires.seats in
    let all = same_all g.J.Ledger.parts c.in-Err.open.1.items c.settle_first.new.seats.items c.settle_first.ensures.numbers before in
    c.in-Ok-close_ended.ensures.closing.loaders_are ∙ all.0

pub returns-in-Ok-close_ended-clause-ended : goal.returns-in-Ok-close_ended-clause-ended
returns-in-Ok-close_ended-clause-ended g c =
    let P : ℕ → Type 0 = λ n. HasEnded c.in-Ok-close_ended.closed.0 n in
    of_reached P g.J.RunId.files g.J.RunId.plan c.args.common.now.reads.now c.in_ok-reached.reached.items c.requires.world.row_is c.requires.world.planned c.in_ok-reached.ensures (subst (All P) c.deref-2.ensures.value c.in-Ok-close_ended.ensures.ended)
