use Rattle.std.proofs.Common.{sym, ◌∙◌, arith}
use Rattle.star_store.proofs.Tables.{among_done, among_next}
use Rattle.star_store.proofs.arena.tables.earliest.Goals as goal

pub loop-at-preserved : goal.loop-at-preserved
loop-at-preserved c = among_next c.args.home c.args.row.now c.loop-at.at-index _ c.args.keys.now c.loop-at.place _ _ _ (omega (arith, c.loop-at-test.true)) c.far.ensures c.place.ensures c.earlier-place.ensures c.loop-at.invariant

pub returns : goal.returns
returns c = sym (among_done c.args.home c.args.row.now c.loop-at.at-index c.args.keys.now c.loop-at.place (omega (arith, c.loop-at-test.false))) ∙ c.loop-at.invariant
