use Rattle.std.proofs.Common.{sym, ◌∙◌, arith}
use Rattle.star_store.specs.Store.{look}
use Rattle.star_store.proofs.Tables.{from_done, from_next, told_start}
use Rattle.star_store.proofs.arena.Arena.place_told.Goals as goal

pub loop-home-init : goal.loop-home-init
loop-home-init c = told_start (look c.args.self.now c.args.homes.now) c.args.content.now _ _ c.args.index.now _ c.homes-home-items.ensures c.keys-keys.ensures c.place-place.ensures

pub loop-home-preserved : goal.loop-home-preserved
loop-home-preserved c = from_next (look c.args.self.now c.args.homes.now) c.args.content.now _ c.loop-home.home-index _ c.keys-keys.result.now c.loop-home.place _ _ (omega (arith, c.loop-home-test.true)) c.in_ok-place_from.ensures c.earlier-place.ensures ∙ c.loop-home.invariant

pub returns : goal.returns
returns c = sym (from_done (look c.args.self.now c.args.homes.now) c.args.content.now _ c.loop-home.home-index c.keys-keys.result.now c.loop-home.place (omega (arith, c.loop-home-test.false))) ∙ c.loop-home.invariant
