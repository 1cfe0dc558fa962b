use Rattle.std.proofs.Common.{sym, subst}
use Rattle.star_outcome.specs.GoodEnds.{HasStoreOf}
use Rattle.star_outcome.specs.Reaches.{row_of}
use Rattle.star_outcome.specs.declared.module.Body.{Body}
use Rattle.star_memo.specs.Lasting.{AreStoresOf}
use Rattle.star_memo.proofs.EndsLast.{stores_are}
use Rattle.star_memo.proofs.lasting.Change.stores.Goals as goal

pub returns-in_ok-new-in-Some-Some-2 : goal.returns-in_ok-new-in-Some-Some-2
returns-in_ok-new-in-Some-Some-2 c =
    let one = c.in-Some-Some-2.before.now in
    let other = c.in-Some-Some-2.after.now in
    subst (AreStoresOf c.args.self.now c.args.n) (sym c.in_ok-new-in-Some-Some-2.ensures)
    (stores_are c.args.self.now c.requires c.args.n c.in-Some-Some.before.now c.in-Some-Some.after.now one other c.in-Some-Some.ensures c.in-Some-Some.ensures'
    (subst (λ (b : Body). HasStoreOf (row_of b.stores) c.args.n one) c.deref.ensures c.in-Some-Some-2.ensures)
    (subst (λ (b : Body). HasStoreOf (row_of b.stores) c.args.n other) c.deref-2.ensures c.in-Some-Some-2.ensures'))
