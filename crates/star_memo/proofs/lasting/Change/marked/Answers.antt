use Rattle.std.proofs.Common.{subst, sym}
use Rattle.star_memo.specs.Lasting.{AreAllStores}
use Rattle.star_memo.proofs.lasting.Change.marked.Goals as goal

pub mark-requires-clause-stores : goal.mark-requires-clause-stores
mark-requires-clause-stores g c = subst (AreAllStores c.args.self.now) (sym c.deref.ensures.value) c.in_ok-stores.ensures
