use Rattle.std.proofs.Common.{◌≡◌, List, Option, length, sym, subst, arith}
use Rattle.star_memo.specs.Lasting.{AreAllStores, StoresView}
use Rattle.star_memo.proofs.EndsLast.{one_more}
use Rattle.star_memo.proofs.lasting.Change.all_stores.Goals as goal

pub loop-n-preserved : goal.loop-n-preserved
loop-n-preserved c =
    let long : length c.loop-n.all.items ≡ c.loop-n.n = omega (arith, c.loop-n.all.ok.0, c.loop-n.invariant.count) in
    record {
      count = omega (arith, c.in_ok-push.ensures.len, c.loop-n.invariant.count);
      are = subst (AreAllStores c.args.self.now) (sym {A = List (Option StoresView)} c.in_ok-push.ensures.items) (one_more c.args.self.now c.loop-n.all.items c.loop-n.n c.in_ok-stores.field-0 c.loop-n.invariant.are long c.in_ok-stores.ensures);
    }
