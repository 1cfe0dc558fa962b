use Rattle.std.proofs.Common.{◌≡◌}
use Rattle.std.specs.Prelude.{vec_len}
use Rattle.star_memo.specs.Lasting.{AreAllStores}
use Rattle.star_memo.proofs.lasting.Change.all_stores.Given as goal

abbrev pub invariant-loop-n : goal.invariant-loop-n
invariant-loop-n l = record { count : vec_len l.all ≡ l.n; are : AreAllStores l.self l.all.items }
