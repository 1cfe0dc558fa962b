use Rattle.std.proofs.Common.{◌≡◌, ◌<◌, ℕ}
use Rattle.std.specs.Prelude.{vec_len}
use Rattle.star_memo.specs.Parses.{AreKept, Has, IsSameFile}
use Rattle.star_memo.proofs.parses.Parses.after.Given as goal

abbrev pub invariant-loop-n : goal.invariant-loop-n
invariant-loop-n l = record {
  kept : AreKept l.compared.files l.all.items;
  count : vec_len l.all ≡ l.n;
  stays : (m k : ℕ) → k < l.n → IsSameFile l.compared.before m l.compared.files k → Has l.self.all.items m → Has l.all.items k;
}
