use Rattle.std.proofs.Common.{◌≡◌, ◌<◌, ℕ}
use Rattle.std.specs.Prelude.{vec_len}
use Rattle.star_memo.specs.Parses.{AreKept, Has}
use Rattle.star_memo.proofs.parses.Parses.parse_rest.Given as goal

abbrev pub invariant-loop-n : goal.invariant-loop-n
invariant-loop-n l = record {
  kept : AreKept l.files l.self.all.items;
  size : vec_len l.self.all ≡ vec_len l.initial.self.all;
  there : (k : ℕ) → k < l.n → k < vec_len l.initial.self.all → Has l.self.all.items k;
  stays : (m : ℕ) → Has l.initial.self.all.items m → Has l.self.all.items m;
}
