use Rattle.std.proofs.Common.{ℕ, List}
use Rattle.std.specs.Prelude.{All, IfOk}
use Rattle.star_label.specs.Files.{File}
use Rattle.star_memo.specs.Parses.{AreKept, AreMade, Has}
use Rattle.star_memo.proofs.parses.Parses.put_shares.Given as goal

abbrev pub invariant-loop-share : goal.invariant-loop-share
invariant-loop-share l = record {
  kept : (files : List File) → All (λ r. IfOk r (λ made. AreMade files made.items)) l.yielded → AreKept files l.initial.self.all.items → AreKept files l.self.all.items;
  stays : (m : ℕ) → Has l.initial.self.all.items m → Has l.self.all.items m;
}
