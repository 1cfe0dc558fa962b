use Rattle.std.proofs.Common.{ℕ, List}
use Rattle.star_label.specs.Files.{File}
use Rattle.star_memo.specs.Parses.{AreKept, AreMade, Has}
use Rattle.star_memo.proofs.parses.Parses.put_each.Given as goal

abbrev pub invariant-loop-n : goal.invariant-loop-n
invariant-loop-n l = record {
  kept : (files : List File) → AreMade files l.yielded → AreKept files l.initial.self.all.items → AreKept files l.self.all.items;
  stays : (m : ℕ) → Has l.initial.self.all.items m → Has l.self.all.items m;
}
