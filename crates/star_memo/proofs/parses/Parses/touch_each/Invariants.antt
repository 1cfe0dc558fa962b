use Rattle.std.proofs.Common.{◌<◌, ℕ, List}
use Rattle.std.specs.Prelude.{slice_index_or}
use Rattle.star_label.specs.Files.{File}
use Rattle.star_memo.specs.Parses.{AreKept, IsTouched}
use Rattle.star_memo.proofs.parses.Parses.touch_each.Given as goal

abbrev pub invariant-loop-n : goal.invariant-loop-n
invariant-loop-n l = record {
  kept : (files : List File) → AreKept files l.initial.self.all.items → AreKept files l.self.all.items;
  reached : (k d : ℕ) → k < l.n-index → IsTouched l.self.all.items l.request (slice_index_or l.reached k d);
}
