use Rattle.std.proofs.Common.{◌≡◌, ◌<◌, ℕ, vec_len}
use Rattle.std.specs.Prelude.{slice_index_or}
use Rattle.star_outcome.specs.GoodEnds.{AreEndsAmong, HaveEnd}
use Rattle.star_outcome.specs.Kept.{KeptView}
use Rattle.star_outcome.proofs.outcome.Run.good_ends.Given as goal

abbrev pub invariant-loop-i : goal.invariant-loop-i
invariant-loop-i l = record {
  same : l.self ≡ l.initial.self;
  sized : vec_len l.ends ≡ l.files;
  own : AreEndsAmong l.initial.self.kept l.ends.items;
  all : (k : ℕ) (d : KeptView) → k < l.i → HaveEnd l.ends.items (slice_index_or l.initial.self.kept k d);
}
