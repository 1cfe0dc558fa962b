use Rattle.std.proofs.Common.{◌≡◌, ◌<◌, ℕ}
use Rattle.std.specs.Prelude.{slice_index_or}
use Rattle.star_outcome.specs.Kept.{KeptView, IsGoodKept}
use Rattle.star_report.proofs.report.all_good.Given as goal

abbrev pub invariant-loop-i : goal.invariant-loop-i
invariant-loop-i l = record {
  same : l.run ≡ l.initial.run;
  good : (k : ℕ) (d : KeptView) → k < l.i → IsGoodKept (slice_index_or l.initial.run.kept k d);
}
