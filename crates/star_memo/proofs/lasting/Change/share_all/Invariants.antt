use Rattle.std.proofs.Common.{◌<◌, ℕ}
use Rattle.std.specs.Prelude.{slice_index_or}
use Rattle.star_memo.specs.Lasting.{IsMarkedOrShared}
use Rattle.star_memo.proofs.lasting.Change.share_all.Given as goal

abbrev pub invariant-loop-m : goal.invariant-loop-m
invariant-loop-m l = (k d : ℕ) → k < l.m-index → IsMarkedOrShared l.self l.marks l.n (slice_index_or l.loads k d)
