use Rattle.std.proofs.Common.{◌<◌, ℕ}
use Rattle.std.specs.Prelude.{slice_index_or}
use Rattle.std.specs.Str.{IsUtf8}
use Rattle.starload_c.proofs.asked.are_texts.Given as goal

abbrev pub invariant-loop-word : goal.invariant-loop-word
invariant-loop-word l = (k : ℕ) (d : _) → k < l.word-index → IsUtf8 (slice_index_or l.words k d).now
