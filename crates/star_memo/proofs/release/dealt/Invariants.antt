use Rattle.std.proofs.Common.{◌<◌}
use Rattle.std.specs.Prelude.{vec_len}
use Rattle.star_memo.proofs.release.dealt.Given as goal

abbrev pub invariant-loop-value : goal.invariant-loop-value
invariant-loop-value g l = l.next < vec_len l.dealt
