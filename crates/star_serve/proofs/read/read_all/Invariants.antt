use Rattle.std.proofs.Common.{◌≡◌, ◌-◌, ◌≤◌, vec_len}
use Rattle.star_serve.specs.Stream.{Gives}
use Rattle.star_serve.proofs.read.read_all.Given as goal

abbrev pub invariant-loop-count : goal.invariant-loop-count
invariant-loop-count g l = record {
  gives : Gives (g.R.Source.said l.initial.reader) (g.R.Source.said l.reader) l.bytes.items;
  counts : g.R.Source.failed l.reader ≡ g.R.Source.failed l.initial.reader;
  within : vec_len l.bytes ≤ 268435456;
}

abbrev pub decreases-loop-count : goal.decreases-loop-count
decreases-loop-count g l = 268435457 - vec_len l.bytes
