use Rattle.std.proofs.Common.{◌+◌, ◌≤◌, length}
use Rattle.star_shards.proofs.Reading.{SoFar}
use Rattle.star_shards.proofs.lines.read_lines.Given as goal

abbrev pub invariant-loop-line : goal.invariant-loop-line
invariant-loop-line l = record {
  so_far : SoFar l.fn.input l.rest l.count l.lines;
  fits : l.count + length l.rest ≤ length l.fn.input;
}

abbrev pub decreases-loop-line : goal.decreases-loop-line
decreases-loop-line l = length l.rest
