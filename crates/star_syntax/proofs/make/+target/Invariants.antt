use Rattle.std.proofs.Common.{◌≡◌, length}
use Rattle.star_syntax.specs.Keeps.{targets_of}
use Rattle.star_syntax.proofs.Targets.{joined}
use Rattle.star_syntax.proofs.make.+target.Given as goal

abbrev pub decreases-targets_of-loop-part : goal.decreases-targets_of-loop-part
decreases-targets_of-loop-part l = length l.parts

abbrev pub invariant-targets_of-loop-part : goal.invariant-targets_of-loop-part
invariant-targets_of-loop-part l = record {
  deep : goal.no_deeper-targets_of-loop-part l;
  same : targets_of l.fn.parts ≡ joined (targets_of l.parts) l.found;
}
