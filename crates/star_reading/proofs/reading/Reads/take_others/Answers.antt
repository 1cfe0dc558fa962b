use Rattle.star_scope.specs.Resolve.{outside}
use Rattle.star_reading.proofs.reading.Reads.take_others.Goals as goal

pub loop-n-preserved : goal.loop-n-preserved
loop-n-preserved c =
    let before = c.loop-n.invariant in
    record {
      all = λ files outside all others. c.take_other.ensures.all files outside (before.others files outside others) (before.all files outside all others);
      others = λ files outside others. c.take_other.ensures.others files outside tt (before.others files outside others);
    }

pub returns : goal.returns
returns c = λ files prelude d all others block is. c.loop-n.invariant.all files (outside block d) (all block is) (others block is)
