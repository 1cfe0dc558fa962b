use Rattle.std.proofs.Common.{rules, arith, ◌≡◌, ◌≤◌, false, get_or}
use Rattle.star_frames.specs.Place.{goes_on}
use Rattle.star_frames.proofs.Columns.{stops}
use Rattle.star_frames.proofs.place.passed.Goals as goal
use Rattle.star_frames.proofs.place.passed.Goals.{then-left-gt0, else-left-gt0}

pub returns-else-goes_on-clause-back : goal.returns-else-goes_on-clause-back
returns-else-goes_on-clause-back c offset start end boundary column =
    let inv = c.loop-at.invariant in
    let le = inv.5 offset start end boundary column in
    elim c.if-left-gt0.branch [
      | then-left-gt0 w ↦ absurd (grind (arith, w.value-is, c.if-goes_on.false))
      | else-left-gt0 w ↦
          stops c.args.units c.args.text.now c.args.start c.loop-at.at offset c.args.column c.loop-at.left le (omega (arith, c.requires.within)) inv.3 inv.4 column (omega (arith, w.if-left-gt0)) (search rules)
    ]
