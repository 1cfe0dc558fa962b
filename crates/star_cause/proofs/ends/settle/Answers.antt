use Rattle.std.proofs.Common.{◌<◌, length, refl, sym, arith, slice_index_or}
use Rattle.star_cause.proofs.Settles.{settled_more}
use Rattle.star_cause.proofs.ends.settle.Goals as goal

pub loop-i-preserved : goal.loop-i-preserved
loop-i-preserved c =
    let ends = c.args.ends.now in
    let files = c.args.files.now in
    let now = c.loop-i.ends in
    let inside : slice_index_or files c.loop-i.i 0 < length now.items = omega (arith, c.requires.within c.loop-i.i 0 (omega arith), ends.ok.0, c.loop-i.invariant.size) in
    settled_more ends.items files c.args.stop c.loop-i.i now.items (slice_index_or files c.loop-i.i 0) c.end_at.result refl (sym c.end_at.ensures) inside c.loop-i.invariant
