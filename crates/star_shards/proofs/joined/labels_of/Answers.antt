use Rattle.std.proofs.Common.{◌<◌, length, arith}
use Rattle.star_shards.proofs.Writing.{labels_more}
use Rattle.star_shards.proofs.joined.labels_of.Goals as goal

pub loop-entry-preserved : goal.loop-entry-preserved
loop-entry-preserved c =
    let lt : c.loop-entry.entry-index < length c.args.entries.now = omega arith in
    labels_more c.args.entries.now c.loop-entry.entry-index _ c.loop-entry.labels c.insert.new.self lt c.in_ok-insert.ensures.updates c.loop-entry.invariant
