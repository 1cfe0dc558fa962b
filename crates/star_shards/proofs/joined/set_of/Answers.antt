use Rattle.std.proofs.Common.{◌<◌, length, arith}
use Rattle.std.specs.Prelude.{string_bytes}
use Rattle.star_shards.proofs.Writing.{found_more}
use Rattle.star_shards.proofs.joined.set_of.Goals as goal

pub loop-word-preserved : goal.loop-word-preserved
loop-word-preserved c =
    let lt : c.loop-word.word-index < length c.args.words.now = omega arith in
    found_more string_bytes c.args.words.now c.loop-word.word-index c.word-item.result c.as_bytes.result c.loop-word.set c.insert.new.self lt c.word-item.is c.as_bytes.ensures.value c.in_ok-insert.ensures.updates c.loop-word.invariant
