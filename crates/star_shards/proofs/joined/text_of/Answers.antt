use Rattle.std.proofs.Common.{◌<◌, length, ◌∙◌, arith}
use Rattle.star_shards.specs.Lines.{front}
use Rattle.star_shards.proofs.Writing.{listed_more, none_listed}
use Rattle.star_shards.proofs.joined.text_of.Goals as goal

pub loop-i-init : goal.loop-i-init
loop-i-init c = c.in_ok-reserve.ensures.items ∙ c.in_ok-text.ensures ∙ none_listed (front c.args.begun)

pub loop-i-preserved : goal.loop-i-preserved
loop-i-preserved c =
    let lt : c.loop-i.i < length c.args.entries.now = omega arith in
    listed_more c.args.begun c.args.entries.now c.loop-i.i _ c.loop-i.text.items c.push_entry.new.text.items lt c.loop-i.invariant c.in_ok-push_entry.ensures
