use Rattle.std.proofs.Common.{rules}
use Rattle.star_outcome.proofs.Bits.{all_words, words_more, words_past}
use Rattle.star_outcome.proofs.numbers.Numbers.words.Goals as goal

pub loop-index-preserved-then-bits-eq0 : goal.loop-index-preserved-then-bits-eq0
loop-index-preserved-then-bits-eq0 c = words_past c.self.inside.words.items c.loop-index.words.items c.loop-index.index c.index-bits.result.now (search rules) c.index-bits.ensures c.if-bits-eq0.true c.loop-index.invariant

pub loop-index-preserved : goal.loop-index-preserved
loop-index-preserved c =
    rw c.in_ok-push.ensures.items
    (words_more c.self.inside.words.items c.loop-index.words.items (record { index = c.loop-index.index; bits = c.index-bits.result.now }) (search rules) c.index-bits.ensures c.loop-index.invariant)

pub returns : goal.returns
returns c = rw (← c.self.view_is) (all_words c.self.inside.words.items c.loop-index.words.items c.loop-index.index (search rules) c.loop-index.invariant)
