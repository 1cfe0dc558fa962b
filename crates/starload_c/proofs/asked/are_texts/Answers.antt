use Rattle.std.proofs.Common.{◌<◌, ℕ, Bor, List, length, rules}
use Rattle.std.specs.Str.{IsUtf8}
use Rattle.starload_c.proofs.Words.{one_more}
use Rattle.starload_c.proofs.asked.are_texts.Goals as goal

pub loop-word-preserved : goal.loop-word-preserved
loop-word-preserved c =
    one_more (λ (w : Bor (List ℕ)). IsUtf8 w.now) c.args.words.now c.loop-word.word-index _ (search rules) c.loop-word.invariant (c.is_text.ensures.yes c.if-not-is_text.false)
