use Rattle.std.proofs.Common.{inl}
use Rattle.std.proofs.lemmas.List.Elements.{Contains-get_or}
use Rattle.star_reading.proofs.Finds.{by_cases}
use Rattle.star_outcome.proofs.numbers.Numbers.insert_all.Goals as goal

pub loop-word-preserved : goal.loop-word-preserved
loop-word-preserved c = λ k h. by_cases (c.in_ok-insert_word.ensures k h) (λ it. inl (_, Contains-get_or c.args.words.now c.loop-word.word-index _ c.loop-word-test.true, it)) (λ old. c.loop-word.invariant k old)
