use Rattle.std.proofs.Common.{◌<◌, inl, inr, length, rules, subst}
use Rattle.star_outcome.specs.Numbers.{Has}
use Rattle.star_reading.proofs.Finds.{by_cases}
use Rattle.star_outcome.proofs.Bits.{has_joined}
use Rattle.star_outcome.proofs.numbers.Numbers.insert_word.Goals as goal

pub returns-then-word-len : goal.returns-then-word-len
returns-then-word-len c = λ k h.
    let room : c.args.word.now.index < length c.self.inside.words.items = search rules in
    by_cases (has_joined c.self.inside.words.items c.args.word.now c.index_mut.result.now c.index_mut.ensures.value room k h)
    (λ it. inl it)
    (λ old. inr ((c.in_ok-lengthen.ensures.same k).0 (subst (λ ws. Has ws k) c.self.view_is old)))
