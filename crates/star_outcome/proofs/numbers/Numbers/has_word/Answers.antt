use Rattle.std.proofs.Common.{◌≡◌, get_or, rules}
use Rattle.std.specs.Prelude.{bit_and}
use Rattle.star_outcome.proofs.Bits.{has_covered}
use Rattle.star_outcome.proofs.numbers.Numbers.has_word.Goals as goal

pub returns-in-Some : goal.returns-in-Some
returns-in-Some c e =
    let within : bit_and c.args.word.now.bits c.in-Some.bits.now ≡ c.args.word.now.bits = search rules in
    let there : c.in-Some.bits.now ≡ get_or c.self.inside.words.items c.args.word.now.index 0 = search rules in
    rw (← c.self.view_is) (has_covered c.self.inside.words.items c.args.word.now c.in-Some.bits.now there within)
