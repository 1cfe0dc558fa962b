use Rattle.std.proofs.Common.{◌≡◌, ◌/◌, ◌%◌, ◌^◌, get_or, rules}
use Rattle.std.specs.Prelude.{bit_and}
use Rattle.star_outcome.proofs.Bits.{has_bit}
use Rattle.star_outcome.proofs.numbers.Numbers.has.Goals as goal

pub returns-in-Some : goal.returns-in-Some
returns-in-Some c e =
    let bit : bit_and (c.in-Some.bits.now / 2 ^ (c.args.number % 64)) 1 ≡ 1 = search rules in
    let there : c.in-Some.bits.now ≡ get_or c.self.inside.words.items (c.args.number / 64) 0 = search rules in
    rw (← c.self.view_is) (has_bit c.self.inside.words.items c.args.number c.in-Some.bits.now there bit)
