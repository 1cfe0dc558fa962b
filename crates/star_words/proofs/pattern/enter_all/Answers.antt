use Rattle.std.proofs.Common.{◌∙◌, arith}
use Rattle.star_words.proofs.pattern.enter_all.Goals as goal

pub loop-name-preserved : goal.loop-name-preserved
loop-name-preserved c = record {
  walked = λ top here walked. c.in_ok-enter.ensures.walked top here (c.loop-name.invariant.walked top here walked);
  listed = c.enter.ensures.listed ∙ c.loop-name.invariant.listed;
  places = omega (arith, c.in_ok-enter.ensures.places, c.loop-name.invariant.places, c.in-Some.ensures.len);
}
