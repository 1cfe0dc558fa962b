use Rattle.std.proofs.Common.{length, ap, ◌∙◌, arith}
use Rattle.std.proofs.lemmas.List.{length_push}
use Rattle.star_sound.specs.Sound.{rows_of}
use Rattle.star_sound.proofs.Steps.{prospect_more}
use Rattle.star_sound.proofs.sound.prospects.Goals as goal

pub loop-n-preserved : goal.loop-n-preserved
loop-n-preserved c = record {
  size = (let e = ap length c.in_ok-push.ensures.items ∙ length_push c.loop-n.all.items c.prospect.result in let s = c.loop-n.invariant.size in omega (arith, e, s));
  each = prospect_more (rows_of c.args.needs.now) c.loop-n.all.items c.push.new.self.items c.loop-n.n c.prospect.result c.loop-n.invariant.size c.loop-n.invariant.each c.prospect.ensures c.in_ok-push.ensures.items;
}
