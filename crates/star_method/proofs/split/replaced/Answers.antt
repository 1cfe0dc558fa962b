use Rattle.std.proofs.Common.{◌≡◌, ◌++◌, ap, ◌∙◌, rules}
use Rattle.star_method.proofs.Cutting.{replaced_turn}
use Rattle.star_method.proofs.split.replaced.Goals as goal

pub loop-before-preserved : goal.loop-before-preserved
loop-before-preserved c =
    let b : c.put.new.self ≡ c.loop-before.made ++ c.in-Some.before.now ++ c.args.new.now = c.in_ok-put.ensures ∙ ap (λ z. z ++ c.args.new.now) c.in_ok-say.ensures in
    record {
      rest = rw c.one_less-left.ensures (replaced_turn c.args.new.now c.in-Some.before.now c.in-Some.after.now c.args.old.now c.loop-before.rest.now _ c.loop-before.left c.loop-before.made c.put.new.self c.in-Some.ensures.0 c.loop-before.invariant.rest b);
      text = search rules;
    }
