use Rattle.std.proofs.Common.{arith, ◌≡◌, ◌<◌, ◌-◌, ◌∙◌, ap, get_or, length, drop, subst, sym}
use Rattle.star_meaning.specs.Attributes as spec
use Rattle.star_attribute.specs.Attributes.{shown_names}
use Rattle.star_attribute.proofs.Once.{no_name, one_back}
use Rattle.star_attribute.proofs.attributes.names_once.Goals as goal

pub loop-i-preserved : goal.loop-i-preserved
loop-i-preserved c =
    let ns = c.args.names.now in
    let i = c.loop-i.i - 1 in
    let less : i < length ns = omega (arith, c.loop-i-test.true, c.loop-i.auto.i) in
    c.in_ok-put_name.ensures ∙ (ap (spec.put_name (get_or ns i no_name).now) c.loop-i.invariant ∙ sym (one_back ns c.loop-i.i (omega (arith, c.loop-i-test.true)) less))

pub returns : goal.returns
returns c =
    let none_left : c.loop-i.i ≡ 0 = omega (arith, c.loop-i-test.false) in
    subst (λ k. shown_names c.loop-i.once.items ≡ spec.names_once (shown_names (drop k c.args.names.now))) none_left c.loop-i.invariant
