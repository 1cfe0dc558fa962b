use Rattle.std.proofs.Common.{◌≡◌, ◌<◌, length, sym, ◌∙◌, rules}
use Rattle.star_operators.proofs.Filling.{filled_format, filled_well, filled_too_few}
use Rattle.star_operators.proofs.percent.filled.Goals as goal

pub returns-in_err-more : goal.returns-in_err-more
returns-in_err-more c =
    let e = c.in-Some.ensures in
    let t = filled_format c.args.setting.now c.args.levels c.args.line c.args.right _ _ _ _ c.loop-before.left.now _ _ c.loop-before.machine e.0 e.1 e.2 c.in_ok-say.ensures in
    rw (sym c.loop-before.invariant.rest ∙ t) (search rules)

pub loop-before-preserved : goal.loop-before-preserved
loop-before-preserved c =
    let e = c.in-Some.ensures in
    let t = filled_format c.args.setting.now c.args.levels c.args.line c.args.right _ _ _ _ c.loop-before.left.now _ _ c.loop-before.machine e.0 e.1 e.2 c.in_ok-say.ensures in
    record {
      rest = sym (t ∙ c.in_ok-more.ensures.reads) ∙ c.loop-before.invariant.rest;
      text = search rules;
    }

pub returns-then-not-is_empty : goal.returns-then-not-is_empty
returns-then-not-is_empty c =
    let k : 0 < length c.loop-before.left.now = search rules in
    rw c.fault_at.ensures (sym c.loop-before.invariant.rest ∙ filled_too_few c.args.setting.now c.args.levels _ c.args.right c.loop-before.rest.now _ c.loop-before.out c.loop-before.machine c.in_default.ensures k)

pub returns : goal.returns
returns c =
    let k : length c.loop-before.left.now ≡ 0 = search rules in
    rw c.in_ok-say-2.ensures (sym c.loop-before.invariant.rest ∙ filled_well c.args.setting.now c.args.levels c.args.line c.args.right c.loop-before.rest.now _ c.loop-before.out c.loop-before.machine c.in_default.ensures k)
