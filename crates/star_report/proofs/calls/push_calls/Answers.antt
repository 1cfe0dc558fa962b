use Rattle.std.proofs.Common.{rules, ◌≡◌, ◌<◌, ◌++◌, ◌||◌, [], arith, get_or, if◌then◌else◌, length, subst, sym}
use Rattle.serde_json.specs.Written.{comma_if}
use Rattle.star_meaning.specs.declared.said.Said.{Said}
use Rattle.star_report.specs.Calls.{is_call, row_of}
use Rattle.star_report.proofs.CallRows.{rows_next}
use Rattle.star_report.proofs.calls.push_calls.Goals as goal

pub loop-one-preserved : goal.loop-one-preserved
loop-one-preserved c =
    let said = c.args.said.now in
    let i = c.loop-one.one-index in
    let x : Said = c.one-item.result in
    let less : i < length said = omega (arith, c.loop-one-test.true) in
    let at : get_or said i x ≡ x = search rules in
    rows_next c.push.new.self.items said i x c.loop-one.text.items c.push_said.new.text.items c.loop-one.later c.in_ok-later.later less c.loop-one.invariant
    (subst (λ y. c.in_ok-later.later ≡ (c.loop-one.later || is_call y)) (sym at) c.in_ok-later.ensures.later)
    (subst (λ y. c.push_said.new.text.items ≡ c.loop-one.text.items ++ (if is_call y then comma_if c.loop-one.later ++ row_of y else [])) (sym at) c.in_ok-later.ensures.text)
