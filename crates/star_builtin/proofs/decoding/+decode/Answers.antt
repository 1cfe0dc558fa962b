use Rattle.std.proofs.Common.{◌≡◌, ◌-◌, suc, subst, sym, ap, ◌∙◌, rules, arith}
use Rattle.json.specs.Value.{members_view, value_view}
use Rattle.json.specs.Json.{object}
use Rattle.json.proofs.Trees.{view-Object}
use Rattle.star_meaning.specs.Json.{decoded}
use Rattle.star_machine.specs.Refines.{Refines}
use Rattle.star_builtin.proofs.Decoded.{decoded_step, member_more, next_item}
use Rattle.star_builtin.proofs.decoding.+decode.Goals as goal

pub built-returns-in_ok-entries-in-Object : goal.built-returns-in_ok-entries-in-Object
built-returns-in_ok-entries-in-Object t c =
    let view : value_view c.args.read.now ≡ object (members_view c.as_slice-in-Object.result.now) = ap value_view c.in-Object.is ∙ (view-Object c.in-Object.members ∙ ap (λ l. object (members_view l)) (sym c.as_slice-in-Object.ensures.value)) in
    rw (view, c.in_ok-entries-in-Object.ensures) c.new_dict.ensures

pub built-returns-in_err-entries-in-Object : goal.built-returns-in_err-entries-in-Object
built-returns-in_err-entries-in-Object t c =
    let view : value_view c.args.read.now ≡ object (members_view c.as_slice-in-Object.result.now) = ap value_view c.in-Object.is ∙ (view-Object c.in-Object.members ∙ ap (λ l. object (members_view l)) (sym c.as_slice-in-Object.ensures.value)) in
    rw view (search rules)

pub decoded-returns : goal.decoded-returns
decoded-returns t c =
    let n = c.args.levels - 1 in
    let more : c.args.levels ≡ suc n = omega (arith, c.if-levels-eq0.false) in
    let j = value_view c.args.read.now in
    let step = decoded_step c.args.line n j c.args.machine.now c.pay_one.new.self c.in_ok-pay_one.ensures.answer in
    subst (λ k. Refines (decoded c.args.line k j c.args.machine.now) c.built.result c.built.new.machine) (sym more) (subst (λ o. Refines o c.built.result c.built.new.machine) (sym step) c.built.ensures)

pub entries_of-loop-member-preserved : goal.entries_of-loop-member-preserved
entries_of-loop-member-preserved t c =
    let next = ap members_view (next_item c.args.members.now c.loop-member.member-index c.member-item.result c.loop-member-test.true c.member-item.is) in
    member_more c.args.line (decoded c.args.line c.args.levels) c.loop-member.before c.new_name.new.before _ _ _ _ _ _ _ _ _ _ _ _ next c.in_ok-key.ensures.answer c.in_ok-value.ensures c.in_ok-key.ensures.before c.in_ok-push.ensures.pushed c.loop-member.invariant
