use Rattle.std.proofs.Common.{◌<◌, length, not, ap, sym, ◌∙◌, arith}
use Rattle.star_store.specs.declared.values.Value.{Value}
use Rattle.star_meaning.specs.Sets.{has_element}
use Rattle.star_machine.proofs.Kept.{kept_next, left_next}
use Rattle.star_machine.proofs.sets.those_out.Goals as goal
use Rattle.star_machine.proofs.sets.those_out.Goals.{then-not-has+in_ok-push, else-not-has}

pub loop-entry-preserved : goal.loop-entry-preserved
loop-entry-preserved c =
    let es = c.as_slice-entry-items.result.now in
    let i = c.loop-entry.entry-index in
    let less : i < length es = omega arith in
    let test = λ (e : Value × Value). not (has_element c.args.setting.now c.args.machine.now c.args.other.now.entries e.0) in
    elim c.if-not-has.branch [
      | then-not-has+in_ok-push w ↦ kept_next test c.loop-entry.found _ es _ i _ less (ap not (sym c.has.ensures ∙ w.if-not-has.true)) (w.found-is ∙ w.in_ok-push.ensures.pushed) c.loop-entry.invariant
      | else-not-has w ↦ left_next test c.loop-entry.found _ es _ i _ less (ap not (sym c.has.ensures ∙ w.if-not-has.false)) w.found-is c.loop-entry.invariant
    ]
