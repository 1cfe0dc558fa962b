use Rattle.std.proofs.Common.{not, ap, refl, sym, ◌∙◌}
use Rattle.star_store.specs.declared.values.Value.{Value}
use Rattle.star_meaning.specs.Sets.{has_element}
use Rattle.star_machine.proofs.Kept.{kept_next, left_next}
use Rattle.star_machine.proofs.sets.new_to.Goals as goal
use Rattle.star_machine.proofs.sets.new_to.Goals.{then-not-has+in_ok-push, else-not-has}

pub loop-item-preserved : goal.loop-item-preserved
loop-item-preserved c =
    let xs = c.args.items.now in
    let i = c.loop-item.item-index in
    let less = c.loop-item-test.true in
    let found = c.loop-item.found.items in
    let test = λ (x : Value). not (has_element c.args.setting.now c.args.machine.now c.args.elements.now.entries x) in
    elim c.if-not-has.branch [
      | then-not-has+in_ok-push w ↦ rw w.found-is (kept_next test found _ xs _ i _ less (ap not (sym c.has.ensures ∙ w.if-not-has.true)) w.in_ok-push.ensures.items c.loop-item.invariant)
      | else-not-has w ↦ rw w.found-is (left_next test found _ xs _ i _ less (ap not (sym c.has.ensures ∙ w.if-not-has.false)) refl c.loop-item.invariant)
    ]
