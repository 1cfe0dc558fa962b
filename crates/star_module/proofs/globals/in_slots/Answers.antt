use Rattle.std.proofs.Common.{refl, sym, ◌∙◌}
use Rattle.star_module.proofs.InSlots.{passed, taken}
use Rattle.star_module.proofs.globals.in_slots.Goals.{in-Some+in_ok-push, in_default}
use Rattle.star_module.proofs.globals.in_slots.Goals as goal

pub loop-slot-preserved : goal.loop-slot-preserved
loop-slot-preserved c = elim c.match-own_value.branch [
  | in-Some+in_ok-push w ↦ taken _ _ _ _ _ _ _ _ _ c.loop-slot-test.true (sym c.own_value.ensures ∙ w.in-Some.is) (rw w.found-is w.in_ok-push.ensures.items) c.loop-slot.invariant
  | in_default w ↦ passed _ _ _ _ _ _ _ _ c.loop-slot-test.true (sym c.own_value.ensures ∙ w.in_default.is) (rw w.found-is refl) c.loop-slot.invariant
]
