use Rattle.std.proofs.Common.{sym, ◌∙◌}
use Rattle.star_machine.proofs.Kept.{elements_next}
use Rattle.star_machine.proofs.sets.with_elements.Goals as goal

pub loop-item-preserved : goal.loop-item-preserved
loop-item-preserved c = record {
  told = rw c.in_ok-put.ensures.put (sym (elements_next c.args.setting.now c.args.machine.now _ _ _ _ c.loop-item-test.true) ∙ c.loop-item.invariant.told);
  gathered = c.in_ok-put.ensures.gathered;
}
