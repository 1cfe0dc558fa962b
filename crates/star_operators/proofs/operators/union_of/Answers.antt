use Rattle.std.proofs.Common.{◌<◌, sym, ◌∙◌, length, arith}
use Rattle.star_operators.proofs.Bytes.{entries_next}
use Rattle.star_operators.proofs.operators.union_of.Goals as goal

pub loop-entry-preserved : goal.loop-entry-preserved
loop-entry-preserved c =
    let h : c.loop-entry.entry-index < length c.as_slice-entry-items.result.now = omega arith in
    let k : c.loop-entry.entry-index < length c.args.right.now = rw c.as_slice-entry-items.ensures at h in
    record {
      told = rw (c.in_ok-put.ensures.put, c.as_slice-entry-items.ensures) (sym (entries_next c.args.setting.now c.args.machine.now _ _ _ _ k) ∙ c.loop-entry.invariant.told);
      gathered = c.in_ok-put.ensures.gathered;
    }
