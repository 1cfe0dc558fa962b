use Rattle.std.proofs.Common.{◌-◌, ◌<◌, length, ◌∙◌, arith}
use Rattle.star_memo.specs.Lasting.{is_data}
use Rattle.star_memo.proofs.SameData.{entries_next, same_opened}
use Rattle.star_memo.proofs.same.+same.Goals as goal

pub have_same-loop-i-preserved : goal.have_same-loop-i-preserved
have_same-loop-i-preserved t c =
    let below : c.loop-i.i < length c.args.ys.now = omega arith in
    entries_next (is_data c.args.stores.now c.args.levels) c.args.xs.now c.args.ys.now c.loop-i.i _ _ c.loop-i-test.true below (c.is_same_entry.ensures c.if-not-is_same_entry.false) ∙ c.loop-i.invariant

pub is_same-returns-in-Some-Some : goal.is_same-returns-in-Some-Some
is_same-returns-in-Some-Some t c = λ h.
    let s = c.args.stores.now in
    same_opened s.before.cells s.after.cells s.file c.args.levels (c.args.levels - 1) c.args.at c.in-Some-Some.before.now c.in-Some-Some.after.now (omega arith) c.in-Some-Some.ensures c.in-Some-Some.ensures' (c.are_one.ensures h)
