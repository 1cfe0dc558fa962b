use Rattle.std.proofs.Common.{refl, ◌≤◌, length, arith}
use Rattle.star_store.proofs.Writing.{changed_within, changed_without}
use Rattle.star_store.proofs.arena.write.change_at.Goals as goal

pub returns-then-at-cells : goal.returns-then-at-cells
returns-then-at-cells c = changed_within _ _ _ _ _ _ _ c.if-at-cells.true c.index-cells-at.is c.change_in.ensures.iterations c.change_in.ensures.answer

pub returns : goal.returns
returns c = let h : length c.args.cells.now ≤ c.args.at = omega arith in (changed_without c.args.change c.args.place c.args.cells.now c.args.at h, refl)
