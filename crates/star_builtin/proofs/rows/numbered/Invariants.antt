use Rattle.std.proofs.Common.{◌≡◌, ◌+ℤ◌, pos, drop}
use Rattle.star_machine.specs.Refines.{with_front}
use Rattle.star_meaning.specs.BuiltIns.{numbered}
use Rattle.star_builtin.proofs.rows.numbered.Given as goal

abbrev pub invariant-loop-item : goal.invariant-loop-item
invariant-loop-item l = record {
  rest : with_front l.pairs.items (numbered l.line l.number (drop l.item-index l.items) l.machine) ≡ numbered l.line l.start l.items l.fn.machine;
  number : l.number ≡ l.start +ℤ pos l.item-index;
}
