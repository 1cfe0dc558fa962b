use Rattle.std.proofs.Common.{◌≡◌, ◌-◌}
use Rattle.star_machine.specs.Refines.{with_front}
use Rattle.star_meaning.specs.Run.{collect}
use Rattle.star_meaning.specs.BuiltIns.{row_at}
use Rattle.star_builtin.proofs.rows.rows.Given as goal

abbrev pub invariant-loop-i : goal.invariant-loop-i
invariant-loop-i l = let f = row_at l.setting l.line l.values in with_front l.rows.items (collect f (l.count - l.i) l.i l.machine) ≡ collect f l.count 0 l.fn.machine
