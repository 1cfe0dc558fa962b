use Rattle.std.proofs.Common.{◌≡◌, ◌+◌, length}
use Rattle.star_explain.proofs.cycles.push_files.Given as goal

abbrev pub invariant-loop-i : goal.invariant-loop-i
invariant-loop-i l = length l.todo.items + l.i ≡ length l.initial.todo.items + length l.files
