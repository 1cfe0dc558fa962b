use Rattle.std.proofs.Common.{◌≡◌, drop}
use Rattle.star_machine.specs.Refines.{with_front}
use Rattle.star_meaning.specs.Run.{each}
use Rattle.star_meaning.specs.Values.{str}
use Rattle.star_builtin.proofs.print.texts.Given as goal

abbrev pub invariant-loop-value : goal.invariant-loop-value
invariant-loop-value l = let f = str l.setting l.levels l.line in with_front l.texts.items (each f (drop l.value-index l.values) l.machine) ≡ each f l.values l.fn.machine
