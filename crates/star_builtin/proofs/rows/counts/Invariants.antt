use Rattle.std.proofs.Common.{◌≡◌, drop}
use Rattle.star_machine.specs.Refines.{with_front}
use Rattle.star_meaning.specs.Run.{each}
use Rattle.star_meaning.specs.Values.{count_of}
use Rattle.star_builtin.proofs.rows.counts.Given as goal

abbrev pub invariant-loop-value : goal.invariant-loop-value
invariant-loop-value l = let f = count_of l.setting l.line in with_front l.counts.items (each f (drop l.value-index l.values) l.machine) ≡ each f l.values l.machine
