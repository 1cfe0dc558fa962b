use Rattle.std.proofs.Common.{◌≡◌, drop}
use Rattle.star_machine.specs.Refines.{with_front}
use Rattle.star_meaning.specs.Recorded.{json_of}
use Rattle.star_meaning.specs.Run.{each}
use Rattle.star_builtin.proofs.recorded.json_of_each.Given as goal

abbrev pub invariant-loop-value : goal.invariant-loop-value
invariant-loop-value l = let f = json_of l.call.setting.now l.call.levels l.call.line in with_front l.texts.items (each f (drop l.value-index l.values) l.machine) ≡ each f l.values l.fn.machine
