use Rattle.std.proofs.Common.{◌≡◌, length}
use Rattle.star_machine.specs.Refines.{with_front}
use Rattle.star_meaning.specs.Run.{each}
use Rattle.star_meaning.specs.Values.{new_text}
use Rattle.star_method.proofs.table.new_texts.Given as goal

abbrev pub invariant-loop-rest : goal.invariant-loop-rest
invariant-loop-rest l = with_front l.made.items (each (new_text l.line) l.rest l.machine) ≡ each (new_text l.line) l.texts l.fn.machine

abbrev pub decreases-loop-rest : goal.decreases-loop-rest
decreases-loop-rest l = length l.rest
