use Rattle.std.proofs.Common.{◌≡◌, drop}
use Rattle.star_machine.specs.Refines.{with_front}
use Rattle.star_meaning.specs.Module.{global_text}
use Rattle.star_meaning.specs.Run.{each}
use Rattle.star_module.specs.Globals.{owned}
use Rattle.star_module.proofs.module.texts_of.Given as goal

abbrev pub invariant-loop-global : goal.invariant-loop-global
invariant-loop-global l =
    let f = global_text l.world.setting l.levels l.line in
    with_front (owned l.texts.items) (each f (owned (drop l.global-index l.globals)) l.machine) ≡ each f (owned l.globals) l.fn.machine
