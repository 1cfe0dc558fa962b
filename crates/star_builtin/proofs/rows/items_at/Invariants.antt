use Rattle.std.proofs.Common.{◌≡◌, drop}
use Rattle.star_store.specs.declared.values.Value.{Value}
use Rattle.star_machine.specs.Refines.{with_front}
use Rattle.star_meaning.specs.Run.{each}
use Rattle.star_meaning.specs.Values.{take_item}
use Rattle.star_builtin.proofs.rows.items_at.Given as goal

abbrev pub invariant-loop-value : goal.invariant-loop-value
invariant-loop-value l = let f = λ (v : Value). take_item l.setting l.line v l.at in with_front l.items.items (each f (drop l.value-index l.values) l.machine) ≡ each f l.values l.fn.machine
