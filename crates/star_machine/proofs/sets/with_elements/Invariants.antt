use Rattle.std.proofs.Common.{◌≡◌, drop}
use Rattle.star_meaning.specs.Entries.{with_elements}
use Rattle.star_machine.specs.DictBuilder.{IsGathered}
use Rattle.star_machine.proofs.sets.with_elements.Given as goal

abbrev pub invariant-loop-item : goal.invariant-loop-item
invariant-loop-item l = record {
  told : with_elements l.setting l.machine l.gathered.entries (drop l.item-index l.items) ≡ with_elements l.setting l.machine l.fn.elements.entries l.items;
  gathered : IsGathered l.setting l.machine.store l.gathered;
}
