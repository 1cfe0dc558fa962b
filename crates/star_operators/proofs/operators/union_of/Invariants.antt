use Rattle.std.proofs.Common.{◌≡◌, drop}
use Rattle.star_meaning.specs.Entries.{with_entries}
use Rattle.star_machine.specs.DictBuilder.{IsGathered}
use Rattle.star_operators.proofs.operators.union_of.Given as goal

abbrev pub invariant-loop-entry : goal.invariant-loop-entry
invariant-loop-entry l = record {
  told : with_entries l.setting l.machine l.made.entries (drop l.entry-index l.right) ≡ with_entries l.setting l.machine l.left l.right;
  gathered : IsGathered l.setting l.machine.store l.made;
}
