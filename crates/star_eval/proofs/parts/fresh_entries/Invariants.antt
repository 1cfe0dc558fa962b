use Rattle.std.proofs.Common.{◌≡◌, [], drop}
use Rattle.star_machine.specs.DictBuilder.{IsGathered}
use Rattle.star_meaning.specs.Expressions.{fresh_entries}
use Rattle.star_eval.proofs.parts.fresh_entries.Given as goal

abbrev pub invariant-loop-entry : goal.invariant-loop-entry
invariant-loop-entry l =
    let f = fresh_entries l.world.setting l.levels l.line in
    record {
      told : f l.gathered.entries (drop l.entry-index l.found) l.machine ≡ f [] l.found l.fn.machine;
      gathered : IsGathered l.world.setting l.machine.store l.gathered;
    }
