use Rattle.std.proofs.Common.{◌≡◌, [], drop}
use Rattle.star_machine.specs.DictBuilder.{IsGathered}
use Rattle.star_meaning.specs.Pairs.{with_pairs}
use Rattle.star_builtin.proofs.dicts.with_pairs.Given as goal

abbrev pub invariant-loop-pair : goal.invariant-loop-pair
invariant-loop-pair l =
    let f = with_pairs l.setting l.levels l.line l.are_keys in
    record {
      told : f l.gathered.entries (drop l.pair-index l.pairs) l.machine ≡ f [] l.pairs l.fn.machine;
      gathered : IsGathered l.setting l.machine.store l.gathered;
    }
