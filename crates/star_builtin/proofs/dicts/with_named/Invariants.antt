use Rattle.std.proofs.Common.{◌≡◌, drop}
use Rattle.star_machine.specs.DictBuilder.{IsGathered}
use Rattle.star_meaning.specs.Pairs.{with_named}
use Rattle.star_builtin.proofs.dicts.with_named.Given as goal

abbrev pub invariant-loop-value : goal.invariant-loop-value
invariant-loop-value l = record {
  told : with_named l.setting l.line l.gathered.entries (drop l.value-index l.named) l.machine ≡ with_named l.setting l.line l.initial.gathered.entries l.named l.fn.machine;
  gathered : IsGathered l.setting l.machine.store l.gathered;
}
