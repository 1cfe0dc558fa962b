use Rattle.std.proofs.Common.{◌≡◌, length, take}
use Rattle.std.specs.List.{count_by}
use Rattle.star_cache.specs.State.{is_begun}
use Rattle.star_outcome.specs.Kept.{AllKept, AreModulesBelow}
use Rattle.star_host.proofs.settle.kept_of.Given as goal

abbrev pub invariant-loop-n : goal.invariant-loop-n
invariant-loop-n g l = record {
  same : l.entries.items ≡ l.initial.entries.items;
  cells : AllKept g.J.RunId.shelf l.kept.items;
  modules : AreModulesBelow g.J.RunId.plan l.n l.kept.items;
  begun : length l.kept.items ≡ count_by is_begun (take l.n l.initial.entries.items);
}
