use Rattle.std.proofs.Common.{◌≡◌, map, take, Some}
use Rattle.star_store.specs.Store.{look}
use Rattle.star_machine.specs.DictBuilder.{contents_of}
use Rattle.star_machine.proofs.gathered.contents_of.Given as goal

abbrev pub invariant-loop-entry : goal.invariant-loop-entry
invariant-loop-entry l = contents_of (look l.machine.store l.setting.shelf) (take l.entry-index l.entries) ≡ map Some l.contents
