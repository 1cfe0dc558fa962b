use Rattle.std.proofs.Common.{◌≡◌, map, take, Some}
use Rattle.star_store.specs.Index.{entries_by}
use Rattle.star_store.proofs.arena.indexes.index_of.Given as goal

abbrev pub invariant-loop-entry : goal.invariant-loop-entry
invariant-loop-entry l = entries_by l.arena (take l.entry-index l.entries) ≡ map Some l.index
