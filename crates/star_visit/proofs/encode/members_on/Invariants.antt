use Rattle.std.proofs.Common.{Option}
use Rattle.star_store.specs.declared.values.Value.{Value}
use Rattle.star_store.specs.declared.values.Cell.{Cell}
use Rattle.star_visit.specs.Sheets.{AreWithin}
use Rattle.star_visit.proofs.encode.members_on.Given as goal

abbrev pub invariant-loop-way : goal.invariant-loop-way
invariant-loop-way l = (look : Value → Option Cell) → AreWithin look l.fn.way → AreWithin look l.way
