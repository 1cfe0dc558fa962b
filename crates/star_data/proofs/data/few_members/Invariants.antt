use Rattle.std.proofs.Common.{drop}
use Rattle.star_data.specs.Stores.{look_in}
use Rattle.star_data.specs.Rows.{IsRowOf}
use Rattle.star_data.proofs.data.few_members.Given as goal

abbrev pub invariant-loop-i : goal.invariant-loop-i
invariant-loop-i l = IsRowOf (look_in l.stores) (drop l.i l.entries) l.row.items
