use Rattle.std.proofs.Common.{take}
use Rattle.star_report.specs.Search.{IsClosedBy}
use Rattle.star_report.proofs.components.close_all.Given as goal

abbrev pub invariant-loop-n : goal.invariant-loop-n
invariant-loop-n l = IsClosedBy l.initial.marks.items l.marks.items (take l.n-index l.files) l.count
