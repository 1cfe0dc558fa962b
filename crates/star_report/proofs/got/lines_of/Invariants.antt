use Rattle.std.proofs.Common.{◌≡◌, take}
use Rattle.star_report.specs.Gets.{InPlans}
use Rattle.star_report.proofs.Gets.{SoFar}
use Rattle.star_report.proofs.got.lines_of.Given as goal

abbrev pub invariant-loop-root : goal.invariant-loop-root
invariant-loop-root l = InPlans l.table (λ plan. plan.roots ≡ l.roots → SoFar plan l.name (take l.root-index l.roots) l.lines.items)
