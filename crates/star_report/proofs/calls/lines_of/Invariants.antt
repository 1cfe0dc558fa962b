use Rattle.std.proofs.Common.{◌≡◌, take}
use Rattle.star_report.specs.Calls.{AreCalls}
use Rattle.star_report.specs.Gets.{InPlans}
use Rattle.star_report.proofs.calls.lines_of.Given as goal

abbrev pub invariant-loop-root : goal.invariant-loop-root
invariant-loop-root l = InPlans l.table (λ plan. plan.roots ≡ l.roots → AreCalls l.files plan l.name (take l.root-index l.roots) l.lines.items)
