use Rattle.std.proofs.Common.{◌≡◌, ◌++◌, take}
use Rattle.star_report.specs.Calls.{calls_from}
use Rattle.star_report.proofs.calls.push_lines.Given as goal

abbrev pub invariant-loop-one : goal.invariant-loop-one
invariant-loop-one l = l.text.items ≡ l.fn.text.items ++ calls_from l.label l.name (take l.one-index l.said)
