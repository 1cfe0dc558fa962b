use Rattle.std.proofs.Common.{take}
use Rattle.star_report.proofs.CallRows.{rows_of}
use Rattle.star_report.proofs.Sheets.{SoFar}
use Rattle.star_report.proofs.calls.push_calls.Given as goal

abbrev pub invariant-loop-one : goal.invariant-loop-one
invariant-loop-one l = SoFar l.initial.text.items (rows_of (take l.one-index l.said)) l.later l.text.items
