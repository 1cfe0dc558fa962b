use Rattle.std.proofs.Common.{◌≡◌, map, take}
use Rattle.serde_json.specs.Data.{string}
use Rattle.serde_json.specs.View.{view}
use Rattle.star_plan.specs.Text.{lines_in}
use Rattle.star_report.proofs.report.strings.Given as goal

abbrev pub invariant-loop-one : goal.invariant-loop-one
invariant-loop-one l = map view l.items.items ≡ map string (lines_in (take l.one-index l.said))
