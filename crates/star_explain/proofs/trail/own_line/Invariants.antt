use Rattle.std.proofs.Common.{◌≡◌, drop}
use Rattle.star_explain.specs.Trail.{own_line}
use Rattle.star_explain.proofs.trail.own_line.Given as goal

abbrev pub invariant-loop-step : goal.invariant-loop-step
invariant-loop-step l = own_line l.home (drop l.step-index l.steps) ≡ own_line l.home l.steps
