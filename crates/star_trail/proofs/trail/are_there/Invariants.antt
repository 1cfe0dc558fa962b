use Rattle.std.proofs.Common.{ℕ, ◌<◌, slice_index_or}
use Rattle.star_meaning.specs.declared.story.Step.{Step}
use Rattle.star_trail.specs.Trails.{IsStep}
use Rattle.star_trail.proofs.trail.are_there.Given as goal

-- the steps before this one are there
abbrev pub invariant-loop-step : goal.invariant-loop-step
invariant-loop-step l = (k : ℕ) (d : Step) → k < l.step-index → IsStep l.reads.all.items (slice_index_or l.steps k d)
