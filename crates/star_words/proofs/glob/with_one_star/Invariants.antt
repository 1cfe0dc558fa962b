use Rattle.std.proofs.Common.{◌≤◌, ℕ, List, length}
use Rattle.std.specs.Prelude.{◌↔◌}
use Rattle.star_words.specs.Glob.{Matches}
use Rattle.star_words.proofs.glob.with_one_star.Given as goal

abbrev pub invariant-loop-rest : goal.invariant-loop-rest
invariant-loop-rest l = ((name : List ℕ) → Matches l.rest name ↔ Matches l.pattern name) × (length l.rest ≤ length l.pattern)

abbrev pub decreases-loop-rest : goal.decreases-loop-rest
decreases-loop-rest l = length l.rest
