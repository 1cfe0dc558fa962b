use Rattle.std.proofs.Common.{◌≡◌, true, take}
use Rattle.std.specs.Prelude.{All}
use Rattle.star_check.specs.Judged.{verdict_view}
use Rattle.star_check.specs.Text.{is_unrun}
use Rattle.star_check.proofs.check.are_unrun.Given as goal

abbrev pub invariant-loop-it : goal.invariant-loop-it
invariant-loop-it l = All (λ j. is_unrun (verdict_view j.verdict) ≡ true) (take l.it-index l.judged)
