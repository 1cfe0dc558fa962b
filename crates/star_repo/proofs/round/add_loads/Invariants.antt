use Rattle.std.proofs.Common.{◌⊎◌, List, ℕ, take}
use Rattle.std.specs.Prelude.{◌↔◌}
use Rattle.star_scope.specs.Loads.{written}
use Rattle.star_words.specs.Rows.{IsIn}
use Rattle.star_repo.specs.Views.{IsNamed, labels_of}
use Rattle.star_repo.proofs.round.add_loads.Given as goal

abbrev pub invariant-loop-statement : goal.invariant-loop-statement
invariant-loop-statement l = (m : List ℕ) → IsIn m (labels_of l.waiting.keys) ↔ (IsIn m (labels_of l.initial.waiting.keys) ⊎ IsNamed l.package (written (take l.statement-index l.statements)) m)
