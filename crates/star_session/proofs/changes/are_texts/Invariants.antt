use Rattle.std.proofs.Common.{◌<◌, ℕ, Global, Option, String, slice_index_or}
use Rattle.star_label.specs.declared.label.Label.{Label}
use Rattle.star_session.specs.Changes.{GivesText}
use Rattle.star_session.proofs.changes.are_texts.Given as goal

abbrev pub invariant-loop-change : goal.invariant-loop-change
invariant-loop-change l = (k : ℕ) (d : Label × Option (String Global)) → k < l.change-index → GivesText l.files (slice_index_or l.changes k d)
