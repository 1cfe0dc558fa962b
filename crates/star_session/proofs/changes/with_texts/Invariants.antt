use Rattle.std.proofs.Common.{◌≡◌, map}
use Rattle.star_memo.specs.Outcomes.{HaveLabels}
use Rattle.star_session.specs.Changes.{change_of, files_after}
use Rattle.star_session.proofs.changes.with_texts.Given as goal

abbrev pub invariant-loop-label : goal.invariant-loop-label
invariant-loop-label l = record {
  files : l.files ≡ files_after l.before (map change_of l.yielded);
  labels : HaveLabels l.before l.files;
}
