use Rattle.std.proofs.Common.{subst, ◌∙◌}
use Rattle.star_session.specs.Changes.{AreTexts}
use Rattle.star_session.proofs.Limits.{limits_kept}
use Rattle.star_session.proofs.changes.files_after.Goals as goal

pub returns-in-Ok-clause-files : goal.returns-in-Ok-clause-files
returns-in-Ok-clause-files c = c.in-Ok.ensures.1 ∙ c.in_ok-changed.ensures

pub returns-in-Ok-clause-limits : goal.returns-in-Ok-clause-limits
returns-in-Ok-clause-limits c = limits_kept _ _ _ c.in_ok-changed.ensures c.in-Ok.ensures.0 c.in-Ok.ensures.1

pub with_texts-requires : goal.with_texts-requires
with_texts-requires c = subst (AreTexts c.args.before.now) c.as_slice.ensures.value (c.are_texts.ensures c.if-are_texts.true)
