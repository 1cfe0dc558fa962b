use Rattle.std.proofs.Common.{◌≡◌, fold, take}
use Rattle.serde_json.specs.Data.{no_members}
use Rattle.serde_json.specs.View.{members_view}
use Rattle.star_outcome.specs.Globals.{shown_texts}
use Rattle.star_plan.specs.Text.{with_global}
use Rattle.star_outcome.proofs.shown.global_texts.Given as goal

abbrev pub invariant-loop-global : goal.invariant-loop-global
invariant-loop-global l = members_view l.members.entries ≡ fold with_global no_members (shown_texts (take l.global-index l.globals))
