use Rattle.std.proofs.Common.{◌≡◌, ◌≤◌, length}
use Rattle.serde_json.specs.View.{members_view}
use Rattle.star_session.specs.Requests.{asked_by, with_members}
use Rattle.star_session.proofs.request.with_members.Given as goal

abbrev pub decreases-loop-name : goal.decreases-loop-name
decreases-loop-name l = length l.members.entries

abbrev pub invariant-loop-name : goal.invariant-loop-name
invariant-loop-name l = record {
  asked : with_members l.fn.origin (asked_by l.fn.request) (members_view l.fn.members.entries) ≡ with_members l.fn.origin (asked_by l.request) (members_view l.members.entries);
  range : (1 ≤ l.request.question.mode.steps) × (l.request.question.mode.steps ≤ 100000000);
}
