use Rattle.std.proofs.Common.{◌≡◌, map, length}
use Rattle.serde_json.specs.View.{members_view}
use Rattle.star_session.specs.Changes.{change_of}
use Rattle.star_session.specs.Requests.{changes_of}
use Rattle.star_session.proofs.Asked.{after}
use Rattle.star_session.proofs.request.changes_of.Given as goal

abbrev pub decreases-loop-name : goal.decreases-loop-name
decreases-loop-name l = length l.members.entries

abbrev pub invariant-loop-name : goal.invariant-loop-name
invariant-loop-name l = changes_of (members_view l.fn.members.entries) ≡ after (map change_of l.changes.items) (changes_of (members_view l.members.entries))
