use Rattle.std.proofs.Common.{◌≡◌, drop, map}
use Rattle.serde_json.specs.View.{items_view}
use Rattle.star_session.specs.Changes.{change_of}
use Rattle.star_session.specs.Requests.{gone_in}
use Rattle.star_session.proofs.Asked.{after}
use Rattle.star_session.proofs.request.gone_in.Given as goal

abbrev pub invariant-loop-item : goal.invariant-loop-item
invariant-loop-item l = gone_in (items_view l.items) ≡ after (map change_of l.changes.items) (gone_in (items_view (drop l.item-index l.items)))
