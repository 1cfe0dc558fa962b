use Rattle.std.proofs.Common.{◌≡◌, drop}
use Rattle.serde_json.specs.View.{items_view}
use Rattle.star_session.specs.Requests.{nothing_more, with_words}
use Rattle.star_session.proofs.request.with_words.Given as goal

abbrev pub invariant-loop-item : goal.invariant-loop-item
invariant-loop-item l = with_words nothing_more (items_view l.items) ≡ with_words l.wanted (items_view (drop l.item-index l.items))
