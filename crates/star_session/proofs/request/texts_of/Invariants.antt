use Rattle.std.proofs.Common.{◌≡◌, drop, map, string_bytes}
use Rattle.serde_json.specs.View.{items_view}
use Rattle.star_session.specs.Requests.{texts_in}
use Rattle.star_session.proofs.Asked.{after}
use Rattle.star_session.proofs.request.texts_of.Given as goal

abbrev pub invariant-loop-item : goal.invariant-loop-item
invariant-loop-item l = texts_in (items_view l.items) ≡ after (map string_bytes l.texts.items) (texts_in (items_view (drop l.item-index l.items)))
