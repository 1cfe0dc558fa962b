use Rattle.std.proofs.Common.{◌≡◌, [], drop}
use Rattle.serde_json.specs.View.{items_view}
use Rattle.star_session.specs.Requests.{names_in}
use Rattle.star_session.proofs.request.names_in.Given as goal

abbrev pub invariant-loop-item : goal.invariant-loop-item
invariant-loop-item l = names_in [] (items_view l.items) ≡ names_in l.recorded (items_view (drop l.item-index l.items))
