use Rattle.std.proofs.Common.{◌≡◌, ◌∙◌, ℕ, subst, sym}
use Rattle.std.proofs.lemmas.List.{map-id}
use Rattle.std.proofs.lemmas.Iterator.Adapters.{YieldsList-from_vec}
use Rattle.std.proofs.lemmas.Iterator.Consumers.{YieldsList-end}
use Rattle.std.specs.Prelude.{All}
use Rattle.star_reading.specs.declared.reading.Read.{Read}
use Rattle.star_reading.specs.Readings.{IsReadAs}
use Rattle.star_reading.proofs.PlacesRead.{all_front, all_last}
use Rattle.star_reading.proofs.reading.Found.add_each.Goals as goal

pub loop-n-preserved : goal.loop-n-preserved
loop-n-preserved c = λ files outside all old.
    let P = λ (p : ℕ × Read). IsReadAs files outside p.0 p.1 in
    c.in_ok-add_read.ensures files outside (all_last P _ _ all) (c.loop-n.invariant files outside (all_front P _ _ all) old)

pub returns : goal.returns
returns c = λ files outside all old.
    let v = c.into_iter-n-iterator.ensures.into_iter_gives in
    let t = YieldsList-end (YieldsList-from_vec {s = c.into_iter-n-iterator.result} c.args.reads.items v.0 (v.1 ∙ c.args.reads.ok.0)) c.loop-n.yielded c.loop-n.n-iterator c.loop-n.yielded_by c.next.result c.next.new.self c.in-None.is c.next.ensures.steps in
    let whole : c.loop-n.yielded ≡ c.args.reads.items = sym (map-id c.loop-n.yielded) ∙ t.0 in
    c.loop-n.invariant files outside (subst (All (λ (p : ℕ × Read). IsReadAs files outside p.0 p.1)) (sym whole) all) old
