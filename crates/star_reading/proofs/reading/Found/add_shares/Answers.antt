use Rattle.std.proofs.Common.{◌≡◌, ◌∙◌, ℕ, Vec, Global, subst, sym}
use Rattle.std.proofs.lemmas.List.{map-id}
use Rattle.std.proofs.lemmas.Iterator.Adapters.{YieldsList-from_vec}
use Rattle.std.proofs.lemmas.Iterator.Consumers.{YieldsList-end}
use Rattle.std.specs.Prelude.{All, IfOk}
use Rattle.std.specs.declared.alloc.AllocError.{AllocError}
use Rattle.std.specs.declared.result.Result.{Result}
use Rattle.star_reading.specs.declared.reading.Read.{Read}
use Rattle.star_reading.specs.Readings.{IsReadAs}
use Rattle.star_reading.proofs.PlacesRead.{all_front, all_last}
use Rattle.star_reading.proofs.reading.Found.add_shares.Goals as goal

pub loop-share-preserved : goal.loop-share-preserved
loop-share-preserved c = λ files outside all old.
    let Q = λ (r : Result (Vec (ℕ × Read) Global) AllocError). IfOk r (λ reads. All (λ (p : ℕ × Read). IsReadAs files outside p.0 p.1) reads.items) in
    let here = subst Q c.in_ok-share.was (all_last Q _ _ all) in
    c.in_ok-add_each.ensures files outside here (c.loop-share.invariant files outside (all_front Q _ _ all) old)

pub returns : goal.returns
returns c = λ files outside all old.
    let Q = λ (r : Result (Vec (ℕ × Read) Global) AllocError). IfOk r (λ reads. All (λ (p : ℕ × Read). IsReadAs files outside p.0 p.1) reads.items) in
    let v = c.into_iter-share-iterator.ensures.into_iter_gives in
    let t = YieldsList-end (YieldsList-from_vec {s = c.into_iter-share-iterator.result} c.args.shares.items v.0 (v.1 ∙ c.args.shares.ok.0)) c.loop-share.yielded c.loop-share.share-iterator c.loop-share.yielded_by c.next.result c.next.new.self c.in-None.is c.next.ensures.steps in
    let whole : c.loop-share.yielded ≡ c.args.shares.items = sym (map-id c.loop-share.yielded) ∙ t.0 in
    c.loop-share.invariant files outside (subst (All Q) (sym whole) all) old
