use Rattle.std.proofs.Common.{◌≡◌, ◌∙◌, ℕ, subst, sym}
use Rattle.std.proofs.lemmas.List.{map-id}
use Rattle.std.proofs.lemmas.Iterator.Adapters.{YieldsList-from_vec}
use Rattle.std.proofs.lemmas.Iterator.Consumers.{YieldsList-end}
use Rattle.star_label.specs.Files.{text_at}
use Rattle.star_memo.specs.declared.parses.Parse.{Parse}
use Rattle.star_memo.specs.Parses.{AreMade, IsParse}
use Rattle.star_reading.proofs.PlacesRead.{all_front, all_last}
use Rattle.star_memo.proofs.parses.Parses.put_each.Goals as goal

pub loop-n-preserved : goal.loop-n-preserved
loop-n-preserved c = record {
  kept = λ files all old.
      let P = λ (p : ℕ × Parse). IsParse (text_at files p.0) p.1 in
      c.in_ok-put.ensures.kept files (all_last P _ _ all) (c.loop-n.invariant.kept files (all_front P _ _ all) old);
  stays = λ m h. c.in_ok-put.ensures.stays m (c.loop-n.invariant.stays m h);
}

pub returns-clause-kept : goal.returns-clause-kept
returns-clause-kept c = λ files all old.
    let v = c.into_iter-n-iterator.ensures.into_iter_gives in
    let t = YieldsList-end (YieldsList-from_vec {s = c.into_iter-n-iterator.result} c.args.made.items v.0 (v.1 ∙ c.args.made.ok.0)) c.loop-n.yielded c.loop-n.n-iterator c.loop-n.yielded_by c.next.result c.next.new.self c.in-None.is c.next.ensures.steps in
    let whole : c.loop-n.yielded ≡ c.args.made.items = sym (map-id c.loop-n.yielded) ∙ t.0 in
    c.loop-n.invariant.kept files (subst (AreMade files) (sym whole) all) old
