use Rattle.std.proofs.Common.{◌≡◌, ◌∙◌, ◌∷◌, ◌++◌, [], suc, map, ap, subst, sym, append_assoc, string_bytes, arith}
use Rattle.std.specs.Prelude.{◌↔◌, All, Some}
use Rattle.std.specs.Map.{values_of}
use Rattle.std.proofs.lemmas.Map.Views.{All-values-insert_entry}
use Rattle.star_bundle.proofs.Members.{nothing_left}
use Rattle.star_label.specs.Files.{file_of}
use Rattle.star_label.specs.contracts.label.LabelOrd.TheImpl.{cmp-value}
use Rattle.star_repo.specs.Parsed.{AreParsed}
use Rattle.star_reading.specs.Parsed.{IsParsed}
use Rattle.star_words.specs.Rows.{IsIn}
use Rattle.star_repo.specs.Views.{IsRead, answers_in, labels_of}
use Rattle.star_repo.specs.Way.{IsLoadedBy, IsWay}
use Rattle.star_repo.proofs.Settled.{Same, loaded_more, once_too, same_on, stays, zip_last}
use Rattle.star_repo.proofs.Ways.{same_way, turns}
use Rattle.star_repo.proofs.round.settled.Goals as goal

pub loop-file-preserved : goal.loop-file-preserved
loop-file-preserved c =
    let inv = c.loop-file.invariant in
    let looked = c.loop-file.looked.entries in
    let left = c.pop.new.self.items in
    let fresh = c.in-Some.file in
    let items = c.in-Some.ensures.items in
    let both = zip_last (λ f p. IsParsed (string_bytes f.1) p) left fresh c.pop-in-Some.new.self.items c.in-Some-pop.parsed
    (subst (AreParsed (left ++ fresh ∷ [])) c.in-Some-pop.ensures.items (subst (λ fs. AreParsed fs c.loop-file.parses.items) items inv.parsed)) in
    let made = c.in_ok-settle.ensures.looked in
    let file = made.0 in
    record {
      moved = (
        fresh ∷ inv.moved.0,
        inv.moved.1 ∙ ap (λ fs. fs ++ inv.moved.0) items ∙ append_assoc left (fresh ∷ []) inv.moved.0,
        loaded_more fresh.0 fresh.1 inv.moved.0 (labels_of c.loop-file.waiting.keys) (labels_of c.settle.new.waiting.keys) inv.moved.2 (c.in_ok-settle.ensures.waiting (string_bytes fresh.1) both.1),
      );
      same = λ once.
          let s : Same (answers_in c.args.found.fresh.items c.args.found.looked.entries) (answers_in (left ++ (fresh.0, file.text) ∷ []) looked) =
          subst (λ fs. Same (answers_in c.args.found.fresh.items c.args.found.looked.entries) (answers_in fs looked)) (items ∙ ap (λ t. left ++ (fresh.0, t) ∷ []) (sym made.1)) (inv.same once) in
          let more = once_too _ _ s once in
          same_on _ _ _ s (subst (λ es. Same (answers_in (left ++ (fresh.0, file.text) ∷ []) looked) (answers_in left es)) (sym made.3) (stays left fresh.0 file looked more));
      parsed = both.0;
      all_read = λ all.
          let right : IsRead (Some file) = subst (IsParsed (string_bytes file.text)) (sym made.2) (subst (λ t. IsParsed (string_bytes t) c.in-Some-pop.parsed) (sym made.1) both.1) in
          subst (λ es. All IsRead (values_of es)) (sym made.3) (All-values-insert_entry cmp-value.it fresh.0 (Some file) IsRead looked (inv.all_read all) right);
    }

pub returns-clause-on_way : goal.returns-clause-on_way
returns-clause-on_way c = λ said words d way.
    let inv = c.loop-file.invariant in
    let found = c.args.found in
    let fresh = found.fresh.items in
    let looked = c.loop-file.looked.entries in
    let labels = labels_of c.loop-file.waiting.keys in
    let none : c.loop-file.fresh.items ≡ [] = nothing_left c.loop-file.fresh.items (λ h. absurd (omega (arith, h, c.in_default.ensures.cases.0, c.loop-file.fresh.ok.0))) in
    let left : c.pop.new.self.items ≡ [] = nothing_left c.pop.new.self.items (λ h. absurd (omega (arith, h, c.in_default.ensures.cases.1, c.pop.new.self.ok.0))) in
    let moved : fresh ≡ inv.moved.0 = inv.moved.1 ∙ ap (λ fs. fs ++ inv.moved.0) none in
    let same = inv.same way.once in
    let stayed = same_way said words d (answers_in fresh found.looked.entries) (answers_in c.loop-file.fresh.items looked) (map file_of fresh) (map file_of fresh) [] found.count found.size (λ y. same y) (λ f. ((λ h. h), (λ h. h))) way in
    let next = turns said words d (answers_in c.loop-file.fresh.items looked) (map file_of fresh) labels found.count found.size (λ m. subst (λ fs. IsIn m labels ↔ IsLoadedBy (map file_of fs) m) (sym moved) (inv.moved.2 m)) stayed in
    subst (λ fs. IsWay said words (suc d) (answers_in fs looked) (map file_of fs) labels found.count found.size) (sym left)
    (subst (λ fs. IsWay said words (suc d) (answers_in fs looked) [] labels found.count found.size) none next)
