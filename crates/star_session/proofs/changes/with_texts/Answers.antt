use Rattle.std.proofs.Common.{◌∷◌, [], Global, Option, String, ap, length, map, string_bytes, subst, sym, ◌∙◌}
use Rattle.std.specs.Prelude.{option_map}
use Rattle.std.proofs.lemmas.Iterator.Adapters.{YieldsList-from_vec}
use Rattle.std.proofs.lemmas.Iterator.Consumers.{YieldsList-turn}
use Rattle.std.proofs.lemmas.List.{map-append}
use Rattle.star_label.specs.Files.{File}
use Rattle.star_label.specs.View.{text_of}
use Rattle.star_label.specs.declared.label.Label.{Label}
use Rattle.star_session.specs.Changes.{GivesText, change_of, changed, files_after}
use Rattle.star_session.proofs.FilesAfter.{after_more, after_none, file_stays}
use Rattle.star_session.proofs.changes.with_texts.Goals as goal

pub loop-label-init : goal.loop-label-init
loop-label-init c = record {
  files = c.in_ok-files.ensures ∙ sym (after_none c.args.before.now);
  labels = sym (ap (map (λ (f : File). f.0)) c.in_ok-files.ensures);
}

pub set-requires : goal.set-requires
set-requires c =
    let item : Label × Option (String Global) = (c.in-Some.label, c.in-Some.text) in
    let v = c.into_iter-label-iterator.ensures.into_iter_gives in
    let turn = YieldsList-turn (YieldsList-from_vec {s = c.into_iter-label-iterator.result} c.args.changes.items v.0 (v.1 ∙ c.args.changes.ok.0)) c.loop-label.yielded c.loop-label.label-iterator c.loop-label.yielded_by c.next.result c.next.new.self item c.in-Some.is c.next.ensures.steps in
    let gives = subst (GivesText c.args.before.now) (sym turn.1) (c.requires (length c.loop-label.yielded) item turn.0) in
    record {
      file = file_stays c.args.before.now c.loop-label.files (text_of c.in-Some.label) c.loop-label.invariant.labels gives.0;
      text = gives.1;
    }

pub loop-label-preserved : goal.loop-label-preserved
loop-label-preserved c =
    let item : Label × Option (String Global) = (c.in-Some.label, c.in-Some.text) in
    let front = map change_of c.loop-label.yielded in
    record {
      files = c.in_ok-set.ensures.changed
          ∙ ap (λ fs. changed fs (text_of c.in-Some.label) (option_map string_bytes c.in-Some.text)) c.loop-label.invariant.files
          ∙ sym (after_more c.args.before.now front (change_of item))
          ∙ ap (files_after c.args.before.now) (sym (map-append change_of c.loop-label.yielded (item ∷ [])));
      labels = c.loop-label.invariant.labels ∙ c.in_ok-set.ensures.labels;
    }
