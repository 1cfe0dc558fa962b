use Rattle.std.proofs.Common.{◌∷◌, [], map, ap, sym, ◌∙◌, string_bytes, Option, String}
use Rattle.std.specs.declared.alloc.Global.{Global}
use Rattle.std.specs.Prelude.{option_map}
use Rattle.std.proofs.lemmas.List.{map-append}
use Rattle.star_label.specs.View.{text_of}
use Rattle.star_label.specs.declared.label.Label.{Label}
use Rattle.star_session.specs.Changes.{change_of, changed, files_after}
use Rattle.star_session.proofs.FilesAfter.{after_more}
use Rattle.star_session.proofs.changes.changed.Goals as goal

pub loop-label-init : goal.loop-label-init
unfolding files_after
loop-label-init c = (tt, tt, c.in_ok-texts.ensures)

pub loop-label-preserved : goal.loop-label-preserved
loop-label-preserved c =
    let item : Label × Option (String Global) = (c.in-Some.label, c.in-Some.text) in
    let front = map change_of c.loop-label.yielded in
    let longer = map-append change_of c.loop-label.yielded (item ∷ []) in (
      tt,
      tt,
      c.in_ok-change.ensures
          ∙ ap (λ fs. changed fs (text_of c.in-Some.label) (option_map string_bytes c.in-Some.text)) c.loop-label.invariant.2
          ∙ sym (after_more c.args.files.now front (change_of item))
          ∙ ap (files_after c.args.files.now) (sym longer),
    )
