use Rattle.std.proofs.Common.{◌≡◌, ◌∙◌, ◌++◌, ◌∷◌, List, [], String, ap, map, sym, take}
use Rattle.std.specs.Arc.{arc_value}
use Rattle.std.specs.Prelude.{string_bytes}
use Rattle.std.specs.declared.alloc.Global.{Global}
use Rattle.std.proofs.lemmas.List.{map-append, map_more}
use Rattle.star_label.specs.declared.label.Label.{Label}
use Rattle.star_label.specs.Files.{File, shared_file}
use Rattle.star_label.specs.View.{text_of}
use Rattle.star_label.proofs.Texts.{Entry}
use Rattle.star_label.proofs.files.Files.again.Goals as goal

pub loop-entry-preserved : goal.loop-entry-preserved
loop-entry-preserved c =
    let es = c.deref-entry-items.result.now in
    let i = c.loop-entry.entry-index in
    let e : Entry = c.entry-item.result in
    let x : Entry = (c.in_ok-try_clone.field-0, c.in_ok-try_clone-2.field-0) in
    let same : shared_file x ≡ shared_file e = ap (λ (l : Label). let f : File = (text_of l, string_bytes (arc_value x.1)) in f) c.in_ok-try_clone.ensures ∙ ap (λ (t : String Global). let f : File = (text_of (arc_value e.0), string_bytes t) in f) c.in_ok-try_clone-2.ensures in
    ap (map shared_file) c.in_ok-push.ensures.items
    ∙ (map-append shared_file c.loop-entry.entries.items (x ∷ [])
    ∙ (ap (λ (fs : List File). fs ++ shared_file x ∷ []) c.loop-entry.invariant
    ∙ (ap (λ (f : File). map shared_file (take i es) ++ f ∷ []) (same ∙ ap shared_file c.entry-item.is)
    ∙ sym (map_more shared_file es i e c.loop-entry-test.true))))
