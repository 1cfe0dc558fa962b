use Rattle.std.proofs.Common.{ap, map, option_map, string_bytes, sym, ◌∙◌}
use Rattle.star_label.specs.Files.{File}
use Rattle.star_label.specs.View.{text_of}
use Rattle.star_label.proofs.Texts.{labels_kept}
use Rattle.star_session.specs.Changes.{changed}
use Rattle.star_session.proofs.FilesAfter.{put_text}
use Rattle.star_session.proofs.changes.set.Goals as goal

pub returns-clause-changed : goal.returns-clause-changed
returns-clause-changed c =
    let files = c.args.files.now in
    let label = text_of c.args.label.now in
    c.in_ok-set_text.ensures.set
    ∙ sym (put_text files c.in-Some.n label (string_bytes c.in-Some-text.text) c.len.ensures.ordered c.in-Some.ensures.found.0 c.in-Some.ensures.found.1)
    ∙ sym (ap (λ t. changed files label (option_map string_bytes t)) c.in-Some-text.is)

pub returns-clause-labels : goal.returns-clause-labels
returns-clause-labels c =
    sym (ap (map (λ (f : File). f.0)) c.in_ok-set_text.ensures.set ∙ labels_kept c.args.files.now c.in-Some.n (string_bytes c.in-Some-text.text))
