use Rattle.std.proofs.Common.{sym, ◌∙◌}
use Rattle.std.proofs.lemmas.Slice.Eq.{bytes_eq-Decides}
use Rattle.star_label.specs.View.{text_of}
use Rattle.star_session.proofs.FilesAfter.{none_again, text_again}
use Rattle.star_session.proofs.changes.is_as.Goals as goal

pub returns-then-n-count : goal.returns-then-n-count
returns-then-n-count c = λ same.
    let there = sym c.text.ensures ∙ (bytes_eq-Decides c.text.result.now c.as_str.result.now).0 (sym c.eq.ensures ∙ same) ∙ c.as_str.ensures.value in
    text_again c.args.files.now c.in-Some-Some.n (text_of c.args.label.now) c.args.text.now c.in-Some-Some.text c.len-count.ensures.ordered
    c.in-Some-Some.ensures.found.0 c.in-Some-Some.ensures.found.1 there c.in-Some-Some.is-1

pub returns-in-None-None : goal.returns-in-None-None
returns-in-None-None c = λ _.
    none_again c.args.files.now (text_of c.args.label.now) c.find.result c.args.text.now c.find.ensures.each c.in-None-None.is-0 c.in-None-None.is-1
