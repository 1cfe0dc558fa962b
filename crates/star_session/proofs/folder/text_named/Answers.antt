use Rattle.std.proofs.Common.{◌∙◌, ap, sym, Some}
use Rattle.star_label.specs.View.{text_of}
use Rattle.star_session.proofs.Named.{named_at, named_not, not_there, only_there}
use Rattle.star_session.proofs.folder.text_named.Goals as goal

pub returns-in-Some : goal.returns-in-Some
returns-in-Some c =
    let l = text_of c.args.label.now in
    let n = c.in-Some.n in
    ap Some c.text.ensures ∙ sym (named_at c.args.files.now l n c.in-Some.ensures.found.0 c.in-Some.ensures.found.1
    (λ m low is. only_there c.find.result n m c.in-Some.is (c.find.ensures.each m low is)))

pub returns-in-None : goal.returns-in-None
returns-in-None c =
    let l = text_of c.args.label.now in
    sym (named_not c.args.files.now l (λ m low is. not_there c.find.result m c.in-None.is (c.find.ensures.each m low is)))
