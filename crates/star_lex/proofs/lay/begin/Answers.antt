use Rattle.std.proofs.Common.{◌∷◌, [], Some, None, ◌∙◌, ap, sym, subst}
use Rattle.star_lex.specs.declared.lay.Place.TheVariants.{Inside}
use Rattle.star_lex.specs.Lines.{onto, layout, marks, width}
use Rattle.star_lex.specs.Places.{Comes, rest_of}
use Rattle.star_lex.proofs.Places.{reads_empty, judged_width, refused, read, err_of}
use Rattle.star_lex.proofs.lay.begin.Goals as goal

pub returns-in-LineEnd-clause-tokens : goal.returns-in-LineEnd-clause-tokens
returns-in-LineEnd-clause-tokens c line at cs = reads_empty line at c.args.out.now.items c.args.first c.args.opened.now.items c.args.piece cs c.in-LineEnd.is

pub returns-in_default-width-clause-tokens : goal.returns-in_default-width-clause-tokens
returns-in_default-width-clause-tokens c line at cs =
    let lead = ap (λ p. width (p ∷ [])) (sym c.unwrap_or-lead.ensures) ∙ sym c.width.ensures ∙ c.in_default-width.is in
    ap (onto c.args.out.now.items) (judged_width line at c.args.first c.args.opened.now.items c.args.piece cs None (c.in_default.not-Blank, c.in_default.not-TabbedBlank, c.in_default.not-Comment, c.in_default.not-LineEnd) lead)

pub returns-in_err-indent-clause-tokens : goal.returns-in_err-indent-clause-tokens
returns-in_err-indent-clause-tokens c line at cs =
    let w = c.in-Some.width in
    let old = c.args.out.now.items in
    let ts = c.args.opened.now.items in
    let p = c.args.piece in
    let lead = ap (λ p. width (p ∷ [])) (sym c.unwrap_or-lead.ensures) ∙ sym c.width.ensures ∙ c.in-Some.is in
    let j = ap (onto old) (judged_width line at c.args.first ts p cs (Some w) (c.in_default.not-Blank, c.in_default.not-TabbedBlank, c.in_default.not-Comment, c.in_default.not-LineEnd) lead) in
    rw (err_of c.from_residual.result c.in_err-indent.field-0.0 c.from_residual.ensures.1) (refused _ old c.indent.new.out.items (marks (layout ts w) p.line p.span.start) _ c.in_err-indent.field-0.0 _ j c.in_err-indent.ensures.tokens)

pub returns-clause-tokens : goal.returns-clause-tokens
returns-clause-tokens c line at cs =
    let w = c.in-Some.width in
    let old = c.args.out.now.items in
    let new = c.indent.new.out.items in
    let ts = c.args.opened.now.items in
    let us = c.indent.new.opened.items in
    let p = c.args.piece in
    let lead = ap (λ p. width (p ∷ [])) (sym c.unwrap_or-lead.ensures) ∙ sym c.width.ensures ∙ c.in-Some.is in
    let j = ap (onto old) (judged_width line at c.args.first ts p cs (Some w) (c.in_default.not-Blank, c.in_default.not-TabbedBlank, c.in_default.not-Comment, c.in_default.not-LineEnd) lead) in
    let r = read _ old new (marks (layout ts w) p.line p.span.start) _ j c.in_ok-indent.ensures.tokens in
    let r' = r ∙ ap (λ os. onto new (rest_of line at (Inside 0 None) os (p ∷ cs))) (sym c.in_ok-indent.ensures.opened) in
    subst (λ x. Comes x c.go_on.result (λ after. onto c.go_on.new.out.items (rest_of line at after us cs))) (sym r') (c.go_on.ensures.tokens us line at cs)
