use Rattle.std.proofs.Common.{◌≤◌, ◌∙◌, length, take, drop, sym, ap, arith, length-drop}
use Rattle.std.proofs.lemmas.List.{take_rest}
use Rattle.star_lex.specs.Pieces.{first, line_ends}
use Rattle.star_lex.proofs.Scanned.{piece_then}
use Rattle.star_lex.proofs.scan.piece_at.Goals as goal

pub returns-clause-next : goal.returns-clause-next
returns-clause-next c =
    let at = c.args.at in
    let text = c.args.text.now in
    let f = c.first-kind.result in
    let rest = take_rest text at in
    let some : 1 ≤ length (drop at text) = omega (arith, length-drop at text) in
    piece_then c.args.line at c.line_ends.result text f (ap first (sym rest) ∙ sym c.first-kind.ensures.value) some c.first-kind.ensures.within.0
    (c.line_ends.ensures.value ∙ ap (λ z. line_ends (take f.1 z)) rest)
