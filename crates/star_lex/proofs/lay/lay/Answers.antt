use Rattle.std.proofs.Common.{◌∷◌, ◌++◌, [], ◌∙◌, ap, sym, arith, length, drop}
use Rattle.star_lex.specs.Lines.{onto, lay, lines}
use Rattle.star_lex.specs.Pieces.{pieces, pieces_from}
use Rattle.star_lex.specs.Places.{rest_of}
use Rattle.star_lex.proofs.Places.{from_front, onto_none, answers_fault, err_of}
use Rattle.star_lex.proofs.lay.lay.Goals as goal

pub loop-at-init : goal.loop-at-init
unfolding pieces
loop-at-init c =
    let text = c.args.text.now in
    let opened = c.in_ok-push.ensures.items ∙ ap (λ ts. ts ++ 0 ∷ []) c.new-opened.ensures.items in
    let whole = lay c.args.last (length text) (0 ∷ []) 0 (lines 0 (pieces text)) in
    record {
      whole = rw (c.in_ok-out.ensures.items, opened) (sym (onto_none whole) ∙ ap (onto []) (from_front c.args.last (length text) 0 (0 ∷ []) (pieces text)));
      tiles = λ t. t;
      within = omega arith;
      line = omega arith;
      depth = omega arith;
    }

pub returns-in_err-place-clause-value : goal.returns-in_err-place-clause-value
returns-in_err-place-clause-value c =
    let text = c.args.text.now in
    let end = length text in
    let out = c.loop-at.out.items in
    let opened = c.loop-at.opened.items in
    let piece = c.piece_at-piece.result in
    let left = pieces_from 0 piece.last piece.span.end (drop piece.span.end text) in
    let fault = c.in_err-place.field-0.0 in
    let whole = lay c.args.last end (0 ∷ []) 0 (lines 0 (pieces text)) in
    let part = onto out (rest_of c.args.last end c.loop-at.place opened (piece ∷ left)) in
    let w = c.loop-at.invariant.whole ∙ ap (λ cs. onto out (rest_of c.args.last end c.loop-at.place opened cs)) c.piece_at-piece.ensures.next in
    rw (err_of c.from_residual-in_err-place.result fault c.from_residual-in_err-place.ensures.1)
    (answers_fault whole part fault _ w (c.in_err-place.ensures.tokens c.args.last end left))
