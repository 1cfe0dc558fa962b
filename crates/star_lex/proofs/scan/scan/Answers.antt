use Rattle.std.proofs.Common.{◌∷◌, ◌++◌, [], ◌∙◌, drop, sym, ap, arith, refl, append_assoc}
use Rattle.star_lex.specs.Pieces.{pieces, pieces_from}
use Rattle.star_lex.proofs.Scanned.{join_more}
use Rattle.star_lex.proofs.Order.{tiles_more}
use Rattle.star_lex.proofs.scan.scan.Goals as goal

pub loop-at-init : goal.loop-at-init
unfolding pieces
loop-at-init c =
    let none = c.new-found.ensures.items in
    record { whole = rw none refl; joined = rw none refl; tiles = rw none refl; within = omega arith; line = omega arith }

pub loop-at-preserved : goal.loop-at-preserved
loop-at-preserved c =
    let text = c.args.text.now in
    let found = c.loop-at.found.items in
    let so_far = c.loop-at.invariant in
    let piece = c.piece_at-piece.result in
    let told = c.piece_at-piece.ensures in
    let left = pieces_from 0 piece.last piece.span.end (drop piece.span.end text) in
    let more = c.in_ok-push.ensures.items in
    record {
      whole = rw more (so_far.whole ∙ ap (λ cs. found ++ cs) told.next ∙ sym (append_assoc found (piece ∷ []) left));
      joined = rw more (join_more text found piece (omega arith) (rw told.start so_far.joined));
      tiles = rw more (tiles_more 0 found c.loop-at.at piece so_far.tiles told.start (omega arith));
      within = omega arith;
      line = omega arith;
    }
