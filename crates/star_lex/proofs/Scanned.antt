-- The pieces of a text, one after the other.
use Rattle.std.proofs.Common.{◌≡◌, ℕ, zero, suc, ◌+◌, ◌-◌, ◌≤◌, List, [], ◌∷◌, ◌++◌, length, take, drop, refl, ap, arith, sym, ◌∙◌, append_assoc, append-nil}
use Rattle.std.proofs.lemmas.List.{take-append-drop, drop-drop}
use Rattle.star_lex.specs.declared.scan.Piece.{Piece}
use Rattle.star_lex.specs.Values.{Text, text_at}
use Rattle.star_lex.specs.Pieces.{First, first, line_ends, piece_at, pieces_from, joined}
use Rattle.star_lex.proofs.Parts.{drop-part}

pieces_from-drop : (n line at : ℕ) (z : Text) → pieces_from n line at z ≡ pieces_from 0 line at (drop n z)
pieces_from-drop zero line at z = refl
pieces_from-drop (suc n) line at [] = refl
pieces_from-drop (suc n) line at (b ∷ z) = pieces_from-drop n line at z

-- the pieces after one piece
abbrev after : ℕ → ℕ → Text → First → List Piece
after line at z f = piece_at f line at z ∷ pieces_from 0 (line + line_ends (take f.1 z)) (at + f.1) (drop f.1 z)

pub next_piece : (line at : ℕ) (z : Text) (f : First) → first z ≡ f → 1 ≤ length z → 1 ≤ f.1
    → pieces_from 0 line at z ≡ piece_at f line at z ∷ pieces_from 0 (line + line_ends (take f.1 z)) (at + f.1) (drop f.1 z)
next_piece line at [] f e some moves = absurd (omega arith)
next_piece line at (b ∷ z) f e some moves =
    ap (λ g. piece_at g line at (b ∷ z) ∷ pieces_from (g.1 - 1) (line + line_ends (take g.1 (b ∷ z))) (at + g.1) z) e
    ∙ ap (λ cs. piece_at f line at (b ∷ z) ∷ cs) (pieces_from-drop (f.1 - 1) (line + line_ends (take f.1 (b ∷ z))) (at + f.1) z ∙ ap (pieces_from 0 (line + line_ends (take f.1 (b ∷ z))) (at + f.1)) (drop-part f.1 b z moves))

-- the piece at a place, and those after it
pub piece_then : (line at ends : ℕ) (text : Text) (f : First) → first (drop at text) ≡ f → 1 ≤ length (drop at text) → 1 ≤ f.1 → ends ≡ line_ends (take f.1 (drop at text))
    → pieces_from 0 line at (drop at text)
    ≡ record { kind = f.0; line = line; last = line + ends; span = record { start = at; end = at + f.1 } } ∷ pieces_from 0 (line + ends) (at + f.1) (drop (at + f.1) text)
piece_then line at ends text f e some moves l =
    let z = drop at text in
    let last = line + line_ends (take f.1 z) in
    rw l (next_piece line at z f e some moves ∙ ap (λ left. piece_at f line at z ∷ pieces_from 0 last (at + f.1) left) (drop-drop f.1 at text))

joined_both : (z : Text) (cs ds : List Piece) → joined z (cs ++ ds) ≡ joined z cs ++ joined z ds
joined_both z [] ds = refl
joined_both z (c ∷ cs) ds = ap (λ t. text_at z c.span ++ t) (joined_both z cs ds) ∙ sym (append_assoc (text_at z c.span) (joined z cs) (joined z ds))

-- the texts of the pieces so far and the rest, joined, stay the text
pub join_more : (z : Text) (cs : List Piece) (c : Piece) → c.span.start ≤ c.span.end → joined z cs ++ drop c.span.start z ≡ z → joined z (cs ++ c ∷ []) ++ drop c.span.end z ≡ z
join_more z cs c h j =
    let size = c.span.end - c.span.start in
    let rest = drop c.span.start z in
    let n : c.span.end ≡ c.span.start + size = omega arith in
    let left : drop c.span.end z ≡ drop size rest = ap (λ k. drop k z) n ∙ sym (drop-drop size c.span.start z) in
    let one : joined z (c ∷ []) ≡ take size rest = append-nil (text_at z c.span) in
    rw (joined_both z cs (c ∷ []), one, left, append_assoc (joined z cs) (take size rest) (drop size rest), take-append-drop size rest) j
