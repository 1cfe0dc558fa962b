-- The tokens that are still to come at a place in a logical line, from the pieces that are left.
use Rattle.std.specs.Prelude.{◌≡◌, ℕ, List, [], ◌∷◌, Option, Some, None, Result, Ok, Err}
use Rattle.star_lex.specs.declared.token.Token.{Token}
use Rattle.star_lex.specs.declared.token.SyntaxFault.{SyntaxFault}
use Rattle.star_lex.specs.declared.token.SyntaxFault.TheVariants.{Memory}
use Rattle.star_lex.specs.declared.scan.Piece.{Piece}
use Rattle.star_lex.specs.declared.lay.Place.{Place}
use Rattle.star_lex.specs.declared.lay.Place.TheVariants.{Front, Inside}
use Rattle.star_lex.specs.Lines.{◌>>=◌, Line, first_significant, layout_of, lay, lines, marks, onto, opened_by, tokens, width}

-- how many brackets are open
abbrev pub depth_of : Place → ℕ
depth_of (Front first) = 0
depth_of (Inside depth before) = depth

-- the pieces by which the indentation of a line is judged: those that are left, unless its first piece is read
abbrev pub judged : Option Piece → List Piece → List Piece
judged None cs = cs
judged (Some c) cs = c ∷ []

-- the tokens still to come from a line of which `l` is left
abbrev pub tokens_at : Place → List ℕ → Line → Result (List Token) SyntaxFault
tokens_at (Front first) ts l = elim (first_significant l.content) [
  | None ↦ Ok []
  | Some c ↦
      marks (layout_of ts (judged first l.content)) c.line c.span.start
      >>= (λ front. onto front (tokens l.depth None l.content))
]
tokens_at (Inside depth before) ts l = tokens l.depth before l.content

-- the indentations that are open after that line
abbrev pub opened_at : Place → List ℕ → Line → List ℕ
opened_at (Front first) ts l = elim (first_significant l.content) [
  | None ↦ ts
  | Some c ↦ opened_by ts (layout_of ts (judged first l.content)) (width (judged first l.content))
]
opened_at (Inside depth before) ts l = ts

-- the tokens still to come from the lines that are left, the first of which may be read in part
abbrev pub lay_at : ℕ → ℕ → Place → List ℕ → List Line → Result (List Token) SyntaxFault
lay_at line at place ts [] = Ok []
lay_at line at place ts (l ∷ ls) =
    tokens_at place ts l >>= (λ front. onto front (lay line at (opened_at place ts l) l.depth ls))

-- the tokens still to come from the pieces that are left and the end of the text
abbrev pub rest_of : ℕ → ℕ → Place → List ℕ → List Piece → Result (List Token) SyntaxFault
rest_of line at place ts cs = lay_at line at place ts (lines (depth_of place) cs)

-- the answer of a function that reads on to another place: the whole is what that place gives, or it is a fault, or there
-- is want of memory
abbrev pub Comes :
    Result (List Token) SyntaxFault → Result Place SyntaxFault → (Place → Result (List Token) SyntaxFault) → Type 0
Comes whole (Ok place) after = whole ≡ after place
Comes whole (Err Memory) after = Unit {0}
Comes whole (Err e) after = whole ≡ Err e

-- the answer of a function that reads the piece `c`: whatever comes after it, the tokens so far and those still to come
-- make the same as before. `old` and `ts` are the tokens so far and the open indentations before it, `new` and `us` those
-- after it
abbrev pub Reads : List Token → List ℕ → Place → Piece → Result Place SyntaxFault → List Token → List ℕ → Type 0
Reads old ts place c r new us =
    (line at : ℕ) (cs : List Piece)
    → Comes (onto old (rest_of line at place ts (c ∷ cs))) r (λ after. onto new (rest_of line at after us cs))
