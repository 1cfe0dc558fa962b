-- The pieces of a text, cut one after another.
use Rattle.std.specs.Prelude.{◌≡◌, ◌≤◌, ℕ, zero, suc, ◌+◌, ◌-◌, not, ◌&&◌, ◌||◌, if◌then◌else◌, ◌==◌, List, [], ◌∷◌, ◌++◌, length, take, drop, Option, Some, None}
use Rattle.std.specs.Char.{is_ascii_digit}
use Rattle.std.specs.List.{prefix_len}
use Rattle.star_lex.specs.declared.token.Kind.TheVariants as k
use Rattle.star_lex.specs.declared.token.Keyword.{Keyword}
use Rattle.star_lex.specs.declared.token.Kind.{Kind}
use Rattle.star_lex.specs.declared.prefix.Class.TheVariants as class
use Rattle.star_lex.specs.declared.value.Quoting.{Quoting}
use Rattle.star_lex.specs.declared.scan.PieceKind.{PieceKind}
use Rattle.star_lex.specs.declared.scan.PieceKind.TheVariants.{Blank, TabbedBlank, Comment, LineEnd, Continuation, Lexeme, Bad}
use Rattle.star_lex.specs.declared.scan.Piece.{Piece}
use Rattle.star_lex.specs.Tokens.{Found, keyword, sign}
use Rattle.star_lex.specs.Values.{Text, starts_with, is_in, is_line_end, line_end_size, int_of, quoting, opening, closed, text_at}

-- a piece, and how many bytes it takes
abbrev pub First : Type 0
First = PieceKind × ℕ

-- bytes that begin no token are a bad piece, with all of the rest
abbrev pub bad : Text → First
bad z = (Bad, length z)

abbrev pub blanks : Text → First
blanks z = let n = prefix_len (is_in class.Blank) z in (if prefix_len (is_in class.Space) z == n then Blank else TabbedBlank, n)

-- a backslash is right before a line end
abbrev pub continuation : Text → First
continuation [] = (Bad, 1)
continuation (b ∷ z) = if is_line_end b then (Continuation, 1 + line_end_size (b ∷ z)) else (Bad, 1 + length (b ∷ z))

abbrev pub text_of : Text → ℕ → Option ℕ → First
text_of z n None = bad z
text_of z n (Some m) = (Lexeme k.Text, n + m)

abbrev pub text : Quoting → Text → First
text q z = text_of z (opening q) (closed q (drop (opening q) z))

abbrev pub int_at : Text → ℕ → Option ℕ → First
int_at z n None = bad z
int_at z n (Some v) = (Lexeme k.Int, n)

-- all the letters, digits and `_` that follow are an int, or there is no int
abbrev pub int : Text → First
int z = let n = prefix_len (is_in class.Word) z in int_at z n (int_of (take n z))

abbrev pub named : Option Keyword → Kind
named None = k.Name
named (Some w) = k.Keyword w

abbrev pub word : Text → First
word z = let n = prefix_len (is_in class.Word) z in (Lexeme (named (keyword (take n z))), n)

abbrev pub signed : Text → Option Found → First
signed z None = bad z
signed z (Some s) = (Lexeme (k.Punctuator s.0), s.1)

abbrev pub unquoted : ℕ → Text → First
unquoted b z = if is_ascii_digit b then int z else (if is_in class.Word b then word z else signed z (sign z))

abbrev pub token_at : ℕ → Text → Option Quoting → First
token_at b z None = unquoted b z
token_at b z (Some q) = text q z

-- the piece at the front of a text that has one
unfoldable pub first : Text → First
first [] = bad []
first (b ∷ z) =
    if is_in class.Blank b then blanks (b ∷ z)
    else (if is_line_end b then (LineEnd, line_end_size (b ∷ z))
    else (if b == 35 then (Comment, prefix_len (is_in class.Line) (b ∷ z))
    else (if b == 92 then continuation z
    else token_at b (b ∷ z) (quoting (b ∷ z)))))

-- how many line ends a text has
abbrev pub line_ends : Text → ℕ
line_ends [] = 0
line_ends (b ∷ z) = if b == 10 || (b == 13 && not (starts_with (10 ∷ []) z)) then 1 + line_ends z else line_ends z

abbrev pub piece_at : First → ℕ → ℕ → Text → Piece
piece_at f line at z =
    record {
      kind = f.0;
      line = line;
      last = line + line_ends (take f.1 z);
      span = record { start = at; end = at + f.1 };
    }

-- the pieces of a text whose first byte is at a place, on a line; the first number counts the bytes that are left of a
-- piece
abbrev pub pieces_from : ℕ → ℕ → ℕ → Text → List Piece
pieces_from left line at [] = []
pieces_from (suc left) line at (b ∷ z) = pieces_from left line at z
pieces_from zero line at (b ∷ z) =
    let f = first (b ∷ z) in
    piece_at f line at (b ∷ z) ∷ pieces_from (f.1 - 1) (line + line_ends (take f.1 (b ∷ z))) (at + f.1) z

unfoldable pub pieces : Text → List Piece
pieces = pieces_from 0 1 0

-- the texts of the pieces, joined
abbrev pub joined : Text → List Piece → Text
joined z [] = []
joined z (c ∷ cs) = text_at z c.span ++ joined z cs

-- the pieces follow one after the other between two places
abbrev pub Tiles : ℕ → List Piece → ℕ → Type 0
Tiles at [] end = at ≡ end
Tiles at (c ∷ cs) end = (c.span.start ≡ at) × (at ≤ c.span.end) × Tiles c.span.end cs end
