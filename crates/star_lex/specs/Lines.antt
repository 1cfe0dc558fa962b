-- The tokens of a text: logical lines, their indentation, and the whole text (`lexed`).
use Rattle.std.specs.Prelude.{◌≡◌, ◌≤◌, ℕ, zero, suc, ◌+◌, ◌-◌, Bool, false, if◌then◌else◌, ◌==◌, nat_lt, List, [], ◌∷◌, ◌++◌, length, drop, replicate, Option, Some, None, Result, Ok, Err, Vec}
use Rattle.star_lex.specs.declared.token.Kind.{Kind}
use Rattle.star_lex.specs.declared.token.Kind.TheVariants as k
use Rattle.star_lex.specs.declared.token.Punctuator.{Punctuator}
use Rattle.star_lex.specs.declared.token.Punctuator.TheVariants as s
use Rattle.star_lex.specs.declared.token.Token.{Token}
use Rattle.star_lex.specs.declared.token.SyntaxFault.{SyntaxFault}
use Rattle.star_lex.specs.declared.token.SyntaxFault.TheVariants.{BadToken, BadIndent, Memory}
use Rattle.star_lex.specs.declared.scan.PieceKind.{PieceKind}
use Rattle.star_lex.specs.declared.scan.PieceKind.TheVariants.{Blank, TabbedBlank, Comment, LineEnd, Continuation, Lexeme, Bad}
use Rattle.star_lex.specs.declared.scan.Piece.{Piece}
use Rattle.std.specs.declared.alloc.Global.{Global}
use Rattle.star_lex.specs.Values.{Text}
use Rattle.star_lex.specs.Pieces.{line_ends, pieces}

-- ---- depth, logical lines

abbrev pub sign_depth : ℕ → Punctuator → ℕ
sign_depth d s.LeftParen = d + 1
sign_depth d s.LeftBracket = d + 1
sign_depth d s.LeftBrace = d + 1
sign_depth d s.RightParen = d - 1
sign_depth d s.RightBracket = d - 1
sign_depth d s.RightBrace = d - 1
sign_depth d _ = d

-- how many brackets are open after a piece
abbrev pub depth_after : ℕ → PieceKind → ℕ
depth_after d (Lexeme (k.Punctuator s)) = sign_depth d s
depth_after d _ = d

abbrev pub ends_line : ℕ → PieceKind → Bool
ends_line d LineEnd = d == 0
ends_line d _ = false

-- the pieces of a logical line, and the depth after it
pub record Line : Type 0 where
  pub content : List Piece
  pub depth : ℕ

abbrev pub put : Piece → List Line → List Line
put c [] = []
put c (l ∷ ls) = record { content = c ∷ l.content; depth = l.depth } ∷ ls

-- the pieces between the line ends at depth 0; the number is the depth before the pieces
abbrev pub lines : ℕ → List Piece → List Line
lines d [] = record { content = []; depth = d } ∷ []
lines d (c ∷ cs) =
    if ends_line d c.kind then record { content = []; depth = 0 } ∷ lines 0 cs
    else put c (lines (depth_after d c.kind) cs)

-- ---- indentation; the open ones, the innermost first

pub data Layout : Type 0 where
  opens : Layout
  closes : ℕ → Layout
  wrong : Layout

abbrev pub more_closed : ℕ → Option ℕ → Option ℕ
more_closed n None = None
more_closed n (Some m) = Some (n + m)

-- how many of the open indentations a width closes, if one is equal to it
abbrev pub closing : List ℕ → ℕ → Option ℕ
closing [] w = None
closing (t ∷ ts) w = if t == w then Some 0 else (if nat_lt t w then None else more_closed 1 (closing ts w))

abbrev pub closes_some : Option ℕ → Layout
closes_some None = wrong
closes_some (Some n) = closes n

abbrev pub layout : List ℕ → ℕ → Layout
layout [] w = wrong
layout (t ∷ ts) w = if nat_lt t w then opens else closes_some (closing (t ∷ ts) w)

-- the leading spaces, if there is no tab among the leading blanks
abbrev pub width : List Piece → Option ℕ
width [] = Some 0
width (c ∷ cs) = elim c.kind [ TabbedBlank ↦ None | Blank ↦ Some (c.span.end - c.span.start) | _ ↦ Some 0 ]

abbrev pub layout_of : List ℕ → List Piece → Layout
layout_of open_ cs = elim (width cs) [ None ↦ wrong | Some w ↦ layout open_ w ]

abbrev pub opened_by : List ℕ → Layout → Option ℕ → List ℕ
opened_by ts opens (Some w) = w ∷ ts
opened_by ts (closes n) w = drop n ts
opened_by ts _ w = ts

-- ---- tokens

abbrev pub empty_token : Kind → ℕ → ℕ → Token
empty_token kind line at = record { kind = kind; line = line; span = record { start = at; end = at } }

infixl 10 ◌>>=◌
abbrev pub ◌>>=◌ : {A B : Type 0} → Result A SyntaxFault → (A → Result B SyntaxFault) → Result B SyntaxFault
(Ok x) >>= f = f x
(Err e) >>= f = Err e

-- tokens before others, or the first fault
abbrev pub onto : List Token → Result (List Token) SyntaxFault → Result (List Token) SyntaxFault
onto xs r = r >>= (λ ts. Ok (xs ++ ts))

-- the first significant piece: not a blank, a comment or a line end
abbrev pub first_significant : List Piece → Option Piece
first_significant [] = None
first_significant (c ∷ cs) =
    elim c.kind [ Blank ↦ first_significant cs | TabbedBlank ↦ first_significant cs | Comment ↦ first_significant cs | LineEnd ↦ first_significant cs | _ ↦ Some c ]

abbrev pub marks : Layout → ℕ → ℕ → Result (List Token) SyntaxFault
marks opens line at = Ok (empty_token k.Indent line at ∷ [])
marks (closes n) line at = Ok (replicate n (empty_token k.Outdent line at))
marks wrong line at = Err (BadIndent line)

abbrev pub onto_marks : List Token → Layout → ℕ → ℕ → Result (List Token) SyntaxFault
onto_marks xs l line at = onto xs (marks l line at)

-- a line that ends at depth 0 has a NEWLINE after its last token
abbrev pub newline : ℕ → Option Piece → List Token
newline zero (Some c) = empty_token k.Newline c.last c.span.end ∷ []
newline _ _ = []

abbrev pub token_of : Kind → Piece → Token
token_of kind c = record { kind = kind; line = c.line; span = c.span }

-- the tokens of a line after its last token so far; a backslash and line end come after a token
abbrev pub tokens : ℕ → Option Piece → List Piece → Result (List Token) SyntaxFault
tokens depth before [] = Ok (newline depth before)
tokens depth before (c ∷ cs) = elim c.kind [
  | Lexeme kind ↦ onto (token_of kind c ∷ []) (tokens depth (Some c) cs)
  | Continuation ↦ elim before [ None ↦ Err (BadToken c.line) | Some b ↦ tokens depth (Some b) cs ]
  | Bad ↦ Err (BadToken c.line)
  | _ ↦ tokens depth before cs
]

-- the tokens of a logical line; none if it has only blanks and comments
abbrev pub line_tokens : List ℕ → Line → Result (List Token) SyntaxFault
line_tokens ts l = elim (first_significant l.content) [
  | None ↦ Ok []
  | Some c ↦ marks (layout_of ts l.content) c.line c.span.start >>= (λ front. onto front (tokens l.depth None l.content))
]

abbrev pub opened_after : List ℕ → Line → List ℕ
opened_after ts l = elim (first_significant l.content) [ None ↦ ts | Some c ↦ opened_by ts (layout_of ts l.content) (width l.content) ]

abbrev pub line_of : List Piece → ℕ → Line
line_of cs d = record { content = cs; depth = d }

-- at the end of the text
abbrev pub finish : ℕ → List ℕ → ℕ → ℕ → List Token
finish zero ts line at = replicate (length ts - 1) (empty_token k.Outdent line at) ++ empty_token k.End line at ∷ []
finish (suc d) ts line at = empty_token k.End line at ∷ []

-- the tokens of the lines and of the end of the text; `d` is the depth after the line before
abbrev pub lay : ℕ → ℕ → List ℕ → ℕ → List Line → Result (List Token) SyntaxFault
lay line at ts d [] = Ok (finish d ts line at)
lay line at ts d (l ∷ ls) = line_tokens ts l >>= (λ front. onto front (lay line at (opened_after ts l) l.depth ls))

-- the tokens of a text, or its first fault
unfoldable pub lexed : Text → Result (List Token) SyntaxFault
lexed z = lay (1 + line_ends z) (length z) (0 ∷ []) 0 (lines 0 (pieces z))

-- the answer of `lex`: those tokens, or want of memory
abbrev pub Answers : Result (List Token) SyntaxFault → Result (Vec Token Global) SyntaxFault → Type 0
Answers r (Ok ts) = r ≡ Ok ts.items
Answers r (Err Memory) = Unit {0}
Answers r (Err e) = r ≡ Err e

-- the answer of a function that pushes tokens: the list has become as stated, or it is the first fault, or want of
-- memory
abbrev pub Pushes : Result (List Token) SyntaxFault → Result (Unit {0}) SyntaxFault → List Token → Type 0
Pushes r (Ok u) new = r ≡ Ok new
Pushes r (Err Memory) new = Unit {0}
Pushes r (Err e) new = r ≡ Err e

-- the spans of tokens are in order between two places: each begins where the one before it ends, or later
abbrev pub InOrder : ℕ → List Token → ℕ → Type 0
InOrder lo [] hi = lo ≤ hi
InOrder lo (t ∷ ts) hi = (lo ≤ t.span.start) × (t.span.start ≤ t.span.end) × InOrder t.span.end ts hi
