-- The keywords and the signs of the language.
use Rattle.std.specs.Prelude.{ℕ, Bool, true, false, ◌&&◌, if◌then◌else◌, ◌==◌, nat_lt, List, [], ◌∷◌, length, Option, Some, None, codes}
use Rattle.star_lex.specs.declared.token.Keyword.{Keyword}
use Rattle.star_lex.specs.declared.token.Keyword.TheVariants as w
use Rattle.star_lex.specs.declared.token.Punctuator.{Punctuator}
use Rattle.star_lex.specs.declared.token.Punctuator.TheVariants as s
use Rattle.star_lex.specs.Values.{Text, starts_with}

abbrev pub keywords : List (Text × Keyword)
keywords =
    (codes "and", w.And) ∷ (codes "break", w.Break) ∷ (codes "continue", w.Continue) ∷ (codes "def", w.Def)
    ∷ (codes "elif", w.Elif)
    ∷ (codes "else", w.Else) ∷ (codes "for", w.For) ∷ (codes "if", w.If) ∷ (codes "in", w.In)
    ∷ (codes "lambda", w.Lambda)
    ∷ (codes "load", w.Load) ∷ (codes "not", w.Not) ∷ (codes "or", w.Or) ∷ (codes "pass", w.Pass)
    ∷ (codes "return", w.Return)
    ∷ (codes "as", w.Reserved) ∷ (codes "assert", w.Reserved) ∷ (codes "async", w.Reserved)
    ∷ (codes "await", w.Reserved)
    ∷ (codes "class", w.Reserved) ∷ (codes "del", w.Reserved) ∷ (codes "except", w.Reserved)
    ∷ (codes "finally", w.Reserved)
    ∷ (codes "from", w.Reserved) ∷ (codes "global", w.Reserved) ∷ (codes "import", w.Reserved)
    ∷ (codes "is", w.Reserved)
    ∷ (codes "nonlocal", w.Reserved) ∷ (codes "raise", w.Reserved) ∷ (codes "try", w.Reserved)
    ∷ (codes "while", w.Reserved)
    ∷ (codes "with", w.Reserved) ∷ (codes "yield", w.Reserved) ∷ []

abbrev pub signs : List (Text × Punctuator)
signs =
    (codes "+", s.Plus) ∷ (codes "-", s.Minus) ∷ (codes "*", s.Star) ∷ (codes "**", s.StarStar)
    ∷ (codes "//", s.SlashSlash) ∷ (codes "%", s.Percent)
    ∷ (codes "~", s.Tilde) ∷ (codes "&", s.Ampersand) ∷ (codes "|", s.Bar) ∷ (codes "^", s.Caret)
    ∷ (codes "<<", s.ShiftLeft) ∷ (codes ">>", s.ShiftRight)
    ∷ (codes ".", s.Dot) ∷ (codes ",", s.Comma) ∷ (codes "=", s.Assign) ∷ (codes ";", s.Semicolon)
    ∷ (codes ":", s.Colon)
    ∷ (codes "(", s.LeftParen) ∷ (codes ")", s.RightParen) ∷ (codes "[", s.LeftBracket) ∷ (codes "]", s.RightBracket)
    ∷ (codes "{", s.LeftBrace) ∷ (codes "}", s.RightBrace)
    ∷ (codes "<", s.Less) ∷ (codes ">", s.Greater) ∷ (codes "<=", s.LessEqual) ∷ (codes ">=", s.GreaterEqual)
    ∷ (codes "==", s.EqualEqual) ∷ (codes "!=", s.NotEqual)
    ∷ (codes "+=", s.PlusAssign) ∷ (codes "-=", s.MinusAssign) ∷ (codes "*=", s.StarAssign)
    ∷ (codes "//=", s.SlashSlashAssign) ∷ (codes "%=", s.PercentAssign)
    ∷ (codes "&=", s.AmpersandAssign) ∷ (codes "|=", s.BarAssign) ∷ (codes "^=", s.CaretAssign)
    ∷ (codes "<<=", s.ShiftLeftAssign) ∷ (codes ">>=", s.ShiftRightAssign) ∷ []

-- the keyword that is a word, if one is
abbrev pub keyword_in : List (Text × Keyword) → Text → Option Keyword
keyword_in [] z = None
keyword_in (r ∷ rows) z = if starts_with r.0 z && length r.0 == length z then Some r.1 else keyword_in rows z

unfoldable pub keyword : Text → Option Keyword
keyword = keyword_in keywords

-- a sign, and how many bytes it takes
abbrev pub Found : Type 0
Found = Punctuator × ℕ

abbrev pub longer : Bool → Found → Option Found → Option Found
longer false a best = best
longer true a None = Some a
longer true a (Some b) = if nat_lt b.1 a.1 then Some a else Some b

-- the longest of the signs at the front
abbrev pub longest : List (Text × Punctuator) → Text → Option Found
longest [] z = None
longest (r ∷ rows) z = longer (starts_with r.0 z) (r.1, length r.0) (longest rows z)

unfoldable pub sign : Text → Option Found
sign = longest signs
