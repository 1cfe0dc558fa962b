-- The signs by their first byte, as the code finds them.
use Rattle.std.specs.Prelude.{ℕ, ◌+◌, if◌then◌else◌, ◌==◌, [], ◌∷◌, drop, Option, Some, None}
use Rattle.star_lex.specs.declared.token.Punctuator.{Punctuator}
use Rattle.star_lex.specs.declared.token.Punctuator.TheVariants as s
use Rattle.star_lex.specs.Tokens.{Found}
use Rattle.star_lex.specs.Values.{Text, starts_with}

-- with `=` after it, or without
abbrev pub assigned : Punctuator → Punctuator → ℕ → Text → Found
assigned short long n z = if starts_with (61 ∷ []) z then (long, n + 1) else (short, n)

-- the signs of one byte that begins no other
abbrev pub alone : ℕ → Option Found
alone b =
    if b == 126 then Some (s.Tilde, 1) else (if b == 46 then Some (s.Dot, 1) else (if b == 44 then Some (s.Comma, 1)
    else (if b == 59 then Some (s.Semicolon, 1) else (if b == 58 then Some (s.Colon, 1)
    else (if b == 40 then Some (s.LeftParen, 1) else (if b == 41 then Some (s.RightParen, 1)
    else (if b == 91 then Some (s.LeftBracket, 1) else (if b == 93 then Some (s.RightBracket, 1)
    else (if b == 123 then Some (s.LeftBrace, 1) else (if b == 125 then Some (s.RightBrace, 1) else None))))))))))

abbrev pub star : Text → Found
star z = if starts_with (42 ∷ []) z then (s.StarStar, 2) else assigned s.Star s.StarAssign 1 z

abbrev pub less : Text → Found
less z = if starts_with (60 ∷ []) z then assigned s.ShiftLeft s.ShiftLeftAssign 2 (drop 1 z)
    else assigned s.Less s.LessEqual 1 z

abbrev pub greater : Text → Found
greater z =
    if starts_with (62 ∷ []) z then assigned s.ShiftRight s.ShiftRightAssign 2 (drop 1 z)
    else assigned s.Greater s.GreaterEqual 1 z

abbrev pub slash : Text → Option Found
slash z = if starts_with (47 ∷ []) z then Some (assigned s.SlashSlash s.SlashSlashAssign 2 (drop 1 z)) else None

abbrev pub bang : Text → Option Found
bang z = if starts_with (61 ∷ []) z then Some (s.NotEqual, 2) else None

-- the signs of a byte that the byte itself or `=` may follow
abbrev pub repeated : ℕ → Text → Option Found
repeated b z =
    if b == 42 then Some (star z) else (if b == 47 then slash z
    else (if b == 60 then Some (less z) else (if b == 62 then Some (greater z)
    else (if b == 33 then bang z else None))))

-- the signs of a byte that only `=` may follow
abbrev pub with_equals : ℕ → Text → Option Found
with_equals b z =
    if b == 43 then Some (assigned s.Plus s.PlusAssign 1 z)
    else (if b == 45 then Some (assigned s.Minus s.MinusAssign 1 z)
    else (if b == 37 then Some (assigned s.Percent s.PercentAssign 1 z)
    else (if b == 38 then Some (assigned s.Ampersand s.AmpersandAssign 1 z)
    else (if b == 124 then Some (assigned s.Bar s.BarAssign 1 z)
    else (if b == 94 then Some (assigned s.Caret s.CaretAssign 1 z)
    else (if b == 61 then Some (assigned s.Assign s.EqualEqual 1 z) else None))))))

abbrev pub either : Option Found → Option Found → Option Found
either None o = o
either (Some x) o = Some x

unfoldable pub operator : ℕ → Text → Option Found
operator b z = either (repeated b z) (either (with_equals b z) (alone b))
