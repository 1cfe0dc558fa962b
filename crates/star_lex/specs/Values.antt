-- The values of ints and strings: digits, quotes, escapes.
use Rattle.std.specs.Prelude.{◌≡◌, ◌≤◌, ℕ, zero, suc, ◌+◌, ◌-◌, ◌*◌, Bool, true, false, not, ◌&&◌, ◌||◌, if◌then◌else◌, ◌==◌, nat_lt, nat_le, List, [], ◌∷◌, ◌++◌, length, take, drop, slice_index, Option, Some, None, codes, encode_utf8, unwrap_or}
use Rattle.std.specs.Char.{is_digit, digit_value, is_ascii_alphanumeric}
use Rattle.std.specs.List.{prefix_len}
use Rattle.star_lex.specs.declared.prefix.Class.{Class}
use Rattle.star_lex.specs.declared.prefix.Class.TheVariants as class
use Rattle.star_lex.specs.declared.value.EscapeValue.{EscapeValue}
use Rattle.star_lex.specs.declared.value.EscapeValue.TheVariants.{Nothing, Byte, Kept, Scalar}
use Rattle.star_lex.specs.declared.token.Span.{Span}
use Rattle.star_lex.specs.declared.value.Quoting.{Quoting}

abbrev pub Text : Type 0
Text = List ℕ

-- whether the second text begins with the first
abbrev pub starts_with : Text → Text → Bool
starts_with [] z = true
starts_with (a ∷ s) [] = false
starts_with (a ∷ s) (b ∷ z) = b == a && starts_with s z

-- the text of a token: the bytes from `start` up to `end`
abbrev pub text_at : Text → Span → Text
text_at z s = take (s.end - s.start) (drop s.start z)

-- ---- line ends: CR LF, and each other CR or LF

abbrev pub is_line_end : ℕ → Bool
is_line_end b = b == 10 || b == 13

-- how many bytes the line end at the front takes
abbrev pub line_end_size : Text → ℕ
line_end_size z = if starts_with (13 ∷ 10 ∷ []) z then 2 else 1

-- ---- classes of bytes

abbrev pub is_in : Class → ℕ → Bool
is_in class.Space b = b == 32
is_in class.Blank b = b == 32 || b == 9
is_in class.Word b = is_ascii_alphanumeric b || b == 95
is_in class.Line b = not (is_line_end b)
is_in class.Octal b = nat_le 48 b && nat_le b 55

-- the text begins with a byte of the class
abbrev pub Leads : Class → Text → Type 0
Leads c z = (1 ≤ length z) × (is_in c (slice_index z 0) ≡ true)

-- ---- ints

-- the value of digits that come after others of the value n
abbrev pub number : ℕ → ℕ → Text → Option ℕ
number base n [] = Some n
number base n (b ∷ z) = if is_digit b base then number base (n * base + digit_value b) z else None

abbrev pub at_most : ℕ → Option ℕ → Option ℕ
at_most most None = None
at_most most (Some n) = if nat_le n most then Some n else None

-- the value of one digit or more
abbrev pub digits : ℕ → ℕ → Text → Option ℕ
digits base most [] = None
digits base most (b ∷ z) = at_most most (number base 0 (b ∷ z))

abbrev pub greatest : ℕ
greatest = 9223372036854775807

-- the value of an int: `0`, a decimal that begins with 1 to 9, `0x` and hexadecimal digits, `0o` and octal digits
abbrev pub int_of : Text → Option ℕ
int_of z =
    if starts_with (codes "0x") z || starts_with (codes "0X") z then digits 16 greatest (drop 2 z)
    else (if starts_with (codes "0o") z || starts_with (codes "0O") z then digits 8 greatest (drop 2 z)
    else (if starts_with (codes "0") z then (if length z == 1 then Some 0 else None)
    else digits 10 greatest z))

-- ---- strings

abbrev pub is_quote : ℕ → Bool
is_quote b = b == 34 || b == 39

-- the quotes that open a string, and those that close it
abbrev pub quotes : Quoting → Text
quotes q = if q.triple then q.quote ∷ q.quote ∷ q.quote ∷ [] else q.quote ∷ []

-- how the string at the front is quoted; three equal quotes always quote it three times
abbrev pub quoting_from : Bool → Text → Option Quoting
quoting_from raw [] = None
quoting_from raw (b ∷ z) =
    if is_quote b then Some (record { raw = raw; quote = b; triple = starts_with (b ∷ b ∷ []) z }) else None

abbrev pub quoting : Text → Option Quoting
quoting z = if starts_with (codes "r") z then quoting_from true (drop 1 z) else quoting_from false z

-- the number of bytes before the inside
abbrev pub opening : Quoting → ℕ
opening q = (if q.raw then 1 else 0) + length (quotes q)

-- the bytes that a part of the inside means: a backslash stays in a raw string
abbrev pub meant : EscapeValue → Text
meant Nothing = []
meant (Byte b) = b ∷ []
meant (Kept b) = 92 ∷ b ∷ []
meant (Scalar c) = encode_utf8 c

-- a part of the inside: the number of its bytes, and its meaning
abbrev pub Part : Type 0
Part = ℕ × EscapeValue

abbrev pub after : ℕ → Option Part → Option Part
after n None = None
after n (Some p) = Some (n + p.0, p.1)

abbrev pub is_scalar : ℕ → Bool
is_scalar n = nat_lt n 0xD800 || (nat_le 0xE000 n && nat_le n 0x10FFFF)

abbrev pub scalar_of : ℕ → Option ℕ → Option Part
scalar_of size None = None
scalar_of size (Some n) = if is_scalar n then Some (size, Scalar n) else None

-- the character whose number is at the front, in `size` digits
abbrev pub numbered : ℕ → ℕ → ℕ → Text → Option Part
numbered base size most z =
    if nat_lt (length z) size then None else scalar_of size (at_most most (number base 0 (take size z)))

-- the escapes of one letter
abbrev pub letter : ℕ → Option Part
letter b =
    if b == 97 then Some (1, Byte 7) else (if b == 98 then Some (1, Byte 8) else (if b == 102 then Some (1, Byte 12)
    else (if b == 110 then Some (1, Byte 10) else (if b == 114 then Some (1, Byte 13)
    else (if b == 116 then Some (1, Byte 9)
    else (if b == 118 then Some (1, Byte 11) else (if b == 92 || is_quote b then Some (1, Byte b) else None)))))))

-- an escape, after its backslash: a line end means nothing; one to three octal digits, `x` and two hexadecimal digits,
-- at most 127; `u` and four, `U` and eight
abbrev pub escape : Text → Option Part
escape [] = None
escape (b ∷ z) =
    if is_line_end b then Some (line_end_size (b ∷ z), Nothing)
    else (if is_in class.Octal b then numbered 8 (prefix_len (is_in class.Octal) (take 3 (b ∷ z))) 127 (b ∷ z)
    else (if b == 120 then after 1 (numbered 16 2 127 z)
    else (if b == 117 then after 1 (numbered 16 4 0x10FFFF z)
    else (if b == 85 then after 1 (numbered 16 8 0x10FFFF z)
    else letter b))))

-- a byte that means itself, or a line end, which means LF and may be only in a string quoted three times
abbrev pub plain : Bool → Text → Option (ℕ × ℕ)
plain triple [] = None
plain triple (b ∷ z) =
    if is_line_end b then (if triple then Some (line_end_size (b ∷ z), 10) else None) else Some (1, b)

abbrev pub as_byte : Option (ℕ × ℕ) → Option Part
as_byte None = None
as_byte (Some p) = Some (p.0, Byte p.1)

abbrev pub as_kept : Option (ℕ × ℕ) → Option Part
as_kept None = None
as_kept (Some p) = Some (1 + p.0, Kept p.1)

unfoldable pub part : Quoting → Text → Option Part
part q [] = None
part q (b ∷ z) =
    if b == 92 then (if q.raw then as_kept (plain q.triple z) else after 1 (escape z))
    else as_byte (plain q.triple (b ∷ z))

abbrev pub more : ℕ → Option ℕ → Option ℕ
more n None = None
more n (Some m) = Some (n + m)

-- the number of bytes up to the closing quotes and with them: the first quotes between parts; the number counts the
-- bytes that are left of a part
abbrev pub closed_from : ℕ → Quoting → Text → Option ℕ
closed_from left q [] = None
closed_from (suc left) q (b ∷ z) = closed_from left q z
closed_from zero q (b ∷ z) =
    if starts_with (quotes q) (b ∷ z) then Some (length (quotes q))
    else elim (part q (b ∷ z)) [ None ↦ None | Some p ↦ more p.0 (closed_from (p.0 - 1) q z) ]

unfoldable pub closed : Quoting → Text → Option ℕ
closed = closed_from 0

-- the bytes that an inside means; the number counts the bytes that are left of a part
abbrev pub decoded_from : ℕ → Quoting → Text → Text
decoded_from left q [] = []
decoded_from (suc left) q (b ∷ z) = decoded_from left q z
decoded_from zero q (b ∷ z) = elim (part q (b ∷ z)) [ None ↦ [] | Some p ↦ meant p.1 ++ decoded_from (p.0 - 1) q z ]

unfoldable pub decoded : Quoting → Text → Text
decoded = decoded_from 0

abbrev pub inside : Quoting → Text → Text
inside q z = take (length z - (opening q + length (quotes q))) (drop (opening q) z)

-- the value of a string: the meaning of its inside
abbrev pub string_value : Text → Text
string_value z = elim (quoting z) [ None ↦ [] | Some q ↦ decoded q (inside q z) ]

-- the value of an int, and 0 for a text that is not an int
abbrev pub int_value : Text → ℕ
int_value z = unwrap_or (int_of z) 0
