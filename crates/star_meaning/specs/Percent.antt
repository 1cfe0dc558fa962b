-- `%` on a string.
use Rattle.std.specs.Prelude.{ℕ, nat_eq, Bool, false, ◌||◌, List, [], ◌∷◌, ◌++◌, length, if◌then◌else◌}
use Rattle.std.specs.Char.{encode_utf8}
use Rattle.std.specs.Str.{chars}
use Rattle.star_store.specs.declared.values.Value.{Value}
use Rattle.star_store.specs.declared.values.Cell.TheVariants as cell
use Rattle.star_dialect.specs.declared.Dialect.{Dialect}
use Rattle.star_dialect.specs.declared.Dialect.TheVariants as dialect
use Rattle.star_strings.specs.Characters.{char_of, only_char}
use Rattle.star_strings.specs.Ints.{int_text}
use Rattle.star_strings.specs.declared.ints.Notation.{Notation}
use Rattle.star_strings.specs.declared.ints.Notation.TheVariants as notation
use Rattle.star_meaning.specs.declared.fault.FaultCode.TheVariants as code
use Rattle.star_meaning.specs.Run.{Action, ◌>>=◌, give, fail, pay, check, found, seeing}
use Rattle.star_meaning.specs.Program.{Setting}
use Rattle.star_meaning.specs.Values.{Content, Number, Held, with_content, text_value, want_int, new_text, repr, str}

-- the values that are put in: a tuple's items, else the one value
abbrev pub put_in : Content → Value → List Value
put_in (Held (cell.Tuple xs)) y = xs
put_in c y = y ∷ []

-- of the extended language: the text of an int in octal or hexadecimal, with the visit that d has
abbrev pub int_as : Setting → ℕ → ℕ → Notation → Value → Action (List ℕ)
int_as w levels line n x = want_int w line x >>= λ z. str w levels line x >>= λ _. give (int_text n z)

-- the character of an int, or the one character of a string, also with a visit
abbrev pub character_in : ℕ → Content → Action (List ℕ)
character_in line (Number z) = found code.BadValue line (char_of z) >>= λ c. give (encode_utf8 c)
character_in line (Held (cell.Text t)) = found code.BadValue line (only_char (chars t)) >>= λ c. give t
character_in line _ = fail code.BadType line

abbrev pub character_of : Setting → ℕ → ℕ → Value → Action (List ℕ)
character_of w levels line x =
    with_content w x (character_in line) >>= λ t. str w levels line x >>= λ _. give t

-- x and X make the text of an int in hexadecimal, o in octal, c a character
abbrev pub further_letter : Setting → ℕ → ℕ → ℕ → Value → Action (List ℕ)
further_letter w levels line letter x =
    if nat_eq letter 120 then int_as w levels line notation.LowerHex x
    else (if nat_eq letter 88 then int_as w levels line notation.UpperHex x
    else (if nat_eq letter 111 then int_as w levels line notation.Octal x
    else (if nat_eq letter 99 then character_of w levels line x
    else fail code.BadValue line)))

abbrev pub letter_in : Dialect → Setting → ℕ → ℕ → ℕ → Value → Action (List ℕ)
letter_in dialect.Core w levels line letter x = fail code.BadValue line
letter_in dialect.Extended w levels line letter x = further_letter w levels line letter x

-- the text of one value for a letter: s and r make its two texts, d the text of an int
abbrev pub format_letter : Setting → ℕ → ℕ → ℕ → Value → Action (List ℕ)
format_letter w levels line letter x =
    if nat_eq letter 115 then str w levels line x
    else (if nat_eq letter 114 then repr w levels line x
    else (if nat_eq letter 100 then (want_int w line x >>= λ n. repr w levels line x)
    else letter_in w.language.dialect w levels line letter x))

-- the next value's text, and the values after it; too few are `value`
abbrev pub next_text : Setting → ℕ → ℕ → ℕ → List Value → Action (List ℕ × List Value)
next_text w levels line letter [] = fail code.BadValue line
next_text w levels line letter (x ∷ xs) = format_letter w levels line letter x >>= λ t. give (t, xs)

-- the value that a dictionary, the right side, has for a string, without a check of a key
abbrev pub value_for : Setting → ℕ → List ℕ → Content → Action Value
value_for w line k (Held (cell.Dict es)) = seeing (λ s. found code.Key line (text_value w s k es))
value_for w line k _ = fail code.BadType line

-- whether a letter is one of s r d x X o c
abbrev pub is_letter : ℕ → Bool
is_letter b =
    nat_eq b 115 || nat_eq b 114 || nat_eq b 100 || nat_eq b 120 || nat_eq b 88 || nat_eq b 111 || nat_eq b 99

-- the text of the value under a name, for a letter
abbrev pub named_text : Setting → ℕ → ℕ → Value → List ℕ → ℕ → Action (List ℕ)
named_text w levels line y k letter = do
  _ ← check code.BadValue line (is_letter letter)
  x ← with_content w y (value_for w line k)
  format_letter w levels line letter x

-- the position in the string: outside of formats, after a `%`, within a name in parentheses, or after one
pub data Position : Type 0 where
  Between : Position
  Format : Position
  Name : List ℕ → Position
  Named : List ℕ → Position

-- whether a name begins after a `%`: in the extended language, with `(`
abbrev pub opens : Dialect → ℕ → Bool
opens dialect.Core b = false
opens dialect.Extended b = nat_eq b 40

-- the bytes of the string from left to right, with the right side: after a `%` comes a letter, another `%`, or a name in
-- parentheses and a letter; the values that are left, none after a name, and the text that is made so far
abbrev pub filled : Setting → ℕ → ℕ → Value → Position → List ℕ → List Value → List ℕ → Action (List ℕ)
filled w levels line y Between [] [] out = give out
filled w levels line y Between [] (x ∷ xs) out = fail code.BadValue line
filled w levels line y Format [] xs out = fail code.BadValue line
filled w levels line y (Name k) [] xs out = fail code.BadValue line
filled w levels line y (Named k) [] xs out = fail code.BadValue line
filled w levels line y Between (b ∷ bs) xs out =
    if nat_eq b 37 then filled w levels line y Format bs xs out
    else filled w levels line y Between bs xs (out ++ b ∷ [])
filled w levels line y Format (b ∷ bs) xs out =
    if nat_eq b 37 then filled w levels line y Between bs xs (out ++ b ∷ [])
    else (if opens w.language.dialect b then filled w levels line y (Name []) bs xs out
    else (next_text w levels line b xs >>= λ r. filled w levels line y Between bs r.1 (out ++ r.0)))
filled w levels line y (Name k) (b ∷ bs) xs out =
    if nat_eq b 41 then filled w levels line y (Named k) bs xs out
    else filled w levels line y (Name (k ++ b ∷ [])) bs xs out
filled w levels line y (Named k) (b ∷ bs) xs out =
    named_text w levels line y k b >>= λ t. filled w levels line y Between bs [] (out ++ t)

-- t % y: the bytes of t are paid, then the texts are made, then the new string is paid
abbrev pub percent : Setting → ℕ → ℕ → List ℕ → Content → Value → Action Value
percent w levels line t c y =
    pay line (length t) >>= λ _. filled w levels line y Between t (put_in c y) [] >>= new_text line
