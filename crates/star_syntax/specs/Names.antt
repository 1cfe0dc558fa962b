-- The form of a name, as a loaded name's string must have it.
use Rattle.std.specs.Prelude.{Bool, true, false, not, ◌&&◌, ◌||◌, ◌==◌, [], ◌∷◌, Option, Some, None}
use Rattle.std.specs.Char.{is_ascii_digit, is_ascii_alphanumeric}
use Rattle.star_lex.specs.declared.token.Keyword.{Keyword}
use Rattle.star_lex.specs.Values.{Text}
use Rattle.star_lex.specs.Tokens.{keyword}

-- letters, digits and `_`
abbrev pub is_word : Text → Bool
is_word [] = true
is_word (b ∷ z) = (is_ascii_alphanumeric b || b == 95) && is_word z

abbrev pub is_free : Option Keyword → Bool
is_free None = true
is_free (Some word) = false

-- a name and not a keyword: letters, digits and `_`, a digit not first
unfoldable pub is_name : Text → Bool
is_name [] = false
is_name (b ∷ z) = not (is_ascii_digit b) && (is_word (b ∷ z) && is_free (keyword (b ∷ z)))
