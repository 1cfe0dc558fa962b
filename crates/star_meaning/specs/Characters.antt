-- ord, chr and hash, of the extended language.
use Rattle.std.specs.Prelude.{ℕ, length, pos}
use Rattle.std.specs.Char.{encode_utf8}
use Rattle.std.specs.Str.{chars}
use Rattle.star_strings.specs.Characters.{char_of, only_char}
use Rattle.star_strings.specs.Ints as strings
use Rattle.star_store.specs.declared.values.Value.{Value}
use Rattle.star_store.specs.declared.values.Value.TheVariants as value
use Rattle.star_meaning.specs.declared.fault.FaultCode.TheVariants as code
use Rattle.star_meaning.specs.Run.{Action, ◌>>=◌, give, pay, found}
use Rattle.star_meaning.specs.Program.{Setting}
use Rattle.star_meaning.specs.Values.{want_int, want_text, new_text}
use Rattle.star_meaning.specs.declared.given.Arguments.{Arguments}
use Rattle.star_meaning.specs.Arguments.{positional, only_one}

-- ord(s): the number of the one character of a string, else `value`
abbrev pub call_ord : Setting → ℕ → Arguments → Action Value
call_ord w line g =
    positional line g >>= only_one line >>= want_text w line
    >>= λ t. found code.BadValue line (only_char (chars t)) >>= λ c. give (value.Int (pos c))

-- chr(i): the character of a number, as a new string; `value` for a number that no character has
abbrev pub call_chr : Setting → ℕ → Arguments → Action Value
call_chr w line g =
    positional line g >>= only_one line >>= want_int w line
    >>= λ z. found code.BadValue line (char_of z) >>= λ c. new_text line (encode_utf8 c)

-- hash(s): the bytes of the string are paid
abbrev pub call_hash : Setting → ℕ → Arguments → Action Value
call_hash w line g =
    positional line g >>= only_one line >>= want_text w line
    >>= λ t. pay line (length t) >>= λ _. give (value.Int (strings.hash t))
