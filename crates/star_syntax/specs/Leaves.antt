-- The leaves of a file: its tokens with their values and positions.
use Rattle.std.specs.Prelude.{ℕ, ◌+◌, ◌==◌, Bool, true, not, ◌&&◌, ◌||◌, List, [], ◌∷◌, pos}
use Rattle.star_lex.specs.declared.token.Kind.{Kind}
use Rattle.star_lex.specs.declared.token.Kind.TheVariants as k
use Rattle.star_lex.specs.declared.token.Token.{Token}
use Rattle.star_lex.specs.Values.{Text, is_line_end, text_at, int_value, string_value}
use Rattle.star_syntax.specs.declared.leaf.ValuedToken.{ValuedToken}
use Rattle.star_syntax.specs.declared.leaf.TokenValue.{TokenValue}
use Rattle.star_syntax.specs.declared.leaf.TokenValue.TheVariants as w

-- the word of a token by its kind and text: a name itself, an int or a string its value
abbrev pub word_of : Kind → Text → TokenValue
word_of k.Name z = w.Name z
word_of k.Int z = w.Int (pos (int_value z))
word_of k.Text z = w.Text (string_value z)
word_of (k.Keyword keyword) z = w.Keyword keyword
word_of (k.Punctuator sign) z = w.Punctuator sign
word_of k.Newline z = w.Newline
word_of k.Indent z = w.Indent
word_of k.Outdent z = w.Outdent
word_of k.End z = w.End

-- the leaf of a token of a source, with the token's number
abbrev pub leaf_of : Text → ℕ → Token → ValuedToken
leaf_of source n t =
    record { word = word_of t.kind (text_at source t.span); position = record { line = t.line; token = n } }

-- the leaves of tokens; the first token has the number
abbrev pub leaves_from : Text → ℕ → List Token → List ValuedToken
leaves_from source n [] = []
leaves_from source n (t ∷ ts) = leaf_of source n t ∷ leaves_from source (n + 1) ts

abbrev pub leaves_of : Text → List Token → List ValuedToken
leaves_of source ts = leaves_from source 0 ts

-- no byte inside of a string is a backslash or ends a line
abbrev pub means_itself : Text → Bool
means_itself [] = true
means_itself (b ∷ z) = not (b == 92 || is_line_end b) && means_itself z
