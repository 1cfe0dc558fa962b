-- The members of `json`, of the extended language: `encode`, `encode_indent` and `decode`.
use Rattle.std.specs.Prelude.{ℕ, zero, suc, ◌+◌, Bool, not, ◌||◌, List, [], ◌∷◌, length, Option, Some, None, codes}
use Rattle.std.specs.List.{list_all, list_any}
use Rattle.std.specs.Option.{option_and_then}
use Rattle.json.specs.Json as json
use Rattle.json.specs.Lex.{tokens}
use Rattle.star_store.specs.declared.values.Value.{Value}
use Rattle.star_store.specs.declared.values.Value.TheVariants as value
use Rattle.star_store.specs.declared.layout.Layout.TheVariants as layout
use Rattle.star_outline.specs.Names.{same_name}
use Rattle.star_meaning.specs.declared.fault.FaultCode.TheVariants as code
use Rattle.star_meaning.specs.declared.given.Arguments.{Arguments}
use Rattle.star_meaning.specs.declared.given.KeywordArgument.{KeywordArgument}
use Rattle.star_meaning.specs.Run.{Action, ◌>>=◌, give, fail, pay, check, found}
use Rattle.star_meaning.specs.Program.{Setting}
use Rattle.star_meaning.specs.Values.{encoded, want_text, new_int, new_text, new_list, new_dict}
use Rattle.star_meaning.specs.Arguments.{positional, only_one}
use Rattle.star_meaning.specs.Binding.{value_named}
use Rattle.star_meaning.specs.Spelling.{spelled}

-- json.encode(x): the visits of the JSON of `x`, then a new string of it
abbrev pub call_encode : Setting → ℕ → ℕ → Arguments → Action Value
call_encode w levels line g =
    positional line g >>= only_one line >>= encoded w levels line layout.Compact >>= new_text line

-- json.encode_indent(x, prefix="", indent="\t"): the same in lines
abbrev pub is_of_lines : KeywordArgument → Bool
is_of_lines n = same_name n.name (codes "prefix") || same_name n.name (codes "indent")

abbrev pub text_or : Setting → ℕ → List ℕ → Option Value → Action (List ℕ)
text_or w line otherwise None = give otherwise
text_or w line otherwise (Some v) = want_text w line v

abbrev pub call_encode_indent : Setting → ℕ → ℕ → Arguments → Action Value
call_encode_indent w levels line g = do
  _ ← check code.Args line (list_all is_of_lines g.named)
  x ← only_one line g.positional
  prefix ← text_or w line [] (value_named (codes "prefix") g.named)
  indent ← text_or w line (9 ∷ []) (value_named (codes "indent") g.named)
  encoded w levels line (layout.Lines prefix indent) x >>= new_text line

-- the JSON that a text is, with at most 400 arrays and objects within each other
abbrev pub document : List ℕ → Option json.Json
document t = option_and_then (λ p. json.if_last p.0 p.1) (json.value 400 (tokens t))

-- the values of items, in order
abbrev pub decoded_items : (json.Json → Action Value) → json.Items → Action (List Value)
decoded_items f json.no_items = give []
decoded_items f (json.item j js) = f j >>= λ v. decoded_items f js >>= λ vs. give (v ∷ vs)

-- the entries of members, in order, each with a new string as its key, which is not among the names before it
abbrev pub decoded_members : ℕ → (json.Json → Action Value) → List (List ℕ) → json.Members
    → Action (List (Value × Value))
decoded_members line f before json.no_members = give []
decoded_members line f before (json.member name j ms) = do
  k ← new_text line name
  _ ← check code.Key line (not (list_any (same_name name) before))
  v ← f j
  es ← decoded_members line f (name ∷ before) ms
  give ((k, v) ∷ es)

-- a number is an int: `value` with a fraction or an exponent, else `overflow` outside 64 bits
abbrev pub built : ℕ → (json.Json → Action Value) → json.Json → Action Value
built line f json.null = give value.NoneValue
built line f (json.boolean b) = give (value.Bool b)
built line f (json.number t) = found code.BadValue line (spelled t) >>= new_int line
built line f (json.string t) = new_text line t
built line f (json.array js) = decoded_items f js >>= new_list line
built line f (json.object ms) = decoded_members line f [] ms >>= new_dict line

-- the value of JSON, if this many levels may be opened: each value opens one, and then pays its visit
unfoldable pub decoded : ℕ → ℕ → json.Json → Action Value
decoded line zero j = fail code.Deep line
decoded line (suc levels) j = pay line 1 >>= λ _. built line (decoded line levels) j

-- json.decode(s): the string's bytes are paid, then it is read, then its value is built
abbrev pub call_decode : Setting → ℕ → ℕ → Arguments → Action Value
call_decode w levels line g = do
  t ← positional line g >>= only_one line >>= want_text w line
  _ ← pay line (length t)
  j ← found code.BadValue line (document t)
  decoded line levels j
