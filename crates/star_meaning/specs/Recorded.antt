-- Calls of recorded functions, of the extended language: the JSON of what is given, and the list that it is added to.
use Rattle.std.specs.Prelude.{ℕ, ◌+◌, List, [], ◌++◌, length, codes}
use Rattle.json.specs.Print.{quoted}
use Rattle.star_store.specs.declared.values.Value.{Value}
use Rattle.star_store.specs.declared.values.Value.TheVariants as value
use Rattle.star_store.specs.declared.layout.Layout.TheVariants as layout
use Rattle.star_store.specs.declared.names.BuiltIn.TheVariants as built_in
use Rattle.star_store.specs.Fields.{Fields, is_before}
use Rattle.star_store.specs.Names.{name_among}
use Rattle.star_store.specs.Sorting.{in_order}
use Rattle.star_meaning.specs.declared.given.Arguments.{Arguments}
use Rattle.star_meaning.specs.declared.said.RecordedCall.{RecordedCall}
use Rattle.star_meaning.specs.declared.said.Said.{Said}
use Rattle.star_meaning.specs.declared.said.Said.TheVariants.{Call, Line}
use Rattle.star_meaning.specs.Run.{Action, ◌>>=◌, give, pay, each, add_said}
use Rattle.star_meaning.specs.Program.{Setting}
use Rattle.star_meaning.specs.Structs.{given_fields}
use Rattle.star_meaning.specs.Texts.{joined}
use Rattle.star_meaning.specs.Values.{encoded}

-- the members `args` and `kwargs` of a call, by the JSON of its positional values and by its members of keyword ones
abbrev pub inputs_text : List (List ℕ) → List (List ℕ) → List ℕ
inputs_text args kwargs =
    codes "\"args\":[" ++ (joined (codes ",") args ++ (codes "],\"kwargs\":{" ++ (joined (codes ",") kwargs ++ codes "}")))

-- the text of a call. Its name is a word, which needs no escapes
abbrev pub call_text : RecordedCall → List ℕ
call_text c = codes "{" ++ (c.inputs ++ (codes ",\"name\":\"" ++ (c.name ++ codes "\"}")))

-- what is said, as a text
abbrev pub said_text : Said → List ℕ
said_text (Line t) = t
said_text (Call c) = call_text c

-- the JSON of a value, which is visited, without any space
abbrev pub json_of : Setting → ℕ → ℕ → Value → Action (List ℕ)
json_of w levels line v = encoded w levels line layout.Compact v

-- a keyword argument as a member
abbrev pub json_member : Setting → ℕ → ℕ → List ℕ × Value → Action (List ℕ)
json_member w levels line f = json_of w levels line f.1 >>= λ t. give (quoted f.0 ++ (codes ":" ++ t))

-- what is given: the positional values in order, then the keyword ones in byte order of their names
abbrev pub inputs_of : Setting → ℕ → ℕ → Arguments → Action (List ℕ)
inputs_of w levels line g = do
  args ← each (json_of w levels line) g.positional
  kwargs ← each (json_member w levels line) (in_order is_before (given_fields g.named))
  give (inputs_text args kwargs)

-- a call is added: 1 and the bytes of its text are paid before it
abbrev pub record_call : ℕ → RecordedCall → Action (Unit {0})
record_call line c = pay line (1 + length (call_text c)) >>= λ _. add_said (Call c)

-- a call of the function with the i-th name
abbrev pub call_of : Setting → ℕ → ℕ → List ℕ → RecordedCall
call_of w line i inputs =
    record { name = name_among w.language.recorded (built_in.Recorded i); inputs = inputs; line = line }

-- what is given is visited, and the call is added. The answer is None
abbrev pub call_recorded : Setting → ℕ → ℕ → ℕ → Arguments → Action Value
call_recorded w levels line i g = do
  inputs ← inputs_of w levels line g
  _ ← record_call line (call_of w line i inputs)
  give value.NoneValue
