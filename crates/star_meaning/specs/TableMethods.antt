-- The methods of strings in the table of star_strings: the number and the kinds of the arguments, then the bytes of the
-- string are paid, then the answer is made.
use Rattle.std.specs.Prelude.{ℕ, nat_lt, Bool, not, ◌&&◌, List, [], ◌∷◌, length, map, Option, Some, None}
use Rattle.star_store.specs.declared.values.Value.{Value}
use Rattle.star_store.specs.declared.values.Value.TheVariants as value
use Rattle.star_store.specs.declared.values.Cell.TheVariants as cell
use Rattle.star_strings.specs.declared.table.Answer.{Answer}
use Rattle.star_strings.specs.declared.table.Answer.TheVariants as answer
use Rattle.star_strings.specs.declared.table.Argument.{Argument}
use Rattle.star_strings.specs.declared.table.Argument.TheVariants as argument
use Rattle.star_strings.specs.declared.table.Kind.{Kind}
use Rattle.star_strings.specs.declared.table.Kind.TheVariants as kind
use Rattle.star_strings.specs.declared.table.StringMethod.{StringMethod}
use Rattle.star_strings.specs.Table as strings
use Rattle.star_strings.specs.Table.{Row, row_of}
use Rattle.star_meaning.specs.declared.fault.FaultCode.TheVariants as code
use Rattle.star_meaning.specs.Run.{Action, ◌>>=◌, give, fail, check, found, each}
use Rattle.star_dialect.specs.declared.Dialect.{Dialect}
use Rattle.star_dialect.specs.declared.Dialect.TheVariants as dialect
use Rattle.star_meaning.specs.Program.{Setting}
use Rattle.star_meaning.specs.Values.{Content, Nothing, Held, with_content, want_bool, want_int, want_text, new_text, new_list, new_tuple}
use Rattle.star_meaning.specs.Subscript.{want_part}
use Rattle.star_meaning.specs.declared.given.Arguments.{Arguments}
use Rattle.star_meaning.specs.Arguments.{positional}
use Rattle.star_meaning.specs.TextMethods.{pay_for_bytes, want_choices}

-- whether a method takes this many values
abbrev pub takes : Row → ℕ → Bool
takes r n = not (nat_lt n r.least) && not (nat_lt (length r.wants) n)

-- a string or None, else `type`
abbrev pub maybe_text_of : Content → Option (Option (List ℕ))
maybe_text_of Nothing = Some None
maybe_text_of (Held (cell.Text t)) = Some (Some t)
maybe_text_of _ = None

abbrev pub want_maybe_text : Setting → ℕ → Value → Action (Option (List ℕ))
want_maybe_text w line v = with_content w v (λ c. found code.BadType line (maybe_text_of c))

-- a value of a kind, else `type`
abbrev pub want_argument : Setting → ℕ → Kind → Value → Action Argument
want_argument w line kind.Text v = want_text w line v >>= λ t. give (argument.Text t)
want_argument w line kind.MaybeText v = want_maybe_text w line v >>= λ t. give (argument.MaybeText t)
want_argument w line kind.Texts v = want_choices w line v >>= λ ts. give (argument.Texts ts)
want_argument w line kind.Int v = want_int w line v >>= λ z. give (argument.Int z)
want_argument w line kind.Place v = want_part w line (Some v) >>= λ z. give (argument.Place z)
want_argument w line kind.Bool v = want_bool w line v >>= λ b. give (argument.Bool b)

-- each value, of the kind beside it
abbrev pub want_arguments : Setting → ℕ → List Kind → List Value → Action (List Argument)
want_arguments w line ks [] = give []
want_arguments w line [] (v ∷ vs) = give []
want_arguments w line (k ∷ ks) (v ∷ vs) = do
  a ← want_argument w line k v
  rest ← want_arguments w line ks vs
  give (a ∷ rest)

-- the value of an answer: each string in it is new, and so is a list or a tuple of them
abbrev pub answered : ℕ → Answer → Action Value
answered line answer.Refused = fail code.BadValue line
answered line answer.Cut = fail code.Cut line
answered line (answer.Truth b) = give (value.Bool b)
answered line (answer.Number n) = give (value.Int n)
answered line (answer.Text t) = new_text line t
answered line (answer.List ts) = each (new_text line) ts >>= new_list line
answered line (answer.Tuple ts) = each (new_text line) ts >>= new_tuple line
answered line (answer.Numbers ns) = new_list line (map value.Int ns)

-- a call of the method of a row
abbrev pub call_row : Setting → ℕ → StringMethod → List ℕ → Arguments → Row → Action Value
call_row w line m t g r = do
  vs ← positional line g
  _ ← check code.Args line (takes r (length vs))
  given ← want_arguments w line r.wants vs
  _ ← pay_for_bytes line t
  answered line (strings.answer_to m t given)

-- a call of a method of the table
abbrev pub call_in_table : Setting → ℕ → StringMethod → List ℕ → Arguments → Action Value
call_in_table w line m t g = found code.BadType line (row_of m) >>= call_row w line m t g

-- what is done in the core, and in the extended language
abbrev pub in_dialect : Dialect → Action Value → Action Value → Action Value
in_dialect dialect.Core core extended = core
in_dialect dialect.Extended core extended = extended

-- a call of a method of the core that has further arguments in the extended language: there the table's row of this name
abbrev pub call_wider : Setting → ℕ → List ℕ → List ℕ → Arguments → Action Value → Action Value
call_wider w line name t g core = in_dialect w.language.dialect core (found code.BadType line (strings.named name) >>= λ m. call_in_table w line m t g)
