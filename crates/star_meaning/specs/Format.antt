-- The method `format` of strings.
use Rattle.std.specs.Prelude.{ℕ, ◌+◌, ◌-◌, nat_eq, nat_lt, Bool, true, false, ◌&&◌, ◌||◌, List, [], ◌∷◌, ◌++◌, length, take, slice_get, if◌then◌else◌, codes}
use Rattle.std.specs.List.{list_all, find, ends_with}
use Rattle.std.specs.Option.{option_map}
use Rattle.star_store.specs.declared.values.Value.{Value}
use Rattle.star_dialect.specs.declared.Dialect.{Dialect}
use Rattle.star_dialect.specs.declared.Dialect.TheVariants as dialect
use Rattle.star_meaning.specs.declared.fault.FaultCode.TheVariants as code
use Rattle.star_meaning.specs.Run.{Action, ◌>>=◌, give, fail, found}
use Rattle.star_outline.specs.Names.{same_name}
use Rattle.star_meaning.specs.Program.{Setting}
use Rattle.star_meaning.specs.Values.{repr, str}
use Rattle.star_meaning.specs.declared.given.Arguments.{Arguments}
use Rattle.star_meaning.specs.declared.given.KeywordArgument.{KeywordArgument}
use Rattle.star_meaning.specs.Spelling.{is_digit, number_from}

-- how fields have found their values so far: none was positional, by the next one, or by number
pub data Numbering : Type 0 where
  Unused : Numbering
  Automatic : ℕ → Numbering
  ByNumber : Numbering

-- the position in the string: outside of braces, inside of a field, or after a closing brace outside
pub data Reading : Type 0 where
  Outside : Reading
  Field : List ℕ → Reading
  Closing : Reading

abbrev pub is_letter : ℕ → Bool
is_letter b = nat_eq b 95 || (nat_lt 64 b && nat_lt b 91) || (nat_lt 96 b && nat_lt b 123)

abbrev pub is_word_byte : ℕ → Bool
is_word_byte b = is_letter b || is_digit b

abbrev pub is_field_name : List ℕ → Bool
is_field_name [] = false
is_field_name (b ∷ bs) = is_letter b && list_all is_word_byte bs

-- the next place, the number itself, and the numbering that follows; `{}` beside a number is `value`
abbrev pub next_place : ℕ → Numbering → Action (ℕ × Numbering)
next_place line Unused = give (0, Automatic 1)
next_place line (Automatic n) = give (n, Automatic (n + 1))
next_place line ByNumber = fail code.BadValue line

abbrev pub numbered_place : ℕ → ℕ → Numbering → Action (ℕ × Numbering)
numbered_place line n (Automatic m) = fail code.BadValue line
numbered_place line n _ = give (n, ByNumber)

abbrev pub placed_value : ℕ → List Value → ℕ × Numbering → Action (Value × Numbering)
placed_value line xs p = found code.Index line (slice_get xs p.0) >>= λ v. give (v, p.1)

abbrev pub named_value : ℕ → List KeywordArgument → List ℕ → Numbering → Action (Value × Numbering)
named_value line ns name k =
    found code.Key line (option_map (λ n. n.value) (find (λ n. same_name n.name name) ns)) >>= λ v. give (v, k)

-- the value of a field: `{}`, `{0}` or `{name}`; another field is `value`
abbrev pub field_value : ℕ → Arguments → List ℕ → Numbering → Action (Value × Numbering)
field_value line g f k =
    if nat_eq (length f) 0 then (next_place line k >>= placed_value line g.positional)
    else (if list_all is_digit f then (numbered_place line (number_from 0 f) k >>= placed_value line g.positional)
    else (if is_field_name f then named_value line g.named f k
    else fail code.BadValue line))

-- a field without its end, and whether its text is `repr`: in the extended language it may end in !s or !r
abbrev pub without_end : List ℕ → List ℕ
without_end f = take (length f - 2) f

abbrev pub conversion : Dialect → List ℕ → List ℕ × Bool
conversion dialect.Core f = (f, false)
conversion dialect.Extended f =
    if ends_with nat_eq f (codes "!r") then (without_end f, true)
    else (if ends_with nat_eq f (codes "!s") then (without_end f, false) else (f, false))

-- the text of a value: `str` or `repr`
abbrev pub text_by : Setting → ℕ → ℕ → Bool → Value → Action (List ℕ)
text_by w levels line true x = repr w levels line x
text_by w levels line false x = str w levels line x

-- the text of the value of a field, and the numbering that follows
abbrev pub converted : Setting → ℕ → ℕ → Arguments → List ℕ × Bool → Numbering → Action (List ℕ × Numbering)
converted w levels line g c k =
    field_value line g c.0 k >>= λ r. text_by w levels line c.1 r.0 >>= λ t. give (t, r.1)

abbrev pub field_text : Setting → ℕ → ℕ → Arguments → List ℕ → Numbering → Action (List ℕ × Numbering)
field_text w levels line g f k = converted w levels line g (conversion w.language.dialect f) k

-- the bytes of the string from left to right, with the text that is made so far
abbrev pub formatted : Setting → ℕ → ℕ → Arguments → List ℕ → Reading → Numbering → List ℕ → Action (List ℕ)
formatted w levels line g [] Outside k out = give out
formatted w levels line g [] (Field f) k out = fail code.BadValue line
formatted w levels line g [] Closing k out = fail code.BadValue line
formatted w levels line g (b ∷ bs) Outside k out =
    if nat_eq b 123 then formatted w levels line g bs (Field []) k out
    else (if nat_eq b 125 then formatted w levels line g bs Closing k out
    else formatted w levels line g bs Outside k (out ++ b ∷ []))
formatted w levels line g (b ∷ bs) Closing k out =
    if nat_eq b 125 then formatted w levels line g bs Outside k (out ++ b ∷ []) else fail code.BadValue line
formatted w levels line g (b ∷ bs) (Field f) k out =
    if nat_eq b 123 then (if nat_eq (length f) 0 then formatted w levels line g bs Outside k (out ++ b ∷ [])
    else fail code.BadValue line)
    else (if nat_eq b 125 then (field_text w levels line g f k
    >>= λ r. formatted w levels line g bs Outside r.1 (out ++ r.0))
    else formatted w levels line g bs (Field (f ++ b ∷ [])) k out)
