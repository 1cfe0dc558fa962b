-- Attributes: the fields of structs, the members of `json`, and the methods that a value has.
use Rattle.std.specs.Prelude.{ℕ, ◌&&◌, List, [], ◌∷◌, ◌++◌, map, filter, Option, Some, None, codes, if◌then◌else◌}
use Rattle.std.specs.List.{find}
use Rattle.std.specs.Option.{option_map, is_some}
use Rattle.std.specs.Ordering.{nat_cmp}
use Rattle.std.specs.declared.cmp.Ordering.{Ordering}
use Rattle.std.specs.declared.cmp.Ordering.TheVariants.{Less, Equal, Greater}
use Rattle.std.specs.Cmp.Lexicographic.{slice_cmp}
use Rattle.star_store.specs.declared.values.Value.{Value}
use Rattle.star_store.specs.declared.values.Value.TheVariants as value
use Rattle.star_store.specs.declared.values.Cell.TheVariants as cell
use Rattle.star_store.specs.declared.names.BuiltIn.{BuiltIn}
use Rattle.star_store.specs.declared.names.BuiltIn.TheVariants as built_in
use Rattle.star_store.specs.declared.names.Method.{Method}
use Rattle.star_store.specs.declared.names.Method.TheVariants as method
use Rattle.star_store.specs.declared.names.SetMethod.TheVariants as set_method
use Rattle.star_store.specs.Fields.{Fields, names_of}
use Rattle.star_store.specs.Names.{method_name, receiver_type}
use Rattle.star_store.specs.Store.{global_of}
use Rattle.star_strings.specs.Table.{named, rows}
use Rattle.star_dialect.specs.declared.Dialect.{Dialect}
use Rattle.star_dialect.specs.declared.Dialect.TheVariants as dialect
use Rattle.star_meaning.specs.declared.fault.FaultCode.TheVariants as code
use Rattle.star_meaning.specs.Run.{Action, ◌>>=◌, give, found, each, build}
use Rattle.star_outline.specs.Names.{same_name}
use Rattle.star_meaning.specs.Program.{Setting}
use Rattle.star_meaning.specs.Values.{Content, BuiltInFunction, Held, with_content, type_name, want_text, new_text, new_list}
use Rattle.star_meaning.specs.declared.given.Arguments.{Arguments}
use Rattle.star_meaning.specs.Arguments.{positional, only_one, two, two_or_three}

-- the methods of lists, dictionaries, strings and sets, of which the core has none
abbrev pub methods : List Method
methods =
    method.ListAppend ∷ method.ListClear ∷ method.ListExtend ∷ method.ListIndex ∷ method.ListInsert ∷ method.ListPop
    ∷ method.ListRemove ∷ method.DictClear ∷ method.DictGet ∷ method.DictItems ∷ method.DictKeys ∷ method.DictPop
    ∷ method.DictPopitem ∷ method.DictSetdefault ∷ method.DictUpdate ∷ method.DictValues ∷ method.StringEndswith
    ∷ method.StringFind ∷ method.StringFormat ∷ method.StringJoin ∷ method.StringLower ∷ method.StringLstrip
    ∷ method.StringReplace ∷ method.StringRstrip ∷ method.StringSplit ∷ method.StringStartswith ∷ method.StringStrip
    ∷ method.StringUpper
    ∷ method.OfSet set_method.Add ∷ method.OfSet set_method.Clear ∷ method.OfSet set_method.Difference
    ∷ method.OfSet set_method.DifferenceUpdate ∷ method.OfSet set_method.Discard
    ∷ method.OfSet set_method.Intersection ∷ method.OfSet set_method.IntersectionUpdate
    ∷ method.OfSet set_method.Isdisjoint ∷ method.OfSet set_method.Issubset ∷ method.OfSet set_method.Issuperset
    ∷ method.OfSet set_method.Pop ∷ method.OfSet set_method.Remove ∷ method.OfSet set_method.SymmetricDifference
    ∷ method.OfSet set_method.SymmetricDifferenceUpdate ∷ method.OfSet set_method.Union
    ∷ method.OfSet set_method.Update ∷ []

-- the method among these with this name that a value of this type has
abbrev pub core_method_of : List ℕ → List ℕ → Option Method
core_method_of type name = find (λ m. same_name (receiver_type m) type && same_name (method_name m) name) methods

-- .. and in a dialect: in the extended language a string has those of the table, too
abbrev pub or_in_table : Dialect → List ℕ → List ℕ → Option Method → Option Method
or_in_table d type name (Some m) = Some m
or_in_table dialect.Core type name None = None
or_in_table dialect.Extended type name None =
    if same_name (codes "string") type then option_map method.OfString (named name) else None

abbrev pub method_of : Dialect → List ℕ → List ℕ → Option Method
method_of d type name = or_in_table d type name (core_method_of type name)

-- the members of a module, in byte order of their names
abbrev pub members : BuiltIn → Fields
members built_in.Json =
    (codes "decode", value.Builtin built_in.JsonDecode) ∷ (codes "encode", value.Builtin built_in.JsonEncode)
    ∷ (codes "encode_indent", value.Builtin built_in.JsonEncodeIndent) ∷ []
members _ = []

-- an attribute: a field of a struct, a member of a module, or a method of the value's type
pub data Attribute : Type 0 where
  Field : Value → Attribute
  OfType : Method → Attribute

-- the attribute of a value with a name
abbrev pub attribute_in : Dialect → Content → List ℕ → Option Attribute
attribute_in d (Held (cell.Struct fs)) name = option_map Field (global_of name fs)
attribute_in d (BuiltInFunction b) name = option_map Field (global_of name (members b))
attribute_in d c name = option_map OfType (method_of d (type_name c) name)

-- its value: that of a field or of a member is there, a method is a new bound method
abbrev pub attribute_value : ℕ → Value → Attribute → Action Value
attribute_value line x (Field v) = give v
attribute_value line x (OfType m) = build line 1 (cell.Bound m x)

-- x.m: `type` if the value has no such attribute
unfoldable pub attribute : Setting → ℕ → Value → List ℕ → Action Value
attribute w line x name =
    with_content w x (λ c. found code.BadType line (attribute_in w.language.dialect c name)) >>= attribute_value line x

-- hasattr(x, name): whether there is one
abbrev pub call_hasattr : Setting → ℕ → Arguments → Action Value
call_hasattr w line g = do
  a ← positional line g >>= two line
  name ← want_text w line a.1
  with_content w a.0 (λ c. give (value.Bool (is_some (attribute_in w.language.dialect c name))))

-- getattr(x, name, [d]): the attribute, or `d` in place of `type`
abbrev pub attribute_or : ℕ → Value → Option Value → Option Attribute → Action Value
attribute_or line x d (Some a) = attribute_value line x a
attribute_or line x d None = found code.BadType line d

abbrev pub call_getattr : Setting → ℕ → Arguments → Action Value
call_getattr w line g = do
  a ← positional line g >>= two_or_three line
  name ← want_text w line a.1
  with_content w a.0 (λ c. attribute_or line a.0 a.2 (attribute_in w.language.dialect c name))

-- a name among others in byte order, each once
abbrev pub beside : Ordering → List ℕ → List ℕ → List (List ℕ) → List (List ℕ) → List (List ℕ)
beside Less n m ms rest = n ∷ m ∷ ms
beside Equal n m ms rest = m ∷ ms
beside Greater n m ms rest = m ∷ rest

abbrev pub put_name : List ℕ → List (List ℕ) → List (List ℕ)
put_name n [] = n ∷ []
put_name n (m ∷ ms) = beside (slice_cmp nat_cmp n m) n m ms (put_name n ms)

abbrev pub names_once : List (List ℕ) → List (List ℕ)
names_once [] = []
names_once (n ∷ ns) = put_name n (names_once ns)

-- the names of the methods of a type: those above, those of the table, all
abbrev pub core_names : List ℕ → List (List ℕ)
core_names type = map method_name (filter (λ m. same_name (receiver_type m) type) methods)

abbrev pub table_names : Dialect → List ℕ → List (List ℕ)
table_names dialect.Core type = []
table_names dialect.Extended type = if same_name (codes "string") type then map (λ r. r.row.name) rows else []

abbrev pub method_names : Dialect → List ℕ → List (List ℕ)
method_names d type = names_once (core_names type ++ table_names d type)

-- the names of the attributes of a value, in byte order
abbrev pub attribute_names : Dialect → Content → List (List ℕ)
attribute_names d (Held (cell.Struct fs)) = names_of fs
attribute_names d (BuiltInFunction b) = names_of (members b)
attribute_names d c = method_names d (type_name c)

-- dir(x): they are new strings, in a new list
abbrev pub call_dir : Setting → ℕ → Arguments → Action Value
call_dir w line g =
    positional line g >>= only_one line
    >>= λ x. with_content w x (λ c. each (new_text line) (attribute_names w.language.dialect c)) >>= new_list line
