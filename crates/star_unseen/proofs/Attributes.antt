-- Pairs of actions that do the same over two shelves: attributes, structs and characters.
use Rattle.std.proofs.Common.{ℕ, ◌+◌, List, [], ◌∷◌, ◌++◌, codes, length, Option, Some, None, Bool, true, false, if◌then◌else◌, pos}
use Rattle.std.specs.Char.{encode_utf8}
use Rattle.std.specs.Option.{is_some, option_map}
use Rattle.std.specs.Str.{chars}
use Rattle.star_store.specs.declared.values.Value.{Value}
use Rattle.star_store.specs.declared.values.Value.TheVariants as value
use Rattle.star_store.specs.declared.values.Cell.TheVariants as cell
use Rattle.star_store.specs.declared.names.BuiltIn.{BuiltIn}
use Rattle.star_store.specs.declared.names.BuiltIn.TheVariants as built_in
use Rattle.star_store.specs.declared.names.Method.{Method}
use Rattle.star_store.specs.Fields.{Fields, is_before, names_of, rises, risen}
use Rattle.star_store.specs.Store.{global_of}
use Rattle.star_dialect.specs.declared.Dialect.{Dialect}
use Rattle.star_meaning.specs.declared.fault.FaultCode.TheVariants as code
use Rattle.star_meaning.specs.declared.given.Arguments.{Arguments}
use Rattle.star_meaning.specs.declared.given.KeywordArgument.{KeywordArgument}
use Rattle.star_meaning.specs.Program.{Setting}
use Rattle.star_meaning.specs.Values.{BuiltInFunction, Content, Held, type_name}
use Rattle.star_meaning.specs.Attributes.{Attribute, Field, OfType, attribute, attribute_in, attribute_names, attribute_or, attribute_value, call_dir, call_getattr, call_hasattr, members, method_of}
use Rattle.star_strings.specs.Characters.{char_of, only_char}
use Rattle.star_strings.specs.Ints.{hash}
use Rattle.star_meaning.specs.Characters.{call_chr, call_hash, call_ord}
use Rattle.star_store.specs.Sorting.{in_order}
use Rattle.star_meaning.specs.Structs.{call_struct, given_fields, names_cost}
use Rattle.star_meaning.specs.Recorded.{call_of, call_recorded, call_text, inputs_of, inputs_text, json_member}
use Rattle.star_meaning.specs.declared.said.Said.TheVariants.{Call}
use Rattle.star_store.specs.declared.layout.Layout.TheVariants as layout
use Rattle.json.specs.Print.{quoted}
use Rattle.star_unseen.specs.Veil.{Every, FieldsAreVisible, Hides, IsVisible, Maybe, VisibleIfThere}
use Rattle.star_unseen.specs.Shelves.{Veil, with_other}
use Rattle.star_unseen.proofs.Looks.{ContentIsVisible}
use Rattle.star_unseen.proofs.Visible.{ArgumentsAreVisible, KeywordsAreVisible}
use Rattle.star_unseen.proofs.Alike.{Alike, Any, alike_add_said, alike_build, alike_content, alike_each, alike_found, alike_give, alike_pay, alike_then}
use Rattle.star_unseen.proofs.Arguments.{alike-no_value, alike-only_one, alike-positional, alike-two, alike-two_or_three}
use Rattle.star_unseen.proofs.Parts.{every_any}
use Rattle.star_unseen.proofs.Rows.{every_in_order}
use Rattle.star_unseen.proofs.Values.{any_found, alike-encoded, alike-new_list, alike-new_text, alike-want_int, alike-want_text}
use Rattle.star_unseen.proofs.Variables.{visible-global_of}

-- an attribute leads to nothing hidden
abbrev pub AttributeIsVisible : Hides → Attribute → Type 0
AttributeIsVisible hides (Field v) = IsVisible hides v
AttributeIsVisible hides (OfType m) = Unit {0}

field_visible : (hides : Hides) (o : Option Value) → VisibleIfThere hides o → Maybe (AttributeIsVisible hides) (option_map Field o)
field_visible hides None h = tt
field_visible hides (Some v) h = h

method_visible : (hides : Hides) (o : Option Method) → Maybe (AttributeIsVisible hides) (option_map OfType o)
method_visible hides None = tt
method_visible hides (Some m) = tt

members_visible : (hides : Hides) (b : BuiltIn) → FieldsAreVisible hides (members b)
members_visible hides built_in.Json = (tt, (tt, (tt, tt)))
members_visible hides _ = tt

pub visible-attribute_in : {w : Setting} (k : Veil w) (d : Dialect) (c : Content) (name : List ℕ) → ContentIsVisible k.hides c → Maybe (AttributeIsVisible k.hides) (attribute_in d c name)
visible-attribute_in k d (Held (cell.Struct fs)) name h = field_visible k.hides (global_of name fs) (visible-global_of k.hides name fs h)
visible-attribute_in k d (BuiltInFunction b) name h = field_visible k.hides (global_of name (members b)) (visible-global_of k.hides name (members b) (members_visible k.hides b))
visible-attribute_in k d c name h = method_visible k.hides (method_of d (type_name c) name)

pub alike-attribute_value : {w : Setting} (k : Veil w) (line : ℕ) (x : Value) (a : Attribute) → IsVisible k.hides x → AttributeIsVisible k.hides a → Alike k (IsVisible k.hides) (attribute_value line x a) (attribute_value line x a)
alike-attribute_value k line x (Field v) h l = alike_give (IsVisible k.hides) v l
alike-attribute_value k line x (OfType m) h l = alike_build line 1 (cell.Bound m x) h

pub alike-attribute : {w : Setting} (k : Veil w) (line : ℕ) (x : Value) (name : List ℕ) → IsVisible k.hides x → Alike k (IsVisible k.hides) (attribute w line x name) (attribute (with_other k.other w) line x name)
unfolding attribute
alike-attribute {w = w} k line x name h =
    alike_then (alike_content {A = Attribute} (AttributeIsVisible k.hides) x _ _ h (λ c l. alike_found (AttributeIsVisible k.hides) code.BadType line (attribute_in w.language.dialect c name) (visible-attribute_in k w.language.dialect c name l)))
    (λ a l. alike-attribute_value k line x a h l)

pub alike-call_hasattr : {w : Setting} (k : Veil w) (line : ℕ) (g : Arguments) → ArgumentsAreVisible k.hides g → Alike k (IsVisible k.hides) (call_hasattr w line g) (call_hasattr (with_other k.other w) line g)
alike-call_hasattr {w = w} k line g h =
    alike_then (alike_then (alike-positional k line g h) (λ xs l. alike-two k line xs l)) (λ a l.
    alike_then (alike-want_text k line a.1 l.1) (λ name _.
    alike_content (IsVisible k.hides) a.0 _ _ l.0 (λ c _. alike_give (IsVisible k.hides) (value.Bool (is_some (attribute_in w.language.dialect c name))) tt)))

pub alike-attribute_or : {w : Setting} (k : Veil w) (line : ℕ) (x : Value) (d : Option Value) (o : Option Attribute) → IsVisible k.hides x → VisibleIfThere k.hides d → Maybe (AttributeIsVisible k.hides) o → Alike k (IsVisible k.hides) (attribute_or line x d o) (attribute_or line x d o)
alike-attribute_or k line x d (Some a) h i l = alike-attribute_value k line x a h l
alike-attribute_or k line x d None h i l = alike_found (IsVisible k.hides) code.BadType line d i

pub alike-call_getattr : {w : Setting} (k : Veil w) (line : ℕ) (g : Arguments) → ArgumentsAreVisible k.hides g → Alike k (IsVisible k.hides) (call_getattr w line g) (call_getattr (with_other k.other w) line g)
alike-call_getattr {w = w} k line g h =
    alike_then (alike_then (alike-positional k line g h) (λ xs l. alike-two_or_three k line xs l)) (λ a l.
    alike_then (alike-want_text k line a.1 l.1) (λ name _.
    alike_content (IsVisible k.hides) a.0 _ _ l.0 (λ c i. alike-attribute_or k line a.0 a.2 (attribute_in w.language.dialect c name) l.0 l.2 (visible-attribute_in k w.language.dialect c name i))))

pub alike-call_dir : {w : Setting} (k : Veil w) (line : ℕ) (g : Arguments) → ArgumentsAreVisible k.hides g → Alike k (IsVisible k.hides) (call_dir w line g) (call_dir (with_other k.other w) line g)
alike-call_dir {w = w} k line g h =
    alike_then (alike_then (alike-positional k line g h) (λ xs l. alike-only_one k line xs l)) (λ x l.
    alike_then (alike_content (Every (IsVisible k.hides)) x _ _ l (λ c _. alike_each {A = List ℕ} Any (IsVisible k.hides) _ _ (attribute_names w.language.dialect c) (every_any _) (λ t _. alike-new_text k line t))) (λ xs m.
    alike-new_list k line xs m))

pub alike-call_ord : {w : Setting} (k : Veil w) (line : ℕ) (g : Arguments) → ArgumentsAreVisible k.hides g → Alike k (IsVisible k.hides) (call_ord w line g) (call_ord (with_other k.other w) line g)
alike-call_ord k line g h =
    alike_then (alike_then (alike_then (alike-positional k line g h) (λ xs l. alike-only_one k line xs l)) (λ v l. alike-want_text k line v l)) (λ t _.
    alike_then (alike_found Any code.BadValue line (only_char (chars t)) (any_found _)) (λ c _. alike_give (IsVisible k.hides) (value.Int (pos c)) tt))

pub alike-call_hash : {w : Setting} (k : Veil w) (line : ℕ) (g : Arguments) → ArgumentsAreVisible k.hides g → Alike k (IsVisible k.hides) (call_hash w line g) (call_hash (with_other k.other w) line g)
alike-call_hash k line g h =
    alike_then (alike_then (alike_then (alike-positional k line g h) (λ xs l. alike-only_one k line xs l)) (λ v l. alike-want_text k line v l)) (λ t _.
    alike_then (alike_pay line (length t)) (λ _ _. alike_give (IsVisible k.hides) (value.Int (hash t)) tt))

pub alike-call_chr : {w : Setting} (k : Veil w) (line : ℕ) (g : Arguments) → ArgumentsAreVisible k.hides g → Alike k (IsVisible k.hides) (call_chr w line g) (call_chr (with_other k.other w) line g)
alike-call_chr k line g h =
    alike_then (alike_then (alike_then (alike-positional k line g h) (λ xs l. alike-only_one k line xs l)) (λ v l. alike-want_int k line v l)) (λ z _.
    alike_then (alike_found Any code.BadValue line (char_of z) (any_found _)) (λ c _. alike-new_text k line (encode_utf8 c)))

-- ---- structs

visible-given_fields : (hides : Hides) (ns : List KeywordArgument) → KeywordsAreVisible hides ns → FieldsAreVisible hides (given_fields ns)
visible-given_fields hides [] h = tt
visible-given_fields hides (n ∷ ns) h = (h.0.1, visible-given_fields hides ns h.1)

visible-risen : (hides : Hides) (fs : Fields) (b : Bool) → FieldsAreVisible hides fs → Maybe (FieldsAreVisible hides) (if b then Some fs else None)
visible-risen hides fs true h = h
visible-risen hides fs false h = tt

pub alike-call_struct : {w : Setting} (k : Veil w) (line : ℕ) (g : Arguments) → ArgumentsAreVisible k.hides g → Alike k (IsVisible k.hides) (call_struct line g) (call_struct line g)
alike-call_struct k line g h =
    let fs = in_order is_before (given_fields g.named) in
    alike_then (alike-no_value k line g.positional h.0) (λ _ _.
    alike_then (alike_found (FieldsAreVisible k.hides) code.Args line (risen fs) (visible-risen k.hides fs (rises (names_of fs)) (every_in_order (λ e. IsVisible k.hides e.1) is_before (given_fields g.named) (visible-given_fields k.hides g.named h.1)))) (λ ds l.
    alike_build line (1 + names_cost (names_of ds)) (cell.Struct ds) l))

-- ---- recorded calls

alike-json_member : {w : Setting} (k : Veil w) (levels line : ℕ) (f : List ℕ × Value) → IsVisible k.hides f.1 → Alike k Any (json_member w levels line f) (json_member (with_other k.other w) levels line f)
alike-json_member k levels line f h = alike_then (alike-encoded k levels line layout.Compact f.1 h) (λ t _. alike_give {A = List ℕ} Any (quoted f.0 ++ (codes ":" ++ t)) tt)

alike-inputs_of : {w : Setting} (k : Veil w) (levels line : ℕ) (g : Arguments) → ArgumentsAreVisible k.hides g → Alike k Any (inputs_of w levels line g) (inputs_of (with_other k.other w) levels line g)
alike-inputs_of k levels line g h =
    let fs = in_order is_before (given_fields g.named) in
    alike_then (alike_each {B = List ℕ} (IsVisible k.hides) Any _ _ g.positional h.0 (λ x r. alike-encoded k levels line layout.Compact x r)) (λ args _.
    alike_then (alike_each {A = List ℕ × Value} {B = List ℕ} (λ f. IsVisible k.hides f.1) Any _ _ fs (every_in_order (λ e. IsVisible k.hides e.1) is_before (given_fields g.named) (visible-given_fields k.hides g.named h.1)) (λ f r. alike-json_member k levels line f r)) (λ kwargs _.
    alike_give {A = List ℕ} Any (inputs_text args kwargs) tt))

pub alike-call_recorded : {w : Setting} (k : Veil w) (levels line i : ℕ) (g : Arguments) → ArgumentsAreVisible k.hides g → Alike k (IsVisible k.hides) (call_recorded w levels line i g) (call_recorded (with_other k.other w) levels line i g)
alike-call_recorded {w = w} k levels line i g h =
    alike_then (alike-inputs_of k levels line g h) (λ inputs _.
    alike_then (alike_then (alike_pay line (1 + length (call_text (call_of w line i inputs)))) (λ _ _. alike_add_said (Call (call_of w line i inputs)))) (λ _ _.
    alike_give (IsVisible k.hides) value.NoneValue tt))
