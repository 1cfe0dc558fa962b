-- Pairs of actions that do the same over two shelves: the methods of strings in the table, whatever the table has.
use Rattle.std.proofs.Common.{ℕ, ℤ, List, [], ◌∷◌, length, map, Option, Some}
use Rattle.star_store.specs.declared.values.Value.{Value}
use Rattle.star_store.specs.declared.values.Value.TheVariants as value
use Rattle.star_strings.specs.declared.table.Answer.{Answer}
use Rattle.star_strings.specs.declared.table.Answer.TheVariants as answer
use Rattle.star_strings.specs.declared.table.Argument.{Argument}
use Rattle.star_strings.specs.declared.table.Argument.TheVariants as argument
use Rattle.star_strings.specs.declared.table.Kind.{Kind}
use Rattle.star_strings.specs.declared.table.Kind.TheVariants as kind
use Rattle.star_strings.specs.declared.table.StringMethod.{StringMethod}
use Rattle.star_strings.specs.Table.{Row, answer_to, named, row_of}
use Rattle.star_meaning.specs.declared.fault.FaultCode.TheVariants as code
use Rattle.star_meaning.specs.declared.given.Arguments.{Arguments}
use Rattle.star_dialect.specs.declared.Dialect.{Dialect}
use Rattle.star_dialect.specs.declared.Dialect.TheVariants as dialect
use Rattle.star_meaning.specs.Run.{Action}
use Rattle.star_meaning.specs.Program.{Setting}
use Rattle.star_meaning.specs.TableMethods.{call_wider, in_dialect, maybe_text_of, takes, want_argument, want_arguments, want_maybe_text, answered, call_row, call_in_table}
use Rattle.star_unseen.specs.Veil.{AreVisible, Hides, IsVisible}
use Rattle.star_unseen.specs.Shelves.{Veil, with_other}
use Rattle.star_unseen.proofs.Visible.{ArgumentsAreVisible}
use Rattle.star_unseen.proofs.Alike.{Alike, Any, alike_check, alike_content, alike_each, alike_fail, alike_found, alike_give, alike_then}
use Rattle.star_unseen.proofs.Values.{any_found, alike-want_bool, alike-want_int, alike-want_text, alike-new_text, alike-new_list, alike-new_tuple}
use Rattle.star_unseen.proofs.Arguments.{alike-positional}
use Rattle.star_unseen.proofs.BuiltIns.{every_any}
use Rattle.star_unseen.proofs.Subscript.{alike-want_part}
use Rattle.star_unseen.proofs.TextMethods.{alike-pay_for_bytes, alike-want_choices}

alike-want_maybe_text : {w : Setting} (k : Veil w) (line : ℕ) (v : Value) → IsVisible k.hides v → Alike k Any (want_maybe_text w line v) (want_maybe_text (with_other k.other w) line v)
alike-want_maybe_text k line v h = alike_content {A = Option (List ℕ)} Any v _ _ h (λ c _. alike_found Any code.BadType line (maybe_text_of c) (any_found _))

alike-want_argument : {w : Setting} (k : Veil w) (line : ℕ) (d : Kind) (v : Value) → IsVisible k.hides v → Alike k Any (want_argument w line d v) (want_argument (with_other k.other w) line d v)
alike-want_argument k line kind.Text v h = alike_then (alike-want_text k line v h) (λ t _. alike_give {A = Argument} Any (argument.Text t) tt)
alike-want_argument k line kind.MaybeText v h = alike_then (alike-want_maybe_text k line v h) (λ t _. alike_give {A = Argument} Any (argument.MaybeText t) tt)
alike-want_argument k line kind.Texts v h = alike_then (alike-want_choices k line v h) (λ ts _. alike_give {A = Argument} Any (argument.Texts ts) tt)
alike-want_argument k line kind.Int v h = alike_then (alike-want_int k line v h) (λ z _. alike_give {A = Argument} Any (argument.Int z) tt)
alike-want_argument k line kind.Place v h = alike_then (alike-want_part k line (Some v) h) (λ z _. alike_give {A = Argument} Any (argument.Place z) tt)
alike-want_argument k line kind.Bool v h = alike_then (alike-want_bool k line v h) (λ b _. alike_give {A = Argument} Any (argument.Bool b) tt)

alike-want_arguments : {w : Setting} (k : Veil w) (line : ℕ) (ds : List Kind) (vs : List Value) → AreVisible k.hides vs → Alike k Any (want_arguments w line ds vs) (want_arguments (with_other k.other w) line ds vs)
alike-want_arguments k line ds [] h = alike_give {A = List Argument} Any [] tt
alike-want_arguments k line [] (v ∷ vs) h = alike_give {A = List Argument} Any [] tt
alike-want_arguments k line (d ∷ ds) (v ∷ vs) h =
    alike_then (alike-want_argument k line d v h.0) (λ a _. alike_then (alike-want_arguments k line ds vs h.1) (λ rest _. alike_give {A = List Argument} Any (a ∷ rest) tt))

-- ints are no cells
ints_are_visible : (hides : Hides) (ns : List ℤ) → AreVisible hides (map value.Int ns)
ints_are_visible hides [] = tt
ints_are_visible hides (n ∷ ns) = (tt, ints_are_visible hides ns)

alike-answered : {w : Setting} (k : Veil w) (line : ℕ) (a : Answer) → Alike k (IsVisible k.hides) (answered line a) (answered line a)
alike-answered k line answer.Refused = alike_fail Value (IsVisible k.hides) code.BadValue line
alike-answered k line answer.Cut = alike_fail Value (IsVisible k.hides) code.Cut line
alike-answered k line (answer.Truth b) = alike_give (IsVisible k.hides) (value.Bool b) tt
alike-answered k line (answer.Number n) = alike_give (IsVisible k.hides) (value.Int n) tt
alike-answered k line (answer.Text t) = alike-new_text k line t
alike-answered k line (answer.List ts) =
    alike_then (alike_each {A = List ℕ} Any (IsVisible k.hides) _ _ ts (every_any _) (λ u _. alike-new_text k line u)) (λ vs r. alike-new_list k line vs r)
alike-answered k line (answer.Tuple ts) =
    alike_then (alike_each {A = List ℕ} Any (IsVisible k.hides) _ _ ts (every_any _) (λ u _. alike-new_text k line u)) (λ vs r. alike-new_tuple k line vs r)
alike-answered k line (answer.Numbers ns) = alike-new_list k line (map value.Int ns) (ints_are_visible k.hides ns)

alike-call_row : {w : Setting} (k : Veil w) (line : ℕ) (m : StringMethod) (t : List ℕ) (g : Arguments) (r : Row) → ArgumentsAreVisible k.hides g → Alike k (IsVisible k.hides) (call_row w line m t g r) (call_row (with_other k.other w) line m t g r)
alike-call_row k line m t g r h =
    alike_then (alike-positional k line g h) (λ vs l. alike_then (alike_check code.Args line (takes r (length vs))) (λ _ _. alike_then (alike-want_arguments k line r.wants vs l) (λ given _.
    alike_then (alike-pay_for_bytes k line t) (λ _ _. alike-answered k line (answer_to m t given)))))

pub alike-call_in_table : {w : Setting} (k : Veil w) (line : ℕ) (m : StringMethod) (t : List ℕ) (g : Arguments) → ArgumentsAreVisible k.hides g → Alike k (IsVisible k.hides) (call_in_table w line m t g) (call_in_table (with_other k.other w) line m t g)
alike-call_in_table k line m t g h = alike_then (alike_found {A = Row} Any code.BadType line (row_of m) (any_found _)) (λ r _. alike-call_row k line m t g r h)

alike-in_dialect : {w : Setting} (k : Veil w) (d : Dialect) (m n o p : Action Value) → Alike k (IsVisible k.hides) m o → Alike k (IsVisible k.hides) n p → Alike k (IsVisible k.hides) (in_dialect d m n) (in_dialect d o p)
alike-in_dialect k dialect.Core m n o p h j = h
alike-in_dialect k dialect.Extended m n o p h j = j

pub alike-call_wider : {w : Setting} (k : Veil w) (line : ℕ) (name t : List ℕ) (g : Arguments) (m o : Action Value) → ArgumentsAreVisible k.hides g → Alike k (IsVisible k.hides) m o → Alike k (IsVisible k.hides) (call_wider w line name t g m) (call_wider (with_other k.other w) line name t g o)
alike-call_wider {w = w} k line name t g m o h j =
    alike-in_dialect k w.language.dialect m _ o _ j (alike_then (alike_found {A = StringMethod} Any code.BadType line (named name) (any_found _)) (λ n _. alike-call_in_table k line n t g h))
