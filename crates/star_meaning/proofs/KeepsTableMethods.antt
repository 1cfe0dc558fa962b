-- Actions that respect every invariant of runs: the methods of strings in the table, whatever the table has.
use Rattle.star_store.specs.declared.values.Value.{Value}
use Rattle.star_strings.specs.declared.table.Answer.{Answer}
use Rattle.star_strings.specs.declared.table.Answer.TheVariants as answer
use Rattle.star_strings.specs.declared.table.Kind.{Kind}
use Rattle.star_strings.specs.declared.table.Kind.TheVariants as kind
use Rattle.star_strings.specs.declared.table.StringMethod.{StringMethod}
use Rattle.star_strings.specs.Table.{Row, named}
use Rattle.star_meaning.specs.Program.{Setting}
use Rattle.star_meaning.specs.declared.given.Arguments.{Arguments}
use Rattle.star_meaning.specs.declared.fault.FaultCode.TheVariants as code
use Rattle.star_meaning.specs.Run.{Action, ◌>>=◌, found}
use Rattle.star_dialect.specs.declared.Dialect.{Dialect}
use Rattle.star_dialect.specs.declared.Dialect.TheVariants as dialect
use Rattle.std.proofs.Common.{ℕ, List, [], ◌∷◌}
use Rattle.star_meaning.specs.TableMethods.{call_wider, in_dialect, want_argument, want_arguments, want_maybe_text, answered, call_row, call_in_table}
use Rattle.star_meaning.proofs.Invariants.{Invariant, Respects, respects, respects_give, respects_then}
use Rattle.star_meaning.proofs.KeepsValues.{respects-want_bool, respects-want_int, respects-want_text, respects-new_text, respects-new_list, respects-new_tuple}
use Rattle.star_meaning.proofs.KeepsArguments.{respects-positional}
use Rattle.star_meaning.proofs.KeepsSubscript.{respects-want_part}
use Rattle.star_meaning.proofs.KeepsTextMethods.{respects-pay_for_bytes, respects-want_choices}

pub respects-want_maybe_text : (w : Setting) {inv : Invariant w} (line : ℕ) (v : Value) → Respects inv (want_maybe_text w line v)
respects-want_maybe_text w line v = search respects depth 14

pub respects-want_argument : (w : Setting) {inv : Invariant w} (line : ℕ) (k : Kind) (v : Value) → Respects inv (want_argument w line k v)
respects-want_argument w line kind.Text v = search (respects, respects-want_text) depth 14
respects-want_argument w line kind.MaybeText v = search (respects, respects-want_maybe_text) depth 14
respects-want_argument w line kind.Texts v = search (respects, respects-want_choices) depth 14
respects-want_argument w line kind.Int v = search (respects, respects-want_int) depth 14
respects-want_argument w line kind.Place v = search (respects, respects-want_part) depth 14
respects-want_argument w line kind.Bool v = search (respects, respects-want_bool) depth 14

pub respects-want_arguments : (w : Setting) {inv : Invariant w} (line : ℕ) (ks : List Kind) (vs : List Value) → Respects inv (want_arguments w line ks vs)
respects-want_arguments w line ks [] = respects_give []
respects-want_arguments w line [] (v ∷ vs) = respects_give []
respects-want_arguments w line (k ∷ ks) (v ∷ vs) =
    respects_then _ _ (respects-want_argument w line k v) (λ a. respects_then _ _ (respects-want_arguments w line ks vs) (λ l. respects_give (a ∷ l)))

pub respects-answered : {w : Setting} {inv : Invariant w} → (line : ℕ) (a : Answer) → Respects inv (answered line a)
respects-answered line answer.Refused = search respects depth 14
respects-answered line answer.Cut = search respects depth 14
respects-answered line (answer.Truth b) = search respects depth 14
respects-answered line (answer.Number n) = search respects depth 14
respects-answered line (answer.Text t) = search (respects, respects-new_text) depth 14
respects-answered line (answer.List ts) = search (respects, respects-new_text, respects-new_list) depth 14
respects-answered line (answer.Tuple ts) = search (respects, respects-new_text, respects-new_tuple) depth 14
respects-answered line (answer.Numbers ns) = search (respects, respects-new_list) depth 14

pub respects-call_row : (w : Setting) {inv : Invariant w} (line : ℕ) (m : StringMethod) (t : List ℕ) (g : Arguments) (r : Row) → Respects inv (call_row w line m t g r)
respects-call_row w line m t g r = search (respects, respects-positional, respects-want_arguments, respects-pay_for_bytes, respects-answered) depth 14

pub respects-call_in_table : (w : Setting) {inv : Invariant w} (line : ℕ) (m : StringMethod) (t : List ℕ) (g : Arguments) → Respects inv (call_in_table w line m t g)
respects-call_in_table w line m t g = search (respects, respects-call_row) depth 14

respects-in_dialect : {w : Setting} {inv : Invariant w} → (d : Dialect) (m n : Action Value) → Respects inv m → Respects inv n → Respects inv (in_dialect d m n)
respects-in_dialect dialect.Core m n h k = h
respects-in_dialect dialect.Extended m n h k = k

respects-named : (w : Setting) {inv : Invariant w} (line : ℕ) (name t : List ℕ) (g : Arguments) → Respects inv (found code.BadType line (named name) >>= λ m. call_in_table w line m t g)
respects-named w line name t g = search (respects, respects-call_in_table) depth 14

pub respects-call_wider : (w : Setting) {inv : Invariant w} (line : ℕ) (name t : List ℕ) (g : Arguments) (core : Action Value) → Respects inv core → Respects inv (call_wider w line name t g core)
respects-call_wider w line name t g core h = respects-in_dialect w.language.dialect core _ h (respects-named w line name t g)
