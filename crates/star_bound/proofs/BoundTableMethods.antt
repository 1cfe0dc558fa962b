-- Actions that make no more than they pay: TableMethods.
use Rattle.star_store.specs.declared.values.Value.{Value}
use Rattle.star_strings.specs.declared.table.Answer.{Answer}
use Rattle.star_strings.specs.declared.table.Answer.TheVariants as answer
use Rattle.star_strings.specs.declared.table.Kind.{Kind}
use Rattle.star_strings.specs.declared.table.Kind.TheVariants as kind
use Rattle.star_strings.specs.declared.table.StringMethod.{StringMethod}
use Rattle.star_strings.specs.Table.{Row, named}
use Rattle.star_meaning.specs.Program.{Setting}
use Rattle.star_meaning.specs.declared.given.Arguments.{Arguments}
use Rattle.star_meaning.specs.declared.fault.FaultCode.TheVariants as code
use Rattle.star_meaning.specs.Run.{Action, ◌>>=◌, found}
use Rattle.star_dialect.specs.declared.Dialect.{Dialect}
use Rattle.star_dialect.specs.declared.Dialect.TheVariants as dialect
use Rattle.std.proofs.Common.{ℕ, List, [], ◌∷◌, Some}
use Rattle.star_meaning.specs.TableMethods.{call_wider, in_dialect, want_argument, want_arguments, want_maybe_text, answered, call_row, call_in_table}
use Rattle.star_bound.proofs.Within.{Bounded, bounded_give, bounded_then}
use Rattle.star_bound.proofs.Bounds.{bounded, VariablesBounded, AllBounded, Spares, bounded_spared, credited_seeing, credited_make_frame}
use Rattle.star_bound.proofs.BoundValues.{bounded-want_bool, bounded-want_int, bounded-want_text, bounded-new_text, bounded-new_list, bounded-new_tuple}
use Rattle.star_bound.proofs.BoundArguments.{bounded-positional}
use Rattle.star_bound.proofs.BoundSubscript.{bounded-want_part}
use Rattle.star_bound.proofs.BoundTextMethods.{bounded-pay_for_bytes, bounded-want_choices}

pub bounded-want_maybe_text : (w : Setting) (line : ℕ) (v : Value) → Bounded (want_maybe_text w line v)
bounded-want_maybe_text w line v = search bounded depth 14

pub bounded-want_argument : (w : Setting) (line : ℕ) (k : Kind) (v : Value) → Bounded (want_argument w line k v)
bounded-want_argument w line kind.Text v = search (bounded, bounded-want_text) depth 14
bounded-want_argument w line kind.MaybeText v = search (bounded, bounded-want_maybe_text) depth 14
bounded-want_argument w line kind.Texts v = search (bounded, bounded-want_choices) depth 14
bounded-want_argument w line kind.Int v = search (bounded, bounded-want_int) depth 14
bounded-want_argument w line kind.Place v = search (bounded, bounded-want_part) depth 14
bounded-want_argument w line kind.Bool v = search (bounded, bounded-want_bool) depth 14

pub bounded-want_arguments : (w : Setting) (line : ℕ) (ks : List Kind) (vs : List Value) → Bounded (want_arguments w line ks vs)
bounded-want_arguments w line ks [] = bounded_give []
bounded-want_arguments w line [] (v ∷ vs) = bounded_give []
bounded-want_arguments w line (k ∷ ks) (v ∷ vs) =
    bounded_then _ _ (bounded-want_argument w line k v) (λ a. bounded_then _ _ (bounded-want_arguments w line ks vs) (λ l. bounded_give (a ∷ l)))

pub bounded-answered : (line : ℕ) (a : Answer) → Bounded (answered line a)
bounded-answered line answer.Refused = search bounded depth 14
bounded-answered line answer.Cut = search bounded depth 14
bounded-answered line (answer.Truth b) = search bounded depth 14
bounded-answered line (answer.Number n) = search bounded depth 14
bounded-answered line (answer.Text t) = search (bounded, bounded-new_text) depth 14
bounded-answered line (answer.List ts) = search (bounded, bounded-new_text, bounded-new_list) depth 14
bounded-answered line (answer.Tuple ts) = search (bounded, bounded-new_text, bounded-new_tuple) depth 14
bounded-answered line (answer.Numbers ns) = search (bounded, bounded-new_list) depth 14

pub bounded-call_row : (w : Setting) (line : ℕ) (m : StringMethod) (t : List ℕ) (g : Arguments) (r : Row) → Bounded (call_row w line m t g r)
bounded-call_row w line m t g r = search (bounded, bounded-positional, bounded-want_arguments, bounded-pay_for_bytes, bounded-answered) depth 14

pub bounded-call_in_table : (w : Setting) (line : ℕ) (m : StringMethod) (t : List ℕ) (g : Arguments) → Bounded (call_in_table w line m t g)
bounded-call_in_table w line m t g = search (bounded, bounded-call_row) depth 14

bounded-in_dialect : (d : Dialect) (m n : Action Value) → Bounded m → Bounded n → Bounded (in_dialect d m n)
bounded-in_dialect dialect.Core m n h k = h
bounded-in_dialect dialect.Extended m n h k = k

bounded-named : (w : Setting) (line : ℕ) (name t : List ℕ) (g : Arguments) → Bounded (found code.BadType line (named name) >>= λ m. call_in_table w line m t g)
bounded-named w line name t g = search (bounded, bounded-call_in_table) depth 14

pub bounded-call_wider : (w : Setting) (line : ℕ) (name t : List ℕ) (g : Arguments) (core : Action Value) → Bounded core → Bounded (call_wider w line name t g core)
bounded-call_wider w line name t g core h = bounded-in_dialect w.language.dialect core _ h (bounded-named w line name t g)
