-- Actions that keep frames narrow: TableMethods.
use Rattle.star_store.specs.declared.values.Value.{Value}
use Rattle.star_strings.specs.declared.table.Answer.{Answer}
use Rattle.star_strings.specs.declared.table.Answer.TheVariants as answer
use Rattle.star_strings.specs.declared.table.Kind.{Kind}
use Rattle.star_strings.specs.declared.table.Kind.TheVariants as kind
use Rattle.star_strings.specs.declared.table.StringMethod.{StringMethod}
use Rattle.star_strings.specs.Table.{Row, named}
use Rattle.star_meaning.specs.Program.{Setting}
use Rattle.star_meaning.specs.declared.given.Arguments.{Arguments}
use Rattle.star_meaning.specs.declared.fault.FaultCode.TheVariants as code
use Rattle.star_meaning.specs.Run.{Action, ◌>>=◌, found}
use Rattle.star_dialect.specs.declared.Dialect.{Dialect}
use Rattle.star_dialect.specs.declared.Dialect.TheVariants as dialect
use Rattle.std.proofs.Common.{ℕ, List, [], ◌∷◌, Some}
use Rattle.star_meaning.specs.TableMethods.{call_wider, in_dialect, want_argument, want_arguments, want_maybe_text, answered, call_row, call_in_table}
use Rattle.star_bound.proofs.Narrow.{narrow, narrow_give, narrow_then, Narrows, VariablesNarrow, AllNarrow, narrow_make_frame}
use Rattle.star_bound.proofs.NarrowValues.{narrow-want_bool, narrow-want_int, narrow-want_text, narrow-new_text, narrow-new_list, narrow-new_tuple}
use Rattle.star_bound.proofs.NarrowArguments.{narrow-positional}
use Rattle.star_bound.proofs.NarrowSubscript.{narrow-want_part}
use Rattle.star_bound.proofs.NarrowTextMethods.{narrow-pay_for_bytes, narrow-want_choices}

pub narrow-want_maybe_text : {most : ℕ} → (w : Setting) (line : ℕ) (v : Value) → Narrows most (want_maybe_text w line v)
narrow-want_maybe_text w line v = search narrow depth 14

pub narrow-want_argument : {most : ℕ} → (w : Setting) (line : ℕ) (k : Kind) (v : Value) → Narrows most (want_argument w line k v)
narrow-want_argument w line kind.Text v = search (narrow, narrow-want_text) depth 14
narrow-want_argument w line kind.MaybeText v = search (narrow, narrow-want_maybe_text) depth 14
narrow-want_argument w line kind.Texts v = search (narrow, narrow-want_choices) depth 14
narrow-want_argument w line kind.Int v = search (narrow, narrow-want_int) depth 14
narrow-want_argument w line kind.Place v = search (narrow, narrow-want_part) depth 14
narrow-want_argument w line kind.Bool v = search (narrow, narrow-want_bool) depth 14

pub narrow-want_arguments : {most : ℕ} → (w : Setting) (line : ℕ) (ks : List Kind) (vs : List Value) → Narrows most (want_arguments w line ks vs)
narrow-want_arguments w line ks [] = narrow_give []
narrow-want_arguments w line [] (v ∷ vs) = narrow_give []
narrow-want_arguments w line (k ∷ ks) (v ∷ vs) =
    narrow_then _ _ (narrow-want_argument w line k v) (λ a. narrow_then _ _ (narrow-want_arguments w line ks vs) (λ l. narrow_give (a ∷ l)))

pub narrow-answered : {most : ℕ} → (line : ℕ) (a : Answer) → Narrows most (answered line a)
narrow-answered line answer.Refused = search narrow depth 14
narrow-answered line answer.Cut = search narrow depth 14
narrow-answered line (answer.Truth b) = search narrow depth 14
narrow-answered line (answer.Number n) = search narrow depth 14
narrow-answered line (answer.Text t) = search (narrow, narrow-new_text) depth 14
narrow-answered line (answer.List ts) = search (narrow, narrow-new_text, narrow-new_list) depth 14
narrow-answered line (answer.Tuple ts) = search (narrow, narrow-new_text, narrow-new_tuple) depth 14
narrow-answered line (answer.Numbers ns) = search (narrow, narrow-new_list) depth 14

pub narrow-call_row : {most : ℕ} → (w : Setting) (line : ℕ) (m : StringMethod) (t : List ℕ) (g : Arguments) (r : Row) → Narrows most (call_row w line m t g r)
narrow-call_row w line m t g r = search (narrow, narrow-positional, narrow-want_arguments, narrow-pay_for_bytes, narrow-answered) depth 14

pub narrow-call_in_table : {most : ℕ} → (w : Setting) (line : ℕ) (m : StringMethod) (t : List ℕ) (g : Arguments) → Narrows most (call_in_table w line m t g)
narrow-call_in_table w line m t g = search (narrow, narrow-call_row) depth 14

narrow-in_dialect : {most : ℕ} → (d : Dialect) (m n : Action Value) → Narrows most m → Narrows most n → Narrows most (in_dialect d m n)
narrow-in_dialect dialect.Core m n h k = h
narrow-in_dialect dialect.Extended m n h k = k

narrow-named : {most : ℕ} → (w : Setting) (line : ℕ) (name t : List ℕ) (g : Arguments) → Narrows most (found code.BadType line (named name) >>= λ m. call_in_table w line m t g)
narrow-named w line name t g = search (narrow, narrow-call_in_table) depth 14

pub narrow-call_wider : {most : ℕ} → (w : Setting) (line : ℕ) (name t : List ℕ) (g : Arguments) (core : Action Value) → Narrows most core → Narrows most (call_wider w line name t g core)
narrow-call_wider w line name t g core h = narrow-in_dialect w.language.dialect core _ h (narrow-named w line name t g)
