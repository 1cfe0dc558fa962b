-- Actions that respect every invariant of runs: callees.
use Rattle.star_store.specs.declared.values.Value.{Value}
use Rattle.star_store.specs.declared.values.Cell.TheVariants as cell
use Rattle.star_store.specs.declared.values.Function.{Function}
use Rattle.star_meaning.specs.Program.{Setting}
use Rattle.star_meaning.specs.Values.{Content, BuiltInFunction, Held}
use Rattle.std.proofs.Common.{ℕ}
use Rattle.star_meaning.specs.Calls.{function_callee, callee_of, callee}
use Rattle.star_meaning.proofs.Invariants.{Invariant, Respects, respects}
use Rattle.star_meaning.proofs.KeepsValues.{respects-with_content}

pub respects-function_callee : (w : Setting) {inv : Invariant w} (line : ℕ) (f : Function) → Respects inv (function_callee w line f)
respects-function_callee w line f = search respects depth 14

pub respects-callee_of : (w : Setting) {inv : Invariant w} (line : ℕ) (a2 : Content) → Respects inv (callee_of w line a2)
respects-callee_of w line (Held (cell.Func f)) = search (respects, respects-function_callee) depth 14
respects-callee_of w line (BuiltInFunction b) = search respects depth 14
respects-callee_of w line (Held (cell.Bound m x)) = search respects depth 14
respects-callee_of w line _ = search respects depth 14

pub respects-callee : (w : Setting) {inv : Invariant w} (line : ℕ) (v : Value) → Respects inv (callee w line v)
unfolding callee
respects-callee w line v = search (respects, respects-with_content, respects-callee_of) depth 14
