-- Sorting by a function of `key`, one step after another.
use Rattle.std.proofs.Common.{◌≡◌, ℕ, List, Result, ap, subst, sym, ◌∙◌}
use Rattle.star_store.specs.declared.values.Value.{Value}
use Rattle.star_meaning.specs.declared.given.Arguments.{Arguments}
use Rattle.star_meaning.specs.declared.site.Site.{Site}
use Rattle.star_meaning.specs.Run.{State, Done, ◌>>=◌, and_then}
use Rattle.star_meaning.specs.Program.{Setting}
use Rattle.star_meaning.specs.Semantics.{Semantics}
use Rattle.star_meaning.specs.Orders.{asked_to_sort, sort_by}
use Rattle.star_meaning.specs.Calls.{sorted_by_key, with_keys}
use Rattle.star_machine.specs.declared.fault.EvalError.{EvalError}
use Rattle.star_machine.specs.Refines.{Refines}
use Rattle.star_builtin.specs.declared.orders.Sorting.{Sorting}
use Rattle.star_builtin.specs.Orders.{shown_asked}

-- what is asked for, then the keys, then the sorting
pub sorted_steps : (w : Setting) (levels : ℕ) (m : Semantics) (p : Site) (g : Arguments) (s t u v : State) (asked : Sorting) (ps : List (Value × Value)) (r : Result Value EvalError) → asked_to_sort w p.line g s ≡ Done (shown_asked asked) t → with_keys w levels m p asked.key asked.items t ≡ Done ps u
    → Refines (sort_by w levels p.line asked.backwards ps u) r v → Refines (sorted_by_key w levels m p g s) r v
sorted_steps w levels m p g s t u v asked ps r e f k =
    let first = ap (λ o. and_then o (λ a. with_keys w levels m p a.1 a.0 >>= λ ps. sort_by w levels p.line a.2 ps)) e in
    let next = ap (λ o. and_then o (λ ps. sort_by w levels p.line asked.backwards ps)) f in
    subst (λ o. Refines o r v) (sym (first ∙ next)) k
