-- Calls that are entered with the values of their parameters.
use Rattle.std.proofs.Common.{◌≡◌, ◌<◌, ◌-◌, ℕ, List, Result, Err, ap, sym, subst, ◌∙◌}
use Rattle.star_store.specs.declared.values.Value.{Value}
use Rattle.star_store.specs.declared.values.Function.{Function}
use Rattle.star_tree.specs.declared.tree.Name.{Name}
use Rattle.star_outline.specs.Definitions.{Definition}
use Rattle.star_machine.specs.declared.fault.EvalError.{EvalError}
use Rattle.star_machine.specs.declared.fault.EvalError.TheVariants.{Memory, Faulted}
use Rattle.star_machine.specs.Refines.{Refines}
use Rattle.star_meaning.specs.declared.site.Site.{Site}
use Rattle.star_meaning.specs.Run.{Done, Outcome, State, and_then, give}
use Rattle.star_meaning.proofs.Levels.{call_at}
use Rattle.star_world.specs.World.{World, semantics, variables}
use Rattle.star_meaning.specs.Binding.{BoundArgument}
use Rattle.star_enter.specs.declared.ordered.Bound.{Bound}
use Rattle.star_enter.specs.Entering.{left}
use Rattle.star_enter.specs.Ordered.{HasBound, entering_bound}
use Rattle.star_enter.proofs.OrderedFrames.{run_bound_is}

-- such a call is its entering, and the rest
call_is : (w : World) (levels : ℕ) (p : Site) (f : Function) (d : Definition) (shares : List (Name × BoundArgument)) (b : Bound) (s : State) → 0 < levels → HasBound w f.file f.definition f.frame shares b
    → (semantics w levels).call p f d shares s ≡ and_then (entering_bound p.line f.file f.definition f.frame b give s) (left (semantics w (levels - 1)) d)
call_is w levels p f d shares b s h k =
    call_at (variables w) w.setting levels p f d shares s h ∙ run_bound_is w (semantics w (levels - 1)) p f d shares b s k

-- it ends if its entering ends
pub call_stops : (w : World) (levels : ℕ) (p : Site) (f : Function) (d : Definition) (b : Bound) (s t : State) (e : EvalError) → 0 < levels
    → Refines (entering_bound p.line f.file f.definition f.frame b give s) (Err e) t
    → (shares : List (Name × BoundArgument)) → HasBound w f.file f.definition f.frame shares b → Refines ((semantics w levels).call p f d shares s) (Err e) t
call_stops w levels p f d b s t Memory h g shares k = tt
call_stops w levels p f d b s t (Faulted c line) h g shares k =
    call_is w levels p f d shares b s h k ∙ ap (λ (o : Outcome Site). and_then o (left (semantics w (levels - 1)) d)) g

-- and gives the result of the rest
pub call_goes : (w : World) (levels : ℕ) (p : Site) (f : Function) (d : Definition) (b : Bound) (s u t : State) (q : Site) (r : Result Value EvalError) → 0 < levels
    → entering_bound p.line f.file f.definition f.frame b give s ≡ Done q u → Refines (left (semantics w (levels - 1)) d q u) r t
    → (shares : List (Name × BoundArgument)) → HasBound w f.file f.definition f.frame shares b → Refines ((semantics w levels).call p f d shares s) r t
call_goes w levels p f d b s u t q r h e g shares k =
    subst (λ (o : Outcome Value). Refines o r t) (sym (call_is w levels p f d shares b s h k ∙ ap (λ (o : Outcome Site). and_then o (left (semantics w (levels - 1)) d)) e)) g
