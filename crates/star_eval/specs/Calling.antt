-- Calls, from the callee that the code has.
use Rattle.std.specs.Prelude.{ℕ, List, Result}
use Rattle.star_store.specs.declared.values.Value.{Value}
use Rattle.star_tree.specs.declared.tree.Name.{Name}
use Rattle.star_outline.specs.Definitions.{definition_of}
use Rattle.star_meaning.specs.declared.given.Arguments.{Arguments}
use Rattle.star_meaning.specs.declared.site.Site.{Site}
use Rattle.star_meaning.specs.Binding.{BoundArgument}
use Rattle.star_meaning.specs.Calls.{called, called_plainly}
use Rattle.star_meaning.specs.Run.{State, Action}
use Rattle.star_meaning.specs.Values.{content}
use Rattle.star_machine.specs.declared.fault.EvalError.{EvalError}
use Rattle.star_machine.specs.Refines.{Refines}
use Rattle.star_call.specs.declared.callee.Called.{Called}
use Rattle.star_call.specs.declared.callee.Callee.{Callee}
use Rattle.star_call.specs.Callees.{function_of, shown}
use Rattle.star_enter.specs.declared.ordered.Bound.{Bound}
use Rattle.star_enter.specs.Positional.{positional_arguments}
use Rattle.star_enter.specs.Ordered.{HasBound}
use Rattle.star_world.specs.World.{World, semantics}

-- the call of a function over the shares that its parameters get
abbrev pub calling : World → ℕ → Site → Called → List (Name × BoundArgument) → Action Value
calling w levels p f shares = λ s.
    (semantics w levels).call p (function_of (content w.setting s f.value) f) (definition_of f.definition) shares s

-- the same, if each parameter gets the value at its own place
abbrev pub calling_positional : World → ℕ → Site → Called → List Value → Action Value
calling_positional w levels p f vs = calling w levels p f (positional_arguments f.definition.parameters.now vs)

-- the call of a callee with these arguments
abbrev pub calling_with : World → ℕ → Site → Callee → Arguments → Action Value
calling_with w levels p c g = λ s. called w.setting levels (semantics w levels) p (shown (content w.setting s) c) g s

-- the same without a function of `key`
abbrev pub calling_plainly : World → ℕ → Site → Callee → Arguments → Action Value
calling_plainly w levels p c g =
    λ s. called_plainly w.setting levels (semantics w levels) p (shown (content w.setting s) c) g s

-- The answer is the answer of the call, whichever shares are bound so.
abbrev pub GivesBound : World → ℕ → Site → Called → Bound → State → Result Value EvalError → State → Type 0
GivesBound w levels p f b old result new =
    (shares : List (Name × BoundArgument)) → HasBound w f.file f.number f.frame shares b
    → Refines (calling w levels p f shares old) result new
