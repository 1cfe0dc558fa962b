-- `Refines`: a function of the evaluator has the result of its definition and leaves the same state, unless memory ran
-- out.
use Rattle.std.specs.Prelude.{◌≡◌, ℕ, List, ◌++◌, Result, Ok, Err}
use Rattle.star_store.specs.declared.fault.StoreFault.{StoreFault}
use Rattle.star_store.specs.declared.fault.StoreFault.TheVariants as refused
use Rattle.star_machine.specs.declared.fault.EvalError.{EvalError}
use Rattle.star_machine.specs.declared.fault.EvalError.TheVariants.{Memory, Faulted}
use Rattle.star_meaning.specs.Run.{State, Outcome, Done, Failed, code_of}

-- why an evaluation stops if the store refuses a call: for want of memory, or at a fault
abbrev pub stop_of : ℕ → StoreFault → EvalError
stop_of line refused.Memory = Memory
stop_of line f = Faulted (code_of f) line

-- A run that stopped, at this fault with these lines. If memory ran out, nothing is claimed.
abbrev pub Ends : {A : Type 0} → Outcome A → EvalError → State → Type 0
Ends o Memory new = Unit {0}
Ends o (Faulted c line) new = o ≡ Failed (record { code = c; line = line }) new.lines

abbrev pub Refines : {A : Type 0} → Outcome A → Result A EvalError → State → Type 0
Refines o (Ok x) new = o ≡ Done x new
Refines o (Err e) new = Ends o e new

-- The same for a function that answers a reference: the content of the reference is the answer.
abbrev pub RefinesBy : {A B : Type 0} → (B → A) → Outcome A → Result B EvalError → State → Type 0
RefinesBy f o (Ok x) new = o ≡ Done (f x) new
RefinesBy f o (Err e) new = Ends o e new

-- answers after those that are there
abbrev pub with_front : {A : Type 0} → List A → Outcome (List A) → Outcome (List A)
with_front front (Done xs s) = Done (front ++ xs) s
with_front front (Failed f lines) = Failed f lines
