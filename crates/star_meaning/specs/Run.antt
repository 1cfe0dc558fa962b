-- The state of a run, how a part of it ends, and how parts follow one another.
use Rattle.std.specs.Prelude.{ℕ, zero, suc, ◌+◌, ◌-◌, nat_lt, Bool, true, false, List, [], ◌∷◌, ◌++◌, Option, Some, None, Result, Ok, Err, if◌then◌else◌}
use Rattle.star_store.specs.declared.fault.StoreFault.{StoreFault}
use Rattle.star_store.specs.declared.fault.StoreFault.TheVariants as refused
use Rattle.star_store.specs.declared.values.Value.{Value}
use Rattle.star_store.specs.declared.values.Cell.{Cell}
use Rattle.star_store.specs.Store.{Store, made, next_value}
use Rattle.star_store.specs.Spend.{Spent, Enough, Lacks, Spend}
use Rattle.star_meaning.specs.declared.fault.FaultCode.{FaultCode}
use Rattle.star_meaning.specs.declared.fault.FaultCode.TheVariants as code
use Rattle.star_meaning.specs.declared.fault.Fault.{Fault}
use Rattle.star_meaning.specs.declared.said.Said.{Said}

-- the state of a run: the running module's store, the definitions that are active (file and number, the innermost
-- first), the steps left, and what it has said: the lines printed and the calls recorded
pub record State : Type 0 where
  pub store : Store
  pub active : List (ℕ × ℕ)
  pub steps : ℕ
  pub lines : List Said

-- an answer and the state after it, or a fault and what was said before it
pub data Outcome (A : Type 0) : Type 0 where
  Done : A → State → Outcome A
  Failed : Fault → List Said → Outcome A

-- an action: a function from a state to an outcome
abbrev pub Action : Type 0 → Type 0
Action A = State → Outcome A

-- goes on after an answer; a fault ends all
abbrev pub and_then : {A B : Type 0} → Outcome A → (A → Action B) → Outcome B
and_then (Done x s) f = f x s
and_then (Failed f lines) g = Failed f lines

infixl 10 ◌>>=◌
abbrev pub ◌>>=◌ : {A B : Type 0} → Action A → (A → Action B) → Action B
(m >>= f) = λ s. and_then (m s) f

-- answers and changes nothing
abbrev pub give : {A : Type 0} → A → Action A
give x = λ s. Done x s

-- a fault
abbrev pub fail : {A : Type 0} → FaultCode → ℕ → Action A
fail c line = λ s. Failed (record { code = c; line = line }) s.lines

-- pays this many steps; a payment larger than the steps left is a fault
unfoldable pub pay : ℕ → ℕ → Action (Unit {0})
pay line n = λ s. if nat_lt s.steps n then fail code.Steps line s else Done tt (record s { steps = s.steps - n })

-- a fault if the test fails
abbrev pub check : FaultCode → ℕ → Bool → Action (Unit {0})
check c line test = if test then give tt else fail c line

-- the value, or a fault if there is none
abbrev pub found : {A : Type 0} → FaultCode → ℕ → Option A → Action A
found c line None = fail c line
found c line (Some x) = give x

-- the fault of a refusal of the store; want of memory is not a fault of a run, and no definition answers it
abbrev pub code_of : StoreFault → FaultCode
code_of refused.Frozen = code.Frozen
code_of refused.Iterating = code.Iterating
code_of refused.BadType = code.BadType
code_of refused.Index = code.Index
code_of refused.Key = code.Key
code_of refused.Overflow = code.Overflow
code_of refused.Memory = code.Steps
code_of refused.Steps = code.Steps
code_of refused.Deep = code.Deep

-- the answer of a store, or its refusal as a fault
abbrev pub agreed : {A : Type 0} → ℕ → Result A StoreFault → Action A
agreed line (Ok x) = give x
agreed line (Err f) = fail (code_of f) line

-- the steps that were spent are paid
abbrev pub settled : {A : Type 0} → ℕ → Spent A → Action A
settled line (Enough x left) = λ s. Done x (record s { steps = left })
settled line (Lacks f left) = fail (code_of f) line

-- visits of values, which pay as they go
abbrev pub visiting : {A : Type 0} → ℕ → (State → Spend A) → Action A
visiting line f = λ s. settled line (f s s.steps) s

-- an action that depends on the state
abbrev pub seeing : {A : Type 0} → (State → Action A) → Action A
seeing f = λ s. f s s

-- changes the store
abbrev pub storing : (Store → Store) → Action (Unit {0})
storing f = λ s. Done tt (record s { store = f s.store })

-- a new cell, after all others
unfoldable pub make : Cell → Action Value
make c = λ s. Done (next_value s.store) (record s { store = made c s.store })

-- a new cell that is paid for
unfoldable pub build : ℕ → ℕ → Cell → Action Value
build line cost c = pay line cost >>= λ _. make c

-- one after another, each with its answer
abbrev pub each : {A B : Type 0} → (A → Action B) → List A → Action (List B)
each f [] = give []
each f (x ∷ xs) = f x >>= λ y. each f xs >>= λ ys. give (y ∷ ys)

-- one after another, for their effect
abbrev pub all_of : {A : Type 0} → (A → Action (Unit {0})) → List A → Action (Unit {0})
all_of f [] = give tt
all_of f (x ∷ xs) = f x >>= λ _. all_of f xs

-- a number of turns, from the i-th on, each with its answer
abbrev pub collect : {B : Type 0} → (ℕ → Action B) → ℕ → ℕ → Action (List B)
collect f zero i = give []
collect f (suc n) i = f i >>= λ y. collect f n (i + 1) >>= λ ys. give (y ∷ ys)

-- a number of turns, from the i-th on, up to the first that says stop
abbrev pub until : (ℕ → Action Bool) → ℕ → ℕ → Action Bool
until f zero i = give false
until f (suc n) i = f i >>= λ stop. if stop then give true else until f n (i + 1)

-- prints a line, or records a call
unfoldable pub add_said : Said → Action (Unit {0})
add_said x = λ s. Done tt (record s { lines = s.lines ++ x ∷ [] })
