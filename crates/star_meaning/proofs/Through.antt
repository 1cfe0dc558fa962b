-- A relation of the state before an action to the state after it, where the action ends well.
use Rattle.star_meaning.specs.Run.{State, Outcome, Done, Failed, Action, and_then}

abbrev pub Through : {A : Type 0} → (State → State → Type 0) → State → Outcome A → Type 0
Through R s (Done x t) = R s t
Through R s (Failed f lines) = Unit {0}

through_on : {A : Type 0} (R : State → State → Type 0) → ((s t u : State) → R s t → R t u → R s u) → (s u : State) → R s u → (o : Outcome A) → Through R u o → Through R s o
through_on R on s u h (Done x t) k = on s u t h k
through_on R on s u h (Failed f lines) k = tt

-- one action after another, where the relation goes on from state to state
pub through_then : {A B : Type 0} (R : State → State → Type 0) → ((s t u : State) → R s t → R t u → R s u) → (s : State) (o : Outcome A) (f : A → Action B) → Through R s o → ((x : A) (u : State) → Through R u (f x u)) → Through R s (and_then o f)
through_then R on s (Done x u) f h k = through_on R on s u h (f x u) (k x u)
through_then R on s (Failed e lines) f h k = tt
