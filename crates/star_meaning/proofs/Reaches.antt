-- Visits of values that are not refused for want of steps are the same with more steps.
use Rattle.star_store.specs.declared.fault.StoreFault.{StoreFault}
use Rattle.star_store.specs.declared.fault.StoreFault.TheVariants as refused
use Rattle.std.proofs.Common.{◌≡◌, ◌≤◌, ◌≢◌, refl, ℕ, ◌+◌, ◌-◌, Bool, true, false, if◌then◌else◌, arith, nat_lt}
use Rattle.star_store.specs.Spend.{Spend, Spent, Enough, Lacks, answer, spend_then, visited}
use Rattle.std.proofs.lemmas.Bool.{ltb-false}

-- a refusal for want of steps
abbrev pub NotForWant : {A : Type 0} → Spent A → Type 0
NotForWant (Enough x left) = Unit {0}
NotForWant (Lacks f left) = f ≢ refused.Steps

-- the same with more steps left
abbrev pub further : {A : Type 0} → ℕ → Spent A → Spent A
further k (Enough x left) = Enough x (left + k)
further k (Lacks f left) = Lacks f (left + k)

abbrev pub Reaches : {A : Type 0} → Spend A → Type 0
Reaches o = (k n : ℕ) → NotForWant (o n) → o (n + k) ≡ further k (o n)

spent_then : {A B : Type 0} (k : ℕ) (o o' : Spent A) (f : A → Spend B) → (NotForWant o → o' ≡ further k o) → ((x : A) → Reaches (f x)) → NotForWant (spend_then o f) → spend_then o' f ≡ further k (spend_then o f)
spent_then k (Enough x left) o' f h g n = rw (h tt) (g x k left n)
spent_then k (Lacks e left) o' f h g n = rw (h n) refl

pub reaches_then : {A B : Type 0} (o : Spend A) (f : A → Spend B) → Reaches o → ((x : A) → Reaches (f x)) → Reaches (λ n. spend_then (o n) f)
reaches_then o f h g k n e = spent_then k (o n) (o (n + k)) f (h k n) g e

pub reaches_answer : {A : Type 0} (x : A) → Reaches (answer x)
reaches_answer x k n e = refl

pub reaches_enough : {A : Type 0} (x : A) → Reaches (λ n. Enough x n)
reaches_enough x k n e = refl

pub reaches_lacks : (A : Type 0) (f : StoreFault) → Reaches {A = A} (λ n. Lacks f n)
reaches_lacks A f k n e = refl

visited_if : {A : Type 0} (b : Bool) (k n : ℕ) (o : Spend A) → nat_lt n 1 ≡ b → Reaches o → NotForWant (if b then Lacks refused.Steps n else o (n - 1)) → (if nat_lt (n + k) 1 then Lacks refused.Steps (n + k) else o (n + k - 1)) ≡ further k (if b then Lacks refused.Steps n else o (n - 1))
visited_if true k n o e h c = absurd (c refl)
visited_if false k n o e h c =
    let some : 1 ≤ n = ltb-false n 1 e in
    let none : nat_lt (n + k) 1 ≡ false = grind (arith, some) in
    let less : n + k - 1 ≡ n - 1 + k = omega (arith, some) in
    rw none (rw less (h k (n - 1) c))

pub reaches_visited : {A : Type 0} (o : Spend A) → Reaches o → Reaches (visited o)
reaches_visited o h k n c = visited_if (nat_lt n 1) k n o refl h c
