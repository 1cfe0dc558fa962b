-- Visits of values only lower the steps: equality, order, key checks and texts.
use Rattle.star_store.specs.declared.fault.StoreFault.{StoreFault}
use Rattle.star_store.specs.declared.fault.StoreFault.TheVariants as refused
use Rattle.std.proofs.Common.{◌≤◌, ℕ, ◌-◌, Bool, true, false, if◌then◌else◌, arith, nat_lt}
use Rattle.star_store.specs.Spend.{Spend, Spent, Enough, Lacks, answer, spend_then, visited}

-- after an answer no more steps are left than before it
abbrev pub Falls : {A : Type 0} → ℕ → Spent A → Type 0
Falls n (Enough x left) = left ≤ n
Falls n (Lacks f left) = Unit {0}

abbrev pub Lowers : {A : Type 0} → Spend A → Type 0
Lowers o = (n : ℕ) → Falls n (o n)

to_lower : {B : Type 0} (n left : ℕ) (o : Spent B) → left ≤ n → Falls left o → Falls n o
to_lower n left (Enough x m) h k = omega (arith, h, k)
to_lower n left (Lacks f m) h k = tt

spent_then : {A B : Type 0} (n : ℕ) (o : Spent A) (f : A → Spend B) → Falls n o → ((x : A) → Lowers (f x)) → Falls n (spend_then o f)
spent_then n (Enough x left) f h k = to_lower n left (f x left) h (k x left)
spent_then n (Lacks e left) f h k = tt

pub lowers_then : {A B : Type 0} (o : Spend A) (f : A → Spend B) → Lowers o → ((x : A) → Lowers (f x)) → Lowers (λ n. spend_then (o n) f)
lowers_then o f h k n = spent_then n (o n) f (h n) k

pub lowers_answer : {A : Type 0} (x : A) → Lowers (answer x)
lowers_answer x n = omega arith

pub lowers_enough : {A : Type 0} (x : A) → Lowers (λ n. Enough x n)
lowers_enough x n = omega arith

pub lowers_lacks : (A : Type 0) (f : StoreFault) → Lowers {A = A} (λ n. Lacks f n)
lowers_lacks A f n = tt

visited_if : {A : Type 0} (b : Bool) (n : ℕ) (o : Spend A) → Lowers o → Falls n (if b then Lacks refused.Steps n else o (n - 1))
visited_if true n o h = tt
visited_if false n o h = to_lower n (n - 1) (o (n - 1)) (omega arith) (h (n - 1))

pub lowers_visited : {A : Type 0} (o : Spend A) → Lowers o → Lowers (visited o)
lowers_visited o h n = visited_if (nat_lt n 1) n o h
