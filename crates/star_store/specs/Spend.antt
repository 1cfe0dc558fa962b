-- Operations that cost steps: an answer or a refusal, with the steps that are left.
use Rattle.std.specs.Prelude.{◌≡◌, ℕ, ◌+◌, ◌-◌, nat_lt, Bool, true, false, Result, Ok, Err, if◌then◌else◌, zero, suc}
use Rattle.star_store.specs.declared.fault.StoreFault.{StoreFault}
use Rattle.star_store.specs.declared.fault.StoreFault.TheVariants.{Steps}

-- an answer or a refusal, with the steps left
pub data Spent (A : Type 0) : Type 0 where
  Enough : A → (left : ℕ) → Spent A
  Lacks : StoreFault → (left : ℕ) → Spent A

-- from the steps that are left before it
abbrev pub Spend : Type 0 → Type 0
Spend A = ℕ → Spent A

-- an answer that costs nothing
abbrev pub answer : {A : Type 0} → A → Spend A
answer x = λ n. Enough x n

-- a refusal that costs nothing
abbrev pub refuse : {A : Type 0} → StoreFault → Spend A
refuse f = λ n. Lacks f n

-- one after the other, up to the first refusal
abbrev pub spend_then : {A B : Type 0} → Spent A → (A → Spend B) → Spent B
spend_then (Enough x n) f = f x n
spend_then (Lacks code n) f = Lacks code n

-- a visit: it pays one step
abbrev pub visited : {A : Type 0} → Spend A → Spend A
visited f = λ n. if nat_lt n 1 then Lacks Steps n else f (n - 1)

-- a number of places, from the i-th on, up to the first that fails the test
abbrev pub all_places : (ℕ → Spend Bool) → ℕ → ℕ → Spend Bool
all_places f zero i = answer true
all_places f (suc n) i = λ left. spend_then (f i left) (λ b. if b then all_places f n (i + 1) else answer false)

-- A function's answer, and the steps that it left, are those of the definition.
abbrev pub Spends : {A : Type 0} → Spent A → Result A StoreFault → ℕ → Type 0
Spends o (Ok x) left = o ≡ Enough x left
Spends o (Err f) left = o ≡ Lacks f left
