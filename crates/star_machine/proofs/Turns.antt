-- Loops go on turn by turn.
use Rattle.std.proofs.Common.{◌≡◌, ℕ, zero, suc, ◌+◌, ◌-◌, ◌<◌, List, [], ◌∷◌, ◌++◌, Bool, true, if◌then◌else◌, refl, ap, sym, ◌∙◌, append_assoc, arith}
use Rattle.star_meaning.specs.Run.{State, Outcome, Done, Failed, Action, and_then, give, collect, until}
use Rattle.star_machine.specs.Refines.{with_front}

-- one turn more, and those after it
collect_more : {B : Type 0} (f : ℕ → Action B) (n m i : ℕ) (s : State) → n ≡ m + 1 → collect f n i s ≡ and_then (f i s) (λ y. λ t. and_then (collect f m (i + 1) t) (λ ys. give (y ∷ ys)))
collect_more f zero m i s h = absurd (omega arith)
collect_more f (suc n) m i s h = ap (λ k. and_then (f i s) (λ y. λ t. and_then (collect f k (i + 1) t) (λ ys. give (y ∷ ys)))) (let e : n ≡ m = omega arith in e)

pub collect_next : {B : Type 0} (f : ℕ → Action B) (n i : ℕ) (s : State) → i < n → collect f (n - i) i s ≡ and_then (f i s) (λ y. λ t. and_then (collect f (n - (i + 1)) (i + 1) t) (λ ys. give (y ∷ ys)))
collect_next f n i s h = collect_more f (n - i) (n - (i + 1)) i s (omega arith)

until_more : (f : ℕ → Action Bool) (n m i : ℕ) (s : State) → n ≡ m + 1 → until f n i s ≡ and_then (f i s) (λ stop. if stop then give true else until f m (i + 1))
until_more f zero m i s h = absurd (omega arith)
until_more f (suc n) m i s h = ap (λ k. and_then (f i s) (λ stop. if stop then give true else until f k (i + 1))) (let e : n ≡ m = omega arith in e)

pub until_next : (f : ℕ → Action Bool) (n i : ℕ) (s : State) → i < n → until f (n - i) i s ≡ and_then (f i s) (λ stop. if stop then give true else until f (n - (i + 1)) (i + 1))
until_next f n i s h = until_more f (n - i) (n - (i + 1)) i s (omega arith)

front_more : {B : Type 0} (o : Outcome (List B)) (front : List B) (y : B) → with_front (front ++ y ∷ []) o ≡ with_front front (and_then o (λ ys. give (y ∷ ys)))
front_more (Done ys u) front y = ap (λ xs. Done xs u) (append_assoc front (y ∷ []) ys)
front_more (Failed f lines) front y = refl

-- a turn that went well leaves those after it
pub collected : {B : Type 0} (f : ℕ → Action B) (n i : ℕ) (s t : State) (front : List B) (y : B) → i < n → f i s ≡ Done y t → with_front (front ++ y ∷ []) (collect f (n - (i + 1)) (i + 1) t) ≡ with_front front (collect f (n - i) i s)
collected f n i s t front y h e = front_more (collect f (n - (i + 1)) (i + 1) t) front y ∙ sym (ap (with_front front) (collect_next f n i s h ∙ ap (λ o. and_then o (λ z. λ u. and_then (collect f (n - (i + 1)) (i + 1) u) (λ ys. give (z ∷ ys)))) e))
