-- Loops go on turn by turn.
use Rattle.std.proofs.Common.{◌≡◌, ℕ, zero, suc, ◌+◌, ◌-◌, ◌<◌, ap, arith}
use Rattle.star_meaning.specs.declared.site.Flow.{Flow}
use Rattle.star_meaning.specs.Run.{State, Action, and_then}
use Rattle.star_meaning.specs.Semantics.{turns, then_turn, repeat}

turns_more : (f : ℕ → Action Flow) (n m i : ℕ) (s : State) → n ≡ m + 1 → turns f n i s ≡ and_then (f i s) (then_turn (turns f m (i + 1)))
turns_more f zero m i s h = absurd (omega arith)
turns_more f (suc n) m i s h = ap (λ k. and_then (f i s) (then_turn (turns f k (i + 1)))) (let e : n ≡ m = omega arith in e)

pub turns_next : (f : ℕ → Action Flow) (n i : ℕ) (s : State) → i < n → turns f (n - i) i s ≡ and_then (f i s) (then_turn (turns f (n - (i + 1)) (i + 1)))
turns_next f n i s h = turns_more f (n - i) (n - (i + 1)) i s (omega arith)

repeat_more : (f : ℕ → Action (Unit {0})) (n m i : ℕ) (s : State) → n ≡ m + 1 → repeat f n i s ≡ and_then (f i s) (λ _. repeat f m (i + 1))
repeat_more f zero m i s h = absurd (omega arith)
repeat_more f (suc n) m i s h = ap (λ k. and_then (f i s) (λ _. repeat f k (i + 1))) (let e : n ≡ m = omega arith in e)

pub repeat_next : (f : ℕ → Action (Unit {0})) (n i : ℕ) (s : State) → i < n → repeat f (n - i) i s ≡ and_then (f i s) (λ _. repeat f (n - (i + 1)) (i + 1))
repeat_next f n i s h = repeat_more f (n - i) (n - (i + 1)) i s (omega arith)
