-- Rounds of a repetition, beside a loop that counts up.
use Rattle.std.proofs.Common.{◌≡◌, ℕ, zero, suc, ◌+◌, ◌-◌, ◌<◌, ◌≤◌, List, Some, None, ap, refl, ◌∙◌, arith}
use Rattle.star_syntax.specs.declared.leaf.ValuedToken.{ValuedToken}
use Rattle.star_syntax.specs.Grammar.{Answer, rounds}

pub rest : {A B : Type 0} (f : A → B → A) (h : List ValuedToken → Answer B) (n : ℕ) (x : A) (ts : List ValuedToken) → h ts ≡ None → rounds f h n x ts ≡ Some (x, ts)
unfolding rounds
rest f h zero x ts e = refl
rest f h (suc n) x ts e = rw (e, rounds) refl

-- the rounds after the answer of one
abbrev pub going_on : {A B : Type 0} → (A → B → A) → (List ValuedToken → Answer B) → ℕ → A → List ValuedToken → Answer B → Answer A
going_on f h n x ts None = Some (x, ts)
going_on f h n x ts (Some p) = rounds f h n (f x p.0) p.1

round : {A B : Type 0} (f : A → B → A) (h : List ValuedToken → Answer B) (n : ℕ) (x : A) (ts : List ValuedToken) (r : Answer B) → h ts ≡ r → rounds f h (suc n) x ts ≡ going_on f h n x ts r
unfolding rounds
round f h n x ts None e = rw (e, rounds) refl
round f h n x ts (Some p) e = rw (e, rounds) refl

pub turn : {A B : Type 0} (f : A → B → A) (h : List ValuedToken → Answer B) (n at : ℕ) (x : A) (ts : List ValuedToken) → at < n → rounds f h (n - at) x ts ≡ going_on f h (n - (at + 1)) x ts (h ts)
turn f h n at x ts below =
    let e : n - at ≡ suc (n - (at + 1)) = omega arith in
    ap (λ m. rounds f h m x ts) e ∙ round f h (n - (at + 1)) x ts (h ts) refl

pub no_turn : {A B : Type 0} (f : A → B → A) (h : List ValuedToken → Answer B) (n at : ℕ) (x : A) (ts : List ValuedToken) → n ≤ at → rounds f h (n - at) x ts ≡ Some (x, ts)
unfolding rounds
no_turn f h n at x ts over =
    let none : n - at ≡ 0 = omega arith in
    ap (λ m. rounds f h m x ts) none

-- the steps of such a loop
pub ruleset turns = (turn, no_turn, rest)

pub more_rounds : {A B : Type 0} {whole : Answer A} (f : A → B → A) (h : List ValuedToken → Answer B) (n at : ℕ) (x : A) (ts : List ValuedToken) (p : B × List ValuedToken)
    → at < n → whole ≡ rounds f h (n - at) x ts → h ts ≡ Some p → whole ≡ rounds f h (n - (at + 1)) (f x p.0) p.1
more_rounds f h n at x ts p below e found =
    let one : n - at ≡ suc (n - (at + 1)) = omega arith in
    e ∙ ap (λ m. rounds f h m x ts) one ∙ round f h (n - (at + 1)) x ts (Some p) found

pub last_round : {A B : Type 0} {whole : Answer A} (f : A → B → A) (h : List ValuedToken → Answer B) (n : ℕ) (x : A) (ts : List ValuedToken)
    → whole ≡ rounds f h n x ts → h ts ≡ None → whole ≡ Some (x, ts)
last_round f h n x ts e none = e ∙ rest f h n x ts none

pub no_turns : {A B : Type 0} {whole : Answer A} (f : A → B → A) (h : List ValuedToken → Answer B) (n at : ℕ) (x : A) (ts : List ValuedToken)
    → n ≤ at → whole ≡ rounds f h (n - at) x ts → whole ≡ Some (x, ts)
unfolding rounds
no_turns f h n at x ts over e =
    let none : n - at ≡ 0 = omega arith in
    e ∙ ap (λ m. rounds f h m x ts) none
