-- The number of numbers below a bound that pass a test.
use Rattle.std.proofs.Common.{arith, ◌≡◌, ◌+◌, ◌<◌, ◌≤◌, ℕ, zero, suc, Bool, true, false, refl, ap, sym, subst, ◌∙◌, ◌⊎◌, inl, inr}
use Rattle.std.proofs.lemmas.Bool.{cases_eq}

abbrev pub one : Bool → ℕ
one true = 1
one false = 0

abbrev pub count : (ℕ → Bool) → ℕ → ℕ
count f zero = 0
count f (suc n) = one (f n) + count f n

one_most : (b : Bool) → one b ≤ 1
one_most true = omega arith
one_most false = omega arith

pub count_most : (f : ℕ → Bool) (n : ℕ) → count f n ≤ n
count_most f zero = omega arith
count_most f (suc n) = omega (arith, one_most (f n), count_most f n)

one_more : (a b : Bool) → (a ≡ true → b ≡ true) → one a ≤ one b
one_more true b h = let e : b ≡ true = h refl in let both : one b ≡ 1 = ap one e in omega (arith, both)
one_more false true h = omega arith
one_more false false h = omega arith

pub count_more : (f g : ℕ → Bool) (n : ℕ) → ((k : ℕ) → k < n → f k ≡ true → g k ≡ true) → count f n ≤ count g n
count_more f g zero sub = omega arith
count_more f g (suc n) sub =
    let here : one (f n) ≤ one (g n) = one_more (f n) (g n) (sub n (omega arith)) in
    let rest : count f n ≤ count g n = count_more f g n (λ k less. sub k (omega arith)) in
    omega (arith, here, rest)

pub count_grows : (f g : ℕ → Bool) (n k : ℕ) → ((j : ℕ) → j < n → f j ≡ true → g j ≡ true) → k < n → f k ≡ false → g k ≡ true → count f n < count g n
count_grows f g zero k sub less a b = absurd (let no : ⊥ = omega arith in no)
count_grows f g (suc n) k sub less a b = turn (cases_eq n k) (λ below. count_grows f g n k (λ j i. sub j (omega arith)) below a b)
  where
    turn : ((n ≡ k) ⊎ (n ≡ k → ⊥)) → (k < n → count f n < count g n) → one (f n) + count f n < one (g n) + count g n
    turn (inl same) others =
        let none : one (f n) ≡ 0 = ap (λ z. one (f z)) same ∙ ap one a in
        let some : one (g n) ≡ 1 = ap (λ z. one (g z)) same ∙ ap one b in
        let rest : count f n ≤ count g n = count_more f g n (λ j i. sub j (omega arith)) in
        omega (arith, none, some, rest)
    turn (inr other) others =
        let here : one (f n) ≤ one (g n) = one_more (f n) (g n) (sub n (omega arith)) in
        let below : k < n = omega (arith, other, less) in
        let rest : count f n < count g n = others below in
        omega (arith, here, rest)

one_all : (b : Bool) → 1 ≤ one b → b ≡ true
one_all true h = refl
one_all false h = absurd (let no : ⊥ = omega (arith, h) in no)

pub count_all : (f : ℕ → Bool) (n : ℕ) → n ≤ count f n → (k : ℕ) → k < n → f k ≡ true
count_all f zero all k less = absurd (let no : ⊥ = omega arith in no)
count_all f (suc n) all k less = turn (cases_eq n k) (λ below. count_all f n (omega (arith, all, one_most (f n))) k below)
  where
    turn : ((n ≡ k) ⊎ (n ≡ k → ⊥)) → (k < n → f k ≡ true) → f k ≡ true
    turn (inl same) others = subst (λ z. f z ≡ true) same (one_all (f n) (omega (arith, all, count_most f n)))
    turn (inr other) others = others (omega (arith, other, less))

-- a number that passes one test and not the other, or there is none
pub one_new : (f g : ℕ → Bool) (n : ℕ) → ((k : ℕ) × (k < n) × (f k ≡ false) × (g k ≡ true)) ⊎ ((k : ℕ) → k < n → g k ≡ true → f k ≡ true)
one_new f g zero = inr (λ k less e. absurd (let no : ⊥ = omega (arith, less) in no))
one_new f g (suc n) = turn (one_new f g n) (f n) (g n) refl refl
  where
    wider : (k : ℕ) → (f n ≡ true) ⊎ (g n ≡ false) → ((k : ℕ) → k < n → g k ≡ true → f k ≡ true) → k < suc n → g k ≡ true → f k ≡ true
    wider k here none less e = by (cases_eq n k) here
      where
        by : ((n ≡ k) ⊎ (n ≡ k → ⊥)) → ((f n ≡ true) ⊎ (g n ≡ false)) → f k ≡ true
        by (inl same) (inl passes) = subst (λ z. f z ≡ true) same passes
        by (inl same) (inr fails) =
            let both : true ≡ false = sym e ∙ (ap g (sym same) ∙ fails) in
            absurd (let no : ⊥ = cc in no)
        by (inr other) h = none k (omega (arith, other, less)) e

    turn : (((k : ℕ) × (k < n) × (f k ≡ false) × (g k ≡ true)) ⊎ ((k : ℕ) → k < n → g k ≡ true → f k ≡ true)) → (a b : Bool) → f n ≡ a → g n ≡ b
        → ((k : ℕ) × (k < suc n) × (f k ≡ false) × (g k ≡ true)) ⊎ ((k : ℕ) → k < suc n → g k ≡ true → f k ≡ true)
    turn (inl (k, less, a, b)) x y p q = inl (k, omega (arith, less), a, b)
    turn (inr none) true y p q = inr (λ k. wider k (inl p) none)
    turn (inr none) false true p q = inl (n, omega arith, p, q)
    turn (inr none) false false p q = inr (λ k. wider k (inr q) none)
