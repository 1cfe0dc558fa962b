-- Rising lists with the same members.
use Rattle.std.proofs.Common.{arith, ◌≡◌, ◌⊎◌, ◌<◌, ◌+◌, ℕ, zero, suc, List, [], ◌∷◌, ◌++◌, get_or, length, length-append, refl, ap, sym, subst, ◌∙◌, inl, inr}
use Rattle.std.specs.Prelude.{All, Contains}
use Rattle.std.specs.List.{AllPairs}
use Rattle.std.specs.List.Sorted.{IsStrictlyIncreasing}
use Rattle.std.proofs.lemmas.Bool.{cases_order}
use Rattle.std.proofs.lemmas.List.{get_or_append_left, get_or_push}

member : (x : ℕ) (xs : List ℕ) (n : ℕ) → Contains (x ∷ xs) n → (x ≡ n) ⊎ Contains xs n
member x xs n (zero, less, e) = inl e
member x xs n (suc k, less, e) = inr (k, omega arith, e)

first : (x : ℕ) (xs : List ℕ) → Contains (x ∷ xs) x
first x xs = (0, omega arith, refl)

later : (x n : ℕ) (xs : List ℕ) → Contains xs n → Contains (x ∷ xs) n
later x n xs (k, less, e) = (suc k, omega arith, e)

above : (x : ℕ) (xs : List ℕ) → AllPairs (λ y z. y < z) (x ∷ xs) → (n : ℕ) → Contains xs n → x < n
above x xs rises n (k, less, e) = subst (λ z. x < z) e (rises 0 (suc k) n (omega arith) (omega arith))

rest_rises : (x : ℕ) (xs : List ℕ) → AllPairs (λ y z. y < z) (x ∷ xs) → AllPairs (λ y z. y < z) xs
rest_rises x xs rises i j d less short = rises (suc i) (suc j) d (omega arith) (omega arith)

-- rising lists with the same members are one
pub same_rising : (xs ys : List ℕ) → AllPairs (λ y z. y < z) xs → AllPairs (λ y z. y < z) ys → ((n : ℕ) → Contains xs n → Contains ys n) → ((n : ℕ) → Contains ys n → Contains xs n) → xs ≡ ys
same_rising [] [] p q to from = refl
same_rising [] (y ∷ ys) p q to from = absurd (let h : Contains [] y = from y (first y ys) in let less = h.1 in let no : ⊥ = omega arith in no)
same_rising (x ∷ xs) [] p q to from = absurd (let h : Contains [] x = to x (first x xs) in let less = h.1 in let no : ⊥ = omega arith in no)
same_rising (x ∷ xs) (y ∷ ys) p q to from =
    let same : x ≡ y = heads (member y ys x (to x (first x xs))) (member x xs y (from y (first y ys))) in
    let rest : xs ≡ ys = same_rising xs ys (rest_rises x xs p) (rest_rises y ys q)
    (λ n h. tail y ys n (let less = above x xs p n h in λ e. let no : ⊥ = omega arith in no) (to n (later x n xs h)))
    (λ n h. tail x xs n (let less = above y ys q n h in λ e. let no : ⊥ = omega arith in no) (from n (later y n ys h))) in
    ap (λ zs. x ∷ zs) rest ∙ ap (λ z. z ∷ ys) same
  where
    heads : ((y ≡ x) ⊎ Contains ys x) → ((x ≡ y) ⊎ Contains xs y) → x ≡ y
    heads (inl e) _ = sym e
    heads (inr h) (inl e) = e
    heads (inr h) (inr k) = let up = above y ys q x h in let down = above x xs p y k in absurd (let no : ⊥ = omega arith in no)

    tail : (z : ℕ) (zs : List ℕ) (n : ℕ) → (z ≡ n → ⊥) → Contains (z ∷ zs) n → Contains zs n
    tail z zs n differ h = pick (member z zs n h)
      where
        pick : ((z ≡ n) ⊎ Contains zs n) → Contains zs n
        pick (inl e) = absurd (differ e)
        pick (inr k) = k

-- one more number, above all others
pub rising_push : (xs : List ℕ) (n : ℕ) → IsStrictlyIncreasing xs → All (λ m. m < n) xs → IsStrictlyIncreasing (xs ++ n ∷ [])
rising_push xs n up below k h = by_order (cases_order (k + 1) (length xs))
  where
    long : length (xs ++ n ∷ []) ≡ length xs + 1
    long = length-append xs (n ∷ [])

    front : (i : ℕ) → i < length xs → get_or (xs ++ n ∷ []) i 0 ≡ get_or xs i 0
    front i less = get_or_append_left xs (n ∷ []) 0 i less

    by_order : ((k + 1 ≡ length xs) ⊎ ((k + 1 < length xs) ⊎ (length xs < k + 1))) → get_or (xs ++ n ∷ []) k 0 < get_or (xs ++ n ∷ []) (k + 1) 0
    by_order (inl same) =
        let a = front k (omega (arith, same)) in
        let b : get_or (xs ++ n ∷ []) (k + 1) 0 ≡ n = get_or_push xs n 0 (k + 1) (sym same) in
        let c = below k 0 (omega (arith, same)) in
        omega (arith, a, b, c)
    by_order (inr (inl less)) =
        let a = front k (omega (arith, less)) in
        let b = front (k + 1) less in
        let c = up k less in
        omega (arith, a, b, c)
    by_order (inr (inr more)) = absurd (let no : ⊥ = omega (arith, more, h, long) in no)
