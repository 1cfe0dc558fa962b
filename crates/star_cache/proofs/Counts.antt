-- The row of the loaders' counts, written one after the other.
use Rattle.std.proofs.Common.{◌≡◌, ◌+◌, ◌-◌, ◌<◌, ◌≤◌, ℕ, zero, suc, List, [], ◌∷◌, ◌++◌, length, map, take, get_or, set, replicate, refl, ap, ◌∙◌, arith}
use Rattle.std.proofs.lemmas.List.{take_all}
use Rattle.star_cache.specs.State.{LoaderState}

-- a row of counts of the first k loaders, with one more written
pub counts-more : (f : LoaderState → ℕ) (k m : ℕ) (xs : List LoaderState) (d : LoaderState) → k < length xs → set (map f (take k xs) ++ replicate (suc m) 0) k (f (get_or xs k d)) ≡ map f (take (suc k) xs) ++ replicate m 0
counts-more f zero m [] d h = absurd (omega arith)
counts-more f zero m (x ∷ xs) d h = refl
counts-more f (suc k) m [] d h = absurd (omega arith)
counts-more f (suc k) m (x ∷ xs) d h = ap (λ row. f x ∷ row) (counts-more f k m xs d (omega arith))

-- the same with as many zeros after as there are places left
pub counts-next : (k : ℕ) (xs : List LoaderState) (d : LoaderState) (row : List ℕ) → k < length xs → length xs ≤ 64 → row ≡ map (λ (l : LoaderState). l.count) (take k xs) ++ replicate (64 - k) 0 → set row k (get_or xs k d).count ≡ map (λ (l : LoaderState). l.count) (take (k + 1) xs) ++ replicate (64 - (k + 1)) 0
counts-next k xs d row h few is =
    let Before : ℕ → List ℕ = λ m. set (map (λ (l : LoaderState). l.count) (take k xs) ++ replicate m 0) k (get_or xs k d).count in
    let After : ℕ → List ℕ = λ j. map (λ (l : LoaderState). l.count) (take j xs) ++ replicate (64 - (k + 1)) 0 in
    let left : 64 - k ≡ suc (64 - (k + 1)) = omega (arith, h, few) in
    let next : suc k ≡ k + 1 = omega arith in
    ap (λ r. set r k (get_or xs k d).count) is ∙ (ap Before left ∙ (counts-more (λ (l : LoaderState). l.count) k (64 - (k + 1)) xs d h ∙ ap After next))

-- the row after the last loader
pub counts-done : (k : ℕ) (xs : List LoaderState) (row : List ℕ) → k ≡ length xs → row ≡ map (λ (l : LoaderState). l.count) (take k xs) ++ replicate (64 - k) 0 → row ≡ map (λ (l : LoaderState). l.count) xs ++ replicate (64 - length xs) 0
counts-done k xs row all is =
    let Row : ℕ → List ℕ = λ j. map (λ (l : LoaderState). l.count) (take j xs) ++ replicate (64 - j) 0 in
    let Whole : List LoaderState → List ℕ = λ ls. map (λ (l : LoaderState). l.count) ls ++ replicate (64 - length xs) 0 in
    is ∙ (ap Row all ∙ ap Whole (take_all (length xs) xs (omega arith)))
