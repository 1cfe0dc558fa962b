-- Texts at a number of levels, by the number below it.
use Rattle.std.proofs.Common.{◌≡◌, ℕ, zero, suc, ◌+◌, ◌-◌, ◌<◌, List, [], ◌∷◌, map, Option, refl, ap, arith}
use Rattle.star_store.specs.declared.values.Value.{Value}
use Rattle.star_store.specs.declared.values.Cell.{Cell}
use Rattle.star_store.specs.declared.fault.StoreFault.TheVariants.{Deep}
use Rattle.star_store.specs.Spend.{Lacks, spend_then, visited}
use Rattle.star_store.specs.Text.{Say, all_said, say_value, text}

pub text_at_none : (names : List (List ℕ)) (look : Value → Option Cell) (path : List Value) (v : Value) (out : List ℕ) (n : ℕ) → text names look 0 path v out n ≡ Lacks Deep n
unfolding text
text_at_none names look path v out n = refl

pub text_at : (names : List (List ℕ)) (look : Value → Option Cell) (levels : ℕ) (path : List Value) (v : Value) (out : List ℕ) (n : ℕ) → 0 < levels → text names look levels path v out n ≡ visited (say_value names look (text names look (levels - 1)) path v out) n
unfolding text
text_at names look zero path v out n h = absurd (omega arith)
text_at names look (suc levels) path v out n h = ap (λ k. visited (say_value names look (text names look k) path v out) n) (let e : levels ≡ suc levels - 1 = omega arith in e)

all_said_more : (f : ℕ → Say) (n m i : ℕ) (out : List ℕ) (left : ℕ) → n ≡ m + 1 → all_said f n i out left ≡ spend_then (f i out left) (all_said f m (i + 1))
all_said_more f zero m i out left h = absurd (omega arith)
all_said_more f (suc n) m i out left h = ap (λ k. spend_then (f i out left) (all_said f k (i + 1))) (let e : n ≡ m = omega arith in e)

pub all_said_next : (f : ℕ → Say) (n i : ℕ) (out : List ℕ) (left : ℕ) → i < n → all_said f (n - i) i out left ≡ spend_then (f i out left) (all_said f (n - (i + 1)) (i + 1))
all_said_next f n i out left h = all_said_more f (n - i) (n - (i + 1)) i out left (omega arith)

pub map_self : (xs : List ℕ) → map (λ x. x) xs ≡ xs
map_self [] = refl
map_self (x ∷ xs) = ap (λ ys. x ∷ ys) (map_self xs)
