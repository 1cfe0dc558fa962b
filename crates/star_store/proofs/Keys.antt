-- Keys at a number of levels, by the number below it.
use Rattle.std.proofs.Common.{◌≡◌, ℕ, zero, suc, ◌+◌, ◌-◌, if◌then◌else◌, ◌<◌, ◌≤◌, nat_lt, Bool, false, List, Option, Some, refl, ap, sym, ◌∙◌, arith}
use Rattle.star_store.specs.declared.values.Value.{Value}
use Rattle.star_store.specs.declared.values.Value.TheVariants as value
use Rattle.star_store.specs.declared.values.Cell.{Cell}
use Rattle.star_store.specs.declared.values.Cell.TheVariants as cell
use Rattle.star_store.specs.Key.{is_key, key_value, same_key, same_key_value, all_pass, check, check_cell, check_each, check_value}
use Rattle.star_store.specs.Spend.{Lacks, visited}
use Rattle.star_store.specs.declared.fault.StoreFault.TheVariants.{Deep, Steps}

pub is_key_at_none : (look : Value → Option Cell) (v : Value) → is_key look 0 v ≡ false
unfolding is_key
is_key_at_none look v = refl

pub is_key_at : (look : Value → Option Cell) (n : ℕ) (v : Value) → 0 < n → is_key look n v ≡ key_value look (is_key look (n - 1)) v
unfolding is_key
is_key_at look zero v h = absurd (omega arith)
is_key_at look (suc n) v h = ap (λ k. key_value look (is_key look k) v) (let e : n ≡ suc n - 1 = omega arith in e)

pub same_key_at_none : (look : Value → Option Cell) (x y : Value) → same_key look 0 x y ≡ false
unfolding same_key
same_key_at_none look x y = refl

pub same_key_at : (look : Value → Option Cell) (n : ℕ) (x y : Value) → 0 < n → same_key look n x y ≡ same_key_value look (same_key look (n - 1)) x y
unfolding same_key
same_key_at look zero x y h = absurd (omega arith)
same_key_at look (suc n) x y h = ap (λ k. same_key_value look (same_key look k) x y) (let e : n ≡ suc n - 1 = omega arith in e)

all_pass_more : (f : ℕ → Bool) (n m i : ℕ) → n ≡ m + 1 → all_pass f n i ≡ (if f i then all_pass f m (i + 1) else false)
all_pass_more f zero m i h = absurd (omega arith)
all_pass_more f (suc n) m i h = ap (λ k. if f i then all_pass f k (i + 1) else false) (let e : n ≡ m = omega arith in e)

pub all_pass_next : (f : ℕ → Bool) (n i : ℕ) → i < n → all_pass f (n - i) i ≡ (if f i then all_pass f (n - (i + 1)) (i + 1) else false)
all_pass_next f n i h = all_pass_more f (n - i) (n - (i + 1)) i (omega arith)

pub check_at_none : (look : Value → Option Cell) (v : Value) (n : ℕ) → check look 0 v n ≡ Lacks Deep n
unfolding check
check_at_none look v n = refl

pub check_at : (look : Value → Option Cell) (levels : ℕ) (v : Value) (n : ℕ) → 0 < levels → check look levels v n ≡ visited (check_value look (check look (levels - 1)) v) n
unfolding check
check_at look zero v n h = absurd (omega arith)
check_at look (suc levels) v n h = ap (λ k. visited (check_value look (check look k) v) n) (let e : levels ≡ suc levels - 1 = omega arith in e)

-- the check of a tuple, whose visit was paid
pub check_items : (look : Value → Option Cell) (levels n : ℕ) (v : Value) (h a : ℕ) (xs : List Value) → 0 < levels → 1 ≤ n → v ≡ value.Ref h a → look v ≡ Some (cell.Tuple xs)
    → check look levels v n ≡ check_each (check look (levels - 1)) xs (n - 1)
check_items look levels n v h a xs deep paid is read =
    let f = check look (levels - 1) in
    let rich : nat_lt n 1 ≡ false = grind arith in
    check_at look levels v n deep ∙ ap (λ b. if b then Lacks Steps n else check_value look f v (n - 1)) rich
    ∙ ap (λ w. check_value look f w (n - 1)) is ∙ ap (λ c. check_cell f c (n - 1)) (ap look (sym is) ∙ read)
