-- Names that ascend, and the result of a search among them.
use Rattle.std.proofs.Common.{◌≡◌, ℕ, ◌+◌, ◌<◌, ◌≤◌, zero, suc, true, false, List, [], ◌∷◌, length, get_or, map, inl, inr, Some, None, Ok, Err, String, string_bytes, refl, ap, sym, ◌∙◌, arith}
use Rattle.std.specs.List.{AllByRecursion}
use Rattle.std.specs.declared.alloc.Global.{Global}
use Rattle.std.specs.declared.cmp.Ordering.{Ordering}
use Rattle.std.specs.declared.cmp.Ordering.TheVariants.{Less, Equal, Greater}
use Rattle.std.specs.Ordering.{is_eq, is_lt, nat_cmp, ordering_index, ordering_reverse}
use Rattle.std.specs.Cmp.Lexicographic.{slice_cmp}
use Rattle.std.specs.List.Sorted.{IsBinarySearchResult, IsNonDecreasingBy, IsStrictlySortedBy}
use Rattle.std.proofs.lemmas.Cmp.{nat_list_cmp_total}
use Rattle.std.proofs.lemmas.Map.Lookups.{exact_bytes}
use Rattle.std.proofs.lemmas.List.Sorted.{searchable_from_sorted}
use Rattle.std.proofs.lemmas.Map.Keys.{Less-from_sorted}
use Rattle.std.proofs.lemmas.Map.Text.{is_eq-slice_cmp}
use Rattle.std.proofs.lemmas.Bool.{cases_lt, cond-false, cond-true}
use Rattle.star_store.specs.declared.values.Value.{Value}
use Rattle.star_store.specs.Store.{ascend, global_of}

abbrev Global_ : Type 0
Global_ = String Global × Value

abbrev order : List ℕ → List ℕ → Ordering
order = slice_cmp nat_cmp

abbrev names : List Global_ → List (List ℕ)
names gs = map (λ g. string_bytes g.0) gs

abbrev pairs : List Global_ → List (List ℕ × Value)
pairs gs = map (λ g. (string_bytes g.0, g.1)) gs

-- the question of the search to each global
abbrev pub asked : List ℕ → Global_ → Ordering
asked name g = order (string_bytes g.0) name

-- ---- names that ascend

less : (o : Ordering) → is_lt o ≡ true → o ≡ Less
less Less h = refl
less Equal h = cc
less Greater h = cc

below_all : (x y : List ℕ) (ys : List (List ℕ)) → order x y ≡ Less → AllByRecursion (λ z. order y z ≡ Less) ys → AllByRecursion (λ z. order x z ≡ Less) ys
below_all x y [] h a = tt
below_all x y (z ∷ zs) h a = (nat_list_cmp_total.trans x y z h a.0, below_all x y zs h a.1)

before_next : (x y : List ℕ) (ys : List (List ℕ)) → is_lt (order x y) ≡ true → ascend (y ∷ ys) → ascend (x ∷ y ∷ ys)
unfolding IsStrictlySortedBy
before_next x y ys h s = let l = less (order x y) h in ((l, below_all x y ys l s.0), s)

pub before_none : (name : List ℕ) (others : List Global_) → length others < 1 → ascend (name ∷ names others)
unfolding IsStrictlySortedBy
before_none name [] h = (tt, tt)
before_none name (g ∷ gs) h = absurd (omega arith)

pub before_some : (name : List ℕ) (others : List Global_) (g : Global_) → 1 ≤ length others → g ≡ get_or others 0 g → is_lt (order name (string_bytes g.0)) ≡ true → ascend (names others) → ascend (name ∷ names others)
before_some name [] g h e l s = absurd (omega arith)
before_some name (x ∷ xs) g h e l s = before_next name (string_bytes x.0) (names xs) (ap (λ y. is_lt (order name (string_bytes y.0))) (sym e) ∙ l) s

pub none_ascend : (gs : List Global_) → length gs < 1 → ascend (names gs)
unfolding IsStrictlySortedBy
none_ascend [] h = tt
none_ascend (g ∷ gs) h = absurd (omega arith)

-- ---- the global of a name

abbrev key : List Global_ → ℕ → Global_ → List ℕ
key gs n d = string_bytes (get_or gs n d).0

key_is : (gs : List Global_) (n : ℕ) (d : Global_) → n < length gs → get_or (names gs) n [] ≡ key gs n d
key_is [] n d h = absurd (omega arith)
key_is (x ∷ xs) zero d h = refl
key_is (x ∷ xs) (suc n) d h = key_is xs n d (omega arith)

count : (gs : List Global_) → length (names gs) ≡ length gs
count [] = refl
count (x ∷ xs) = ap suc (count xs)

-- an earlier name is less than a later one
earlier : (gs : List Global_) (i j : ℕ) (d : Global_) → ascend (names gs) → i < j → j < length gs → order (key gs i d) (key gs j d) ≡ Less
earlier gs i j d s h k =
    let below : j < length (names gs) = omega (arith, count gs) in
    let low : i < length gs = omega arith in
    rw (← key_is gs i d low, ← key_is gs j d k) (Less-from_sorted order (names gs) i j [] s h below)

skipped : (name : List ℕ) (x : Global_) (xs : List Global_) → is_eq (asked name x) ≡ false → global_of name (pairs (x ∷ xs)) ≡ global_of name (pairs xs)
skipped name x xs h = cond-false _ (Some x.1) (global_of name (pairs xs)) (sym (is_eq-slice_cmp (string_bytes x.0) name) ∙ h)

tail : (x : Global_) (xs : List Global_) → ascend (names (x ∷ xs)) → ascend (names xs)
unfolding IsStrictlySortedBy
tail x xs s = s.1

found_at : (name : List ℕ) (gs : List Global_) (n : ℕ) (d : Global_) → ascend (names gs) → n < length gs → order (key gs n d) name ≡ Equal → global_of name (pairs gs) ≡ Some (get_or gs n d).1
found_at name [] n d s h e = absurd (omega arith)
found_at name (x ∷ xs) zero d s h e = cond-true _ (Some x.1) (global_of name (pairs xs)) (sym (is_eq-slice_cmp (string_bytes x.0) name) ∙ ap is_eq e)
found_at name (x ∷ xs) (suc n) d s h e =
    let before : order (string_bytes x.0) (key xs n d) ≡ Less = earlier (x ∷ xs) 0 (suc n) d s (omega arith) h in
    let apart : asked name x ≡ Less = ap (order (string_bytes x.0)) (sym (exact_bytes (key xs n d) name e)) ∙ before in
    skipped name x xs (ap is_eq apart) ∙ found_at name xs n d (tail x xs s) (omega arith) e

missed : (name : List ℕ) (gs : List Global_) (d : Global_) → ((n : ℕ) → n < length gs → is_eq (asked name (get_or gs n d)) ≡ false) → global_of name (pairs gs) ≡ None
missed name [] d h = refl
missed name (x ∷ xs) d h = skipped name x xs (h 0 (omega arith)) ∙ missed name xs d (λ n l. h (suc n) (omega arith))

-- ---- the search

non_decreasing : (gs : List Global_) (l : List ℕ) → ascend (names gs) → IsNonDecreasingBy (λ g. ordering_index (asked l g)) gs
non_decreasing gs l s =
    searchable_from_sorted nat_list_cmp_total (λ g. string_bytes g.0) gs l
    (λ k d a b. ap is_lt (nat_list_cmp_total.antisymm (key gs (k + 1) d) (key gs k d) ∙ ap ordering_reverse (earlier gs k (k + 1) d s (omega arith) b)))

pub found : (name : List ℕ) (gs : List Global_) (i : ℕ) (d : Global_) → ascend (names gs) → IsBinarySearchResult (asked name) gs (Ok i) → i < length gs → Some (get_or gs i d).1 ≡ global_of name (pairs gs)
found name gs i d s h b = sym (found_at name gs i d s b (h d))

pub absent : (name : List ℕ) (gs : List Global_) (i : ℕ) → ascend (names gs) → IsBinarySearchResult (asked name) gs (Err i) → None ≡ global_of name (pairs gs)
absent name [] i s h = refl
absent name (x ∷ xs) i s h =
    let p = h (non_decreasing (x ∷ xs) name s) in
    sym (missed name (x ∷ xs) x (λ n l. elim (cases_lt n i) [
      | inl low ↦ ap is_eq (p.0 n x (omega arith) low)
      | inr high ↦ ap is_eq (p.1 n x high l)
    ]))
