-- The fields of a struct: names that rise, names and values side by side, and the field of a name.
use Rattle.std.proofs.Common.{◌≡◌, ℕ, ◌+◌, ◌<◌, ◌≤◌, zero, suc, Bool, true, false, ◌&&◌, List, [], ◌∷◌, length, get_or, map, zip, inl, inr, Option, Some, None, Ok, Err, slice_get, refl, ap, sym, ◌∙◌, arith}
use Rattle.std.specs.List.{AllByRecursion}
use Rattle.std.specs.declared.cmp.Ordering.{Ordering}
use Rattle.std.specs.declared.cmp.Ordering.TheVariants.{Less, Equal, Greater}
use Rattle.std.specs.Ordering.{is_eq, is_lt, nat_cmp, ordering_index, ordering_reverse}
use Rattle.std.specs.Cmp.Lexicographic.{slice_cmp}
use Rattle.std.specs.List.Sorted.{IsBinarySearchResult, IsNonDecreasingBy, IsStrictlySortedBy}
use Rattle.std.proofs.lemmas.Cmp.{nat_list_cmp_total}
use Rattle.std.proofs.lemmas.Map.Lookups.{exact_bytes}
use Rattle.std.proofs.lemmas.List.Sorted.{searchable_from_sorted}
use Rattle.std.proofs.lemmas.Map.Keys.{Less-from_sorted}
use Rattle.std.proofs.lemmas.Map.Text.{is_eq-slice_cmp}
use Rattle.std.proofs.lemmas.Bool.{and_parts, cases_lt, cond-false, cond-true}
use Rattle.star_store.specs.declared.values.Value.{Value}
use Rattle.star_store.specs.Fields.{Fields, below_next, names_of, rises, values_of}
use Rattle.star_store.specs.Store.{ascend, global_of}

abbrev order : List ℕ → List ℕ → Ordering
order = slice_cmp nat_cmp

-- names and values side by side

pub names_beside : (ns : List (List ℕ)) (vs : List Value) → length ns ≡ length vs → names_of (zip ns vs) ≡ ns
names_beside [] vs h = refl
names_beside (n ∷ ns) [] h = absurd (omega arith)
names_beside (n ∷ ns) (v ∷ vs) h = ap (λ ms. n ∷ ms) (names_beside ns vs (omega arith))

pub values_beside : (ns : List (List ℕ)) (vs : List Value) → length ns ≡ length vs → values_of (zip ns vs) ≡ vs
values_beside [] [] h = refl
values_beside [] (v ∷ vs) h = absurd (omega arith)
values_beside (n ∷ ns) [] h = absurd (omega arith)
values_beside (n ∷ ns) (v ∷ vs) h = ap (λ ws. v ∷ ws) (values_beside ns vs (omega arith))

pub as_many : (ns : List (List ℕ)) (vs : List Value) → length ns ≡ length vs → length ns ≡ length (zip ns vs)
as_many [] vs h = refl
as_many (n ∷ ns) [] h = absurd (omega arith)
as_many (n ∷ ns) (v ∷ vs) h = ap suc (as_many ns vs (omega arith))

abbrev pub both_of : Option (List ℕ) → Option Value → Option (List ℕ × Value)
both_of (Some n) (Some v) = Some (n, v)
both_of _ _ = None

pub at_parts : (fs : Fields) (i : ℕ) → slice_get fs i ≡ both_of (slice_get (names_of fs) i) (slice_get (values_of fs) i)
at_parts [] i = refl
at_parts (f ∷ fs) zero = refl
at_parts (f ∷ fs) (suc i) = at_parts fs i

-- names that rise ascend

less : (o : Ordering) → is_lt o ≡ true → o ≡ Less
less Less h = refl
less Equal h = cc
less Greater h = cc

below_all : (x y : List ℕ) (ys : List (List ℕ)) → order x y ≡ Less → AllByRecursion (λ z. order y z ≡ Less) ys → AllByRecursion (λ z. order x z ≡ Less) ys
below_all x y [] h a = tt
below_all x y (z ∷ zs) h a = (nat_list_cmp_total.trans x y z h a.0, below_all x y zs h a.1)

pub rise_ascends : (ns : List (List ℕ)) → rises ns ≡ true → ascend ns
unfolding IsStrictlySortedBy
rise_ascends [] h = tt
rise_ascends (n ∷ []) h = (tt, tt)
rise_ascends (n ∷ m ∷ ms) h =
    let both = and_parts (below_next n (m ∷ ms)) (rises (m ∷ ms)) h in
    let rest = rise_ascends (m ∷ ms) both.1 in
    let l = less (order n m) both.0 in
    ((l, below_all n m ms l rest.0), rest)

-- the field of a name

-- the question of the search to each name
abbrev pub asked : List ℕ → List ℕ → Ordering
asked name n = order n name

earlier : (ns : List (List ℕ)) (i j : ℕ) → ascend ns → i < j → j < length ns → order (get_or ns i []) (get_or ns j []) ≡ Less
earlier ns i j s h k = Less-from_sorted order ns i j [] s h k

tail : (n : List ℕ) (ns : List (List ℕ)) → ascend (n ∷ ns) → ascend ns
unfolding IsStrictlySortedBy
tail n ns s = s.1

skipped : (name n : List ℕ) (v : Value) (ns : List (List ℕ)) (vs : List Value) → is_eq (asked name n) ≡ false → global_of name (zip (n ∷ ns) (v ∷ vs)) ≡ global_of name (zip ns vs)
skipped name n v ns vs h = cond-false _ (Some v) (global_of name (zip ns vs)) (sym (is_eq-slice_cmp n name) ∙ h)

found_at : (name : List ℕ) (ns : List (List ℕ)) (vs : List Value) (i : ℕ) → ascend ns → length ns ≡ length vs → i < length ns → order (get_or ns i []) name ≡ Equal → global_of name (zip ns vs) ≡ slice_get vs i
found_at name [] vs i s l h e = absurd (omega arith)
found_at name (n ∷ ns) [] i s l h e = absurd (omega arith)
found_at name (n ∷ ns) (v ∷ vs) zero s l h e = cond-true _ (Some v) (global_of name (zip ns vs)) (sym (is_eq-slice_cmp n name) ∙ ap is_eq e)
found_at name (n ∷ ns) (v ∷ vs) (suc i) s l h e =
    let before : order n (get_or ns i []) ≡ Less = earlier (n ∷ ns) 0 (suc i) s (omega arith) h in
    let apart : asked name n ≡ Less = ap (order n) (sym (exact_bytes (get_or ns i []) name e)) ∙ before in
    skipped name n v ns vs (ap is_eq apart) ∙ found_at name ns vs i (tail n ns s) (omega arith) (omega arith) e

missed : (name : List ℕ) (ns : List (List ℕ)) (vs : List Value) → ((i : ℕ) → i < length ns → is_eq (asked name (get_or ns i [])) ≡ false) → global_of name (zip ns vs) ≡ None
missed name [] vs h = refl
missed name (n ∷ ns) [] h = refl
missed name (n ∷ ns) (v ∷ vs) h = skipped name n v ns vs (h 0 (omega arith)) ∙ missed name ns vs (λ i l. h (suc i) (omega arith))

non_decreasing : (ns : List (List ℕ)) (name : List ℕ) → ascend ns → IsNonDecreasingBy (λ n. ordering_index (asked name n)) ns
non_decreasing ns name s =
    searchable_from_sorted nat_list_cmp_total (λ (n : List ℕ). n) ns name
    (λ k d a b. ap is_lt (nat_list_cmp_total.antisymm (get_or ns (k + 1) d) (get_or ns k d) ∙ ap ordering_reverse (Less-from_sorted order ns k (k + 1) d s (omega arith) b)))

pub found : (name : List ℕ) (ns : List (List ℕ)) (vs : List Value) (i : ℕ) → ascend ns → length ns ≡ length vs → IsBinarySearchResult (asked name) ns (Ok i) → i < length ns → slice_get vs i ≡ global_of name (zip ns vs)
found name ns vs i s l h b = sym (found_at name ns vs i s l b (h []))

pub absent : (name : List ℕ) (ns : List (List ℕ)) (vs : List Value) (i : ℕ) → ascend ns → IsBinarySearchResult (asked name) ns (Err i) → None ≡ global_of name (zip ns vs)
absent name ns vs i s h =
    let p = h (non_decreasing ns name s) in
    sym (missed name ns vs (λ n l. elim (cases_lt n i) [
      | inl low ↦ ap is_eq (p.0 n [] (omega arith) low)
      | inr high ↦ ap is_eq (p.1 n [] high l)
    ]))
