-- The order of labels: the labels of files ascend, so each is the label of one file.
use Rattle.std.proofs.Common.{◌≡◌, ◌⊎◌, inl, inr, ℕ, ◌<◌, List, [], length, get_or, map, refl, sym, ap, ◌∙◌, arith}
use Rattle.std.specs.declared.cmp.Ordering.{Ordering}
use Rattle.std.specs.declared.cmp.Ordering.TheVariants.{Less, Equal, Greater}
use Rattle.std.specs.Ordering.{nat_cmp, ordering_reverse}
use Rattle.std.specs.Cmp.Lexicographic.{slice_cmp}
use Rattle.std.proofs.lemmas.Bool.{cases_order}
use Rattle.std.proofs.lemmas.Cmp.{nat_list_cmp_total}
use Rattle.std.proofs.lemmas.List.{get_or-map, length-map}
use Rattle.std.proofs.lemmas.Map.Keys.{Less-from_sorted}
use Rattle.star_label.specs.Files.{File, IsOrdered, label_at}

-- the order of two texts
abbrev pub order : List ℕ → List ℕ → Ordering
order = slice_cmp nat_cmp

own : (l : List ℕ) (o : Ordering) → order l l ≡ o → o ≡ ordering_reverse o → o ≡ Equal
own l Less e h = cc
own l Equal e h = refl
own l Greater e h = cc

pub self : (l : List ℕ) → order l l ≡ Equal
self l = own l (order l l) refl (nat_list_cmp_total.antisymm l l)

pub not_below : (a b : List ℕ) → a ≡ b → order a b ≡ Less → ⊥
not_below a b e h = let k : order a a ≡ Less = ap (order a) e ∙ h in let u : Equal ≡ Less = sym (self a) ∙ k in cc

label_is : (files : List File) (n : ℕ) → n < length files → get_or (map (λ f. f.0) files) n [] ≡ label_at files n
label_is files n h = get_or-map (λ (f : File). f.0) files n ([], []) [] h

less : (files : List File) (m n : ℕ) → IsOrdered files → m < n → n < length files → order (label_at files m) (label_at files n) ≡ Less
less files m n ordered low high =
    let below : n < length (map (λ f. f.0) files) = let e = length-map files (λ (f : File). f.0) in omega (arith, e) in
    let first : m < length files = omega arith in
    rw (← label_is files m first, ← label_is files n high) (Less-from_sorted order (map (λ f. f.0) files) m n [] ordered low below)

-- a label is the label of one file
pub one_file : (files : List File) (i j : ℕ) → IsOrdered files → i < length files → j < length files → label_at files i ≡ label_at files j → i ≡ j
one_file files i j ordered h k e = by_order (cases_order i j)
  where
    by_order : ((i ≡ j) ⊎ ((i < j) ⊎ (j < i))) → i ≡ j
    by_order (inl same) = same
    by_order (inr (inl low)) = absurd (not_below (label_at files i) (label_at files j) e (less files i j ordered low k))
    by_order (inr (inr low)) = absurd (not_below (label_at files j) (label_at files i) (sym e) (less files j i ordered low h))
