-- Texts in the order of their labels are determined by which they are.
use Rattle.std.proofs.Common.{◌≡◌, ◌⊎◌, inl, inr, ℕ, Bool, true, false, ◌||◌, List, [], ◌∷◌, map, refl, ap, sym, ◌∙◌, subst}
use Rattle.std.specs.List.{AllByRecursion, list_any}
use Rattle.std.specs.List.Sorted.{IsStrictlySortedBy}
use Rattle.std.specs.Cmp.Lexicographic.{bytes_decides, slice_cmp}
use Rattle.std.specs.Ordering.{nat_cmp, ordering_reverse}
use Rattle.std.specs.Str.{bytes_eq}
use Rattle.std.specs.Cmp.{IsTotalOrder}
use Rattle.std.specs.declared.cmp.Ordering.{Ordering}
use Rattle.std.specs.declared.cmp.Ordering.TheVariants.{Less, Equal, Greater}
use Rattle.std.proofs.lemmas.Cmp.{nat_list_cmp_total}
use Rattle.star_shards.specs.Entries.{label_of}
use Rattle.star_shards.specs.Joined.{is_among}

abbrev cmp : List ℕ → List ℕ → Ordering
cmp = slice_cmp nat_cmp

total : IsTotalOrder (slice_cmp nat_cmp)
total = nat_list_cmp_total

both_less : (o : Ordering) → o ≡ Less → o ≡ Greater → ⊥
both_less o h k = cc

not_both : (a b : List ℕ) → cmp a b ≡ Less → cmp b a ≡ Less → ⊥
not_both a b h k = both_less (cmp a b) h (total.antisymm a b ∙ ap ordering_reverse k)

own_bytes : (s : List ℕ) → bytes_eq s s ≡ true
own_bytes s = (bytes_decides s s).1 refl

pub here : (t : List ℕ) (ts : List (List ℕ)) → is_among (t ∷ ts) t ≡ true
here t ts = ap (λ b. b || is_among ts t) (own_bytes t)

or_true : (a b : Bool) → (a || b) ≡ true → (a ≡ true) ⊎ (b ≡ true)
or_true true b h = inl refl
or_true false b h = inr h

pub among : (t s : List ℕ) (ts : List (List ℕ)) → is_among (t ∷ ts) s ≡ true → (s ≡ t) ⊎ (is_among ts s ≡ true)
among t s ts h = by (or_true (bytes_eq s t) (is_among ts s) h)
  where
    by : ((bytes_eq s t ≡ true) ⊎ (is_among ts s ≡ true)) → (s ≡ t) ⊎ (is_among ts s ≡ true)
    by (inl e) = inl ((bytes_decides s t).0 e)
    by (inr k) = inr k

-- a label is below that of each of these
below : (k : List ℕ) (ts : List (List ℕ)) (t : List ℕ) → AllByRecursion (λ l. cmp k l ≡ Less) (map label_of ts) → is_among ts t ≡ true → cmp k (label_of t) ≡ Less
below k [] t h c = cc
below k (x ∷ xs) t h c = by (λ g. below k xs t h.1 g) (among x t xs c)
  where
    by : (is_among xs t ≡ true → cmp k (label_of t) ≡ Less) → ((t ≡ x) ⊎ (is_among xs t ≡ true)) → cmp k (label_of t) ≡ Less
    by more (inl e) = subst (λ u. cmp k (label_of u) ≡ Less) (sym e) h.0
    by more (inr g) = more g

same_truth : (a b : Bool) → (a ≡ true → b ≡ true) → (b ≡ true → a ≡ true) → a ≡ b
same_truth true true f g = refl
same_truth true false f g = sym (f refl)
same_truth false true f g = g refl
same_truth false false f g = refl

module _ (x : List ℕ) (xs : List (List ℕ)) (y : List ℕ) (ys : List (List ℕ)) (u : AllByRecursion (λ l. cmp (label_of x) l ≡ Less) (map label_of xs)) (v : AllByRecursion (λ l. cmp (label_of y) l ≡ Less) (map label_of ys)) (f : (t : List ℕ) → is_among (x ∷ xs) t ≡ true → is_among (y ∷ ys) t ≡ true) (g : (t : List ℕ) → is_among (y ∷ ys) t ≡ true → is_among (x ∷ xs) t ≡ true) where
  one_first : x ≡ y
  one_first = by (among y x ys (f x (here x xs))) (among x y xs (g y (here y ys)))
    where
      by : ((x ≡ y) ⊎ (is_among ys x ≡ true)) → ((y ≡ x) ⊎ (is_among xs y ≡ true)) → x ≡ y
      by (inl e) h = e
      by (inr c) (inl e) = sym e
      by (inr c) (inr d) = absurd (not_both (label_of y) (label_of x) (below (label_of y) ys x v c) (below (label_of x) xs y u d))

  rest_to : (t : List ℕ) → is_among xs t ≡ true → is_among ys t ≡ true
  rest_to t c = by (among y t ys (f t (later t c)))
    where
      later : (t : List ℕ) → is_among xs t ≡ true → is_among (x ∷ xs) t ≡ true
      later t c = or_later (bytes_eq t x) (is_among xs t) c
        where
          or_later : (a b : Bool) → b ≡ true → (a || b) ≡ true
          or_later true b h = refl
          or_later false b h = h

      by : ((t ≡ y) ⊎ (is_among ys t ≡ true)) → is_among ys t ≡ true
      by (inr d) = d
      by (inl e) =
          let less : cmp (label_of x) (label_of x) ≡ Less = subst (λ w. cmp (label_of x) (label_of w) ≡ Less) (e ∙ sym one_first) (below (label_of x) xs t u c) in
          absurd (not_both (label_of x) (label_of x) less less)

-- two rows in the order of their labels, of the same texts, are one
pub one_row : (xs ys : List (List ℕ)) → IsStrictlySortedBy (slice_cmp nat_cmp) (map label_of xs) → IsStrictlySortedBy (slice_cmp nat_cmp) (map label_of ys)
    → ((t : List ℕ) → is_among xs t ≡ true → is_among ys t ≡ true) → ((t : List ℕ) → is_among ys t ≡ true → is_among xs t ≡ true) → xs ≡ ys
unfolding IsStrictlySortedBy
one_row [] [] h k f g = refl
one_row [] (y ∷ ys) h k f g = absurd (let no : false ≡ true = g y (here y ys) in let none : ⊥ = cc in none)
one_row (x ∷ xs) [] h k f g = absurd (let no : false ≡ true = f x (here x xs) in let none : ⊥ = cc in none)
one_row (x ∷ xs) (y ∷ ys) h k f g =
    let first = one_first x xs y ys h.0 k.0 f g in
    let rest = one_row xs ys h.1 k.1 (rest_to x xs y ys h.0 k.0 f g) (rest_to y ys x xs k.0 h.0 g f) in
    ap (λ z. z ∷ xs) first ∙ ap (λ zs. y ∷ zs) rest
