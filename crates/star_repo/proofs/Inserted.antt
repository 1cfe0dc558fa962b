-- A file that is put among ordered files.
use Rattle.std.proofs.Common.{◌≡◌, ◌+◌, ◌⊎◌, inl, inr, ℕ, List, [], ◌∷◌, length, map, true, refl, ap, sym, ◌∙◌, arith}
use Rattle.std.specs.Prelude.{All}
use Rattle.std.specs.BTreeMap.{insert_entry}
use Rattle.std.specs.List.{AllByRecursion}
use Rattle.std.specs.List.Sorted.{IsStrictlySortedBy}
use Rattle.std.specs.Ordering.{match_ordering, ordering_reverse}
use Rattle.std.specs.Str.{bytes_eq}
use Rattle.std.specs.declared.cmp.Ordering.{Ordering}
use Rattle.std.specs.declared.cmp.Ordering.TheVariants.{Less, Equal, Greater}
use Rattle.std.proofs.lemmas.Cmp.{nat_list_cmp_total}
use Rattle.std.proofs.lemmas.List.Elements.{All-contains, Contains-get_or}
use Rattle.std.proofs.lemmas.List.Sums.{sum_by-cons}
use Rattle.std.proofs.lemmas.Map.Lookups.{exact_bytes}
use Rattle.std.proofs.lemmas.Slice.Eq.{bytes_eq-Decides}
use Rattle.star_label.specs.Files.{File, IsOrdered}
use Rattle.star_repo.specs.Refusal.{size_of}
use Rattle.star_words.specs.Rows.{IsIn}
use Rattle.star_repo.proofs.Rows.{R, from_in, to_in}

pub bytes_same : (k l : List ℕ) → bytes_eq k l ≡ true → k ≡ l
bytes_same k l e = (bytes_eq-Decides k l).0 e

pub bytes_self : (l : List ℕ) → bytes_eq l l ≡ true
bytes_self l = (bytes_eq-Decides l l).1 refl

-- a fact of all members is one of each
pub all_of : {X : Type 0} (P : X → Type 0) (xs : List X) → ((x : X) → IsIn x xs → P x) → All P xs
all_of P xs h = λ k d low. h _ (to_in xs _ (Contains-get_or xs k d low))

pub each_of : {X : Type 0} (P : X → Type 0) (xs : List X) → All P xs → (x : X) → IsIn x xs → P x
each_of P xs h x i = All-contains P xs x h (from_in xs x i)

-- no file has the label
abbrev pub IsNew : List ℕ → List File → Type 0
IsNew k fs = (t : List ℕ) → IsIn (k, t) fs → ⊥

abbrev pub put : List File → List ℕ → List ℕ → List File
put fs k t = insert_entry R fs k t

pub put_from : (fs : List File) (k t : List ℕ) → IsNew k fs → (f : File) → IsIn f (put fs k t) → ((k, t) ≡ f) ⊎ IsIn f fs
put_from [] k t new f h = h
put_from (g ∷ gs) k t new f h = by (put_from gs k t (λ u j. new u (inr j)) f) (R k g.0) refl h
  where
    by : (IsIn f (put gs k t) → ((k, t) ≡ f) ⊎ IsIn f gs) → (o : Ordering) → R k g.0 ≡ o → IsIn f (match_ordering o ((k, t) ∷ g ∷ gs) ((g.0, t) ∷ gs) (g ∷ put gs k t)) → ((k, t) ≡ f) ⊎ IsIn f (g ∷ gs)
    by more Less e i = i
    by more Equal e i = absurd (new g.1 (inl (ap (λ x. (x, g.1)) (sym (exact_bytes k g.0 e)))))
    by more Greater e (inl i) = inr (inl i)
    by more Greater e (inr i) = elim (more i) [ inl j ↦ inl j | inr j ↦ inr (inr j) ]

pub put_to : (fs : List File) (k t : List ℕ) → IsNew k fs → (f : File) → ((k, t) ≡ f) ⊎ IsIn f fs → IsIn f (put fs k t)
put_to [] k t new f h = h
put_to (g ∷ gs) k t new f h = by (put_to gs k t (λ u j. new u (inr j)) f) (R k g.0) refl
  where
    onward : (((k, t) ≡ f) ⊎ IsIn f gs → IsIn f (put gs k t)) → ((k, t) ≡ f) ⊎ IsIn f (g ∷ gs) → IsIn f (g ∷ put gs k t)
    onward more (inl i) = inr (more (inl i))
    onward more (inr (inl i)) = inl i
    onward more (inr (inr i)) = inr (more (inr i))

    by : (((k, t) ≡ f) ⊎ IsIn f gs → IsIn f (put gs k t)) → (o : Ordering) → R k g.0 ≡ o → IsIn f (match_ordering o ((k, t) ∷ g ∷ gs) ((g.0, t) ∷ gs) (g ∷ put gs k t))
    by more Less e = h
    by more Equal e = absurd (new g.1 (inl (ap (λ x. (x, g.1)) (sym (exact_bytes k g.0 e)))))
    by more Greater e = onward more h

above_too : (a k : List ℕ) (xs : List (List ℕ)) → R a k ≡ Less → AllByRecursion (λ l. R k l ≡ Less) xs → AllByRecursion (λ l. R a l ≡ Less) xs
above_too a k [] e h = tt
above_too a k (x ∷ xs) e h = (nat_list_cmp_total.trans a k x e h.0, above_too a k xs e h.1)

above_put : (a : List ℕ) (fs : List File) (k t : List ℕ) → R a k ≡ Less → AllByRecursion (λ l. R a l ≡ Less) (map (λ g. g.0) fs) → AllByRecursion (λ l. R a l ≡ Less) (map (λ g. g.0) (put fs k t))
above_put a [] k t e h = (e, tt)
above_put a (g ∷ gs) k t e h = by (above_put a gs k t e h.1) (R k g.0)
  where
    by : AllByRecursion (λ l. R a l ≡ Less) (map (λ g. g.0) (put gs k t)) → (o : Ordering) → AllByRecursion (λ l. R a l ≡ Less) (map (λ g. g.0) (match_ordering o ((k, t) ∷ g ∷ gs) ((g.0, t) ∷ gs) (g ∷ put gs k t)))
    by more Less = (e, h)
    by more Equal = h
    by more Greater = (h.0, more)

pub put_ordered : (fs : List File) (k t : List ℕ) → IsNew k fs → IsOrdered fs → IsOrdered (put fs k t)
unfolding IsStrictlySortedBy
put_ordered [] k t new s = (tt, tt)
put_ordered (g ∷ gs) k t new s = by (put_ordered gs k t (λ u j. new u (inr j)) s.1) (R k g.0) refl
  where
    by : IsOrdered (put gs k t) → (o : Ordering) → R k g.0 ≡ o → IsOrdered (match_ordering o ((k, t) ∷ g ∷ gs) ((g.0, t) ∷ gs) (g ∷ put gs k t))
    by more Less e = ((e, above_too k g.0 (map (λ h. h.0) gs) e s.0), s)
    by more Equal e = s
    by more Greater e =
        let turned : R g.0 k ≡ Less = nat_list_cmp_total.antisymm g.0 k ∙ ap ordering_reverse e in
        (above_put g.0 gs k t turned s.0, more)

pub put_length : (fs : List File) (k t : List ℕ) → IsNew k fs → length (put fs k t) ≡ length fs + 1
put_length [] k t new = refl
put_length (g ∷ gs) k t new = by (put_length gs k t (λ u j. new u (inr j))) (R k g.0) refl
  where
    by : length (put gs k t) ≡ length gs + 1 → (o : Ordering) → R k g.0 ≡ o → length (match_ordering o ((k, t) ∷ g ∷ gs) ((g.0, t) ∷ gs) (g ∷ put gs k t)) ≡ length (g ∷ gs) + 1
    by more Less e = omega arith
    by more Equal e = absurd (new g.1 (inl (ap (λ x. (x, g.1)) (sym (exact_bytes k g.0 e)))))
    by more Greater e = omega (arith, more)

size-cons : (f : File) (fs : List File) → size_of (f ∷ fs) ≡ length f.1 + size_of fs
size-cons f fs = sum_by-cons (λ g. length g.1) f fs

pub put_size : (fs : List File) (k t : List ℕ) → IsNew k fs → size_of (put fs k t) ≡ size_of fs + length t
put_size [] k t new = size-cons (k, t) [] ∙ omega arith
put_size (g ∷ gs) k t new = by (put_size gs k t (λ u j. new u (inr j))) (R k g.0) refl
  where
    by : size_of (put gs k t) ≡ size_of gs + length t → (o : Ordering) → R k g.0 ≡ o → size_of (match_ordering o ((k, t) ∷ g ∷ gs) ((g.0, t) ∷ gs) (g ∷ put gs k t)) ≡ size_of (g ∷ gs) + length t
    by more Less e = omega (arith, size-cons (k, t) (g ∷ gs))
    by more Equal e = absurd (new g.1 (inl (ap (λ x. (x, g.1)) (sym (exact_bytes k g.0 e)))))
    by more Greater e = omega (arith, size-cons g gs, size-cons g (put gs k t), more)
