-- Ordered files with the same members are the same.
use Rattle.std.proofs.Common.{◌≡◌, inl, inr, ℕ, zero, suc, List, [], ◌∷◌, map, refl, ap, sym, ◌∙◌, subst, arith}
use Rattle.std.specs.Prelude.{Contains}
use Rattle.std.specs.declared.cmp.Ordering.{Ordering}
use Rattle.std.specs.declared.cmp.Ordering.TheVariants.{Less, Greater}
use Rattle.std.specs.Cmp.Lexicographic.{slice_cmp}
use Rattle.std.specs.List.{AllByRecursion}
use Rattle.std.specs.List.Sorted.{IsStrictlySortedBy}
use Rattle.std.specs.Ordering.{nat_cmp, ordering_reverse}
use Rattle.std.proofs.lemmas.Cmp.{nat_list_cmp_total}
use Rattle.star_label.specs.Files.{File, IsOrdered}
use Rattle.star_words.specs.Rows.{IsIn}

pub to_in : {X : Type 0} (xs : List X) (x : X) → Contains xs x → IsIn x xs
to_in [] x c = absurd (omega (arith, c.1))
to_in (y ∷ ys) x (zero, low, e) = inl e
to_in (y ∷ ys) x (suc k, low, e) = inr (to_in ys x (k, omega (arith, low), e))

pub from_in : {X : Type 0} (xs : List X) (x : X) → IsIn x xs → Contains xs x
from_in [] x h = absurd h
from_in (y ∷ ys) x (inl e) = (0, omega arith, e)
from_in (y ∷ ys) x (inr h) = let r = from_in ys x h in (suc r.0, omega (arith, r.1), r.2)

abbrev pub R : List ℕ → List ℕ → Ordering
R = slice_cmp nat_cmp

pub never_less : (k : List ℕ) → R k k ≡ Less → ⊥
never_less k e =
    let turned : R k k ≡ ordering_reverse (R k k) = nat_list_cmp_total.antisymm k k in
    let greater : R k k ≡ Greater = turned ∙ ap ordering_reverse e in
    let no : ⊥ = cc in
    no

pub below : (k : List ℕ) (fs : List File) (f : File) → AllByRecursion (λ l. R k l ≡ Less) (map (λ g. g.0) fs) → IsIn f fs → R k f.0 ≡ Less
below k [] f a h = absurd h
below k (g ∷ gs) f a (inl e) = subst (λ (x : File). R k x.0 ≡ Less) e a.0
below k (g ∷ gs) f a (inr h) = below k gs f a.1 h

pub same_rows : (xs ys : List File) → IsOrdered xs → IsOrdered ys → ((f : File) → IsIn f xs → IsIn f ys) → ((f : File) → IsIn f ys → IsIn f xs) → xs ≡ ys
unfolding IsStrictlySortedBy
same_rows [] [] s t to from = refl
same_rows [] (y ∷ ys) s t to from = absurd (from y (inl refl))
same_rows (x ∷ xs) [] s t to from = absurd (to x (inl refl))
same_rows (x ∷ xs) (y ∷ ys) s t to from = join first (same_rows xs ys s.1 t.1 (tail_to first) (tail_from first))
  where
    first : x ≡ y
    first = elim (to x (inl refl)) [
      | inl e ↦ sym e
      | inr h ↦ elim (from y (inl refl)) [
        | inl e ↦ e
        | inr k ↦ absurd (never_less x.0 (nat_list_cmp_total.trans x.0 y.0 x.0 (below x.0 xs y s.0 k) (below y.0 ys x t.0 h)))
      ]
    ]

    tail_to : x ≡ y → (f : File) → IsIn f xs → IsIn f ys
    tail_to e f h = elim (to f (inr h)) [
      | inl k ↦ absurd (never_less x.0 (subst (λ (g : File). R x.0 g.0 ≡ Less) (sym (e ∙ k)) (below x.0 xs f s.0 h)))
      | inr k ↦ k
    ]

    tail_from : x ≡ y → (f : File) → IsIn f ys → IsIn f xs
    tail_from e f h = elim (from f (inr h)) [
      | inl k ↦ absurd (never_less y.0 (subst (λ (g : File). R y.0 g.0 ≡ Less) (sym (sym e ∙ k)) (below y.0 ys f t.0 h)))
      | inr k ↦ k
    ]

    join : x ≡ y → xs ≡ ys → x ∷ xs ≡ y ∷ ys
    join e f = cc
