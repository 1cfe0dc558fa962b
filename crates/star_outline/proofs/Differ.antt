-- Numbers that all differ.
use Rattle.std.proofs.Common.{arith, ◌≡◌, ℕ, zero, suc, Bool, true, false, List, [], ◌∷◌, ◌++◌, Option, Some, None, refl, ap, sym, ◌∙◌, subst, map, nat_eq, if◌then◌else◌, inl, inr}
use Rattle.std.specs.List.{Contains, position}
use Rattle.std.specs.Option.{option_map}
use Rattle.std.proofs.lemmas.List.Elements.{Contains-append_cases, Contains-append_right}
use Rattle.star_outline.specs.declared.outline.Definition.{Definition as OneDefinition}
use Rattle.star_outline.specs.Definitions.{AllDiffer, definition_of}
use Rattle.star_outline.proofs.Numbers.{position_next}

in_none : (n : ℕ) → Contains [] n → ⊥
in_none n (k, lt, e) = omega arith

in_one : (n m : ℕ) → Contains (n ∷ []) m → n ≡ m
in_one n m (zero, lt, e) = e
in_one n m (suc k, lt, e) = elim (in_none m (k, omega arith, e)) [ ]

pub differ_pushed : (ns : List ℕ) (n : ℕ) → AllDiffer ns → (Contains ns n → ⊥) → AllDiffer (ns ++ n ∷ [])
differ_pushed [] n d absent = (in_none n, tt)
differ_pushed (m ∷ ms) n d absent = (
  λ h. elim (Contains-append_cases ms (n ∷ []) m h) [ inl i ↦ d.0 i | inr i ↦ absent (subst (λ k. Contains (m ∷ ms) k) (sym (in_one n m i)) (0, omega arith, refl)) ],
  differ_pushed ms n d.1 (λ h. absent (Contains-append_right (m ∷ []) ms n h)),
)

neither : (b : Bool) (o : Option ℕ) → (if b then Some 0 else option_map (λ i. suc i) o) ≡ None → (b ≡ false) × (o ≡ None)
neither true o e = cc
neither false None e = (refl, refl)
neither false (Some i) e = cc

-- a number that no item has is not among the numbers of the items
pub not_numbered : {A : Type 0} (number_of : A → ℕ) (xs : List A) (n : ℕ) → position (λ x. nat_eq (number_of x) n) xs ≡ None → Contains (map number_of xs) n → ⊥
not_numbered number_of [] n e h = in_none n h
not_numbered number_of (x ∷ xs) n e (zero, lt, is) = let k = neither (nat_eq (number_of x) n) _ (sym (position_next (λ y. nat_eq (number_of y) n) x xs) ∙ e) in grind (arith, k.0)
not_numbered number_of (x ∷ xs) n e (suc k, lt, is) =
    not_numbered number_of xs n (neither (nat_eq (number_of x) n) _ (sym (position_next (λ y. nat_eq (number_of y) n) x xs) ∙ e)).1 (k, omega arith, is)

pub numbers_of : (ds : List OneDefinition) → map (λ d. d.number) (map definition_of ds) ≡ map (λ d. d.number) ds
numbers_of [] = refl
numbers_of (d ∷ ds) = ap (λ ns. d.number ∷ ns) (numbers_of ds)
