-- Which texts are labels in normal form.
use Rattle.std.proofs.Common.{◌≡◌, ℕ, List, [], ◌∷◌, Bool, true, false, ◌&&◌, refl, ap, sym, ◌∙◌, subst, inl, inr, Option, Some, None}
use Rattle.std.specs.Prelude.{option_map}
use Rattle.star_label.specs.declared.label.Label.{Label}
use Rattle.star_label.specs.View.{text_of}
use Rattle.star_bundle.specs.View.{if_label}
use Rattle.std.specs.Prelude.{◌⊎◌}
use Rattle.std.proofs.lemmas.Slice.Eq.{bytes_eq-Decides}
use Rattle.star_label.specs.Label.{Reads, is_package, is_segment, label_text, name_of, package_of}
use Rattle.star_bundle.specs.Bundle.{is_label}

both : (a b c : Bool) → (a && b && c) ≡ true → (a ≡ true) × (b ≡ true) × (c ≡ true)
both true true true h = (refl, refl, refl)
both true true false h = cc
both true false c h = cc
both false b c h = cc

-- a text that reads as the label with this text
pub is_label_read : (t : List ℕ) → t ≡ label_text (package_of t) (name_of t) → is_package (package_of t) ≡ true → is_segment (name_of t) ≡ true → is_label t ≡ true
unfolding is_label
is_label_read t e p n = rw ((bytes_eq-Decides t (label_text (package_of t) (name_of t))).1 e, p, n) refl

pub reads_label : (t : List ℕ) → is_label t ≡ true → Reads [] t (package_of t) (name_of t)
unfolding is_label
reads_label t h =
    let k = both _ _ _ h in
    record { is_package = k.1; is_name = k.2; form = inl ((bytes_eq-Decides t (label_text (package_of t) (name_of t))).0 k.0) }

decided : (b : Bool) → (b ≡ true → ⊥) → b ≡ false
decided true h = absurd (h refl)
decided false h = refl

-- a text that does not read as a label
pub no_label : (t : List ℕ) → ((p n : List ℕ) → Reads [] t p n → ⊥) → is_label t ≡ false
no_label t h = decided (is_label t) (λ e. h (package_of t) (name_of t) (reads_label t e))

colon : (n p m : List ℕ) → 58 ∷ n ≡ label_text p m → ⊥
colon n p m h = cc

same_text : (t : List ℕ) → is_label t ≡ true → t ≡ label_text (package_of t) (name_of t)
unfolding is_label
same_text t h = (bytes_eq-Decides t (label_text (package_of t) (name_of t))).0 (both _ _ _ h).0

-- a text that reads as a label with another text
other : (t l : List ℕ) → (t ≡ l → ⊥) → l ≡ label_text (package_of l) (name_of l) → (t ≡ label_text (package_of l) (name_of l)) ⊎ ((t ≡ 58 ∷ name_of l) × (package_of l ≡ [])) → is_label t ≡ true → ⊥
other t l d e (inl h) i = d (h ∙ sym e)
other t l d e (inr h) i = colon (name_of l) (package_of t) (name_of t) (sym h.0 ∙ same_text t i)

pub another_label : (t l : List ℕ) → (t ≡ l → ⊥) → l ≡ label_text (package_of l) (name_of l) → Reads [] t (package_of l) (name_of l) → is_label t ≡ false
another_label t l d e r = decided (is_label t) (other t l d e r.form)

-- the answer of `normal_label` for a text
pub is_no_label : (t u : List ℕ) (o : Option Label) → option_map text_of o ≡ if_label t → o ≡ None → t ≡ u → is_label u ≡ false
is_no_label t u o h e same = subst (λ x. is_label x ≡ false) same (from (is_label t) refl)
  where
    from : (b : Bool) → is_label t ≡ b → is_label t ≡ false
    from false i = i
    from true i = let wrong : None ≡ Some t = rw i at (sym (ap (option_map text_of) e) ∙ h) in cc

pub is_some_label : (t u : List ℕ) (o : Option Label) (l : Label) → option_map text_of o ≡ if_label t → o ≡ Some l → t ≡ u → (is_label u ≡ true) × (text_of l ≡ u)
is_some_label t u o l h e same = subst (λ x. (is_label x ≡ true) × (text_of l ≡ x)) same (from (is_label t) refl)
  where
    from : (b : Bool) → is_label t ≡ b → (is_label t ≡ true) × (text_of l ≡ t)
    from true i = let is : Some (text_of l) ≡ Some t = rw i at (sym (ap (option_map text_of) e) ∙ h) in (i, (let equal : text_of l ≡ t = cc in equal))
    from false i = let wrong : Some (text_of l) ≡ None = rw i at (sym (ap (option_map text_of) e) ∙ h) in cc
