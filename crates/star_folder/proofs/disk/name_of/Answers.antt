use Rattle.std.proofs.Common.{◌≡◌, ℕ, ◌+◌, zero, suc, List, ◌∷◌, length, length-append, Some, None, lit<, sym, ap, ◌∙◌, arith}
use Rattle.std.proofs.lemmas.Str.Pattern.{split_parts}
use Rattle.star_label.specs.Label.{after_colon, before_colon, label_text, name_of, package_of}
use Rattle.star_label.specs.View.{text_of}
use Rattle.star_label.proofs.Colons.{after_colon-split, before_colon-free, before_colon-split, package_free}
use Rattle.star_label.proofs.Parts.{IsFree}
use Rattle.star_folder.proofs.disk.name_of.Goals as goal

free_slashes : (p : List ℕ) → IsFree 58 p → IsFree 58 (47 ∷ 47 ∷ p)
free_slashes p h zero low = λ e. absurd (omega (arith, e))
free_slashes p h (suc zero) low = λ e. absurd (omega (arith, e))
free_slashes p h (suc (suc i)) low = h i (omega (arith, low))

-- a text in normal form has a colon
has_colon : (t p n : List ℕ) → IsFree 58 t → IsFree 58 (47 ∷ 47 ∷ p) → t ≡ label_text p n → ⊥
has_colon t p n f h e =
    let same : t ≡ 47 ∷ 47 ∷ p = sym (before_colon-free t f) ∙ ap before_colon e ∙ before_colon-split (47 ∷ 47 ∷ p) n h in
    let long : length t ≡ length (47 ∷ 47 ∷ p) + length (58 ∷ n) = ap length e ∙ length-append (47 ∷ 47 ∷ p) (58 ∷ n) in
    let short = ap length same in
    omega (arith, short, long)

pub returns-in-Some : goal.returns-in-Some
returns-in-Some c =
    let label = c.args.label.now in
    let split = split_parts 58 c.text.result.now (Some (c.in-Some.field-0-0, c.in-Some.name)) c.in-Some.ensures.cases (lit< tt) in
    let p = package_of (text_of label) in
    sym (ap after_colon split.0 ∙ after_colon-split c.in-Some.field-0-0.now c.in-Some.name.now split.1)
    ∙ ap after_colon (c.text.ensures ∙ label.in_form) ∙ after_colon-split (47 ∷ 47 ∷ p) (name_of (text_of label)) (free_slashes p (package_free p label.in_package))

pub returns-in-None : goal.returns-in-None
returns-in-None c =
    let label = c.args.label.now in
    let free = split_parts 58 c.text.result.now None c.in-None.ensures.cases (lit< tt) in
    let p = package_of (text_of label) in
    absurd (has_colon c.text.result.now p (name_of (text_of label)) free (free_slashes p (package_free p label.in_package)) (c.text.ensures ∙ label.in_form))
