-- The path of a folder in another, and the label of a file there.
use Rattle.std.proofs.Common.{◌≡◌, ℕ, ◌<◌, List, [], ◌∷◌, ◌++◌, length, Bool, true, false, cond, ◌==◌, ◌||◌, refl, ap, sym, ◌∙◌, arith, inl, inr}
use Rattle.std.specs.List.{list_all}
use Rattle.std.specs.Prelude.{◌⊎◌}
use Rattle.std.specs.Str.{bytes_eq}
use Rattle.star_label.specs.Label.{Reads, is_package, is_path, is_segment, label_text, onto_first, parts, with_folder}
use Rattle.star_label.proofs.Colons.{segment_free}
use Rattle.star_label.proofs.Joined.{segments-more}
use Rattle.star_label.proofs.Parts.{IsFree, parts-free, path-free}

onto_some : (x : ℕ) (b : Bool) (ps : List (List ℕ)) → 0 < length (cond b ([] ∷ ps) (onto_first x ps))
onto_some x true ps = omega arith
onto_some x false [] = omega arith
onto_some x false (p ∷ ps) = omega arith

parts_some : (xs : List ℕ) → 0 < length (parts xs)
unfolding parts
parts_some [] = omega arith
parts_some (x ∷ xs) = onto_some x (x == 47) (parts xs)

onto_more : (x : ℕ) (ps : List (List ℕ)) (f : List ℕ) → 0 < length ps → onto_first x (ps ++ f ∷ []) ≡ onto_first x ps ++ f ∷ []
onto_more x [] f h = absurd (omega (arith, h))
onto_more x (p ∷ ps) f h = refl

more : (x : ℕ) (b : Bool) (ps qs : List (List ℕ)) (f : List ℕ) → qs ≡ ps ++ f ∷ [] → 0 < length ps
    → cond b ([] ∷ qs) (onto_first x qs) ≡ cond b ([] ∷ ps) (onto_first x ps) ++ f ∷ []
more x true ps qs f e h = ap (λ rs. [] ∷ rs) e
more x false ps qs f e h = ap (onto_first x) e ∙ onto_more x ps f h

-- one part more
parts-more : (xs f : List ℕ) → IsFree 47 f → parts (xs ++ 47 ∷ f) ≡ parts xs ++ f ∷ []
unfolding parts
parts-more [] f h = ap (λ rs. [] ∷ rs) (parts-free f h)
parts-more (x ∷ xs) f h = more x (x == 47) (parts xs) (parts (xs ++ 47 ∷ f)) f (parts-more xs f h) (parts_some xs)

or_true : (a : Bool) → (a || true) ≡ true
or_true true = refl
or_true false = refl

or_right : (b : Bool) → b ≡ true → (a : Bool) → (a || b) ≡ true
or_right b h a = rw h (or_true a)

-- a folder in a folder
pub inside_is_package : (p f : List ℕ) → is_package p ≡ true → is_segment f ≡ true → is_package (with_folder p f) ≡ true
inside_is_package [] f h k = or_right (is_path f) (path-free f (segment_free f k) ∙ k) (bytes_eq f [])
inside_is_package (x ∷ xs) f h k =
    let before : list_all is_segment (parts (x ∷ xs)) ≡ true = h in
    ap (list_all is_segment) (parts-more (x ∷ xs) f (segment_free f k)) ∙ segments-more (parts (x ∷ xs)) f before k

no_colon : (n p m : List ℕ) → 58 ∷ n ≡ label_text p m → ⊥
no_colon n p m h = cc

same_name : (n m : List ℕ) → 58 ∷ n ≡ 58 ∷ m → n ≡ m
same_name n m h = cc

-- a text that is read as `:` and a name
named : (text here name p n : List ℕ) → text ≡ 58 ∷ name → (text ≡ label_text p n) ⊎ ((text ≡ 58 ∷ n) × (p ≡ here)) → (n ≡ name) × (p ≡ here)
named text here name p n e (inl h) = absurd (no_colon name p n (sym e ∙ h))
named text here name p n e (inr h) = (same_name n name (sym h.0 ∙ e), h.1)

pub relative_label : (text here name p n l : List ℕ) → text ≡ 58 ∷ name → Reads here text p n → l ≡ label_text p n → (is_segment name ≡ true) × (l ≡ label_text here name)
relative_label text here name p n l e r k =
    let same = named text here name p n e r.form in
    (ap is_segment (sym same.0) ∙ r.is_name, k ∙ ap (λ q. label_text q n) same.1 ∙ ap (label_text here) same.0)

decided : (b : Bool) → (b ≡ true → ⊥) → b ≡ false
decided true h = absurd (h refl)
decided false h = refl

pub no_relative : (text here name : List ℕ) → text ≡ 58 ∷ name → is_package here ≡ true → ((p n : List ℕ) → Reads here text p n → ⊥) → is_segment name ≡ false
no_relative text here name e h none = decided (is_segment name) (λ k. none here name (record { is_package = h; is_name = k; form = inr (e, refl) }))
