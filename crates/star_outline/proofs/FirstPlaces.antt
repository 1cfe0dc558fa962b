-- Names added one after another: each name once, at its first place.
use Rattle.std.proofs.Common.{arith, ◌≡◌, ℕ, Bool, true, false, not, ◌&&◌, ◌||◌, List, [], ◌∷◌, ◌++◌, refl, ap, sym, ◌∙◌, if◌then◌else◌, append-nil, cond}
use Rattle.std.specs.List.{filter}
use Rattle.std.proofs.lemmas.List.{append_assoc}
use Rattle.std.proofs.lemmas.List.Folds.{list_any-append}
use Rattle.std.proofs.lemmas.Slice.Eq.{bytes_eq-Decides}
use Rattle.star_outline.specs.Names.{Names, has_name, once, same_name, with_name, with_names}
use Rattle.star_outline.proofs.Turns.{and_true, and_false}

-- the names that are not among others
abbrev pub others : Names → Names → Names
others known ns = filter (λ m. not (has_name known m)) ns

keep : {A : Type 0} (p : A → Bool) (b d : Bool) (x : A) (ps qs : List A) → filter p ps ≡ qs → d ≡ (p x && b) → filter p (cond b (x ∷ ps) ps) ≡ cond d (x ∷ qs) qs
keep p true d x ps qs e f = ap (λ ys. cond (p x) (x ∷ ys) ys) e ∙ ap (λ c. cond c (x ∷ qs) qs) (and_true (p x) ∙ sym f)
keep p false d x ps qs e f = e ∙ ap (λ c. cond c (x ∷ qs) qs) (and_false (p x) ∙ sym f)

filter_both : {A : Type 0} (p q r : A → Bool) → ((x : A) → r x ≡ (p x && q x)) → (xs : List A) → filter p (filter q xs) ≡ filter r xs
filter_both p q r e [] = refl
filter_both p q r e (x ∷ xs) = keep p (q x) (r x) x (filter q xs) (filter r xs) (filter_both p q r e xs) (e x)

-- a name that is there already changes nothing
there : (same : Bool) (has : Bool) → (same ≡ true → has ≡ true) → not has ≡ (not has && not same)
there true true h = refl
there true false h = grind (arith, h refl)
there false true h = refl
there false false h = refl

either : (a b : Bool) → not (a || (b || false)) ≡ (not a && not b)
either true b = refl
either false true = refl
either false false = refl

-- one name more
one_more : (b : Bool) (known : Names) (n : List ℕ) (ns : Names) → has_name known n ≡ b
    → (if b then known else known ++ n ∷ []) ++ others (if b then known else known ++ n ∷ []) ns
    ≡ known ++ cond (not b) (n ∷ others known (filter (λ m. not (same_name m n)) ns)) (others known (filter (λ m. not (same_name m n)) ns))
one_more true known n ns e = ap (λ ms. known ++ ms)
    (sym (filter_both (λ m. not (has_name known m)) (λ m. not (same_name m n)) (λ m. not (has_name known m))
    (λ m. there (same_name m n) (has_name known m) (λ same. ap (has_name known) ((bytes_eq-Decides m n).0 same) ∙ e)) ns))
one_more false known n ns e =
    append_assoc known (n ∷ []) (others (known ++ n ∷ []) ns)
    ∙ ap (λ ms. known ++ n ∷ ms)
    (sym (filter_both (λ m. not (has_name known m)) (λ m. not (same_name m n)) (λ m. not (has_name (known ++ n ∷ []) m))
    (λ m. ap not (list_any-append (same_name m) known (n ∷ [])) ∙ either (has_name known m) (same_name m n)) ns))

-- names with further ones: the further names that are not among them follow, each once
pub with_names_are : (known ns : Names) → with_names known ns ≡ known ++ others known (once ns)
unfolding with_names
with_names_are known [] = sym (append-nil known)
with_names_are known (n ∷ ns) = with_names_are (with_name known n) ns ∙ one_more (has_name known n) known n (once ns) refl

all_others : (ns : Names) → others [] ns ≡ ns
all_others [] = refl
all_others (n ∷ ns) = ap (λ ms. n ∷ ms) (all_others ns)

-- from nothing on: each name once
pub names_once : (ns : Names) → with_names [] ns ≡ once ns
names_once ns = with_names_are [] ns ∙ all_others (once ns)
