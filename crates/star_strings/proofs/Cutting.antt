-- Strings, cut at the first separator.
use Rattle.std.proofs.Common.{◌≡◌, ℕ, zero, suc, ◌+◌, ◌-◌, ◌<◌, ◌≤◌, nat_eq, List, [], ◌∷◌, ◌++◌, length, take, drop, Bool, true, false, ◌&&◌, Option, Some, None, MatchOption, if◌then◌else◌, refl, ap, sym, ◌∙◌, arith, append_assoc, append-nil}
use denote.Ref.{Bor}
use Rattle.std.specs.List.{starts_with}
use Rattle.std.specs.Str.Pattern.{LacksTextAt, FindsText}
use Rattle.std.proofs.lemmas.Bool.{and_right}
use Rattle.std.proofs.lemmas.Bool.Decides.{nat_tests}
use Rattle.std.proofs.lemmas.List.{take-append-drop}
use Rattle.std.proofs.lemmas.Str.Pattern.{starts_text}
use Rattle.star_strings.specs.Texts.{may_cut, one_less, parts, parts_from}
use Rattle.star_strings.specs.Cuts.{IsFirstCut}
use Rattle.star_strings.specs.Strings.{three}

-- the bytes of a separator are passed over
skip_over : (by : List ℕ) (left : Option ℕ) (n : ℕ) (xs ys part : List ℕ) → length xs ≡ n → parts_from by left n part (xs ++ ys) ≡ parts_from by left 0 part ys
skip_over by left zero [] ys part h = refl
skip_over by left zero (x ∷ xs) ys part h = absurd (omega arith)
skip_over by left (suc n) [] ys part h = absurd (omega arith)
skip_over by left (suc n) (x ∷ xs) ys part h = skip_over by left n xs ys part (omega arith)

-- at a place without a separator
lacks : (by t : List ℕ) (i : ℕ) → LacksTextAt by t i → starts_with nat_eq (drop i t) by ≡ false
lacks by t i h = sym (starts_text false by (drop i t) h)

cut_if : (by : List ℕ) (left : Option ℕ) (part bs : List ℕ) (b : ℕ) (p q : Bool) → (p && q) ≡ false → (if p && q then part ∷ parts_from by (one_less left) (length by - 1) [] bs else parts_from by left 0 (part ++ b ∷ []) bs) ≡ parts_from by left 0 (part ++ b ∷ []) bs
cut_if by left part bs b p q h = rw h refl

pub before_cut : (by : List ℕ) (left : Option ℕ) (part before rest : List ℕ) → ((i : ℕ) → i < length before → starts_with nat_eq (drop i (before ++ rest)) by ≡ false) → parts_from by left 0 part (before ++ rest) ≡ parts_from by left 0 (part ++ before) rest
before_cut by left part [] rest f = ap (λ z. parts_from by left 0 z rest) (sym (append-nil part))
before_cut by left part (b ∷ bs) rest f =
    cut_if by left part (bs ++ rest) b (may_cut left) (starts_with nat_eq (b ∷ (bs ++ rest)) by) (and_right (may_cut left) (starts_with nat_eq (b ∷ (bs ++ rest)) by) (f 0 (omega arith)))
    ∙ before_cut by left (part ++ b ∷ []) bs rest (λ i h. f (suc i) (omega arith))
    ∙ ap (λ z. parts_from by left 0 z rest) (append_assoc part (b ∷ []) bs)

-- at a place with one
eq_self : (n : ℕ) → nat_eq n n ≡ true
eq_self n = grind (arith, nat_tests)

pub starts_self : (xs ys : List ℕ) → starts_with nat_eq (xs ++ ys) xs ≡ true
starts_self [] ys = refl
starts_self (x ∷ xs) ys = rw (eq_self x) (starts_self xs ys)

one_off : (n : ℕ) → suc n - 1 ≡ n
one_off n = omega arith

at_cut : (by : List ℕ) (left : Option ℕ) (part after : List ℕ) → 0 < length by → may_cut left ≡ true → parts_from by left 0 part (by ++ after) ≡ part ∷ parts_from by (one_less left) 0 [] after
at_cut [] left part after l h = absurd (omega arith)
at_cut (c ∷ cs) left part after l h =
    let e : starts_with nat_eq (c ∷ (cs ++ after)) (c ∷ cs) ≡ true = starts_self (c ∷ cs) after in
    rw (h, e) (ap (λ n. part ∷ parts_from (c ∷ cs) (one_less left) n [] (cs ++ after)) (one_off (length cs)) ∙ ap (λ z. part ∷ z) (skip_over (c ∷ cs) (one_less left) (length cs) cs after [] refl))

pub whole_cut : (by : List ℕ) (left : Option ℕ) (before after : List ℕ) → 0 < length by → may_cut left ≡ true → ((i : ℕ) → i < length before → starts_with nat_eq (drop i (before ++ (by ++ after))) by ≡ false) → parts (before ++ (by ++ after)) by left ≡ before ∷ parts after by (one_less left)
whole_cut by left before after l h f = before_cut by left [] before (by ++ after) f ∙ at_cut by left before after l h

-- the first cut
pub cut_first : (t by : List ℕ) (left : Option ℕ) (i j : ℕ) (before after : List ℕ) → 0 < length by → may_cut left ≡ true → FindsText by t (Some (i, j)) → length before ≡ i → before ≡ take i t → after ≡ drop j t → parts t by left ≡ before ∷ parts after by (one_less left)
cut_first t by left i j before after l h f n p q =
    let e : t ≡ before ++ (by ++ after) = sym (take-append-drop i t) ∙ (λ k. sym p k ++ (f.1.split ∙ ap (λ z. by ++ z) (sym q)) k) in
    let g : (k : ℕ) → k < length before → starts_with nat_eq (drop k (before ++ (by ++ after))) by ≡ false = λ k m. ap (λ z. starts_with nat_eq (drop k z) by) (sym e) ∙ lacks by t k (f.0 k (omega arith)) in
    ap (λ z. parts z by left) e ∙ whole_cut by left before after l h g

-- there is no separator
pub no_cut : (t by : List ℕ) (left : Option ℕ) → FindsText by t None → parts t by left ≡ t ∷ []
no_cut t by left f =
    let g : (k : ℕ) → k < length t → starts_with nat_eq (drop k (t ++ [])) by ≡ false = λ k m. ap (λ z. starts_with nat_eq (drop k z) by) (append-nil t) ∙ lacks by t k (f k (omega arith)) in
    ap (λ z. parts z by left) (sym (append-nil t)) ∙ before_cut by left [] t [] g

-- no cut may be made
none_left : (by : List ℕ) (left : Option ℕ) (part t : List ℕ) → may_cut left ≡ false → parts_from by left 0 part t ≡ (part ++ t) ∷ []
none_left by left part [] h = ap (λ z. z ∷ []) (sym (append-nil part))
none_left by left part (b ∷ bs) h = rw h (none_left by left (part ++ b ∷ []) bs h ∙ ap (λ z. z ∷ []) (append_assoc part (b ∷ []) bs))

pub no_more : (t by : List ℕ) (left : Option ℕ) → may_cut left ≡ false → parts t by left ≡ t ∷ []
no_more t by left h = none_left by left [] t h

-- the answer of `split_once` is the first cut
pub cut_is : (t by : List ℕ) (left : Option ℕ) (r : Option (Bor (List ℕ) × Bor (List ℕ))) → 0 < length by → may_cut left ≡ true → MatchOption r (FindsText by t None) (λ x. (i : ℕ) × (j : ℕ) × FindsText by t (Some (i, j)) × (x.0.now ≡ take i t) × (x.1.now ≡ drop j t) × (i ≤ j) × (length x.0.now ≡ i) × (length x.1.now + j ≡ length t)) → IsFirstCut t by left r
cut_is t by left None l h f = no_cut t by left f
cut_is t by left (Some x) l h f = (cut_first t by left f.0 f.1 x.0.now x.1.now l h f.2 f.6 f.3 f.4, omega (arith, f.2.1.ends, f.7))

-- the three parts around the first cut
pub parted_there : (t by before after : List ℕ) → parts t by (Some 1) ≡ before ∷ parts after by (Some 0) → three by (parts t by (Some 1)) ≡ before ∷ by ∷ after ∷ []
parted_there t by before after h = ap (three by) (h ∙ ap (λ z. before ∷ z) (no_more after by (Some 0) refl))

pub parted_whole : (t by : List ℕ) → parts t by (Some 1) ≡ t ∷ [] → three by (parts t by (Some 1)) ≡ t ∷ [] ∷ [] ∷ []
parted_whole t by h = ap (three by) h
