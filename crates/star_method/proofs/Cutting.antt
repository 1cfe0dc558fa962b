-- Strings, cut at the first separator.
use Rattle.std.proofs.Common.{◌≡◌, ℕ, zero, suc, ◌+◌, ◌-◌, ◌<◌, ◌≤◌, nat_eq, List, [], ◌∷◌, ◌++◌, length, take, drop, Bool, true, false, ◌&&◌, Option, Some, None, MatchOption, if◌then◌else◌, refl, ap, sym, ◌∙◌, arith, append_assoc, append-nil}
use denote.Ref.{Bor}
use Rattle.std.specs.List.{starts_with}
use Rattle.std.specs.Str.Pattern.{LacksTextAt, FindsText}
use Rattle.std.proofs.lemmas.Bool.{and_right}
use Rattle.std.proofs.lemmas.Bool.Decides.{nat_tests}
use Rattle.std.proofs.lemmas.List.{take-append-drop}
use Rattle.std.proofs.lemmas.Str.Pattern.{starts_text}
use Rattle.star_meaning.specs.Texts.{may_cut, one_less, parts, parts_from, joined}
use Rattle.star_method.specs.Cuts.{IsFirstCut}

-- the bytes of a separator are passed over
skip_over : (by : List ℕ) (left : Option ℕ) (n : ℕ) (xs ys part : List ℕ) → length xs ≡ n → parts_from by left n part (xs ++ ys) ≡ parts_from by left 0 part ys
skip_over by left zero [] ys part h = refl
skip_over by left zero (x ∷ xs) ys part h = absurd (omega arith)
skip_over by left (suc n) [] ys part h = absurd (omega arith)
skip_over by left (suc n) (x ∷ xs) ys part h = skip_over by left n xs ys part (omega arith)

-- at a place without a separator
lacks : (by t : List ℕ) (i : ℕ) → LacksTextAt by t i → starts_with nat_eq (drop i t) by ≡ false
lacks by t i h = sym (starts_text false by (drop i t) h)

cut_if : (by : List ℕ) (left : Option ℕ) (part bs : List ℕ) (b : ℕ) (p q : Bool) → (p && q) ≡ false → (if p && q then part ∷ parts_from by (one_less left) (length by - 1) [] bs else parts_from by left 0 (part ++ b ∷ []) bs) ≡ parts_from by left 0 (part ++ b ∷ []) bs
cut_if by left part bs b p q h = rw h refl

before_cut : (by : List ℕ) (left : Option ℕ) (part before rest : List ℕ) → ((i : ℕ) → i < length before → starts_with nat_eq (drop i (before ++ rest)) by ≡ false) → parts_from by left 0 part (before ++ rest) ≡ parts_from by left 0 (part ++ before) rest
before_cut by left part [] rest f = ap (λ z. parts_from by left 0 z rest) (sym (append-nil part))
before_cut by left part (b ∷ bs) rest f =
    cut_if by left part (bs ++ rest) b (may_cut left) (starts_with nat_eq (b ∷ (bs ++ rest)) by) (and_right (may_cut left) (starts_with nat_eq (b ∷ (bs ++ rest)) by) (f 0 (omega arith)))
    ∙ before_cut by left (part ++ b ∷ []) bs rest (λ i h. f (suc i) (omega arith))
    ∙ ap (λ z. parts_from by left 0 z rest) (append_assoc part (b ∷ []) bs)

-- at a place with one
eq_self : (n : ℕ) → nat_eq n n ≡ true
eq_self n = grind (arith, nat_tests)

starts_self : (xs ys : List ℕ) → starts_with nat_eq (xs ++ ys) xs ≡ true
starts_self [] ys = refl
starts_self (x ∷ xs) ys = rw (eq_self x) (starts_self xs ys)

one_off : (n : ℕ) → suc n - 1 ≡ n
one_off n = omega arith

at_cut : (by : List ℕ) (left : Option ℕ) (part after : List ℕ) → 0 < length by → may_cut left ≡ true → parts_from by left 0 part (by ++ after) ≡ part ∷ parts_from by (one_less left) 0 [] after
at_cut [] left part after l h = absurd (omega arith)
at_cut (c ∷ cs) left part after l h =
    let e : starts_with nat_eq (c ∷ (cs ++ after)) (c ∷ cs) ≡ true = starts_self (c ∷ cs) after in
    rw (h, e) (ap (λ n. part ∷ parts_from (c ∷ cs) (one_less left) n [] (cs ++ after)) (one_off (length cs)) ∙ ap (λ z. part ∷ z) (skip_over (c ∷ cs) (one_less left) (length cs) cs after [] refl))

whole_cut : (by : List ℕ) (left : Option ℕ) (before after : List ℕ) → 0 < length by → may_cut left ≡ true → ((i : ℕ) → i < length before → starts_with nat_eq (drop i (before ++ (by ++ after))) by ≡ false) → parts (before ++ (by ++ after)) by left ≡ before ∷ parts after by (one_less left)
whole_cut by left before after l h f = before_cut by left [] before (by ++ after) f ∙ at_cut by left before after l h

-- the first cut
pub cut_first : (t by : List ℕ) (left : Option ℕ) (i j : ℕ) (before after : List ℕ) → 0 < length by → may_cut left ≡ true → FindsText by t (Some (i, j)) → length before ≡ i → before ≡ take i t → after ≡ drop j t → parts t by left ≡ before ∷ parts after by (one_less left)
cut_first t by left i j before after l h f n p q =
    let e : t ≡ before ++ (by ++ after) = sym (take-append-drop i t) ∙ (λ k. sym p k ++ (f.1.split ∙ ap (λ z. by ++ z) (sym q)) k) in
    let g : (k : ℕ) → k < length before → starts_with nat_eq (drop k (before ++ (by ++ after))) by ≡ false = λ k m. ap (λ z. starts_with nat_eq (drop k z) by) (sym e) ∙ lacks by t k (f.0 k (omega arith)) in
    ap (λ z. parts z by left) e ∙ whole_cut by left before after l h g

-- there is no separator
pub no_cut : (t by : List ℕ) (left : Option ℕ) → FindsText by t None → parts t by left ≡ t ∷ []
no_cut t by left f =
    let g : (k : ℕ) → k < length t → starts_with nat_eq (drop k (t ++ [])) by ≡ false = λ k m. ap (λ z. starts_with nat_eq (drop k z) by) (append-nil t) ∙ lacks by t k (f k (omega arith)) in
    ap (λ z. parts z by left) (sym (append-nil t)) ∙ before_cut by left [] t [] g

-- no cut may be made
none_left : (by : List ℕ) (left : Option ℕ) (part t : List ℕ) → may_cut left ≡ false → parts_from by left 0 part t ≡ (part ++ t) ∷ []
none_left by left part [] h = ap (λ z. z ∷ []) (sym (append-nil part))
none_left by left part (b ∷ bs) h = rw h (none_left by left (part ++ b ∷ []) bs h ∙ ap (λ z. z ∷ []) (append_assoc part (b ∷ []) bs))

pub no_more : (t by : List ℕ) (left : Option ℕ) → may_cut left ≡ false → parts t by left ≡ t ∷ []
no_more t by left h = none_left by left [] t h

-- a part before others
next_if : (v before part : List ℕ) (xs ys : List (List ℕ)) (e : Bool) → joined v (before ∷ ys) ≡ before ++ v ++ joined v ys → joined v (before ∷ (if e then part ∷ xs else ys)) ≡ before ++ v ++ joined v (if e then part ∷ xs else ys)
next_if v before part xs ys true h = refl
next_if v before part xs ys false h = h

joined_from : (v before by : List ℕ) (left : Option ℕ) (n : ℕ) (part t : List ℕ) → joined v (before ∷ parts_from by left n part t) ≡ before ++ v ++ joined v (parts_from by left n part t)
joined_from v before by left zero part [] = refl
joined_from v before by left (suc n) part [] = refl
joined_from v before by left (suc n) part (b ∷ bs) = joined_from v before by left n part bs
joined_from v before by left zero part (b ∷ bs) = next_if v before part (parts_from by (one_less left) (length by - 1) [] bs) (parts_from by left 0 (part ++ b ∷ []) bs) (may_cut left && starts_with nat_eq (b ∷ bs) by) (joined_from v before by left 0 (part ++ b ∷ []) bs)

pub joined_next : (v before by t : List ℕ) (left : Option ℕ) → joined v (before ∷ parts t by left) ≡ before ++ v ++ joined v (parts t by left)
joined_next v before by t left = joined_from v before by left 0 [] t

-- the answer of `split_once` is the first cut
pub cut_is : (t by : List ℕ) (left : Option ℕ) (r : Option (Bor (List ℕ) × Bor (List ℕ))) → 0 < length by → may_cut left ≡ true → MatchOption r (FindsText by t None) (λ x. (i : ℕ) × (j : ℕ) × FindsText by t (Some (i, j)) × (x.0.now ≡ take i t) × (x.1.now ≡ drop j t) × (i ≤ j) × (length x.0.now ≡ i) × (length x.1.now + j ≡ length t)) → IsFirstCut t by left r
cut_is t by left None l h f = no_cut t by left f
cut_is t by left (Some x) l h f = (cut_first t by left f.0 f.1 x.0.now x.1.now l h f.2 f.6 f.3 f.4, omega (arith, f.2.1.ends, f.7))

-- a turn of `replace`
pub replaced_turn : (v before after by rest whole : List ℕ) (left : Option ℕ) (m made : List ℕ) → parts rest by left ≡ before ∷ parts after by (one_less left) → m ++ joined v (parts rest by left) ≡ whole → made ≡ m ++ before ++ v → made ++ joined v (parts after by (one_less left)) ≡ whole
replaced_turn v before after by rest whole left m made h k e =
    let j = joined v (parts after by (one_less left)) in
    ap (λ z. z ++ j) e ∙ append_assoc (m ++ before) v j ∙ append_assoc m before (v ++ j) ∙ ap (λ z. m ++ z) (sym (append_assoc before v j)) ∙ ap (λ z. m ++ z) (sym (joined_next v before by after (one_less left))) ∙ ap (λ z. m ++ joined v z) (sym h) ∙ k
