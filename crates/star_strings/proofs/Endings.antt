-- The ends of lines.
use Rattle.std.proofs.Common.{◌≡◌, ℕ, zero, suc, ◌+◌, ◌-◌, ◌<◌, ◌≤◌, nat_eq, List, [], ◌∷◌, ◌++◌, length, take, drop, get_or, Bool, true, false, not, ◌&&◌, ◌||◌, if◌then◌else◌, refl, ap, sym, subst, ◌∙◌, arith, inl, inr, append_assoc, append-nil, length-take-le, length-drop}
use Rattle.std.specs.List.{list_all, starts_with}
use Rattle.std.specs.Str.{IsUtf8, IsCharBoundary}
use Rattle.std.proofs.lemmas.Bool.{and_parts}
use Rattle.std.proofs.lemmas.Bool.Decides.{nat_tests}
use Rattle.std.proofs.lemmas.List.{take-append-drop, length-append}
use Rattle.std.proofs.lemmas.Slice.Eq.{bytes_eq-Decides}
use Rattle.std.proofs.lemmas.Str.{IsCharBoundary-start, IsCharBoundary-end, IsCharBoundary-before_ascii, IsCharBoundary-after_ascii, IsCharBoundary-from_rest, IsUtf8-drop}
use Rattle.std.proofs.Math.Nat.{eq-or-lt_of_le}
use Rattle.std.proofs.Math.Seq.{drop-cons}
use Rattle.star_strings.specs.Words.{line_end, lines, lines_from}
use Rattle.star_strings.specs.Cuts.{ends_line, goes_on}
use Rattle.star_strings.proofs.Runs.{pick_true, pick_false}

pub is_going_on : (b : ℕ) → nat_eq b 10 ≡ false → nat_eq b 13 ≡ false → goes_on b ≡ true
is_going_on b h k = grind (arith, nat_tests)

no_feed : (b : ℕ) → goes_on b ≡ true → nat_eq b 10 ≡ false
no_feed b h = grind (arith, nat_tests)

no_return : (b : ℕ) → goes_on b ≡ true → nat_eq b 13 ≡ false
no_return b h = grind (arith, nat_tests)

below : (b : ℕ) → ends_line b ≡ true → b < 128
below b h = grind (arith, nat_tests)

-- ---- where a line may be cut
ten : (b : ℕ) → nat_eq b 10 ≡ true → b < 128
ten b h = grind (arith, nat_tests)

thirteen : (b : ℕ) → nat_eq b 13 ≡ true → b < 128
thirteen b h = grind (arith, nat_tests)

after_first : (b : ℕ) (bs : List ℕ) → IsUtf8 (b ∷ bs) → b < 128 → IsCharBoundary (b ∷ bs) 1
after_first b bs u h = IsCharBoundary-after_ascii (b ∷ bs) 0 u (omega arith) h

after_second : (b : ℕ) (bs : List ℕ) → IsUtf8 (b ∷ bs) → starts_with nat_eq bs (10 ∷ []) ≡ true → IsCharBoundary (b ∷ bs) 2
after_second b [] u h = cc
after_second b (c ∷ cs) u h = IsCharBoundary-after_ascii (b ∷ c ∷ cs) 1 u (omega arith) (ten c (grind (arith, nat_tests)))

end_if : (b : ℕ) (bs : List ℕ) (p q r : Bool) → IsUtf8 (b ∷ bs) → nat_eq b 10 ≡ p → nat_eq b 13 ≡ q → starts_with nat_eq bs (10 ∷ []) ≡ r → IsCharBoundary (b ∷ bs) (if p then 1 else if q then (if r then 2 else 1) else 0)
end_if b bs true q r u h k m = after_first b bs u (ten b h)
end_if b bs false true true u h k m = after_second b bs u m
end_if b bs false true false u h k m = after_first b bs u (thirteen b k)
end_if b bs false false r u h k m = IsCharBoundary-start (b ∷ bs) u

end_boundary : (ys : List ℕ) → IsUtf8 ys → IsCharBoundary ys (line_end ys)
end_boundary [] u = IsCharBoundary-start [] u
end_boundary (b ∷ bs) u = end_if b bs (nat_eq b 10) (nat_eq b 13) (starts_with nat_eq bs (10 ∷ [])) u refl refl refl

pub line_boundary : (t : List ℕ) (n : ℕ) → n ≤ length t → (n < length t → ends_line (get_or t n 0) ≡ true) → IsCharBoundary t n
line_boundary t n w f = elim (eq-or-lt_of_le w) [
  | inl same ↦ subst (IsCharBoundary t) (sym same) (IsCharBoundary-end t)
  | inr lt ↦ IsCharBoundary-before_ascii t n lt (below (get_or t n 0) (f lt))
]

pub next_boundary : (t : List ℕ) (n : ℕ) → IsUtf8 t → n ≤ length t → (n < length t → ends_line (get_or t n 0) ≡ true) → IsCharBoundary t (n + line_end (drop n t))
next_boundary t n u w f = IsCharBoundary-from_rest t n (line_end (drop n t)) w (end_boundary (drop n t) (IsUtf8-drop t n u (line_boundary t n w f)))

-- ---- the first line
plain : (b : ℕ) (bs : List ℕ) → goes_on b ≡ true → line_end (b ∷ bs) ≡ 0
plain b bs h = pick_false (nat_eq b 10) 1 _ (no_feed b h) ∙ pick_false (nat_eq b 13) _ 0 (no_return b h)

run : (keep : Bool) (part xs ys : List ℕ) → list_all goes_on xs ≡ true → lines_from keep 0 part (xs ++ ys) ≡ lines_from keep 0 (part ++ xs) ys
run keep part [] ys h = ap (λ z. lines_from keep 0 z ys) (sym (append-nil part))
run keep part (x ∷ xs) ys h =
    let p = and_parts (goes_on x) (list_all goes_on xs) h in
    pick_true (nat_eq (line_end (x ∷ (xs ++ ys))) 0) (lines_from keep 0 (part ++ x ∷ []) (xs ++ ys)) _ (ap (λ n. nat_eq n 0) (plain x (xs ++ ys) p.0))
    ∙ run keep (part ++ x ∷ []) xs ys p.1 ∙ ap (λ z. lines_from keep 0 z ys) (append_assoc part (x ∷ []) xs)

skip : (keep : Bool) (n : ℕ) (bs : List ℕ) → lines_from keep n [] bs ≡ lines_from keep 0 [] (drop n bs)
skip keep zero bs = refl
skip keep (suc n) [] = refl
skip keep (suc n) (b ∷ bs) = skip keep n bs

width_if : (b : ℕ) (p q r : Bool) → nat_eq b 10 ≡ p → nat_eq b 13 ≡ q → ends_line b ≡ true → 0 < (if p then 1 else if q then (if r then 2 else 1) else 0)
width_if b true q r h k e = omega arith
width_if b false true true h k e = omega arith
width_if b false true false h k e = omega arith
width_if b false false r h k e = absurd (grind (arith, nat_tests))

width_up : (b : ℕ) (bs : List ℕ) → ends_line b ≡ true → 0 < line_end (b ∷ bs)
width_up b bs e = width_if b (nat_eq b 10) (nat_eq b 13) (starts_with nat_eq bs (10 ∷ [])) refl refl e

not_zero : (n : ℕ) → 0 < n → nat_eq n 0 ≡ false
not_zero n h = grind (arith, nat_tests)

shown : (keep : Bool) (xs : List ℕ) → xs ≡ (if keep then xs ++ take 0 [] else xs)
shown true xs = sym (append-nil xs)
shown false xs = refl

drop_less : (n b : ℕ) (bs : List ℕ) → 0 < n → drop (n - 1) bs ≡ drop n (b ∷ bs)
drop_less zero b bs h = absurd (omega arith)
drop_less (suc n) b bs h = let o : suc n - 1 ≡ n = omega arith in ap (λ k. drop k bs) o

line_parts : (keep : Bool) (xs ys : List ℕ) → 0 < length (xs ++ ys) → list_all goes_on xs ≡ true → (0 < length ys → ends_line (get_or ys 0 0) ≡ true) → lines keep (xs ++ ys) ≡ (if keep then xs ++ take (line_end ys) ys else xs) ∷ lines keep (drop (line_end ys) ys)
line_parts keep xs [] l h f =
    let n : nat_eq (length xs) 0 ≡ false = not_zero (length xs) (let e = length-append xs [] in omega (arith, l, e)) in
    run keep [] xs [] h ∙ pick_false (nat_eq (length xs) 0) [] (xs ∷ []) n ∙ ap (λ z. z ∷ []) (shown keep xs)
line_parts keep xs (b ∷ bs) l h f =
    let w = width_up b bs (f (omega arith)) in
    let n = line_end (b ∷ bs) in
    run keep [] xs (b ∷ bs) h ∙ pick_false (nat_eq n 0) (lines_from keep 0 (xs ++ b ∷ []) bs) _ (not_zero n w)
    ∙ ap (λ z. (if keep then xs ++ take n (b ∷ bs) else xs) ∷ z) (skip keep (n - 1) bs ∙ ap (lines keep) (drop_less n b bs w))

more_taken : (t : List ℕ) (n k : ℕ) → n ≤ length t → take n t ++ take k (drop n t) ≡ take (n + k) t
more_taken t zero k h = ap (λ m. take m t) (let e : k ≡ 0 + k = omega arith in e)
more_taken [] (suc n) k h = absurd (omega arith)
more_taken (b ∷ bs) (suc n) k h =
    let e : suc (n + k) ≡ suc n + k = omega arith in
    ap (λ z. b ∷ z) (more_taken bs n k (omega arith)) ∙ ap (λ m. take m (b ∷ bs)) e

more_dropped : (t : List ℕ) (n k : ℕ) → n ≤ length t → drop k (drop n t) ≡ drop (n + k) t
more_dropped t zero k h = ap (λ m. drop m t) (let e : k ≡ 0 + k = omega arith in e)
more_dropped [] (suc n) k h = absurd (omega arith)
more_dropped (b ∷ bs) (suc n) k h =
    let e : suc (n + k) ≡ suc n + k = omega arith in
    more_dropped bs n k (omega arith) ∙ ap (λ m. drop m (b ∷ bs)) e

kept_if : (keep : Bool) (t : List ℕ) (n k : ℕ) → n ≤ length t → (if keep then take n t ++ take k (drop n t) else take n t) ≡ take (if keep then n + k else n) t
kept_if true t n k h = more_taken t n k h
kept_if false t n k h = refl

first_of_drop : (t : List ℕ) (n : ℕ) → n < length t → get_or (drop n t) 0 0 ≡ get_or t n 0
first_of_drop t n h = ap (λ z. get_or z 0 0) (drop-cons t n 0 h)

pub one_line : (keep : Bool) (t : List ℕ) (n : ℕ) → 0 < length t → n ≤ length t → list_all goes_on (take n t) ≡ true → (n < length t → ends_line (get_or t n 0) ≡ true) → lines keep t ≡ take (if keep then n + line_end (drop n t) else n) t ∷ lines keep (drop (n + line_end (drop n t)) t)
one_line keep t n l w h f =
    let e : t ≡ take n t ++ drop n t = sym (take-append-drop n t) in
    let g : 0 < length (drop n t) → ends_line (get_or (drop n t) 0 0) ≡ true = λ m. let k : n < length t = omega (arith, m, length-drop n t) in ap ends_line (first_of_drop t n k) ∙ f k in
    ap (lines keep) e ∙ line_parts keep (take n t) (drop n t) (let q = ap length e in omega (arith, l, q)) h g
    ∙ (λ i. kept_if keep t n (line_end (drop n t)) w i ∷ lines keep (more_dropped t n (line_end (drop n t)) w i))

elim_first : (t : List ℕ) → 0 < length t → ends_line (get_or t 0 0) ≡ true → 0 < 0 + line_end t
elim_first [] l h = absurd (omega arith)
elim_first (b ∷ bs) l h = let w = width_up b bs h in omega (arith, w)

-- a line has bytes, or its end has
pub moves_on : (t : List ℕ) (n : ℕ) → 0 < length t → n ≤ length t → (n < length t → ends_line (get_or t n 0) ≡ true) → 0 < n + line_end (drop n t)
moves_on t zero l w f = elim_first t l (f l)
moves_on t (suc n) l w f = omega arith

pub kept_boundary : (keep : Bool) (t : List ℕ) (n m : ℕ) → IsUtf8 t → n ≤ length t → (n < length t → ends_line (get_or t n 0) ≡ true) → m ≡ n + line_end (drop n t) → IsCharBoundary t (if keep then m else n)
kept_boundary true t n m u w f e = subst (IsCharBoundary t) (sym e) (next_boundary t n u w f)
kept_boundary false t n m u w f e = line_boundary t n w f

pub line_is : (keep : Bool) (t : List ℕ) (n m k : ℕ) → 0 < length t → n ≤ length t → list_all goes_on (take n t) ≡ true → (n < length t → ends_line (get_or t n 0) ≡ true) → m ≡ n + line_end (drop n t) → k ≡ (if keep then m else n) → m ≤ length t → (lines keep t ≡ take k t ∷ lines keep (drop m t)) × (length (drop m t) < length t)
line_is keep t n m k l w h f e q b =
    let p = moves_on t n l w f in (
      one_line keep t n l w h f ∙ (λ i. take (if keep then sym e i else n) t ∷ lines keep (drop (sym e i) t)) ∙ ap (λ z. take z t ∷ lines keep (drop m t)) (sym q),
      omega (arith, e, p, b, length-drop m t),
    )
