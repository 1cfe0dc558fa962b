-- What stands before the entries of a report, and the first bracket there.
use Rattle.std.proofs.Common.{◌≡◌, ◌≢◌, ℕ, zero, suc, ◌+◌, ◌<◌, ◌≤◌, ◌%◌, ◌^◌, Bool, true, false, ◌||◌, List, [], ◌∷◌, ◌++◌, ◌⊎◌, inl, inr, length, get_or, take, drop, refl, ap, sym, ◌∙◌, subst, arith, Option, None, Some}
use Rattle.std.specs.Prelude.{codes, decimal, nat_eq, slice_index}
use Rattle.std.specs.List.{list_any}
use Rattle.std.proofs.lemmas.Bool.Decides.{nat_tests}
use Rattle.std.proofs.lemmas.Fmt.{decimal_by_steps, decimal_digit, decimal_injective}
use Rattle.std.proofs.lemmas.List.{append_assoc, append_cancel_left, append_cancel_right, drop_at, get_or_at, length-append, take-append-drop, take_at}
use Rattle.memchr.specs.Find.{IsFirstByte, is_byte}
use Rattle.star_shards.specs.Lines.{IsReport, OneReport, Report, front, listed, more}
use Rattle.star_shards.specs.Read.{IsRow}
use Rattle.star_shards.proofs.Bools.{apart, lacks_append, Lacks, or_first, or_second}
use Rattle.star_shards.proofs.Rows.{one_row}

abbrev Free : List ℕ → Type 0
Free = Lacks (λ b. nat_eq b 91)

digit_free : (d : ℕ) → d < 10 → Free ((48 + d) ∷ [])
digit_free d lt = let other : 48 + d ≢ 91 = omega arith in grind (arith, nat_tests)

decimal_free : (n : ℕ) → n < 2 ^ 64 → Free (decimal n)
decimal_free n lt =
    decimal_by_steps (λ m ds. Free ds) (λ m small. digit_free m small)
    (λ m ds big free. lacks_append (λ b. nat_eq b 91) ds ((48 + m % 10) ∷ []) free (digit_free (m % 10) (let small : m % 10 < 10 = omega arith in small))) n lt

-- the front without its bracket
before : ℕ → List ℕ
before n = codes "{\"begun\":" ++ (decimal n ++ codes ",\"modules\":")

before_free : (n : ℕ) → n < 2 ^ 64 → Free (before n)
unfolding before
before_free n lt = lacks_append (λ b. nat_eq b 91) (codes "{\"begun\":") (decimal n ++ codes ",\"modules\":") refl (lacks_append (λ b. nat_eq b 91) (decimal n) (codes ",\"modules\":") (decimal_free n lt) refl)

front_is : (n : ℕ) → front n ≡ before n ++ 91 ∷ []
unfolding before
front_is n =
    let a = codes "{\"begun\":" in
    let c = codes ",\"modules\":" in
    ap (λ w. a ++ w) (sym (append_assoc (decimal n) c (91 ∷ []))) ∙ sym (append_assoc a (decimal n ++ c) (91 ∷ []))

at_bracket : (xs ys : List ℕ) (k : ℕ) → Free xs → ((j : ℕ) → 0 ≤ j → j < k → is_byte 91 (slice_index (xs ++ 91 ∷ ys) j) ≡ true → ⊥)
    → is_byte 91 (slice_index (xs ++ 91 ∷ ys) k) ≡ true → k ≡ length xs
at_bracket [] ys zero free none here = refl
at_bracket [] ys (suc k) free none here = absurd (none 0 (omega arith) (omega arith) refl)
at_bracket (x ∷ xs) ys zero free none here = absurd (apart (nat_eq x 91) here (or_first (nat_eq x 91) (list_any (λ b. nat_eq b 91) xs) free))
at_bracket (x ∷ xs) ys (suc k) free none here =
    ap suc (at_bracket xs ys k (or_second (nat_eq x 91) (list_any (λ b. nat_eq b 91) xs) free)
    (λ j low high h. none (suc j) (omega arith) (omega (arith, high)) h) here)

head_of : (x y : ℕ) (xs ys : List ℕ) → (x ∷ xs) ≡ (y ∷ ys) → x ≡ y
head_of x y xs ys h = cc

tail_of : (x y : ℕ) (xs ys : List ℕ) → (x ∷ xs) ≡ (y ∷ ys) → xs ≡ ys
tail_of x y xs ys h = cc

-- ---- a report by its first bracket

listed_long : (ts : List (List ℕ)) → length ts ≤ length (more ts)
unfolding more
listed_long [] = omega arith
listed_long (t ∷ ts) = let rest = listed_long ts in omega (arith, rest, length-append t (more ts))

-- where the first bracket stands, the front ends
pub record Found (line : List ℕ) (at : ℕ) (r : Report) : Type 0 where
  pub head : take (at + 1) line ≡ front r.begun
  pub row : IsRow (drop (at + 1) line) r.entries

long : (ts : List (List ℕ)) → length ts ≤ length (listed ts) + 1
unfolding listed more
long [] = omega arith
long (t ∷ ts) = let rest = listed_long ts in omega (arith, rest, length-append t (more ts))

few_by : (ts : List (List ℕ)) (n size : ℕ) → (n ≡ length ts) ⊎ (n ≡ 0) → length ts ≤ size + 1 → size < 2 ^ 63 → n < 2 ^ 64
few_by ts n size (inl e) le small = omega (arith, e, le, small)
few_by ts n size (inr e) le small = omega (arith, e)

few : (line : List ℕ) (r : Report) → IsReport line r → length line < 2 ^ 63 → r.begun < 2 ^ 64
few line r report small =
    let size : length line ≡ length (front r.begun) + length (listed r.entries ++ codes "]}") = ap length report.line_is ∙ length-append (front r.begun) (listed r.entries ++ codes "]}") in
    let inner = length-append (listed r.entries) (codes "]}") in
    few_by r.entries r.begun (length (listed r.entries)) report.whole (long r.entries) (omega (arith, size, inner, small))

line_cut : (line : List ℕ) (r : Report) → IsReport line r → line ≡ before r.begun ++ 91 ∷ (listed r.entries ++ codes "]}")
line_cut line r report =
    report.line_is ∙ ap (λ w. w ++ (listed r.entries ++ codes "]}")) (front_is r.begun) ∙ append_assoc (before r.begun) (91 ∷ []) (listed r.entries ++ codes "]}")

pub no_bracket : (line : List ℕ) (r : Report) → IsFirstByte (is_byte 91) line None → IsReport line r → ⊥
no_bracket line r none report =
    let cut = line_cut line r report in
    let xs = before r.begun in
    let ys = listed r.entries ++ codes "]}" in
    let size : length line ≡ length xs + suc (length ys) = ap length cut ∙ length-append xs (91 ∷ ys) in
    let here : slice_index line (length xs) ≡ 91 = ap (λ l. get_or l (length xs) 0) cut ∙ get_or_at xs 91 ys 0 (length xs) refl in
    none (length xs) (omega arith) (omega (arith, size)) (ap (is_byte 91) here)

pub found_bracket : (line : List ℕ) (at : ℕ) (r : Report) → length line < 2 ^ 63 → IsFirstByte (is_byte 91) line (Some at) → IsReport line r → Found line at r
found_bracket line at r small first report =
    let cut = line_cut line r report in
    let xs = before r.begun in
    let ys = listed r.entries ++ codes "]}" in
    let place : at ≡ length xs = at_bracket xs ys at (before_free r.begun (few line r report small))
    (λ j low high h. first.0.before j low high (ap (λ l. is_byte 91 (slice_index l j)) cut ∙ h))
    (sym (ap (λ l. is_byte 91 (slice_index l at)) cut) ∙ first.1) in
    let size : length (front r.begun) ≡ at + 1 = ap length (front_is r.begun) ∙ length-append xs (91 ∷ []) ∙ ap (λ n. n + 1) (sym place) in
    record {
      head = ap (take (at + 1)) report.line_is ∙ take_at (front r.begun) ys (at + 1) size;
      row = record { each = report.each; content_is = ap (drop (at + 1)) report.line_is ∙ drop_at (front r.begun) ys (at + 1) size };
    }

-- the front of a check
pub check_front : front 0 ≡ codes "{\"begun\":0,\"modules\":["
check_front = ap (λ d. codes "{\"begun\":" ++ (d ++ codes ",\"modules\":[")) (decimal_digit 0 (omega arith))

-- a row whose front is of neither kind is no report
pub of_neither : (line : List ℕ) (at count : ℕ) (ts : List (List ℕ)) (r : Report) → length line < 2 ^ 63 → IsFirstByte (is_byte 91) line (Some at) → IsRow (drop (at + 1) line) ts → count ≡ length ts
    → (take (at + 1) line ≡ front count → ⊥) → (take (at + 1) line ≡ front 0 → ⊥) → IsReport line r → ⊥
of_neither line at count ts r small first row size run check report = by report.whole
  where
    found : Found line at r
    found = found_bracket line at r small first report

    same : ts ≡ r.entries
    same = one_row (drop (at + 1) line) ts r.entries row found.row

    by : (r.begun ≡ length r.entries) ⊎ (r.begun ≡ 0) → ⊥
    by (inl e) = run (found.head ∙ ap front (e ∙ ap length (sym same) ∙ sym size))
    by (inr e) = check (found.head ∙ ap front e)

-- a row with a front is a report
pub is_report : (line : List ℕ) (at begun : ℕ) (ts : List (List ℕ)) → IsRow (drop (at + 1) line) ts → take (at + 1) line ≡ front begun → (begun ≡ length ts) ⊎ (begun ≡ 0)
    → IsReport line (record { begun = begun; entries = ts })
is_report line at begun ts row head whole = record {
  line_is = sym (take-append-drop (at + 1) line) ∙ ap (λ w. w ++ drop (at + 1) line) head ∙ ap (λ w. front begun ++ w) row.content_is;
  each = row.each;
  whole = whole;
}

-- ---- a line is one report

free_split : (xs ys us vs : List ℕ) → Free xs → Free us → xs ++ 91 ∷ ys ≡ us ++ 91 ∷ vs → (xs ≡ us) × (ys ≡ vs)
free_split [] ys [] vs h g e = (refl, tail_of 91 91 ys vs e)
free_split [] ys (u ∷ us) vs h g e = absurd (apart (nat_eq u 91) (ap (λ b. nat_eq b 91) (sym (head_of 91 u ys (us ++ 91 ∷ vs) e))) (or_first (nat_eq u 91) (list_any (λ b. nat_eq b 91) us) g))
free_split (x ∷ xs) ys [] vs h g e = absurd (apart (nat_eq x 91) (ap (λ b. nat_eq b 91) (head_of x 91 (xs ++ 91 ∷ ys) vs e)) (or_first (nat_eq x 91) (list_any (λ b. nat_eq b 91) xs) h))
free_split (x ∷ xs) ys (u ∷ us) vs h g e =
    let rest = free_split xs ys us vs (or_second (nat_eq x 91) (list_any (λ b. nat_eq b 91) xs) h) (or_second (nat_eq u 91) (list_any (λ b. nat_eq b 91) us) g)
    (tail_of x u (xs ++ 91 ∷ ys) (us ++ 91 ∷ vs) e) in
    (ap (λ b. b ∷ xs) (head_of x u (xs ++ 91 ∷ ys) (us ++ 91 ∷ vs) e) ∙ ap (λ w. u ∷ w) rest.0, rest.1)

before_tells : (m n : ℕ) → m < 2 ^ 64 → n < 2 ^ 64 → before m ≡ before n → m ≡ n
unfolding before
before_tells m n hm hn e =
    let inner : decimal m ++ codes ",\"modules\":" ≡ decimal n ++ codes ",\"modules\":" = append_cancel_left (codes "{\"begun\":") (decimal m ++ codes ",\"modules\":") (decimal n ++ codes ",\"modules\":") e in
    decimal_injective m n hm hn (append_cancel_right (decimal m) (decimal n) (codes ",\"modules\":") inner)

report_is : (r s : Report) → r.begun ≡ s.begun → r.entries ≡ s.entries → r ≡ s
report_is r s b e = λ i. record { begun = b i; entries = e i }

pub one_front : OneReport
one_front line r s small report other =
    let hr = few line r report small in
    let hs = few line s other small in
    let rest = free_split (before r.begun) (listed r.entries ++ codes "]}") (before s.begun) (listed s.entries ++ codes "]}") (before_free r.begun hr) (before_free s.begun hs)
    (sym (line_cut line r report) ∙ line_cut line s other) in
    report_is r s (before_tells r.begun s.begun hr hs rest.0)
    (one_row (listed r.entries ++ codes "]}") r.entries s.entries (record { each = report.each; content_is = refl }) (record { each = other.each; content_is = rest.1 }))
