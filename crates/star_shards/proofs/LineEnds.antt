-- Line ends: the text of JSON data has none, so texts of reports are lines, and each line is one report.
use Rattle.std.proofs.Common.{◌≡◌, ◌≢◌, ℕ, zero, suc, ◌+◌, ◌-◌, ◌/◌, ◌%◌, ◌<◌, ◌≤◌, ◌^◌, Bool, true, false, cond, ◌||◌, ◌==◌, nat_lt, List, [], ◌∷◌, ◌++◌, ◌⊎◌, inl, inr, length, refl, ap, sym, ◌∙◌, subst, arith, pos, negsuc}
use Rattle.std.specs.Prelude.{nat_eq, decimal, codes}
use Rattle.std.specs.Char.{digit_char}
use Rattle.std.specs.Fmt.{digits, digits_onto}
use Rattle.std.specs.List.{All, list_any}
use Rattle.std.proofs.lemmas.Bool.Decides.{nat_tests}
use Rattle.std.proofs.lemmas.Fmt.{decimal_injective}
use Rattle.std.proofs.lemmas.List.{append_assoc, append_cancel_left, length-append}
use Rattle.std.proofs.lemmas.List.Elements.{All-head, All-tail}
use Rattle.json.specs.Print.{escape, escape_byte, escape_letter, quoted}
use Rattle.serde_json.specs.Data.{Num, unsigned, negative, float, Data, null, boolean, number, string, array, object, Items, no_items, item, Members, no_members, member}
use Rattle.serde_json.specs.Written.{comma_if, compact_text, items_text, members_text, number_text}
use Rattle.star_shards.specs.Data.{DataAreOneLine}
use Rattle.star_shards.specs.Lines.{IsOneLine, IsReport, LinesAreCut, OneReport, Report, ReportsAreOneLine, ended, front, lines, listed, more, onto_first, report_text}
use Rattle.star_shards.proofs.Bools.{apart, lacks_append, lacks_cons, or_first, or_second}
use Rattle.star_shards.proofs.Fronts.{one_front}

is_end : ℕ → Bool
is_end b = nat_eq b 10

joined : (xs ys : List ℕ) → IsOneLine xs → IsOneLine ys → IsOneLine (xs ++ ys)
joined = lacks_append (λ b. nat_eq b 10)

put : (x : ℕ) (xs : List ℕ) → nat_eq x 10 ≡ false → IsOneLine xs → IsOneLine (x ∷ xs)
put = lacks_cons (λ b. nat_eq b 10)

-- ---- numbers

abbrev glyph : ℕ → ℕ
glyph d = cond (nat_lt d 10) (48 + d) (87 + d)

chosen : (b : Bool) (x y : ℕ) → nat_eq x 10 ≡ false → nat_eq y 10 ≡ false → nat_eq (cond b x y) 10 ≡ false
chosen true x y h k = h
chosen false x y h k = k

glyph_stays : (d : ℕ) → nat_eq (glyph d) 10 ≡ false
glyph_stays d =
    let low : 48 + d ≢ 10 = omega arith in
    let high : 87 + d ≢ 10 = omega arith in
    chosen (nat_lt d 10) (48 + d) (87 + d) (grind (arith, nat_tests)) (grind (arith, nat_tests))

either : (b : Bool) (xs ys : List ℕ) → IsOneLine xs → IsOneLine ys → IsOneLine (cond b xs ys)
either true xs ys h k = h
either false xs ys h k = k

onto_stays : (k n : ℕ) (acc : List ℕ) → IsOneLine acc → IsOneLine (digits_onto k 10 false n acc)
onto_stays zero n acc h = h
onto_stays (suc k) n acc h =
    let next : IsOneLine (glyph (n % 10) ∷ acc) = put (glyph (n % 10)) acc (glyph_stays (n % 10)) h in
    either (n / 10 == 0) (glyph (n % 10) ∷ acc) (digits_onto k 10 false (n / 10) (glyph (n % 10) ∷ acc)) next (onto_stays k (n / 10) (glyph (n % 10) ∷ acc) next)

decimal_stays : (n : ℕ) → IsOneLine (decimal n)
unfolding digits
decimal_stays n = onto_stays 64 n [] refl

number_stays : (x : Num) → IsOneLine (number_text x)
number_stays (unsigned n) = decimal_stays n
number_stays (negative (pos n)) = decimal_stays n
number_stays (negative (negsuc n)) = put 45 (decimal (suc n)) refl (decimal_stays (suc n))
number_stays (float x) = refl

-- ---- strings

letter : (a b c d e f : Bool) (x : ℕ) → (a ≡ true → nat_eq x 10 ≡ false)
    → nat_eq (cond a x (cond b 98 (cond c 102 (cond d 110 (cond e 114 (cond f 116 0)))))) 10 ≡ false
letter true b c d e f x h = h refl
letter false true c d e f x h = refl
letter false false true d e f x h = refl
letter false false false true e f x h = refl
letter false false false false true f x h = refl
letter false false false false false true x h = refl
letter false false false false false false x h = refl

marked : (a b : Bool) (x : ℕ) → (a ≡ true → nat_eq x 10 ≡ false) → (b ≡ true → nat_eq x 10 ≡ false) → (a || b) ≡ true → nat_eq x 10 ≡ false
marked true b x f g h = f refl
marked false true x f g h = g refl
marked false false x f g h = cc

byte : (x n : ℕ) → n ≢ 10 → nat_eq x n ≡ true → nat_eq x 10 ≡ false
byte x n other h = grind (arith, nat_tests)

letter_stays : (x : ℕ) → nat_eq (escape_letter x) 10 ≡ false
letter_stays x =
    let quote : 34 ≢ 10 = omega arith in
    let slash : 92 ≢ 10 = omega arith in
    letter (nat_eq x 34 || nat_eq x 92) (x == 8) (x == 12) (x == 10) (x == 13) (x == 9) x
    (marked (nat_eq x 34) (nat_eq x 92) x (byte x 34 quote) (byte x 92 slash))

digit_stays : (d : ℕ) → nat_eq (digit_char d) 10 ≡ false
digit_stays d = glyph_stays d

large : (x : ℕ) → nat_lt x 32 ≡ false → nat_eq x 10 ≡ false
large x h = grind (arith, nat_tests)

written : (b c : Bool) (x l g e : ℕ) → nat_eq l 10 ≡ false → nat_eq g 10 ≡ false → nat_eq e 10 ≡ false → (c ≡ false → nat_eq x 10 ≡ false)
    → IsOneLine (cond b (92 ∷ l ∷ []) (cond c (92 ∷ 117 ∷ 48 ∷ 48 ∷ g ∷ e ∷ []) (x ∷ [])))
written true c x l g e hl hg he hx = put 92 (l ∷ []) refl (put l [] hl refl)
written false true x l g e hl hg he hx =
    put 92 (117 ∷ 48 ∷ 48 ∷ g ∷ e ∷ []) refl (put 117 (48 ∷ 48 ∷ g ∷ e ∷ []) refl
    (put 48 (48 ∷ g ∷ e ∷ []) refl (put 48 (g ∷ e ∷ []) refl (put g (e ∷ []) hg (put e [] he refl)))))
written false false x l g e hl hg he hx = put x [] (hx refl) refl

byte_stays : (x : ℕ) → IsOneLine (escape_byte x)
unfolding escape_byte
byte_stays x =
    written (nat_lt 0 (escape_letter x)) (nat_lt x 32) x (escape_letter x) (digit_char (x / 16)) (digit_char (x % 16))
    (letter_stays x) (digit_stays (x / 16)) (digit_stays (x % 16)) (large x)

escape_stays : (s : List ℕ) → IsOneLine (escape s)
escape_stays [] = refl
escape_stays (x ∷ xs) = joined (escape_byte x) (escape xs) (byte_stays x) (escape_stays xs)

string_stays : (s : List ℕ) → IsOneLine (quoted s)
string_stays s = put 34 (escape s ++ 34 ∷ []) refl (joined (escape s) (34 ∷ []) (escape_stays s) refl)

-- ---- data

comma_stays : (later : Bool) → IsOneLine (comma_if later)
comma_stays true = refl
comma_stays false = refl

mutual
  pub data_are_one_line : DataAreOneLine
  data_are_one_line null = refl
  data_are_one_line (boolean true) = refl
  data_are_one_line (boolean false) = refl
  data_are_one_line (number n) = number_stays n
  data_are_one_line (string s) = string_stays s
  data_are_one_line (array ds) = put 91 (items_text false ds) refl (items_stay false ds)
  data_are_one_line (object ms) = put 123 (members_text false ms) refl (members_stay false ms)

  items_stay : (later : Bool) (ds : Items) → IsOneLine (items_text later ds)
  items_stay later no_items = refl
  items_stay later (item d ds) =
      joined (comma_if later) (compact_text d ++ items_text true ds) (comma_stays later)
      (joined (compact_text d) (items_text true ds) (data_are_one_line d) (items_stay true ds))

  members_stay : (later : Bool) (ms : Members) → IsOneLine (members_text later ms)
  members_stay later no_members = refl
  members_stay later (member n d ms) =
      joined (comma_if later) (quoted n ++ 58 ∷ (compact_text d ++ members_text true ms)) (comma_stays later)
      (joined (quoted n) (58 ∷ (compact_text d ++ members_text true ms)) (string_stays n)
      (put 58 (compact_text d ++ members_text true ms) refl
      (joined (compact_text d) (members_text true ms) (data_are_one_line d) (members_stay true ms))))

-- ---- reports

more_stay : (ts : List (List ℕ)) → All IsOneLine ts → IsOneLine (more ts)
unfolding more
more_stay [] each = refl
more_stay (t ∷ ts) each =
    put 44 (t ++ more ts) refl (joined t (more ts) (All-head IsOneLine t ts each) (more_stay ts (All-tail IsOneLine t ts each)))

listed_stay : (ts : List (List ℕ)) → All IsOneLine ts → IsOneLine (listed ts)
unfolding listed
listed_stay [] each = refl
listed_stay (t ∷ ts) each =
    joined t (more ts) (All-head IsOneLine t ts each) (more_stay ts (All-tail IsOneLine t ts each))

front_stays : (n : ℕ) → IsOneLine (front n)
front_stays n =
    joined (codes "{\"begun\":") (decimal n ++ codes ",\"modules\":[") refl
    (joined (decimal n) (codes ",\"modules\":[") (decimal_stays n) refl)

pub reports_are_one_line : ReportsAreOneLine
reports_are_one_line r each =
    joined (front r.begun) (listed r.entries ++ codes "]}") (front_stays r.begun)
    (joined (listed r.entries) (codes "]}") (listed_stay r.entries each) refl)

-- ---- lines

line_cut : (l rest : List ℕ) → IsOneLine l → lines (l ++ 10 ∷ rest) ≡ l ∷ lines rest
unfolding lines
line_cut [] rest h = refl
line_cut (b ∷ bs) rest h =
    ap (λ t. cond t ([] ∷ lines (bs ++ 10 ∷ rest)) (onto_first b (lines (bs ++ 10 ∷ rest)))) (or_first (nat_eq b 10) (list_any (λ x. nat_eq x 10) bs) h)
    ∙ ap (onto_first b) (line_cut bs rest (or_second (nat_eq b 10) (list_any (λ x. nat_eq x 10) bs) h))

pub lines_are_cut : LinesAreCut
unfolding ended lines
lines_are_cut [] each = refl
lines_are_cut (l ∷ ls) each =
    line_cut l (ended ls) (All-head IsOneLine l ls each) ∙ ap (λ rest. l ∷ rest) (lines_are_cut ls (All-tail IsOneLine l ls each))

pub one_report : OneReport
one_report = one_front
