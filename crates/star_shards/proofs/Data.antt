-- The text of data, byte by byte, leaves the brackets as they were.
use Rattle.std.proofs.Common.{◌≡◌, ◌≢◌, ℕ, zero, suc, ◌+◌, ◌-◌, ◌/◌, ◌%◌, ◌<◌, Bool, true, false, cond, ◌&&◌, ◌||◌, ◌==◌, nat_lt, List, [], ◌∷◌, ◌++◌, length, Option, Some, None, refl, ap, sym, ◌∙◌, subst, arith, zero-add, ℤ, pos, negsuc}
use Rattle.std.specs.Prelude.{nat_eq, decimal}
use Rattle.std.specs.Char.{digit_char}
use Rattle.std.specs.List.{list_any, starts_with}
use Rattle.std.specs.Fmt.{digits, digits_onto}
use Rattle.json.specs.Print.{escape, escape_byte, escape_letter, quoted}
use Rattle.serde_json.specs.Data.{Num, unsigned, negative, float, Data, null, boolean, number, string, array, object, Items, no_items, item, Members, no_members, member}
use Rattle.serde_json.specs.Written.{comma_if, compact_text, items_text, members_text, number_text}
use Rattle.std.proofs.lemmas.List.{append_assoc, length-append}
use Rattle.std.proofs.Math.Dec.{eqb-suc-zero}
use Rattle.std.proofs.lemmas.Bool.{eqb-true as nat_eq-true, ltb-true}
use Rattle.star_shards.specs.Places.{after, closes, end_from, ends, later_from, opens, separates, start}
use Rattle.star_shards.specs.Entries.{IsObject}
use Rattle.star_shards.specs.declared.place.Place.{Place}
use Rattle.star_shards.specs.declared.place.Mode.TheVariants.{Plain, Quoted, Escaped}
use Rattle.star_shards.specs.Data.{ObjectsEnd}
use Rattle.star_shards.proofs.Bools.{apart, or_first, or_second}

-- from one place bytes lead to another, and none of them ends or separates anything
abbrev pub Passes : Place → List ℕ → Place → Type 0
Passes p [] q = p ≡ q
Passes p (x ∷ xs) q = (ends p x ≡ false) × (separates p x ≡ false) × Passes (after p x) xs q

pub passes-append : (p q r : Place) (xs ys : List ℕ) → Passes p xs q → Passes q ys r → Passes p (xs ++ ys) r
passes-append p q r [] ys h k = subst (λ o. Passes o ys r) (sym h) k
passes-append p q r (x ∷ xs) ys h k = (h.0, h.1, passes-append (after p x) q r xs ys h.2 k)

pub passes_end : (p q : Place) (i : ℕ) (xs rest : List ℕ) → Passes p xs q → end_from p i (xs ++ rest) ≡ end_from q (i + length xs) rest
unfolding end_from
passes_end p q i [] rest h =
    let move : i ≡ i + 0 = omega arith in
    ap (λ o. end_from o i rest) h ∙ ap (λ n. end_from q n rest) move
passes_end p q i (x ∷ xs) rest h =
    let move : i + 1 + length xs ≡ i + suc (length xs) = omega arith in
    ap (λ b. cond b (Some i) (end_from (after p x) (i + 1) (xs ++ rest))) h.0
    ∙ passes_end (after p x) q (i + 1) xs rest h.2 ∙ ap (λ n. end_from q n rest) move

pub passes_later : (f : List ℕ) (p q : Place) (i : ℕ) (xs rest : List ℕ) → Passes p xs q → later_from f p i (xs ++ rest) ≡ later_from f q (i + length xs) rest
unfolding later_from
passes_later f p q i [] rest h =
    let move : i ≡ i + 0 = omega arith in
    ap (λ o. later_from f o i rest) h ∙ ap (λ n. later_from f q n rest) move
passes_later f p q i (x ∷ xs) rest h =
    let move : i + 1 + length xs ≡ i + suc (length xs) = omega arith in
    let next = later_from f (after p x) (i + 1) (xs ++ rest) in
    let found = starts_with nat_eq (xs ++ rest) f in
    ap (λ b. cond b None (cond (separates p x && found) (Some (i + 1 + length f)) next)) h.0
    ∙ ap (λ b. cond (b && found) (Some (i + 1 + length f)) next) h.1
    ∙ passes_later f (after p x) q (i + 1) xs rest h.2 ∙ ap (λ n. later_from f q n rest) move

abbrev pub plain : ℕ → Place
plain k = record { mode = Plain; depth = k }

abbrev pub in_string : ℕ → Place
in_string k = record { mode = Quoted; depth = k }

and_none : (b : Bool) → (b && false) ≡ false
and_none true = refl
and_none false = refl

-- ---- bytes that are no quote, bracket or comma

abbrev is_loud : ℕ → Bool
is_loud b = nat_eq b 34 || (nat_eq b 44 || (opens b || closes b))

abbrev AllCalm : List ℕ → Type 0
AllCalm [] = Unit {0}
AllCalm (x ∷ xs) = (is_loud x ≡ false) × AllCalm xs

last_of : (q o c : Bool) (k : ℕ) → q ≡ false → o ≡ false → c ≡ false
    → cond q (in_string k) (cond o (plain (k + 1)) (cond c (plain (k - 1)) (plain k))) ≡ plain k
last_of true o c k h i j = cc
last_of false true c k h i j = cc
last_of false false true k h i j = cc
last_of false false false k h i j = refl

calm_after : (k b : ℕ) → is_loud b ≡ false → after (plain k) b ≡ plain k
unfolding after
calm_after k b h =
    let more = or_second (nat_eq b 34) (nat_eq b 44 || (opens b || closes b)) h in
    let brackets = or_second (nat_eq b 44) (opens b || closes b) more in
    last_of (nat_eq b 34) (opens b) (closes b) k (or_first (nat_eq b 34) (nat_eq b 44 || (opens b || closes b)) h) (or_first (opens b) (closes b) brackets) (or_second (opens b) (closes b) brackets)

calm_ends : (k b : ℕ) → is_loud b ≡ false → ends (plain k) b ≡ false
calm_ends k b h =
    let more = or_second (nat_eq b 34) (nat_eq b 44 || (opens b || closes b)) h in
    let brackets = or_second (nat_eq b 44) (opens b || closes b) more in
    ap (λ t. nat_eq k 0 && t) (or_second (opens b) (closes b) brackets) ∙ and_none (nat_eq k 0)

calm_separates : (k b : ℕ) → is_loud b ≡ false → separates (plain k) b ≡ false
calm_separates k b h =
    let more = or_second (nat_eq b 34) (nat_eq b 44 || (opens b || closes b)) h in
    ap (λ t. nat_eq k 0 && t) (or_first (nat_eq b 44) (opens b || closes b) more) ∙ and_none (nat_eq k 0)

pub calm_passes : (k : ℕ) (xs : List ℕ) → AllCalm xs → Passes (plain k) xs (plain k)
calm_passes k [] h = refl
calm_passes k (x ∷ xs) h = (calm_ends k x h.0, calm_separates k x h.0, subst (λ p. Passes p xs (plain k)) (sym (calm_after k x h.0)) (calm_passes k xs h.1))

-- ---- numbers

abbrev glyph : ℕ → ℕ
glyph d = cond (nat_lt d 10) (48 + d) (87 + d)

glyph_calm : (d : ℕ) → d < 10 → is_loud (glyph d) ≡ false
glyph_calm zero h = refl
glyph_calm (suc zero) h = refl
glyph_calm (suc (suc zero)) h = refl
glyph_calm (suc (suc (suc zero))) h = refl
glyph_calm (suc (suc (suc (suc zero)))) h = refl
glyph_calm (suc (suc (suc (suc (suc zero))))) h = refl
glyph_calm (suc (suc (suc (suc (suc (suc zero)))))) h = refl
glyph_calm (suc (suc (suc (suc (suc (suc (suc zero))))))) h = refl
glyph_calm (suc (suc (suc (suc (suc (suc (suc (suc zero)))))))) h = refl
glyph_calm (suc (suc (suc (suc (suc (suc (suc (suc (suc zero))))))))) h = refl
glyph_calm (suc (suc (suc (suc (suc (suc (suc (suc (suc (suc d)))))))))) h = absurd (omega (arith, h))

choose_calm : (b : Bool) (xs ys : List ℕ) → AllCalm xs → AllCalm ys → AllCalm (cond b xs ys)
choose_calm true xs ys h k = h
choose_calm false xs ys h k = k

onto_calm : (k n : ℕ) (acc : List ℕ) → AllCalm acc → AllCalm (digits_onto k 10 false n acc)
onto_calm zero n acc h = h
onto_calm (suc k) n acc h =
    let small : n % 10 < 10 = omega arith in
    let more : AllCalm (glyph (n % 10) ∷ acc) = (glyph_calm (n % 10) small, h) in
    choose_calm (n / 10 == 0) (glyph (n % 10) ∷ acc) (digits_onto k 10 false (n / 10) (glyph (n % 10) ∷ acc)) more (onto_calm k (n / 10) (glyph (n % 10) ∷ acc) more)

pub decimal_calm : (n : ℕ) → AllCalm (decimal n)
unfolding digits
decimal_calm n = onto_calm 64 n [] tt

number_calm : (x : Num) → AllCalm (number_text x)
number_calm (unsigned n) = decimal_calm n
number_calm (negative (pos n)) = decimal_calm n
number_calm (negative (negsuc n)) = (refl, decimal_calm (suc n))
number_calm (float x) = tt

-- ---- strings

abbrev pub Quiet : ℕ → Type 0
Quiet x = (nat_eq x 34 ≡ false) × (nat_eq x 92 ≡ false)

stay : (q e : Bool) (k : ℕ) → q ≡ false → e ≡ false → cond q (plain k) (cond e (record { mode = Escaped; depth = k }) (in_string k)) ≡ in_string k
stay true e k h i = cc
stay false true k h i = cc
stay false false k h i = refl

quiet_passes : (k x : ℕ) (xs : List ℕ) (q : Place) → Quiet x → Passes (in_string k) xs q → Passes (in_string k) (x ∷ xs) q
unfolding after
quiet_passes k x xs q quiet h =
    let same : after (in_string k) x ≡ in_string k = stay (nat_eq x 34) (nat_eq x 92) k quiet.0 quiet.1 in
    (refl, refl, subst (λ p. Passes p xs q) (sym same) h)

-- a backslash, and the byte after it
escaped_passes : (k x : ℕ) (xs : List ℕ) (q : Place) → Passes (in_string k) xs q → Passes (in_string k) (92 ∷ x ∷ xs) q
unfolding after
escaped_passes k x xs q h = (refl, refl, (refl, refl, h))

glyph_quiet : (d : ℕ) → d < 16 → Quiet (digit_char d)
glyph_quiet zero h = (refl, refl)
glyph_quiet (suc zero) h = (refl, refl)
glyph_quiet (suc (suc zero)) h = (refl, refl)
glyph_quiet (suc (suc (suc zero))) h = (refl, refl)
glyph_quiet (suc (suc (suc (suc zero)))) h = (refl, refl)
glyph_quiet (suc (suc (suc (suc (suc zero))))) h = (refl, refl)
glyph_quiet (suc (suc (suc (suc (suc (suc zero)))))) h = (refl, refl)
glyph_quiet (suc (suc (suc (suc (suc (suc (suc zero))))))) h = (refl, refl)
glyph_quiet (suc (suc (suc (suc (suc (suc (suc (suc zero)))))))) h = (refl, refl)
glyph_quiet (suc (suc (suc (suc (suc (suc (suc (suc (suc zero))))))))) h = (refl, refl)
glyph_quiet (suc (suc (suc (suc (suc (suc (suc (suc (suc (suc zero)))))))))) h = (refl, refl)
glyph_quiet (suc (suc (suc (suc (suc (suc (suc (suc (suc (suc (suc zero))))))))))) h = (refl, refl)
glyph_quiet (suc (suc (suc (suc (suc (suc (suc (suc (suc (suc (suc (suc zero)))))))))))) h = (refl, refl)
glyph_quiet (suc (suc (suc (suc (suc (suc (suc (suc (suc (suc (suc (suc (suc zero))))))))))))) h = (refl, refl)
glyph_quiet (suc (suc (suc (suc (suc (suc (suc (suc (suc (suc (suc (suc (suc (suc zero)))))))))))))) h = (refl, refl)
glyph_quiet (suc (suc (suc (suc (suc (suc (suc (suc (suc (suc (suc (suc (suc (suc (suc zero))))))))))))))) h = (refl, refl)
glyph_quiet (suc (suc (suc (suc (suc (suc (suc (suc (suc (suc (suc (suc (suc (suc (suc (suc d)))))))))))))))) h = absurd (omega (arith, h))

no_letter : (a b : Bool) (x y : ℕ) → (a ≡ true → nat_lt 0 x ≡ true) → (b ≡ true → nat_lt 0 x ≡ true) → nat_lt 0 (cond (a || b) x y) ≡ false → (a ≡ false) × (b ≡ false)
no_letter true b x y f g h = absurd (apart (nat_lt 0 x) (f refl) h)
no_letter false true x y f g h = absurd (apart (nat_lt 0 x) (g refl) h)
no_letter false false x y f g h = (refl, refl)

above : (x n : ℕ) → nat_lt 0 n ≡ true → nat_eq x n ≡ true → nat_lt 0 x ≡ true
above x n h e = subst (λ m. nat_lt 0 m ≡ true) (sym (nat_eq-true x n e)) h

pub unescaped : (x : ℕ) → nat_lt 0 (escape_letter x) ≡ false → Quiet x
unescaped x h =
    no_letter (nat_eq x 34) (nat_eq x 92) x
    (cond (x == 8) 98 (cond (x == 12) 102 (cond (x == 10) 110 (cond (x == 13) 114 (cond (x == 9) 116 0))))) (above x 34 refl) (above x 92 refl) h

written : (b c : Bool) (k x l g e : ℕ) → (b ≡ false → Quiet x) → (c ≡ true → Quiet g × Quiet e) → Passes (in_string k) (cond b (92 ∷ l ∷ []) (cond c (92 ∷ 117 ∷ 48 ∷ 48 ∷ g ∷ e ∷ []) (x ∷ []))) (in_string k)
written true c k x l g e f h = escaped_passes k l [] (in_string k) refl
written false true k x l g e f h =
    let q = in_string k in
    escaped_passes k 117 (48 ∷ 48 ∷ g ∷ e ∷ []) q
    (quiet_passes k 48 (48 ∷ g ∷ e ∷ []) q (refl, refl)
    (quiet_passes k 48 (g ∷ e ∷ []) q (refl, refl) (quiet_passes k g (e ∷ []) q (h refl).0 (quiet_passes k e [] q (h refl).1 refl))))
written false false k x l g e f h = quiet_passes k x [] (in_string k) (f refl) refl

small_digits : (x : ℕ) → nat_lt x 32 ≡ true → Quiet (digit_char (x / 16)) × Quiet (digit_char (x % 16))
small_digits x h =
    let lt : x < 32 = ltb-true x 32 h in
    (glyph_quiet (x / 16) (omega (arith, lt)), glyph_quiet (x % 16) (omega arith))

byte_passes : (k x : ℕ) → Passes (in_string k) (escape_byte x) (in_string k)
unfolding escape_byte
byte_passes k x = written (nat_lt 0 (escape_letter x)) (nat_lt x 32) k x (escape_letter x) (digit_char (x / 16)) (digit_char (x % 16)) (unescaped x) (small_digits x)

pub escape_passes : (k : ℕ) (s : List ℕ) → Passes (in_string k) (escape s) (in_string k)
escape_passes k [] = refl
escape_passes k (x ∷ xs) = passes-append (in_string k) (in_string k) (in_string k) (escape_byte x) (escape xs) (byte_passes k x) (escape_passes k xs)

pub string_passes : (k : ℕ) (s : List ℕ) → Passes (plain k) (quoted s) (plain k)
unfolding after
string_passes k s = (
  and_none (nat_eq k 0),
  and_none (nat_eq k 0),
  passes-append (in_string k) (in_string k) (plain k) (escape s) (34 ∷ []) (escape_passes k s) (refl, refl, refl),
)

-- ---- data

deep : (k : ℕ) → nat_eq (k + 1) 0 ≡ false
deep k = let same : k + 1 ≡ suc k = omega arith in ap (λ n. nat_eq n 0) same ∙ eqb-suc-zero k

one_less : (k : ℕ) → plain (k + 1 - 1) ≡ plain k
one_less k = let same : k + 1 - 1 ≡ k = omega arith in ap plain same

comma_passes : (k : ℕ) (later : Bool) → Passes (plain (k + 1)) (comma_if later) (plain (k + 1))
unfolding after
comma_passes k true = (and_none (nat_eq (k + 1) 0), ap (λ t. t && true) (deep k), refl)
comma_passes k false = refl

closing_passes : (k b : ℕ) → closes b ≡ true → nat_eq b 44 ≡ false → after (plain (k + 1)) b ≡ plain (k + 1 - 1) → Passes (plain (k + 1)) (b ∷ []) (plain k)
closing_passes k b h other next =
    (ap (λ t. t && closes b) (deep k), ap (λ t. t && nat_eq b 44) (deep k), next ∙ one_less k)

pub colon_passes : (k : ℕ) (xs : List ℕ) (q : Place) → Passes (plain k) xs q → Passes (plain k) (58 ∷ xs) q
unfolding after
colon_passes k xs q h = (and_none (nat_eq k 0), and_none (nat_eq k 0), h)

mutual
  unfolding after

  pub data_passes : (k : ℕ) (d : Data) → Passes (plain k) (compact_text d) (plain k)
  data_passes k null = calm_passes k (110 ∷ 117 ∷ 108 ∷ 108 ∷ []) (refl, (refl, (refl, (refl, tt))))
  data_passes k (boolean true) = calm_passes k (116 ∷ 114 ∷ 117 ∷ 101 ∷ []) (refl, (refl, (refl, (refl, tt))))
  data_passes k (boolean false) = calm_passes k (102 ∷ 97 ∷ 108 ∷ 115 ∷ 101 ∷ []) (refl, (refl, (refl, (refl, (refl, tt)))))
  data_passes k (number n) = calm_passes k (number_text n) (number_calm n)
  data_passes k (string s) = string_passes k s
  data_passes k (array ds) = (and_none (nat_eq k 0), and_none (nat_eq k 0), items_pass k false ds)
  data_passes k (object ms) = (and_none (nat_eq k 0), and_none (nat_eq k 0), members_pass k false ms)

  items_pass : (k : ℕ) (later : Bool) (ds : Items) → Passes (plain (k + 1)) (items_text later ds) (plain k)
  items_pass k later no_items = closing_passes k 93 refl refl refl
  items_pass k later (item d ds) =
      let p = plain (k + 1) in
      passes-append p p (plain k) (comma_if later) (compact_text d ++ items_text true ds) (comma_passes k later)
      (passes-append p p (plain k) (compact_text d) (items_text true ds) (data_passes (k + 1) d) (items_pass k true ds))

  members_pass : (k : ℕ) (later : Bool) (ms : Members) → Passes (plain (k + 1)) (members_text later ms) (plain k)
  members_pass k later no_members = closing_passes k 125 refl refl refl
  members_pass k later (member n d ms) =
      let p = plain (k + 1) in
      passes-append p p (plain k) (comma_if later) (quoted n ++ 58 ∷ (compact_text d ++ members_text true ms)) (comma_passes k later)
      (passes-append p p (plain k) (quoted n) (58 ∷ (compact_text d ++ members_text true ms)) (string_passes (k + 1) n)
      (colon_passes (k + 1) (compact_text d ++ members_text true ms) (plain k)
      (passes-append p p (plain k) (compact_text d) (members_text true ms) (data_passes (k + 1) d) (members_pass k true ms))))

-- ---- objects

-- the members of an object, without its last bracket
abbrev pub body : Bool → Members → List ℕ
body later no_members = []
body later (member n d ms) = comma_if later ++ (quoted n ++ 58 ∷ (compact_text d ++ body true ms))

pub body_is : (later : Bool) (ms : Members) → members_text later ms ≡ body later ms ++ 125 ∷ []
body_is later no_members = refl
body_is later (member n d ms) =
    let end = 125 ∷ [] in
    let inner : compact_text d ++ members_text true ms ≡ (compact_text d ++ body true ms) ++ end =
    ap (λ w. compact_text d ++ w) (body_is true ms) ∙ sym (append_assoc (compact_text d) (body true ms) end) in
    let named : quoted n ++ 58 ∷ (compact_text d ++ members_text true ms) ≡ (quoted n ++ 58 ∷ (compact_text d ++ body true ms)) ++ end =
    ap (λ w. quoted n ++ 58 ∷ w) inner ∙ sym (append_assoc (quoted n) (58 ∷ (compact_text d ++ body true ms)) end) in
    ap (λ w. comma_if later ++ w) named ∙ sym (append_assoc (comma_if later) (quoted n ++ 58 ∷ (compact_text d ++ body true ms)) end)

comma_end : (later : Bool) (i : ℕ) (xs : List ℕ) → end_from start i (comma_if later ++ xs) ≡ end_from start (i + length (comma_if later)) xs
unfolding end_from after
comma_end true i xs = refl
comma_end false i xs = let same : i ≡ i + 0 = omega arith in ap (λ n. end_from start n xs) same

-- a member of an object, with its value
pub entry_passes : (k : ℕ) (n : List ℕ) (d : Data) → Passes (plain k) (quoted n ++ 58 ∷ compact_text d) (plain k)
entry_passes k n d =
    passes-append (plain k) (plain k) (plain k) (quoted n) (58 ∷ compact_text d) (string_passes k n) (colon_passes k (compact_text d) (plain k) (data_passes k d))

pub body_end : (later : Bool) (ms : Members) (i : ℕ) → end_from start i (body later ms ++ 125 ∷ []) ≡ Some (i + length (body later ms))
unfolding end_from
body_end later no_members i = let same : i ≡ i + 0 = omega arith in ap Some same
body_end later (member n d ms) i =
    let end = 125 ∷ [] in
    let rest = body true ms in
    let first = quoted n ++ 58 ∷ compact_text d in
    let cut : quoted n ++ 58 ∷ (compact_text d ++ rest) ≡ first ++ rest = sym (append_assoc (quoted n) (58 ∷ compact_text d) rest) in
    let whole : body later (member n d ms) ++ end ≡ comma_if later ++ (first ++ (rest ++ end)) =
    append_assoc (comma_if later) (quoted n ++ 58 ∷ (compact_text d ++ rest)) end
    ∙ ap (λ w. comma_if later ++ w) (ap (λ w. w ++ end) cut ∙ append_assoc first rest end) in
    let c = length (comma_if later) in
    let size : length (body later (member n d ms)) ≡ c + (length first + length rest) =
    length-append (comma_if later) (quoted n ++ 58 ∷ (compact_text d ++ rest)) ∙ ap (λ m. c + m) (ap length cut ∙ length-append first rest) in
    let place : i + c + length first + length rest ≡ i + length (body later (member n d ms)) = omega (arith, size) in
    ap (end_from start i) whole ∙ comma_end later i (first ++ (rest ++ end))
    ∙ passes_end start start (i + c) first (rest ++ end) (entry_passes 0 n d)
    ∙ body_end true ms (i + c + length first) ∙ ap Some place

pub objects_end : ObjectsEnd
objects_end ms = record {
  inside = body false ms;
  text_is = ap (λ w. 123 ∷ w) (body_is false ms);
  whole = body_end false ms 0 ∙ ap Some (zero-add (length (body false ms)));
}
