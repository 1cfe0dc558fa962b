-- The JSON of a value is at most one and a half times as long as its text.
use Rattle.std.proofs.Common.{arith, ◌≡◌, ◌≤◌, ◌<◌, ◌+◌, ◌*◌, ◌-◌, ℕ, zero, suc, ℤ, Bool, true, false, nat_eq, nat_lt, nat_le, ◌&&◌, List, [], ◌∷◌, ◌++◌, length, get_or, map, Option, Some, None, IsUtf8, refl, ap, ap₂, sym, subst, ◌∙◌, append_assoc, append-nil, length-append, inl, inr, if◌then◌else◌}
use Rattle.std.specs.Prelude.{codes, flat_map, slice_get}
use Rattle.std.specs.Fmt.{signed_decimal}
use Rattle.std.specs.Str.{chars}
use Rattle.std.specs.Option.{option_and_then, option_map}
use Rattle.std.specs.Ordering.{match_ordering, nat_cmp}
use Rattle.std.specs.Cmp.Lexicographic.{slice_cmp}
use Rattle.std.specs.declared.cmp.Ordering.{Ordering}
use Rattle.std.specs.declared.cmp.Ordering.TheVariants.{Less, Equal, Greater}
use Rattle.std.proofs.lemmas.Bool.{and_parts, cases_eq, cases_lt, le-ltb, leb-true, ne_eqb}
use Rattle.std.proofs.lemmas.Str.{chars-encodes, encode_ascii, inside_one}
use lib.Utf8.{encode, encodes}
use Rattle.json.specs.Print as json
use Rattle.json.specs.Print.{escape, escape_byte}
use Rattle.json.proofs.Printed.Strings.{escape_byte_plain}
use Rattle.serde_json.specs.Data.{Data, Items, Members, array, boolean, item, member, no_items, no_members, null, number, object, put, string}
use Rattle.serde_json.specs.Find.{of_integer}
use Rattle.serde_json.specs.Written.{comma_if, compact_text, items_text, members_text}
use Rattle.star_store.specs.declared.fault.StoreFault.TheVariants.{Steps}
use Rattle.star_store.specs.declared.values.Value.{Value}
use Rattle.star_store.specs.declared.values.Value.TheVariants as value
use Rattle.star_store.specs.declared.values.Cell.{Cell}
use Rattle.star_store.specs.declared.values.Cell.TheVariants as cell
use Rattle.star_store.specs.Spend.{Enough, Lacks, Spend, Spent, spend_then, visited}
use Rattle.star_store.specs.Text.{Say, all_said, bool_text, on_path, quoted, say, say_cell, say_dict, say_entries, say_entry, say_field, say_fields, say_item, say_items, say_list, say_named, say_new_dict, say_new_list, say_pair, say_place, say_set, say_struct, say_tuple, say_value, separator, shown, shown_char, text, then_say, tuple_end}
use Rattle.star_data.specs.Data.{cell_data, cell_of, data_of, entries_data, fields_data, items_data, key_in, utf8_of, value_data}
use Rattle.star_data.specs.Laws.{IsNoLonger, IsPlain, NamesArePlain}
use Rattle.star_data.specs.Paths.{AllStandInEach, StandsInEach}
use Rattle.star_data.proofs.Elements.{elements_are_items}
use Rattle.star_data.proofs.Ints.{int_is}
use Rattle.star_data.proofs.Builds.{in_a_dict, in_a_list, in_a_set, in_a_struct, in_a_tuple, mapped_at, no_cell_data, starts}
use Rattle.star_data.proofs.Options.{chained, mapped}
use Rattle.star_data.proofs.Parts.{is_text}
use Rattle.star_data.proofs.Sent.{int_text}
use Rattle.star_data.proofs.Strings.{key_is, string_is, utf8_is}

-- ---- strings

-- the JSON of each character below n is short enough
abbrev short_below : ℕ → Bool
short_below zero = true
short_below (suc n) = nat_le (2 * length (escape (n ∷ []))) (3 * length (shown_char n)) && short_below n

short_at : (n : ℕ) → short_below n ≡ true → (c : ℕ) → c < n → 2 * length (escape (c ∷ [])) ≤ 3 * length (shown_char c)
short_at zero e c h = absurd (omega (arith, h))
short_at (suc n) e c h =
    let p = and_parts _ _ e in
    let here : 2 * length (escape (n ∷ [])) ≤ 3 * length (shown_char n) = leb-true _ _ p.0 in
    elim (cases_eq c n) [ inl same ↦ subst (λ z. 2 * length (escape (z ∷ [])) ≤ 3 * length (shown_char z)) (sym same) here | inr other ↦ short_at n p.1 c (omega (arith, h, other)) ]

all_short : short_below 128 ≡ true
unfolding escape_byte shown_char encode
all_short = refl

-- a character that is not ASCII is itself in both
itself : (c : ℕ) → 128 ≤ c → shown_char c ≡ encode c
unfolding shown_char
itself c h = rw (le-ltb c 32 (omega (arith, h)), ne_eqb c 34 (λ e. omega (arith, h, e)), ne_eqb c 92 (λ e. omega (arith, h, e)), ne_eqb c 10 (λ e. omega (arith, h, e)), ne_eqb c 13 (λ e. omega (arith, h, e)), ne_eqb c 9 (λ e. omega (arith, h, e)), ne_eqb c 127 (λ e. omega (arith, h, e))) refl

escape_high : (xs : List ℕ) → ((k : ℕ) → k < length xs → 128 ≤ get_or xs k 0) → escape xs ≡ xs
escape_high [] h = refl
escape_high (x ∷ xs) h =
    let high : 128 ≤ x = h 0 (omega arith) in
    ap₂ (λ (a b : List ℕ). a ++ b) (escape_byte_plain x (λ e. omega arith) (λ e. omega arith) (omega arith)) (escape_high xs (λ k below. h (suc k) (omega arith)))

escape_append : (xs ys : List ℕ) → escape (xs ++ ys) ≡ escape xs ++ escape ys
escape_append [] ys = refl
escape_append (x ∷ xs) ys = ap (λ l. escape_byte x ++ l) (escape_append xs ys) ∙ sym (append_assoc (escape_byte x) _ _)

one_char : (c : ℕ) → 2 * length (escape (encode c)) ≤ 3 * length (shown_char c)
one_char c = elim (cases_lt c 128) [
  | inl small ↦ subst (λ z. 2 * length (escape z) ≤ 3 * length (shown_char c)) (sym (encode_ascii c small)) (short_at 128 all_short c small)
  | inr big ↦
      let high : (k : ℕ) → k < length (encode c) → 128 ≤ get_or (encode c) k 0 = λ k below. elim (cases_lt (get_or (encode c) k 0) 128) [
        | inl low ↦ absurd (omega (arith, inside_one c [] (encode c) k (sym (append-nil _)) below low))
        | inr h ↦ h
      ] in
      let same : length (escape (encode c)) ≡ length (shown_char c) = ap length (escape_high (encode c) high ∙ sym (itself c big)) in
      omega (arith, same)
]

all_chars : (cs : List ℕ) → 2 * length (escape (encodes cs)) ≤ 3 * length (flat_map shown_char cs)
all_chars [] = omega arith
all_chars (c ∷ cs) =
    let first = one_char c in
    let rest = all_chars cs in
    let split : length (escape (encode c ++ encodes cs)) ≡ length (escape (encode c)) + length (escape (encodes cs)) = ap length (escape_append (encode c) (encodes cs)) ∙ length-append (escape (encode c)) (escape (encodes cs)) in
    omega (arith, first, rest, split, length-append (shown_char c) (flat_map shown_char cs))

shown_long : (t : List ℕ) → IsUtf8 t → 2 * length (escape t) ≤ 3 * length (shown t)
shown_long t u =
    let known : chars t ≡ u.0 = ap chars (sym u.1.1) ∙ chars-encodes u.0 u.1.0 in
    subst (λ s. 2 * length (escape s) ≤ 3 * length (shown t)) u.1.1 (subst (λ cs. 2 * length (escape (encodes u.0)) ≤ 3 * length (flat_map shown_char cs)) (sym known) (all_chars u.0))

-- a string in quotes
string_long : (t : List ℕ) → IsUtf8 t → 2 * length (json.quoted t) ≤ 3 * length (quoted t)
string_long t u =
    let inside = shown_long t u in
    let one : length (codes "\"") ≡ 1 = refl in
    omega (arith, inside, one, length-append (escape t) (34 ∷ []), length-append (codes "\"") (shown t ++ codes "\""), length-append (shown t) (codes "\""))

-- a string of plain bytes is as long as itself in JSON
plain_escape : (t : List ℕ) → ((j b : ℕ) → slice_get t j ≡ Some b → IsPlain b) → escape t ≡ t
plain_escape [] h = refl
plain_escape (x ∷ t) h =
    let p = h 0 x refl in
    ap₂ (λ (a b : List ℕ). a ++ b) (escape_byte_plain x p.quote p.backslash p.above) (plain_escape t (λ j b at. h (suc j) b at))

plain_long : (t : List ℕ) → ((j b : ℕ) → slice_get t j ≡ Some b → IsPlain b) → length (json.quoted t) ≡ length t + 2
plain_long t h =
    let same : length (escape t) ≡ length t = ap length (plain_escape t h) in
    omega (arith, same, length-append (escape t) (34 ∷ []))

-- ---- texts that are written

said : (t out new : List ℕ) (n left : ℕ) → say t out n ≡ Enough new left → length new ≡ length out + length t
said t out new n left e = let same : out ++ t ≡ new = cc in ap length (sym same) ∙ length-append out t

-- one text and then another
record Parted (a b : Say) (out new : List ℕ) (n left : ℕ) : Type 0 where
  mid : List ℕ
  steps : ℕ
  first : a out n ≡ Enough mid steps
  second : b mid steps ≡ Enough new left

parted : (a b : Say) (out new : List ℕ) (n left : ℕ) → then_say a b out n ≡ Enough new left → Parted a b out new n left
parted a b out new n left e = turn (a out n) refl e
  where
    turn : (o : Spent (List ℕ)) → a out n ≡ o → spend_then o b ≡ Enough new left → Parted a b out new n left
    turn (Enough mid m) is h = record { mid = mid; steps = m; first = is; second = h }
    turn (Lacks f m) is h = absurd (let no : ⊥ = cc in no)

unvisited : (f : Spend (List ℕ)) (n left : ℕ) (new : List ℕ) → visited f n ≡ Enough new left → f (n - 1) ≡ Enough new left
unvisited f n left new e = split (nat_lt n 1) e
  where
    split : (b : Bool) → (let o : Spent (List ℕ) = if b then Lacks Steps n else f (n - 1) in o) ≡ Enough new left → f (n - 1) ≡ Enough new left
    split true h = absurd (let no : ⊥ = cc in no)
    split false h = h

-- the JSON of data is at most one and a half times as long as the text that was added to another
abbrev Fits : Data → List ℕ → List ℕ → Type 0
Fits d out new = 2 * length (compact_text d) + 3 * length out ≤ 3 * length new

abbrev SaysEnough : Say → Data → Type 0
SaysEnough a d = (out new : List ℕ) (n left : ℕ) → a out n ≡ Enough new left → Fits d out new

-- ---- items

comma_later : (i : ℕ) → length (separator (i + 1)) ≡ 2
comma_later i = ap (λ b. length (let s : List ℕ = if b then [] else codes ", " in s)) (ne_eqb (i + 1) 0 (λ e. omega (arith, e)))

-- a row is the rest of another from a place on
abbrev IsRest : {A : Type 0} → List A → ℕ → List A → Type 0
IsRest whole i xs = (j : ℕ) → slice_get whole (i + j) ≡ slice_get xs j

rest_first : {A : Type 0} (whole : List A) (i : ℕ) (x : A) (xs : List A) → IsRest whole i (x ∷ xs) → slice_get whole i ≡ Some x
rest_first whole i x xs h = let at : i + 0 ≡ i = omega arith in ap (slice_get whole) (sym at) ∙ h 0

rest_later : {A : Type 0} (whole : List A) (i : ℕ) (x : A) (xs : List A) → IsRest whole i (x ∷ xs) → IsRest whole (i + 1) xs
rest_later whole i x xs h = λ j. (let at : i + 1 + j ≡ i + suc j = omega arith in ap (slice_get whole) at ∙ h (suc j))

rest_all : {A : Type 0} (xs : List A) → IsRest xs 0 xs
rest_all xs = λ j. (let at : 0 + j ≡ j = omega arith in ap (slice_get xs) at)

items_said : (g : Value → Say) (f : Value → Option Data) (whole xs : List Value) (i : ℕ) (ds : Items) (later : Bool) → 2 * length (comma_if later) ≤ 3 * length (separator i) → IsRest whole i xs
    → ((j : ℕ) (x : Value) (d : Data) → slice_get xs j ≡ Some x → f x ≡ Some d → SaysEnough (g x) d) → items_data f xs ≡ Some ds
    → (out new : List ℕ) (n left : ℕ) → all_said (say_place g whole) (length xs) i out n ≡ Enough new left → 2 * length (items_text later ds) + 3 * length out ≤ 3 * length new + 2
items_said g f whole [] i ds later comma rest parts is out new n left e =
    let none : no_items ≡ ds = cc in
    let same : out ≡ new = cc in
    let text : length (items_text later ds) ≡ 1 = ap (λ z. length (items_text later z)) (sym none) in
    omega (arith, text, ap length same)
items_said g f whole (x ∷ xs) i ds later comma rest parts is out new n left e =
    let first = chained (λ d. option_map (item d) (items_data f xs)) (f x) ds is in
    let more = mapped (item first.0) (items_data f xs) ds first.2 in
    let both = parted (say_place g whole i) (all_said (say_place g whole) (length xs) (i + 1)) out new n left e in
    let place = parted (say (separator i)) (say_item g (slice_get whole i)) out both.mid n both.steps both.first in
    let there : g x place.mid place.steps ≡ Enough both.mid both.steps = ap (λ o. say_item g o place.mid place.steps) (sym (rest_first whole i x xs rest)) ∙ place.second in
    let here = parts 0 x first.0 refl first.1 place.mid both.mid place.steps both.steps there in
    let before = said (separator i) out place.mid n place.steps place.first in
    let next = items_said g f whole xs (i + 1) more.0 true (let two = comma_later i in omega (arith, two)) (rest_later whole i x xs rest) (λ j. parts (suc j)) more.1 both.mid new both.steps left both.second in
    let text : length (items_text later ds) ≡ length (comma_if later) + (length (compact_text first.0) + length (items_text true more.0)) =
    ap (λ z. length (items_text later z)) (sym more.2) ∙ (length-append (comma_if later) (compact_text first.0 ++ items_text true more.0) ∙ ap (λ z. length (comma_if later) + z) (length-append (compact_text first.0) (items_text true more.0))) in
    omega (arith, comma, here, before, next, text)

-- items between brackets, at least one byte each
array_said : (g : Value → Say) (f : Value → Option Data) (xs : List Value) (ds : Items) (head tail : List ℕ) → 1 ≤ length head → 1 ≤ length tail → ((j : ℕ) (x : Value) (d : Data) → slice_get xs j ≡ Some x → f x ≡ Some d → SaysEnough (g x) d) → items_data f xs ≡ Some ds
    → SaysEnough (then_say (say head) (then_say (say_items g xs) (say tail))) (array ds)
array_said g f xs ds head tail some end parts is out new n left e =
    let one = parted (say head) (then_say (say_items g xs) (say tail)) out new n left e in
    let two = parted (say_items g xs) (say tail) one.mid new one.steps left one.second in
    let begun = said head out one.mid n one.steps one.first in
    let inside = items_said g f xs xs 0 ds false (omega arith) (rest_all xs) parts is one.mid two.mid one.steps two.steps two.first in
    let ended = said tail two.mid new two.steps left two.second in
    omega (arith, some, end, begun, inside, ended)

tuple_ends : (xs : List Value) → 1 ≤ length (tuple_end xs)
tuple_ends xs = turn (nat_eq (length xs) 1)
  where
    turn : (b : Bool) → 1 ≤ length (let s : List ℕ = if b then codes ",)" else codes ")" in s)
    turn true = omega arith
    turn false = omega arith

-- ---- members

-- each with a colon and a comma
abbrev weight : Members → ℕ
weight no_members = 0
weight (member k d ms) = length (json.quoted k) + length (compact_text d) + 2 + weight ms

comma_short : (later : Bool) → length (comma_if later) ≤ 1
comma_short true = omega arith
comma_short false = omega arith

members_short : (later : Bool) (ms : Members) → length (members_text later ms) ≤ 1 + weight ms
members_short later no_members = omega arith
members_short later (member k d ms) =
    let rest = members_short true ms in
    let comma = comma_short later in
    let text : length (members_text later (member k d ms)) ≡ length (comma_if later) + (length (json.quoted k) + suc (length (compact_text d) + length (members_text true ms))) =
    length-append (comma_if later) (json.quoted k ++ 58 ∷ (compact_text d ++ members_text true ms))
    ∙ ap (λ z. length (comma_if later) + z) (length-append (json.quoted k) (58 ∷ (compact_text d ++ members_text true ms)) ∙ ap (λ z. length (json.quoted k) + suc z) (length-append (compact_text d) (members_text true ms))) in
    omega (arith, rest, comma, text)

weight_put : (k : List ℕ) (d : Data) (ms : Members) → weight (put k d ms) ≤ length (json.quoted k) + length (compact_text d) + 2 + weight ms
weight_put k d no_members = omega arith
weight_put k d (member l e ms) = turn (slice_cmp nat_cmp k l) (weight_put k d ms)
  where
    turn : (o : Ordering) → weight (put k d ms) ≤ length (json.quoted k) + length (compact_text d) + 2 + weight ms
        → weight (match_ordering o (member k d (member l e ms)) (member l d ms) (member l e (put k d ms))) ≤ length (json.quoted k) + length (compact_text d) + 2 + weight (member l e ms)
    turn Less rest = omega arith
    turn Equal rest = omega arith
    turn Greater rest = omega (arith, rest)

-- the text that is written for a key is long enough
abbrev KeyEnough : Say → List ℕ → Type 0
KeyEnough a k = (out new : List ℕ) (n left : ℕ) → a out n ≡ Enough new left → 2 * length (json.quoted k) + 3 * length out ≤ 3 * length new

entries_said : (look : Value → Option Cell) (g : Value → Say) (f : Value → Option Data) (whole es : List (Value × Value)) (i : ℕ) (ms : Members) → IsRest whole i es
    → ((j : ℕ) (e : Value × Value) (d : Data) → slice_get es j ≡ Some e → f e.1 ≡ Some d → SaysEnough (g e.1) d) → ((key : Value) (k : List ℕ) → key_in (cell_of look key) ≡ Some k → KeyEnough (g key) k)
    → entries_data look f es ≡ Some ms → (out new : List ℕ) (n left : ℕ) → all_said (say_entry g whole) (length es) i out n ≡ Enough new left → 2 * weight ms + 3 * length out ≤ 3 * length new
entries_said look g f whole [] i ms rest parts keys is out new n left e =
    let none : no_members ≡ ms = cc in
    let same : out ≡ new = cc in
    let light : weight ms ≡ 0 = ap weight (sym none) in
    omega (arith, light, ap length same)
entries_said look g f whole (x ∷ es) i ms rest parts keys is out new n left e =
    let k = chained (λ k. option_and_then (λ d. option_map (put k d) (entries_data look f es)) (f x.1)) (key_in (cell_of look x.0)) ms is in
    let d = chained (λ d. option_map (put k.0 d) (entries_data look f es)) (f x.1) ms k.2 in
    let more = mapped (put k.0 d.0) (entries_data look f es) ms d.2 in
    let both = parted (say_entry g whole i) (all_said (say_entry g whole) (length es) (i + 1)) out new n left e in
    let place = parted (say (separator i)) (say_pair g (slice_get whole i)) out both.mid n both.steps both.first in
    let there : say_pair g (Some x) place.mid place.steps ≡ Enough both.mid both.steps = ap (λ o. say_pair g o place.mid place.steps) (sym (rest_first whole i x es rest)) ∙ place.second in
    let key = parted (g x.0) (then_say (say (codes ": ")) (g x.1)) place.mid both.mid place.steps both.steps there in
    let colon = parted (say (codes ": ")) (g x.1) key.mid both.mid key.steps both.steps key.second in
    let before = said (separator i) out place.mid n place.steps place.first in
    let name = keys x.0 k.0 k.1 place.mid key.mid place.steps key.steps key.first in
    let between = said (codes ": ") key.mid colon.mid key.steps colon.steps colon.first in
    let two : length (codes ": ") ≡ 2 = refl in
    let here = parts 0 x d.0 refl d.1 colon.mid both.mid colon.steps both.steps colon.second in
    let next = entries_said look g f whole es (i + 1) more.0 (rest_later whole i x es rest) (λ j. parts (suc j)) keys more.1 both.mid new both.steps left both.second in
    let light : weight ms ≤ length (json.quoted k.0) + length (compact_text d.0) + 2 + weight more.0 = subst (λ z. weight z ≤ length (json.quoted k.0) + length (compact_text d.0) + 2 + weight more.0) more.2 (weight_put k.0 d.0 more.0) in
    omega (arith, before, name, between, two, here, next, light)

object_said : (look : Value → Option Cell) (g : Value → Say) (f : Value → Option Data) (es : List (Value × Value)) (ms : Members) → ((j : ℕ) (e : Value × Value) (d : Data) → slice_get es j ≡ Some e → f e.1 ≡ Some d → SaysEnough (g e.1) d)
    → ((key : Value) (k : List ℕ) → key_in (cell_of look key) ≡ Some k → KeyEnough (g key) k) → entries_data look f es ≡ Some ms → SaysEnough (say_new_dict g es) (object ms)
object_said look g f es ms parts keys is out new n left e =
    let one = parted (say (codes "{")) (then_say (say_entries g es) (say (codes "}"))) out new n left e in
    let two = parted (say_entries g es) (say (codes "}")) one.mid new one.steps left one.second in
    let begun = said (codes "{") out one.mid n one.steps one.first in
    let brace : length (codes "{") ≡ 1 = refl in
    let inside = entries_said look g f es es 0 ms (rest_all es) parts keys is one.mid two.mid one.steps two.steps two.first in
    let ended = said (codes "}") two.mid new two.steps left two.second in
    let back : length (codes "}") ≡ 1 = refl in
    let text = members_short false ms in
    omega (arith, begun, brace, inside, ended, back, text)

-- ---- fields

abbrev NamesPlain : List (List ℕ × Value) → Type 0
NamesPlain fs = (j : ℕ) (e : List ℕ × Value) → slice_get fs j ≡ Some e → (k b : ℕ) → slice_get e.0 k ≡ Some b → IsPlain b

fields_said : (g : Value → Say) (f : Value → Option Data) (whole fs : List (List ℕ × Value)) (i : ℕ) (ms : Members) → IsRest whole i fs → NamesPlain fs
    → ((j : ℕ) (e : List ℕ × Value) (d : Data) → slice_get fs j ≡ Some e → f e.1 ≡ Some d → SaysEnough (g e.1) d)
    → fields_data f fs ≡ Some ms → (out new : List ℕ) (n left : ℕ) → all_said (say_field g whole) (length fs) i out n ≡ Enough new left → 2 * weight ms + 3 * length out ≤ 3 * length new
fields_said g f whole [] i ms rest plain parts is out new n left e =
    let none : no_members ≡ ms = cc in
    let same : out ≡ new = cc in
    let light : weight ms ≡ 0 = ap weight (sym none) in
    omega (arith, light, ap length same)
fields_said g f whole (x ∷ fs) i ms rest plain parts is out new n left e =
    let k = chained (λ k. option_and_then (λ d. option_map (put k d) (fields_data f fs)) (f x.1)) (utf8_of x.0) ms is in
    let d = chained (λ d. option_map (put k.0 d) (fields_data f fs)) (f x.1) ms k.2 in
    let more = mapped (put k.0 d.0) (fields_data f fs) ms d.2 in
    let both = parted (say_field g whole i) (all_said (say_field g whole) (length fs) (i + 1)) out new n left e in
    let place = parted (say (separator i)) (say_named g (slice_get whole i)) out both.mid n both.steps both.first in
    let there : say_named g (Some x) place.mid place.steps ≡ Enough both.mid both.steps = ap (λ o. say_named g o place.mid place.steps) (sym (rest_first whole i x fs rest)) ∙ place.second in
    let key = parted (say x.0) (then_say (say (codes " = ")) (g x.1)) place.mid both.mid place.steps both.steps there in
    let sign = parted (say (codes " = ")) (g x.1) key.mid both.mid key.steps both.steps key.second in
    let before = said (separator i) out place.mid n place.steps place.first in
    let name = said x.0 place.mid key.mid place.steps key.steps key.first in
    let between = said (codes " = ") key.mid sign.mid key.steps sign.steps sign.first in
    let three : length (codes " = ") ≡ 3 = refl in
    let here = parts 0 x d.0 refl d.1 sign.mid both.mid sign.steps both.steps sign.second in
    let next = fields_said g f whole fs (i + 1) more.0 (rest_later whole i x fs rest) (λ j. plain (suc j)) (λ j. parts (suc j)) more.1 both.mid new both.steps left both.second in
    let long : length (json.quoted k.0) ≡ length x.0 + 2 = ap (λ z. length (json.quoted z)) (sym (utf8_is x.0 k.0 k.1).0) ∙ plain_long x.0 (plain 0 x refl) in
    let light : weight ms ≤ length (json.quoted k.0) + length (compact_text d.0) + 2 + weight more.0 = subst (λ z. weight z ≤ length (json.quoted k.0) + length (compact_text d.0) + 2 + weight more.0) more.2 (weight_put k.0 d.0 more.0) in
    omega (arith, before, name, between, three, here, next, long, light)

struct_said : (g : Value → Say) (f : Value → Option Data) (fs : List (List ℕ × Value)) (ms : Members) → NamesPlain fs → ((j : ℕ) (e : List ℕ × Value) (d : Data) → slice_get fs j ≡ Some e → f e.1 ≡ Some d → SaysEnough (g e.1) d)
    → fields_data f fs ≡ Some ms → SaysEnough (say_struct g fs) (object ms)
struct_said g f fs ms plain parts is out new n left e =
    let one = parted (say (codes "struct(")) (then_say (say_fields g fs) (say (codes ")"))) out new n left e in
    let two = parted (say_fields g fs) (say (codes ")")) one.mid new one.steps left one.second in
    let begun = said (codes "struct(") out one.mid n one.steps one.first in
    let head : length (codes "struct(") ≡ 7 = refl in
    let inside = fields_said g f fs fs 0 ms (rest_all fs) plain parts is one.mid two.mid one.steps two.steps two.first in
    let ended = said (codes ")") two.mid new two.steps left two.second in
    let back : length (codes ")") ≡ 1 = refl in
    let text = members_short false ms in
    omega (arith, begun, head, inside, ended, back, text)

-- ---- values

plain_said : (d : Data) (t : List ℕ) → 2 * length (compact_text d) ≤ 3 * length t → SaysEnough (say t) d
plain_said d t h out new n left e = let more = said t out new n left e in omega (arith, h, more)

-- the text that is written for a string is long enough, at any place
key_said : (names : List (List ℕ)) (look : Value → Option Cell) (levels : ℕ) (path : List Value) (key : Value) (k : List ℕ) → key_in (cell_of look key) ≡ Some k → KeyEnough (text names look levels path key) k
unfolding text
key_said names look zero path key k is out new n left e = absurd (let no : ⊥ = cc in no)
key_said names look (suc levels) path (value.Ref h a) k is out new n left e =
    let key = key_is (look (value.Ref h a)) k is in
    let there = is_text (look (value.Ref h a)) k key.0 in
    let now = unvisited (say_value names look (text names look levels) path (value.Ref h a) out) n left new e in
    let spoken : say (quoted k) out (n - 1) ≡ Enough new left = ap (λ c. say_cell (text names look levels) path (value.Ref h a) c out (n - 1)) (sym there) ∙ now in
    let more = said (quoted k) out new (n - 1) left spoken in
    let short = string_long k key.1 in
    omega (arith, more, short)
key_said names look (suc levels) path _ k is out new n left e = absurd (let no : ⊥ = cc in no)

-- the text that is written for a value is long enough, below every path whose values contain it
abbrev SaidWithin : (Value → Option Cell) → (List Value → Value → Say) → (Value → Option Data) → Type 0
SaidWithin look g f = (path : List Value) (x : Value) (d : Data) → StandsInEach look path x → f x ≡ Some d → SaysEnough (g path x) d

abbrev KeysSaid : (Value → Option Cell) → (List Value → Value → Say) → Type 0
KeysSaid look g = (path : List Value) (key : Value) (k : List ℕ) → key_in (cell_of look key) ≡ Some k → KeyEnough (g path key) k

of_item : (look : Value → Option Cell) (path xs : List Value) → AllStandInEach look path xs → (g : List Value → Value → Say) (f : Value → Option Data) → SaidWithin look g f → (j : ℕ) (x : Value) (d : Data) → slice_get xs j ≡ Some x → f x ≡ Some d → SaysEnough (g path x) d
of_item look path xs all g f within j x d at some = within path x d (all.all j x at) some

not_on_path : (look : Value → Option Cell) (n : ℕ) (path : List Value) (v : Value) (c : Cell) (d : Data) → cell_of look v ≡ Some c → StandsInEach look path v → cell_data look (data_of look n) (Some c) ≡ Some d → on_path v path ≡ false
not_on_path look n path v c d is stands some = turn (on_path v path) refl
  where
    turn : (b : Bool) → on_path v path ≡ b → b ≡ false
    turn false e = refl
    turn true e = absurd (let none : None ≡ Some d = sym (no_cell_data look n path v c is stands e) ∙ some in let no : ⊥ = cc in no)

cell_said : (look : Value → Option Cell) → NamesArePlain look → (g : List Value → Value → Say) (n : ℕ) (path : List Value) (v : Value) → StandsInEach look path v → SaidWithin look g (data_of look n) → KeysSaid look g
    → (c : Option Cell) → cell_of look v ≡ c → (d : Data) → cell_data look (data_of look n) c ≡ Some d → SaysEnough (say_cell g path v c) d
cell_said look plain g n path v stands within keys (Some (cell.Text t)) is d e =
    let same = string_is t d e in
    subst (SaysEnough (say (quoted t))) same.0 (plain_said (string t) (quoted t) (string_long t same.1))
cell_said look plain g n path v stands within keys (Some (cell.Tuple xs)) is d e =
    let f = data_of look n in
    let all = mapped array (items_data f xs) d e in
    subst (SaysEnough (say_tuple (g path) xs)) all.2 (array_said (g path) f xs all.0 (codes "(") (tuple_end xs) (omega arith) (tuple_ends xs) (of_item look path xs (in_a_tuple look path v xs is stands) g f within) all.1)
cell_said look plain g n path v stands within keys (Some (cell.List xs)) is d e =
    let f = data_of look n in
    let all = mapped array (items_data f xs) d e in
    let off = not_on_path look n path v (cell.List xs) d is stands e in
    subst (SaysEnough (say_list g path v xs)) all.2 (λ out new m left h. (
    let inside : say_new_list (g (path ++ v ∷ [])) xs out m ≡ Enough new left = sym (ap (λ b. (let s : Spent (List ℕ) = if b then say (codes "[...]") out m else say_new_list (g (path ++ v ∷ [])) xs out m in s)) off) ∙ h in
    array_said (g (path ++ v ∷ [])) f xs all.0 (codes "[") (codes "]") (omega arith) (omega arith) (of_item look (path ++ v ∷ []) xs (in_a_list look path v xs is stands) g f within) all.1 out new m left inside
    ))
cell_said look plain g n path v stands within keys (Some (cell.Dict es)) is d e =
    let f = data_of look n in
    let all = mapped object (entries_data look f es) d e in
    let off = not_on_path look n path v (cell.Dict es) d is stands e in
    let values = in_a_dict look path v es is stands in
    subst (SaysEnough (say_dict g path v es)) all.2 (λ out new m left h. (
    let inside : say_new_dict (g (path ++ v ∷ [])) es out m ≡ Enough new left = sym (ap (λ b. (let s : Spent (List ℕ) = if b then say (codes "{...}") out m else say_new_dict (g (path ++ v ∷ [])) es out m in s)) off) ∙ h in
    object_said look (g (path ++ v ∷ [])) f es all.0 (λ j x y at some. within (path ++ v ∷ []) x.1 y (values.all j x.1 (mapped_at (λ (z : Value × Value). z.1) es j x at)) some) (keys (path ++ v ∷ [])) all.1 out new m left inside
    ))
cell_said look plain g n path v stands within keys (Some (cell.Set es)) is d e =
    let f = data_of look n in
    let xs = map (λ (z : Value × Value). z.0) es in
    let all = mapped array (items_data f xs) d e in
    let text : say_set (g path) es ≡ then_say (say (codes "set([")) (then_say (say_items (g path) xs) (say (codes "])"))) = ap (λ (m : Say). then_say (say (codes "set([")) (then_say m (say (codes "])")))) (elements_are_items (g path) es) in
    subst (λ (m : Say). SaysEnough m d) (sym text) (subst (SaysEnough (then_say (say (codes "set([")) (then_say (say_items (g path) xs) (say (codes "])"))))) all.2 (array_said (g path) f xs all.0 (codes "set([") (codes "])") (omega arith) (omega arith) (of_item look path xs (in_a_set look path v es is stands) g f within) all.1))
cell_said look plain g n path v stands within keys (Some (cell.Range r)) is d e = absurd (let no : ⊥ = cc in no)
cell_said look plain g n path v stands within keys (Some (cell.Func r)) is d e = absurd (let no : ⊥ = cc in no)
cell_said look plain g n path v stands within keys (Some (cell.Frame r)) is d e = absurd (let no : ⊥ = cc in no)
cell_said look plain g n path v stands within keys (Some (cell.Bound m r)) is d e = absurd (let no : ⊥ = cc in no)
cell_said look plain g n path v stands within keys (Some (cell.Struct fs)) is d e =
    let f = data_of look n in
    let all = mapped object (fields_data f fs) d e in
    let values = in_a_struct look path v fs is stands in
    subst (SaysEnough (say_struct (g path) fs)) all.2 (struct_said (g path) f fs all.0 (plain v fs is) (λ j x y at some. within path x.1 y (values.all j x.1 (mapped_at (λ (z : List ℕ × Value). z.1) fs j x at)) some) all.1)
cell_said look plain g n path v stands within keys None is d e = absurd (let no : ⊥ = cc in no)

bool_short : (b : Bool) → 2 * length (compact_text (boolean b)) ≤ 3 * length (bool_text b)
bool_short true = omega arith
bool_short false = omega arith

int_short : (z : ℤ) → 2 * length (compact_text (number (of_integer z))) ≤ 3 * length (signed_decimal z)
int_short z = let same = ap length (int_text z) in omega (arith, same)

value_said : (names : List (List ℕ)) (look : Value → Option Cell) → NamesArePlain look → (g : List Value → Value → Say) (n : ℕ) (path : List Value) (v : Value) → StandsInEach look path v → SaidWithin look g (data_of look n) → KeysSaid look g → (d : Data) → value_data look (data_of look n) v ≡ Some d → SaysEnough (say_value names look g path v) d
value_said names look plain g n path value.NoneValue stands within keys d e = subst (SaysEnough (say (codes "None"))) (let same : null ≡ d = cc in same) (plain_said null (codes "None") (omega arith))
value_said names look plain g n path (value.Bool b) stands within keys d e = subst (SaysEnough (say (bool_text b))) (let same : boolean b ≡ d = cc in same) (plain_said (boolean b) (bool_text b) (bool_short b))
value_said names look plain g n path (value.Int z) stands within keys d e = subst (SaysEnough (say (signed_decimal z))) (int_is z d e).1 (plain_said (number (of_integer z)) (signed_decimal z) (int_short z))
value_said names look plain g n path (value.Ref h a) stands within keys d e = cell_said look plain g n path (value.Ref h a) stands within keys (look (value.Ref h a)) refl d e
value_said names look plain g n path (value.Builtin b) stands within keys d e = absurd (let no : ⊥ = cc in no)

long_enough : (names : List (List ℕ)) (look : Value → Option Cell) → NamesArePlain look → (levels n : ℕ) → SaidWithin look (text names look levels) (data_of look n)
unfolding text data_of
long_enough names look plain zero n path v d stands some out new s left e = absurd (let no : ⊥ = cc in no)
long_enough names look plain (suc levels) zero path v d stands some out new s left e = absurd (let no : ⊥ = cc in no)
long_enough names look plain (suc levels) (suc n) path v d stands some out new s left e =
    value_said names look plain (text names look levels) n path v stands (long_enough names look plain levels n) (key_said names look levels) d some out new (s - 1) left
    (unvisited (say_value names look (text names look levels) path v out) s left new e)

pub is_no_longer : IsNoLonger
is_no_longer names look plain levels steps left n v t d e some =
    let all = long_enough names look plain levels n [] v d (starts look v) some [] t steps left e in
    omega (arith, all)
