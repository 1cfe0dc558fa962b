-- Members of an object are found in its text.
use Rattle.std.proofs.Common.{◌≡◌, ◌≢◌, ℕ, zero, suc, ◌+◌, ◌<◌, Bool, true, false, cond, ◌&&◌, ◌||◌, ◌⊎◌, inl, inr, nat_lt, List, [], ◌∷◌, ◌++◌, length, take, drop, Option, Some, None, refl, ap, sym, ◌∙◌, subst, arith, zero-add}
use Rattle.std.specs.Prelude.{nat_eq, codes}
use Rattle.std.specs.List.{list_any, starts_with}
use Rattle.std.specs.Option.{IsSome, option_and_then, option_map, unwrap_or}
use Rattle.std.specs.Str.{bytes_eq}
use Rattle.std.proofs.lemmas.List.{append_assoc, length-append, take_at, drop_at}
use Rattle.std.proofs.lemmas.Bool.Decides.{eqb_tells}
use Rattle.json.specs.Print.{escape, escape_byte, escape_letter, quoted}
use Rattle.serde_json.specs.Data.{Data, string, object, Members, no_members, member}
use Rattle.serde_json.specs.Written.{compact_text, members_text}
use Rattle.star_shards.specs.Places.{after, end_from, ends, front_end, later_from, separates, start}
use Rattle.star_shards.specs.Entries.{IsEntry, IsObject, is_good_word, label_front, member_in, quote_from, status_front, string_in}
use Rattle.star_shards.specs.Data.{IsEntryOf, IsPlain, ObjectsAreEntries, found_member, is_escaped}
use Rattle.star_shards.proofs.Bools.{apart, or_first, or_second}
use Rattle.star_shards.proofs.Data.{entry_passes, objects_end, passes_later, unescaped}

-- ---- plain texts are written as they are

by_number : (x n : ℕ) (P : Type 0) → ((nat_eq x n ≡ true) × (x ≡ n)) ⊎ ((nat_eq x n ≡ false) × (x ≢ n)) → (x ≡ n → P) → (nat_eq x n ≡ false → P) → P
by_number x n P (inl h) f g = f h.1
by_number x n P (inr h) f g = g h.0

other_than : (x n : ℕ) → nat_lt n 32 ≡ true → nat_lt x 32 ≡ false → nat_eq x n ≡ false
other_than x n small large =
    by_number x n (nat_eq x n ≡ false) (eqb_tells x n) (λ e. absurd (apart (nat_lt x 32) (ap (λ m. nat_lt m 32) e ∙ small) large)) (λ h. h)

no_letter : (a b c d e f g : Bool) (x : ℕ) → a ≡ false → b ≡ false → c ≡ false → d ≡ false → e ≡ false → f ≡ false → g ≡ false
    → cond (a || b) x (cond c 98 (cond d 102 (cond e 110 (cond f 114 (cond g 116 0))))) ≡ 0
no_letter a b c d e f g x ha hb hc hd he hf hg = rw (ha, hb, hc, hd, he, hf, hg) refl

letter_none : (x : ℕ) → is_escaped x ≡ false → escape_letter x ≡ 0
letter_none x h =
    let more = or_second (nat_eq x 34) (nat_eq x 92 || nat_lt x 32) h in
    let large = or_second (nat_eq x 92) (nat_lt x 32) more in
    no_letter (nat_eq x 34) (nat_eq x 92) (nat_eq x 8) (nat_eq x 12) (nat_eq x 10) (nat_eq x 13) (nat_eq x 9) x
    (or_first (nat_eq x 34) (nat_eq x 92 || nat_lt x 32) h) (or_first (nat_eq x 92) (nat_lt x 32) more)
    (other_than x 8 refl large) (other_than x 12 refl large) (other_than x 10 refl large) (other_than x 13 refl large) (other_than x 9 refl large)

as_it_is : (l x : ℕ) (b : Bool) (us : List ℕ) → l ≡ 0 → b ≡ false → cond (nat_lt 0 l) (92 ∷ l ∷ []) (cond b us (x ∷ [])) ≡ x ∷ []
as_it_is l x true us h i = cc
as_it_is l x false us h i = ap (λ m. cond (nat_lt 0 m) (92 ∷ m ∷ []) (x ∷ [])) h

byte_as_it_is : (x : ℕ) → is_escaped x ≡ false → escape_byte x ≡ x ∷ []
unfolding escape_byte
byte_as_it_is x h =
    let large = or_second (nat_eq x 92) (nat_lt x 32) (or_second (nat_eq x 34) (nat_eq x 92 || nat_lt x 32) h) in
    as_it_is (escape_letter x) x (nat_lt x 32) _ (letter_none x h) large

plain_text : (s : List ℕ) → IsPlain s → escape s ≡ s
plain_text [] h = refl
plain_text (x ∷ xs) h =
    ap (λ w. w ++ escape xs) (byte_as_it_is x (or_first (is_escaped x) (list_any is_escaped xs) h)) ∙ ap (λ w. x ∷ w) (plain_text xs (or_second (is_escaped x) (list_any is_escaped xs) h))

-- ---- the end of a plain string

quote_after : (i : ℕ) (s rest : List ℕ) → IsPlain s → quote_from i (s ++ 34 ∷ rest) ≡ Some (i + length s)
unfolding quote_from
quote_after i [] rest h = let same : i ≡ i + 0 = omega arith in ap Some same
quote_after i (x ∷ xs) rest h =
    let here = or_first (is_escaped x) (list_any is_escaped xs) h in
    let move : i + 1 + length xs ≡ i + suc (length xs) = omega arith in
    let next = quote_from (i + 1) (xs ++ 34 ∷ rest) in
    ap (λ b. cond b (Some i) (cond (nat_eq x 92) None next)) (or_first (nat_eq x 34) (nat_eq x 92 || nat_lt x 32) here)
    ∙ ap (λ b. cond b None next) (or_first (nat_eq x 92) (nat_lt x 32) (or_second (nat_eq x 34) (nat_eq x 92 || nat_lt x 32) here))
    ∙ quote_after (i + 1) xs rest (or_second (is_escaped x) (list_any is_escaped xs) h) ∙ ap Some move

string_of : (s rest : List ℕ) → IsPlain s → string_in (s ++ 34 ∷ rest) ≡ Some s
string_of s rest h =
    ap (option_map (λ n. take n (s ++ 34 ∷ rest))) (quote_after 0 s rest h) ∙ ap Some (take_at s (34 ∷ rest) (0 + length s) (sym (zero-add (length s))))

-- ---- the front of a member

-- what stands before the value of a member that is a string
abbrev pub front_of : List ℕ → List ℕ
front_of key = 34 ∷ (key ++ 34 ∷ 58 ∷ 34 ∷ [])

same_byte : (x : ℕ) → nat_eq x x ≡ true
same_byte x = at (eqb_tells x x)
  where
    at : ((nat_eq x x ≡ true) × (x ≡ x)) ⊎ ((nat_eq x x ≡ false) × (x ≢ x)) → nat_eq x x ≡ true
    at (inl h) = h.0
    at (inr h) = absurd (h.1 refl)

starts_append : (f rest : List ℕ) → starts_with nat_eq (f ++ rest) f ≡ true
starts_append [] rest = refl
starts_append (x ∷ xs) rest = ap (λ b. b && starts_with nat_eq (xs ++ rest) xs) (same_byte x) ∙ starts_append xs rest

both_false : (a b : Bool) → (a ≡ true → b ≡ false) → (a && b) ≡ false
both_false true b f = f refl
both_false false b f = refl

symmetric : (a b : ℕ) → nat_eq a b ≡ false → nat_eq b a ≡ false
symmetric a b h = by_number b a (nat_eq b a ≡ false) (eqb_tells b a) (λ e. absurd (apart (nat_eq a b) (ap (λ n. nat_eq a n) e ∙ same_byte a) h)) (λ g. g)

-- what stands in a string for a byte: a backslash and more, or the byte, which is no quote
abbrev Shape : List ℕ → ℕ → Type 0
Shape w x = ((us : List ℕ) × (w ≡ 92 ∷ us)) ⊎ ((w ≡ x ∷ []) × (nat_eq x 34 ≡ false))

shape_by : (b d : Bool) (x l : ℕ) (us : List ℕ) → (b ≡ false → nat_eq x 34 ≡ false) → Shape (cond b (92 ∷ l ∷ []) (cond d (92 ∷ us) (x ∷ []))) x
shape_by true d x l us f = inl (l ∷ [], refl)
shape_by false true x l us f = inl (us, refl)
shape_by false false x l us f = inr (refl, f refl)

shape : (x : ℕ) → Shape (escape_byte x) x
unfolding escape_byte
shape x = shape_by (nat_lt 0 (escape_letter x)) (nat_lt x 32) x (escape_letter x) _ (λ h. (unescaped x h).0)

and_rest : (a b : Bool) → (a && b) ≡ false → a ≡ true → b ≡ false
and_rest true b h e = h
and_rest false b h e = cc

equal_bytes : (a b : ℕ) → nat_eq a b ≡ true → nat_eq b a ≡ true
equal_bytes a b h = by_number a b (nat_eq b a ≡ true) (eqb_tells a b) (λ e. ap (λ n. nat_eq b n) e ∙ same_byte b) (λ g. absurd (apart (nat_eq a b) h g))

ends_early : (x : ℕ) (xs rest f : List ℕ) → Shape (escape_byte x) x → starts_with nat_eq (escape (x ∷ xs) ++ 34 ∷ rest) (34 ∷ f) ≡ false
ends_early x xs rest f (inl g) = ap (λ w. starts_with nat_eq ((w ++ escape xs) ++ 34 ∷ rest) (34 ∷ f)) g.1
ends_early x xs rest f (inr g) =
    ap (λ w. starts_with nat_eq ((w ++ escape xs) ++ 34 ∷ rest) (34 ∷ f)) g.0
    ∙ ap (λ b. b && starts_with nat_eq (escape xs ++ 34 ∷ rest) f) (symmetric x 34 g.1)

goes_on : (c : ℕ) (cs : List ℕ) (x : ℕ) (xs rest f : List ℕ) → IsPlain (c ∷ cs) → bytes_eq (x ∷ xs) (c ∷ cs) ≡ false → Shape (escape_byte x) x
    → (bytes_eq xs cs ≡ false → starts_with nat_eq (escape xs ++ 34 ∷ rest) (cs ++ 34 ∷ f) ≡ false)
    → starts_with nat_eq (escape (x ∷ xs) ++ 34 ∷ rest) (c ∷ (cs ++ 34 ∷ f)) ≡ false
goes_on c cs x xs rest f h e (inl g) more =
    let here = or_first (is_escaped c) (list_any is_escaped cs) h in
    ap (λ w. starts_with nat_eq ((w ++ escape xs) ++ 34 ∷ rest) (c ∷ (cs ++ 34 ∷ f))) g.1
    ∙ ap (λ b. b && starts_with nat_eq ((g.0 ++ escape xs) ++ 34 ∷ rest) (cs ++ 34 ∷ f)) (or_first (nat_eq c 92) (nat_lt c 32) (or_second (nat_eq c 34) (nat_eq c 92 || nat_lt c 32) here))
goes_on c cs x xs rest f h e (inr g) more =
    ap (λ w. starts_with nat_eq ((w ++ escape xs) ++ 34 ∷ rest) (c ∷ (cs ++ 34 ∷ f))) g.0
    ∙ both_false (nat_eq c x) (starts_with nat_eq (escape xs ++ 34 ∷ rest) (cs ++ 34 ∷ f))
    (λ t. more (and_rest (nat_eq x c) (bytes_eq xs cs) e (equal_bytes c x t)))

differ : (key k rest f : List ℕ) → IsPlain key → bytes_eq k key ≡ false → starts_with nat_eq (escape k ++ 34 ∷ rest) (key ++ 34 ∷ f) ≡ false
differ [] [] rest f h e = cc
differ [] (x ∷ xs) rest f h e = ends_early x xs rest f (shape x)
differ (c ∷ cs) [] rest f h e = ap (λ b. b && starts_with nat_eq rest (cs ++ 34 ∷ f)) (or_first (nat_eq c 34) (nat_eq c 92 || nat_lt c 32) (or_first (is_escaped c) (list_any is_escaped cs) h))
differ (c ∷ cs) (x ∷ xs) rest f h e = goes_on c cs x xs rest f h e (shape x) (differ cs xs rest f (or_second (is_escaped c) (list_any is_escaped cs) h))

same_text : (k key : List ℕ) → bytes_eq k key ≡ true → k ≡ key
same_text [] [] h = refl
same_text [] (c ∷ cs) h = cc
same_text (x ∷ xs) [] h = cc
same_text (x ∷ xs) (c ∷ cs) h =
    by_number x c ((x ∷ xs) ≡ (c ∷ cs)) (eqb_tells x c) (λ e. ap (λ n. n ∷ xs) e ∙ ap (λ w. c ∷ w) (same_text xs cs (and_true (nat_eq x c) (bytes_eq xs cs) h))) (λ g. absurd (apart (nat_eq x c && bytes_eq xs cs) h (ap (λ b. b && bytes_eq xs cs) g)))
  where
    and_true : (a b : Bool) → (a && b) ≡ true → b ≡ true
    and_true true b g = g
    and_true false b g = cc

front_differs : (key k rest : List ℕ) → IsPlain key → bytes_eq k key ≡ false → starts_with nat_eq (quoted k ++ rest) (front_of key) ≡ false
front_differs key k rest h e =
    ap (λ w. starts_with nat_eq w (key ++ 34 ∷ 58 ∷ 34 ∷ [])) (append_assoc (escape k) (34 ∷ []) rest) ∙ differ key k rest (58 ∷ 34 ∷ []) h e

string_cut : (s rest : List ℕ) → IsPlain s → quoted s ++ rest ≡ 34 ∷ (s ++ 34 ∷ rest)
string_cut s rest h = ap (λ w. 34 ∷ ((w ++ 34 ∷ []) ++ rest)) (plain_text s h) ∙ ap (λ w. 34 ∷ w) (append_assoc s (34 ∷ []) rest)

front_same : (key s rest : List ℕ) → IsPlain key → IsPlain s → quoted key ++ 58 ∷ (quoted s ++ rest) ≡ front_of key ++ (s ++ 34 ∷ rest)
front_same key s rest h g =
    string_cut key (58 ∷ (quoted s ++ rest)) h ∙ ap (λ w. 34 ∷ (key ++ 34 ∷ 58 ∷ w)) (string_cut s rest g)
    ∙ ap (λ w. 34 ∷ w) (sym (append_assoc key (34 ∷ 58 ∷ 34 ∷ []) (s ++ 34 ∷ rest)))

-- ---- a member is found

-- a look gave the place where a string begins, after so many bytes
record Seen (o : Option ℕ) (i : ℕ) (text s : List ℕ) : Type 0 where
  before : List ℕ
  rest : List ℕ
  place : o ≡ Some (i + length before)
  cut : text ≡ before ++ (s ++ 34 ∷ rest)

-- members after others, each with a comma before it
seen_here : (key s : List ℕ) (k : List ℕ) (d : Data) (ms : Members) (i : ℕ) → IsPlain key → IsPlain s → k ≡ key → d ≡ string s
    → Seen (later_from (front_of key) start i (members_text true (member k d ms))) i (members_text true (member k d ms)) s
unfolding later_from
seen_here key s k d ms i h g same is =
    let f = front_of key in
    let text = quoted k ++ 58 ∷ (compact_text d ++ members_text true ms) in
    let whole : text ≡ f ++ (s ++ 34 ∷ members_text true ms) =
    ap (λ w. quoted w ++ 58 ∷ (compact_text d ++ members_text true ms)) same ∙ ap (λ e. quoted key ++ 58 ∷ (compact_text e ++ members_text true ms)) is ∙ front_same key s (members_text true ms) h g in
    let next = later_from f (after start 44) (i + 1) text in
    let on : starts_with nat_eq text f ≡ true = ap (λ w. starts_with nat_eq w f) whole ∙ starts_append f (s ++ 34 ∷ members_text true ms) in
    let move : i + 1 + length f ≡ i + length (44 ∷ f) = omega arith in
    record {
      before = 44 ∷ f;
      rest = members_text true ms;
      place = ap (λ b. cond b (Some (i + 1 + length f)) next) on ∙ ap Some move;
      cut = ap (λ w. 44 ∷ w) whole;
    }

seen_later : (key s : List ℕ) (k : List ℕ) (d : Data) (ms : Members) (i : ℕ) → IsPlain key → bytes_eq k key ≡ false
    → ((j : ℕ) → Seen (later_from (front_of key) start j (members_text true ms)) j (members_text true ms) s)
    → Seen (later_from (front_of key) start i (members_text true (member k d ms))) i (members_text true (member k d ms)) s
unfolding later_from after
seen_later key s k d ms i h other more =
    let f = front_of key in
    let first = quoted k ++ 58 ∷ compact_text d in
    let rest = members_text true ms in
    let text = quoted k ++ 58 ∷ (compact_text d ++ rest) in
    let split : text ≡ first ++ rest = sym (append_assoc (quoted k) (58 ∷ compact_text d) rest) in
    let found = more (i + 1 + length first) in
    let off : starts_with nat_eq text f ≡ false = front_differs key k (58 ∷ (compact_text d ++ rest)) h other in
    let next : later_from f start (i + 1) text ≡ later_from f start (i + 1 + length first) rest = ap (later_from f start (i + 1)) split ∙ passes_later f start start (i + 1) first rest (entry_passes 0 k d) in
    let move : i + 1 + length first + length found.before ≡ i + length (44 ∷ (first ++ found.before)) = omega (arith, length-append first found.before) in
    record {
      before = 44 ∷ (first ++ found.before);
      rest = found.rest;
      place = ap (λ b. cond b (Some (i + 1 + length f)) (later_from f start (i + 1) text)) off ∙ next ∙ found.place ∙ ap Some move;
      cut = ap (λ w. 44 ∷ w) (split ∙ ap (λ w. first ++ w) found.cut ∙ sym (append_assoc first found.before (s ++ 34 ∷ found.rest)));
    }

some_same : (d e : Data) → Some d ≡ Some e → d ≡ e
some_same d e h = cc

seen_by : (key s : List ℕ) (k : List ℕ) (d : Data) (ms : Members) (i : ℕ) (b : Bool) → bytes_eq k key ≡ b → IsPlain key → IsPlain s → cond b (Some d) (found_member key ms) ≡ Some (string s)
    → (found_member key ms ≡ Some (string s) → (j : ℕ) → Seen (later_from (front_of key) start j (members_text true ms)) j (members_text true ms) s)
    → Seen (later_from (front_of key) start i (members_text true (member k d ms))) i (members_text true (member k d ms)) s
seen_by key s k d ms i true is h g e more = seen_here key s k d ms i h g (same_text k key is) (some_same d (string s) e)
seen_by key s k d ms i false is h g e more = seen_later key s k d ms i h is (more e)

seen_among : (key s : List ℕ) (ms : Members) (i : ℕ) → IsPlain key → IsPlain s → found_member key ms ≡ Some (string s)
    → Seen (later_from (front_of key) start i (members_text true ms)) i (members_text true ms) s
seen_among key s no_members i h g e = cc
seen_among key s (member k d ms) i h g e = seen_by key s k d ms i (bytes_eq k key) refl h g e (λ t j. seen_among key s ms j h g t)

-- the first member has no comma before it
seen_first : (key s : List ℕ) (k : List ℕ) (d : Data) (ms : Members) (b : Bool) → bytes_eq k key ≡ b → IsPlain key → IsPlain s → cond b (Some d) (found_member key ms) ≡ Some (string s)
    → Seen (front_end (front_of key) (members_text false (member k d ms))) 0 (members_text false (member k d ms)) s
seen_first key s k d ms true is h g e =
    let f = front_of key in
    let rest = members_text true ms in
    let whole : quoted k ++ 58 ∷ (compact_text d ++ rest) ≡ f ++ (s ++ 34 ∷ rest) =
    ap (λ w. quoted w ++ 58 ∷ (compact_text d ++ rest)) (same_text k key is) ∙ ap (λ x. quoted key ++ 58 ∷ (compact_text x ++ rest)) (some_same d (string s) e) ∙ front_same key s rest h g in
    let text = quoted k ++ 58 ∷ (compact_text d ++ rest) in
    let on : starts_with nat_eq text f ≡ true = ap (λ w. starts_with nat_eq w f) whole ∙ starts_append f (s ++ 34 ∷ rest) in
    record {
      before = f;
      rest = rest;
      place = ap (λ b. cond b (Some (length f)) (later_from f start 0 text)) on ∙ ap Some (sym (zero-add (length f)));
      cut = whole;
    }
seen_first key s k d ms false is h g e =
    let f = front_of key in
    let first = quoted k ++ 58 ∷ compact_text d in
    let rest = members_text true ms in
    let text = quoted k ++ 58 ∷ (compact_text d ++ rest) in
    let split : text ≡ first ++ rest = sym (append_assoc (quoted k) (58 ∷ compact_text d) rest) in
    let found = seen_among key s ms (0 + length first) h g e in
    let off : starts_with nat_eq text f ≡ false = front_differs key k (58 ∷ (compact_text d ++ rest)) h is in
    let next : later_from f start 0 text ≡ later_from f start (0 + length first) rest = ap (later_from f start 0) split ∙ passes_later f start start 0 first rest (entry_passes 0 k d) in
    let move : 0 + length first + length found.before ≡ 0 + length (first ++ found.before) = omega (arith, length-append first found.before) in
    record {
      before = first ++ found.before;
      rest = found.rest;
      place = ap (λ b. cond b (Some (length f)) (later_from f start 0 text)) off ∙ next ∙ found.place ∙ ap Some move;
      cut = split ∙ ap (λ w. first ++ w) found.cut ∙ sym (append_assoc first found.before (s ++ 34 ∷ found.rest));
    }

seen : (key s : List ℕ) (ms : Members) → IsPlain key → IsPlain s → found_member key ms ≡ Some (string s) → Seen (front_end (front_of key) (members_text false ms)) 0 (members_text false ms) s
seen key s no_members h g e = cc
seen key s (member k d ms) h g e = seen_first key s k d ms (bytes_eq k key) refl h g e

member_is : (key s : List ℕ) (ms : Members) → IsPlain key → IsPlain s → found_member key ms ≡ Some (string s) → member_in (front_of key) (compact_text (object ms)) ≡ Some s
member_is key s ms h g e =
    let it = seen key s ms h g e in
    let text = members_text false ms in
    ap (option_and_then (λ n. string_in (drop n text))) it.place
    ∙ ap (λ w. string_in (drop (0 + length it.before) w)) it.cut
    ∙ ap string_in (drop_at it.before (s ++ 34 ∷ it.rest) (0 + length it.before) (sym (zero-add (length it.before))))
    ∙ string_of s it.rest g

is_some_by : (o : Option (List ℕ)) (s : List ℕ) → o ≡ Some s → IsSome o
is_some_by o s h = subst IsSome (sym h) refl

pub objects_are_entries : ObjectsAreEntries
objects_are_entries ms label status l pl s ps =
    let text = compact_text (object ms) in
    let named : member_in label_front text ≡ Some label = member_is (codes "label") label ms refl pl l in
    let ended : member_in status_front text ≡ Some status = member_is (codes "status") status ms refl ps s in
    record {
      entry = record { object = objects_end ms; label = is_some_by (member_in label_front text) label named; status = is_some_by (member_in status_front text) status ended };
      label_is = ap (λ o. unwrap_or o []) named;
      good_is = ap (λ o. is_good_word (unwrap_or o [])) ended;
    }
