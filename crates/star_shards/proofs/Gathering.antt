-- Entries in a map by their labels.
use Rattle.std.proofs.Common.{◌≡◌, ℕ, suc, ◌+◌, ◌<◌, ◌≤◌, Bool, true, false, cond, ◌||◌, List, [], ◌∷◌, ◌++◌, Option, Some, None, length, get_or, take, drop, map, refl, ap, sym, ◌∙◌, subst, arith}
use denote.Ref.{Bor}
use Rattle.std.specs.Prelude.{All, IfSome}
use Rattle.std.specs.List.{AllByRecursion, list_any}
use Rattle.std.specs.List.Sorted.{IsStrictlySortedBy}
use Rattle.std.specs.BTreeMap.{insert_entry, is_at}
use Rattle.std.specs.Map.{keys_of, lookup, values_of}
use Rattle.std.specs.Bool.{⊤}
use Rattle.std.specs.Ordering.{is_eq, match_ordering, nat_cmp}
use Rattle.std.specs.declared.cmp.Ordering.{Ordering}
use Rattle.std.specs.declared.cmp.Ordering.TheVariants.{Less, Equal, Greater}
use Rattle.std.specs.Cmp.Lexicographic.{slice_cmp}
use Rattle.std.specs.Str.{bytes_eq}
use Rattle.std.proofs.lemmas.Map.Lookups.{exact_bytes}
use Rattle.std.proofs.lemmas.List.{map-append, map_push, take-append-drop, take_all, take_more}
use Rattle.std.proofs.lemmas.List.Elements.{All-from_recursion}
use Rattle.std.proofs.lemmas.Slice.Eq.{bytes_eq-Decides}
use Rattle.star_shards.specs.Entries.{label_of}
use Rattle.star_shards.specs.Joined.{AreDifferent, IsJoin, is_among}
use Rattle.star_shards.specs.Read.{IsRead, by_bytes, texts}
use Rattle.star_shards.specs.declared.entry.Entry.{Entry}

-- what a row has past its end
abbrev pub blank : Entry
blank = record { label = record { ref_ptr = (0, 0); now = [] }; text = record { ref_ptr = (0, 0); now = [] }; is_good = false }

-- each entry stands at its label
pub record At (e : Bor (List ℕ) × Entry) : Type 0 where
  pub key : e.0.now ≡ label_of e.1.text.now
  pub read : IsRead e.1

unfoldable pub Keyed : List (Bor (List ℕ) × Entry) → Type 0
Keyed [] = ⊤
Keyed (e ∷ es) = At e × Keyed es

pub none_keyed : (es : List (Bor (List ℕ) × Entry)) → es ≡ [] → Keyed es
unfolding Keyed
none_keyed [] e = tt
none_keyed (x ∷ xs) e = cc

keyed_by : (o : Ordering) (e : Bor (List ℕ) × Entry) (es more : List (Bor (List ℕ) × Entry)) (k : Bor (List ℕ)) (v : Entry) → by_bytes k e.0 ≡ o → At e → Keyed es → At (k, v) → Keyed more
    → Keyed (match_ordering o ((k, v) ∷ e ∷ es) ((e.0, v) ∷ es) (e ∷ more))
unfolding Keyed
keyed_by Less e es more k v is one keyed new later = (new, (one, keyed))
keyed_by Equal e es more k v is one keyed new later = (record { key = sym (exact_bytes k.now e.0.now is) ∙ new.key; read = new.read }, keyed)
keyed_by Greater e es more k v is one keyed new later = (one, later)

pub keyed_insert : (es : List (Bor (List ℕ) × Entry)) (k : Bor (List ℕ)) (v : Entry) → Keyed es → At (k, v) → Keyed (insert_entry by_bytes es k v)
unfolding Keyed
keyed_insert [] k v keyed new = (new, tt)
keyed_insert (e ∷ es) k v keyed new = keyed_by (by_bytes k e.0) e es (insert_entry by_bytes es k v) k v refl keyed.0 keyed.1 new (keyed_insert es k v keyed.1 new)

-- the texts of the entries in a map
abbrev pub kept : List (Bor (List ℕ) × Entry) → List (List ℕ)
kept es = texts (values_of es)

or_twice : (a b r : Bool) → b ≡ a → (a || r) ≡ (a || (b || r))
or_twice true b r e = refl
or_twice false true r e = cc
or_twice false false r e = refl

or_turn : (a b r s : Bool) → s ≡ (a || r) → (b || s) ≡ (a || (b || r))
or_turn true true r s e = refl
or_turn true false r s e = e
or_turn false true r s e = refl
or_turn false false r s e = e

-- if the map had an entry for the label, the text is the same
abbrev pub Repeats : Option Entry → List ℕ → Type 0
Repeats old text = IfSome old (λ w. w.text.now ≡ text)

among_by : (o : Ordering) (t : List ℕ) (e : Bor (List ℕ) × Entry) (es more : List (Bor (List ℕ) × Entry)) (k : Bor (List ℕ)) (v : Entry)
    → Repeats (cond (is_eq o) (Some e.1) (lookup (is_at (by_bytes k)) es)) v.text.now
    → (Repeats (lookup (is_at (by_bytes k)) es) v.text.now → is_among (kept more) t ≡ (bytes_eq t v.text.now || is_among (kept es) t))
    → is_among (kept (match_ordering o ((k, v) ∷ e ∷ es) ((e.0, v) ∷ es) (e ∷ more))) t ≡ (bytes_eq t v.text.now || (bytes_eq t e.1.text.now || is_among (kept es) t))
among_by Less t e es more k v old later = refl
among_by Equal t e es more k v old later = or_twice (bytes_eq t v.text.now) (bytes_eq t e.1.text.now) (is_among (kept es) t) (ap (bytes_eq t) old)
among_by Greater t e es more k v old later = or_turn (bytes_eq t v.text.now) (bytes_eq t e.1.text.now) (is_among (kept es) t) (is_among (kept more) t) (later old)

pub among_insert : (t : List ℕ) (es : List (Bor (List ℕ) × Entry)) (k : Bor (List ℕ)) (v : Entry) → Repeats (lookup (is_at (by_bytes k)) es) v.text.now
    → is_among (kept (insert_entry by_bytes es k v)) t ≡ (bytes_eq t v.text.now || is_among (kept es) t)
among_insert t [] k v old = refl
among_insert t (e ∷ es) k v old = among_by (by_bytes k e.0) t e es (insert_entry by_bytes es k v) k v old (among_insert t es k v)

pub repeats_some : (o : Option Entry) (w : Entry) (text : List ℕ) → o ≡ Some w → w.text.now ≡ text → Repeats o text
repeats_some o w text found same = subst (λ p. Repeats p text) (sym found) same

pub repeats_none : (o : Option Entry) (text : List ℕ) → o ≡ None → Repeats o text
repeats_none o text none = subst (λ p. Repeats p text) (sym none) tt

-- what a map finds is among its entries, and has the label
pub record Finds (es : List (Bor (List ℕ) × Entry)) (k : Bor (List ℕ)) (w : Entry) : Type 0 where
  pub there : is_among (kept es) w.text.now ≡ true
  pub label : label_of w.text.now ≡ k.now

same_entry : (v w : Entry) → Some v ≡ Some w → v ≡ w
same_entry v w h = cc

or_true : (a b : Bool) → b ≡ true → (a || b) ≡ true
or_true true b h = refl
or_true false b h = h

true_or : (a b : Bool) → a ≡ true → (a || b) ≡ true
true_or true b h = refl
true_or false b h = cc

finds_by : (o : Ordering) (e : Bor (List ℕ) × Entry) (es : List (Bor (List ℕ) × Entry)) (k : Bor (List ℕ)) (w : Entry) → by_bytes k e.0 ≡ o → At e
    → cond (is_eq o) (Some e.1) (lookup (is_at (by_bytes k)) es) ≡ Some w → (lookup (is_at (by_bytes k)) es ≡ Some w → Finds es k w) → Finds (e ∷ es) k w
finds_by Less e es k w is one found later =
    let rest = later found in record { there = or_true (bytes_eq w.text.now e.1.text.now) (is_among (kept es) w.text.now) rest.there; label = rest.label }
finds_by Greater e es k w is one found later =
    let rest = later found in record { there = or_true (bytes_eq w.text.now e.1.text.now) (is_among (kept es) w.text.now) rest.there; label = rest.label }
finds_by Equal e es k w is one found later =
    let same : e.1.text.now ≡ w.text.now = ap (λ v. v.text.now) (same_entry e.1 w found) in
    record {
      there = true_or (bytes_eq w.text.now e.1.text.now) (is_among (kept es) w.text.now) ((bytes_eq-Decides w.text.now e.1.text.now).1 (sym same));
      label = ap label_of (sym same) ∙ sym one.key ∙ sym (exact_bytes k.now e.0.now is);
    }

pub finds : (es : List (Bor (List ℕ) × Entry)) (k : Bor (List ℕ)) (w : Entry) → Keyed es → lookup (is_at (by_bytes k)) es ≡ Some w → Finds es k w
unfolding Keyed
finds [] k w keyed found = cc
finds (e ∷ es) k w keyed found = finds_by (by_bytes k e.0) e es k w refl keyed.0 found (finds es k w keyed.1)

-- ---- one entry more

pub any_push : (t : List ℕ) (ts : List (List ℕ)) (u : List ℕ) → is_among (ts ++ u ∷ []) t ≡ (bytes_eq t u || is_among ts t)
any_push t [] u = refl
any_push t (s ∷ ts) u = or_turn (bytes_eq t u) (bytes_eq t s) (is_among ts t) (is_among (ts ++ u ∷ []) t) (any_push t ts u)

or_kept : (b c d : Bool) → (c ≡ true → d ≡ true) → (b || c) ≡ true → (b || d) ≡ true
or_kept true c d f h = refl
or_kept false c d f h = f h

any_append : (t : List ℕ) (ts us : List (List ℕ)) → is_among ts t ≡ true → is_among (ts ++ us) t ≡ true
any_append t [] us h = cc
any_append t (s ∷ ts) us h = or_kept (bytes_eq t s) (is_among ts t) (is_among (ts ++ us) t) (any_append t ts us) h

take_texts : (xs : List Entry) (i : ℕ) (x : Entry) → i < length xs → x ≡ get_or xs i x → texts (take (i + 1) xs) ≡ texts (take i xs) ++ x.text.now ∷ []
take_texts xs i x lt is = ap texts (take_more xs i x lt ∙ ap (λ y. take i xs ++ y ∷ []) (sym is)) ∙ map_push (λ (e : Entry). e.text.now) (take i xs) x

pub among_more : (t : List ℕ) (xs : List Entry) (i : ℕ) (x : Entry) (es : List (Bor (List ℕ) × Entry)) (k : Bor (List ℕ)) → i < length xs → x ≡ get_or xs i x
    → Repeats (lookup (is_at (by_bytes k)) es) x.text.now → is_among (kept es) t ≡ is_among (texts (take i xs)) t
    → is_among (kept (insert_entry by_bytes es k x)) t ≡ is_among (texts (take (i + 1) xs)) t
among_more t xs i x es k lt is old so_far =
    among_insert t es k x old ∙ ap (λ b. bytes_eq t x.text.now || b) so_far ∙ sym (ap (λ ts. is_among ts t) (take_texts xs i x lt is) ∙ any_push t (texts (take i xs)) x.text.now)

among_all : (t : List ℕ) (n : ℕ) (xs : List Entry) → is_among (texts (take n xs)) t ≡ true → is_among (texts xs) t ≡ true
among_all t n xs h =
    ap (λ ys. is_among (texts ys) t) (sym (take-append-drop n xs))
    ∙ ap (λ ts. is_among ts t) (map-append (λ (e : Entry). e.text.now) (take n xs) (drop n xs)) ∙ any_append t (texts (take n xs)) (texts (drop n xs)) h

among_item : (xs : List Entry) (i : ℕ) (x : Entry) → i < length xs → x ≡ get_or xs i x → is_among (texts xs) x.text.now ≡ true
among_item xs i x lt is =
    among_all x.text.now (i + 1) xs (ap (λ ts. is_among ts x.text.now) (take_texts xs i x lt is) ∙ any_push x.text.now (texts (take i xs)) x.text.now
    ∙ true_or (bytes_eq x.text.now x.text.now) (is_among (texts (take i xs)) x.text.now) ((bytes_eq-Decides x.text.now x.text.now).1 refl))

pub differ : (xs : List Entry) (i : ℕ) (x w : Entry) (es : List (Bor (List ℕ) × Entry)) (k : Bor (List ℕ)) → i < length xs → x ≡ get_or xs i x → Keyed es → IsRead x → k.now ≡ x.label.now
    → ((t : List ℕ) → is_among (kept es) t ≡ is_among (texts (take i xs)) t) → lookup (is_at (by_bytes k)) es ≡ Some w → (w.text.now ≡ x.text.now → ⊥) → AreDifferent (texts xs) x.label.now
differ xs i x w es k lt is keyed read key so_far found other =
    let there = finds es k w keyed found in
    record {
      one = w.text.now;
      other = x.text.now;
      one_there = among_all w.text.now i xs (sym (so_far w.text.now) ∙ there.there);
      other_there = among_item xs i x lt is;
      labels = (there.label ∙ key, read.label);
      differ = other;
    }

-- ---- the entries in the order of the map

less_all : (k : Bor (List ℕ)) (a : List ℕ) (es : List (Bor (List ℕ) × Entry)) → k.now ≡ a → Keyed es → AllByRecursion (λ y. by_bytes k y ≡ Less) (keys_of es)
    → AllByRecursion (λ y. slice_cmp nat_cmp a y ≡ Less) (map label_of (kept es))
unfolding Keyed
less_all k a [] is keyed all = tt
less_all k a (e ∷ es) is keyed all =
    (ap (λ x. slice_cmp nat_cmp x (label_of e.1.text.now)) (sym is) ∙ ap (slice_cmp nat_cmp k.now) (sym keyed.0.key) ∙ all.0, less_all k a es is keyed.1 all.1)

labels_sorted : (es : List (Bor (List ℕ) × Entry)) → Keyed es → IsStrictlySortedBy by_bytes (keys_of es) → IsStrictlySortedBy (slice_cmp nat_cmp) (map label_of (kept es))
unfolding Keyed IsStrictlySortedBy
labels_sorted [] keyed sorted = tt
labels_sorted (e ∷ es) keyed sorted = (less_all e.0 (label_of e.1.text.now) es keyed.0.key keyed.1 sorted.0, labels_sorted es keyed.1 sorted.1)

reads : (es : List (Bor (List ℕ) × Entry)) → Keyed es → AllByRecursion IsRead (values_of es)
unfolding Keyed
reads [] keyed = tt
reads (e ∷ es) keyed = (keyed.0.read, reads es keyed.1)

pub all_read : (es : List (Bor (List ℕ) × Entry)) (vs : List Entry) → vs ≡ values_of es → Keyed es → All IsRead vs
all_read es vs is keyed = subst (All IsRead) (sym is) (All-from_recursion IsRead (values_of es) (reads es keyed))

pub is_join : (xs vs : List Entry) (i : ℕ) (es : List (Bor (List ℕ) × Entry)) → length xs ≤ i → vs ≡ values_of es → Keyed es → IsStrictlySortedBy by_bytes (keys_of es)
    → ((t : List ℕ) → is_among (kept es) t ≡ is_among (texts (take i xs)) t) → IsJoin (texts xs) (texts vs)
is_join xs vs i es end is keyed sorted so_far =
    subst (λ ws. IsJoin (texts xs) (texts ws)) (sym is) (record {
      in_order = labels_sorted es keyed sorted;
      all = λ t. so_far t ∙ ap (λ ys. is_among (texts ys) t) (take_all i xs end);
    })
