-- What is looked up among words, and what is written.
use Rattle.std.proofs.Common.{◌≡◌, ℕ, zero, suc, ◌+◌, ◌<◌, ◌≤◌, Bool, true, false, cond, ◌||◌, ◌&&◌, List, [], ◌∷◌, ◌++◌, Option, Some, length, get_or, take, map, refl, ap, sym, ◌∙◌, subst, arith}
use denote.Ref.{Bor}
use Rattle.std.specs.Prelude.{All, nat_lt, not}
use Rattle.std.specs.List.{filter, list_all}
use Rattle.std.specs.BTreeMap.{BTreeMap, Updates, get_by}
use Rattle.std.specs.Option.{is_some}
use Rattle.std.specs.Ordering.{nat_cmp}
use Rattle.std.specs.Cmp.Lexicographic.{slice_cmp}
use Rattle.std.specs.Str.{bytes_eq}
use Rattle.std.proofs.lemmas.Bool.Decides.{nat_tests}
use Rattle.std.proofs.lemmas.Map.Text.{btree_map_updates_str}
use Rattle.std.proofs.lemmas.List.{append-nil, append_assoc, get_or_default, length-map, length-take-le, map_more}
use Rattle.std.proofs.lemmas.List.Elements.{All-head, All-tail, filter-append}
use Rattle.std.proofs.lemmas.Slice.Eq.{bytes_eq-Decides}
use Rattle.star_shards.specs.Entries.{is_good, label_of}
use Rattle.star_shards.specs.Joined.{is_among, is_shown, shown}
use Rattle.star_shards.specs.Lines.{front, listed, more}
use Rattle.star_shards.specs.Read.{IsRead, by_bytes, has, texts}
use Rattle.star_shards.specs.declared.entry.Entry.{Entry}
use Rattle.star_shards.proofs.Gathering.{any_push}

same : (m n : List ℕ) → bytes_eq m n ≡ bytes_eq n m
same m n = grind (arith, bytes_eq-Decides m n, bytes_eq-Decides n m)

with_one : (b : Bool) (o : Option (Unit {0})) → is_some (cond b (Some tt) o) ≡ (b || is_some o)
with_one true o = refl
with_one false o = refl

-- one word more
has_more : (old new : BTreeMap (Bor (List ℕ)) (Unit {0})) (name : Bor (List ℕ)) (q : List ℕ) → Updates by_bytes old new name (Some tt) → has new q ≡ (bytes_eq q name.now || has old q)
has_more old new name q u =
    ap is_some (btree_map_updates_str name.now old new (Some tt) u q) ∙ with_one (bytes_eq name.now q) (get_by (λ k. slice_cmp nat_cmp q k.now) old)
    ∙ ap (λ b. b || has old q) (same name.now q)

pub found_more : {X : Type 0} (f : X → List ℕ) (xs : List X) (i : ℕ) (x : X) (name : Bor (List ℕ)) (old new : BTreeMap (Bor (List ℕ)) (Unit {0})) → i < length xs → x ≡ get_or xs i x → name.now ≡ f x
    → Updates by_bytes old new name (Some tt) → ((q : List ℕ) → has old q ≡ is_among (map f (take i xs)) q) → (q : List ℕ) → has new q ≡ is_among (map f (take (i + 1) xs)) q
found_more f xs i x name old new lt is named u so_far q =
    has_more old new name q u ∙ ap (λ n. bytes_eq q n || has old q) named ∙ ap (λ b. bytes_eq q (f x) || b) (so_far q)
    ∙ sym (ap (λ ts. is_among ts q) (map_more f xs i x lt ∙ ap (λ y. map f (take i xs) ++ f y ∷ []) (sym is)) ∙ any_push q (map f (take i xs)) (f x))

pub labels_more : (xs : List Entry) (i : ℕ) (d : Entry) (old new : BTreeMap (Bor (List ℕ)) (Unit {0})) → i < length xs → Updates by_bytes old new (get_or xs i d).label (Some tt)
    → ((q : List ℕ) → has old q ≡ is_among (map (λ e. e.label.now) (take i xs)) q) → (q : List ℕ) → has new q ≡ is_among (map (λ e. e.label.now) (take (i + 1) xs)) q
labels_more xs i d old new lt u so_far =
    found_more (λ (e : Entry). e.label.now) xs i (get_or xs i d) (get_or xs i d).label old new lt (get_or_default xs i d (get_or xs i d) lt) refl u so_far

pub labels_are : (es : List Entry) → All IsRead es → map label_of (texts es) ≡ map (λ e. e.label.now) es
labels_are [] all = refl
labels_are (e ∷ es) all = ap (λ l. l ∷ map label_of (texts es)) (All-head IsRead e es all).label ∙ ap (λ ls. e.label.now ∷ ls) (labels_are es (All-tail IsRead e es all))

pub goods_are : (es : List Entry) → All IsRead es → list_all (λ e. e.is_good) es ≡ list_all is_good (texts es)
goods_are [] all = refl
goods_are (e ∷ es) all = ap (λ b. b && list_all (λ x. x.is_good) es) (All-head IsRead e es all).good ∙ ap (λ b. is_good e.text.now && b) (goods_are es (All-tail IsRead e es all))

-- ---- rows that are written

pub none_listed : (xs : List ℕ) → xs ≡ xs ++ listed []
unfolding listed
none_listed xs = sym (append-nil xs)

more_push : (ts : List (List ℕ)) (u : List ℕ) → more (ts ++ u ∷ []) ≡ more ts ++ 44 ∷ u
unfolding more
more_push [] u = ap (λ w. 44 ∷ w) (append-nil u)
more_push (t ∷ ts) u = ap (λ w. 44 ∷ (t ++ w)) (more_push ts u) ∙ ap (λ w. 44 ∷ w) (sym (append_assoc t (more ts) (44 ∷ u)))

some_before : (n : ℕ) → nat_lt 0 (suc n) ≡ true
some_before n = grind (arith, nat_tests)

listed_push : (ts : List (List ℕ)) (u : List ℕ) → listed (ts ++ u ∷ []) ≡ listed ts ++ (cond (nat_lt 0 (length ts)) (44 ∷ []) [] ++ u)
unfolding listed more
listed_push [] u = append-nil u
listed_push (t ∷ ts) u =
    ap (λ w. t ++ w) (more_push ts u) ∙ sym (append_assoc t (more ts) (44 ∷ u)) ∙ ap (λ b. (t ++ more ts) ++ (cond b (44 ∷ []) [] ++ u)) (sym (some_before (length ts)))

pub listed_more : (begun : ℕ) (xs : List Entry) (i : ℕ) (d : Entry) (old new : List ℕ) → i < length xs → old ≡ front begun ++ listed (texts (take i xs))
    → new ≡ old ++ (cond (nat_lt 0 i) (44 ∷ []) [] ++ (get_or xs i d).text.now) → new ≡ front begun ++ listed (texts (take (i + 1) xs))
listed_more begun xs i d old new lt was is =
    let f : Entry → List ℕ = λ e. e.text.now in
    let u = (get_or xs i d).text.now in
    let ts = texts (take i xs) in
    let size : length ts ≡ i = length-map (take i xs) f ∙ length-take-le i xs (let le : i ≤ length xs = omega (arith, lt) in le) in
    is ∙ ap (λ w. w ++ (cond (nat_lt 0 i) (44 ∷ []) [] ++ u)) was ∙ append_assoc (front begun) (listed ts) (cond (nat_lt 0 i) (44 ∷ []) [] ++ u)
    ∙ ap (λ n. front begun ++ (listed ts ++ (cond (nat_lt 0 n) (44 ∷ []) [] ++ u))) (sym size)
    ∙ ap (λ w. front begun ++ w) (sym (listed_push ts u)) ∙ ap (λ ws. front begun ++ listed ws) (sym (map_more f xs i d lt))

-- ---- entries that are shown

shown_by : (roots : List (List ℕ)) (ts : List (List ℕ)) (u : List ℕ) (b : Bool) → is_shown roots u ≡ b → shown roots (ts ++ u ∷ []) ≡ shown roots ts ++ cond b (u ∷ []) []
shown_by roots ts u b is = filter-append (is_shown roots) ts (u ∷ []) ∙ ap (λ c. shown roots ts ++ cond c (u ∷ []) []) is

pub shown_more : (roots : List (List ℕ)) (xs : List Entry) (i : ℕ) (d : Entry) (b : Bool) → i < length xs → is_shown roots (get_or xs i d).text.now ≡ b
    → shown roots (texts (take (i + 1) xs)) ≡ shown roots (texts (take i xs)) ++ cond b ((get_or xs i d).text.now ∷ []) []
shown_more roots xs i d b lt is = ap (shown roots) (map_more (λ (e : Entry). e.text.now) xs i d lt) ∙ shown_by roots (texts (take i xs)) (get_or xs i d).text.now b is

pub shown_as : (roots : List (List ℕ)) (e : Entry) (m : BTreeMap (Bor (List ℕ)) (Unit {0})) → IsRead e → ((q : List ℕ) → has m q ≡ is_among roots q) → (not e.is_good || has m e.label.now) ≡ is_shown roots e.text.now
shown_as roots e m read has_all =
    ap (λ g. not g || has m e.label.now) read.good ∙ ap (λ b. not (is_good e.text.now) || b) (has_all e.label.now) ∙ ap (λ l. not (is_good e.text.now) || is_among roots l) (sym read.label)
