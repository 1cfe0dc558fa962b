-- Actions that respect every invariant of runs: items in the order of their keys.
use Rattle.std.specs.declared.cmp.Ordering.{Ordering}
use Rattle.std.proofs.Common.{ℕ, zero, suc, List, [], ◌∷◌, length, Option, Some, None, Bool, if◌then◌else◌, map, refl}
use Rattle.star_store.specs.declared.values.Value.{Value}
use Rattle.star_store.specs.declared.values.Cell.TheVariants as cell
use Rattle.star_meaning.specs.Run.{Action, give}
use Rattle.star_meaning.specs.Program.{Setting}
use Rattle.star_meaning.specs.Values.{Content, Nothing, BuiltInFunction, Held, content}
use Rattle.star_meaning.specs.declared.given.Arguments.{Arguments}
use Rattle.star_meaning.specs.Merging.{in_front, first_among, merged, halved, merge_sort}
use Rattle.star_meaning.specs.Orders.{want_reverse, key_in, want_key, asked_to_sort, candidates_by, asked_for_best, can_sort, sorted_free, precedes, sorted_pairs, sort_by, best_pair, best_by}
use Rattle.star_meaning.proofs.Invariants.{Invariant, Respects, respects, respects_then, respects_if, respects_give, respects_seeing}
use Rattle.star_meaning.proofs.KeepsArguments.{respects-with_name, respects-only_one}
use Rattle.star_meaning.proofs.KeepsValues.{respects-with_content, respects-want_bool, respects-new_list, respects-count_of, respects-take_items, respects-compare}

pub respects-in_front : {w : Setting} {inv : Invariant w} {A : Type 0} (x : A) (others : Action (List A)) → Respects inv others → Respects inv (in_front x others)
respects-in_front x others k0 = search (respects, k0) depth 14

pub respects-first_among : {w : Setting} {inv : Invariant w} {A : Type 0} (before : A → A → Action Bool) (x : A) (more : List A → Action (List A)) (ys : List A) → ((y z : A) → Respects inv (before y z)) → ((zs : List A) → Respects inv (more zs)) → Respects inv (first_among before x more ys)
respects-first_among before x more [] k0 k1 = search (respects, respects-in_front, k1) depth 14
respects-first_among {inv = inv} before x more (y ∷ ys) k0 k1 =
    let h1 : Respects inv (in_front y (first_among before x more ys)) = respects-in_front y (first_among before x more ys) (respects-first_among before x more ys k0 k1) in
    let h2 : Respects inv (in_front x (more (y ∷ ys))) = respects-in_front x (more (y ∷ ys)) (k1 (y ∷ ys)) in
    respects_then (before y x) (λ b. if b then in_front y (first_among before x more ys) else in_front x (more (y ∷ ys))) (k0 y x)
    (λ b. respects_if b (in_front y (first_among before x more ys)) (in_front x (more (y ∷ ys))) h1 h2)

pub respects-merged : {w : Setting} {inv : Invariant w} {A : Type 0} (before : A → A → Action Bool) (xs ys : List A) → ((y z : A) → Respects inv (before y z)) → Respects inv (merged before xs ys)
respects-merged before [] ys k0 = search respects depth 14
respects-merged before (x ∷ xs) ys k0 = respects-first_among before x (merged before xs) ys k0 (λ zs. respects-merged before xs zs k0)

pub respects-halved : {w : Setting} {inv : Invariant w} {A : Type 0} (before : A → A → Action Bool) (n : ℕ) (xs : List A) → ((y z : A) → Respects inv (before y z)) → Respects inv (halved before n xs)
respects-halved before zero xs k0 = search respects depth 14
respects-halved {inv = inv} {A = A} before (suc n) xs k0 =
    let h1 : (ys : List A) → Respects inv (halved before n ys) = λ ys. respects-halved before n ys k0 in
    let h2 : (ys zs : List A) → Respects inv (merged before ys zs) = λ ys zs. respects-merged before ys zs k0 in
    search (respects, h1, h2) depth 14

pub respects-merge_sort : {w : Setting} {inv : Invariant w} {A : Type 0} (before : A → A → Action Bool) (xs : List A) → ((y z : A) → Respects inv (before y z)) → Respects inv (merge_sort before xs)
respects-merge_sort before xs k0 = respects-halved before (length xs) xs k0

pub respects-want_reverse : (w : Setting) {inv : Invariant w} (line : ℕ) (a2 : Option Value) → Respects inv (want_reverse w line a2)
respects-want_reverse w line None = search respects depth 14
respects-want_reverse w line (Some v) = search (respects, respects-want_bool) depth 14

pub respects-key_in : {w : Setting} {inv : Invariant w} (line : ℕ) (v : Value) (a2 : Content) → Respects inv (key_in line v a2)
respects-key_in line v Nothing = search respects depth 14
respects-key_in line v (BuiltInFunction b) = search respects depth 14
respects-key_in line v (Held (cell.Func f)) = search respects depth 14
respects-key_in line v (Held (cell.Bound m x)) = search respects depth 14
respects-key_in line v _ = search respects depth 14

pub respects-want_key : (w : Setting) {inv : Invariant w} (line : ℕ) (a2 : Option Value) → Respects inv (want_key w line a2)
respects-want_key w line None = search respects depth 14
respects-want_key w line (Some v) = search (respects, respects-with_content, respects-key_in) depth 14

pub respects-asked_to_sort : (w : Setting) {inv : Invariant w} (line : ℕ) (g : Arguments) → Respects inv (asked_to_sort w line g)
respects-asked_to_sort w line g = search (respects, respects-count_of, respects-take_items, respects-only_one, respects-want_key, respects-want_reverse) depth 14

pub respects-candidates_by : (w : Setting) {inv : Invariant w} (line : ℕ) (a2 : Option Value) (a3 : List Value) → Respects inv (candidates_by w line a2 a3)
respects-candidates_by w line k [] = search respects depth 14
respects-candidates_by w line k (v ∷ []) = search (respects, respects-count_of, respects-take_items, respects-want_key) depth 14
respects-candidates_by w line k (x ∷ y ∷ xs) = search (respects, respects-want_key) depth 14

pub respects-asked_for_best : (w : Setting) {inv : Invariant w} (line : ℕ) (g : Arguments) → Respects inv (asked_for_best w line g)
respects-asked_for_best w line g = search (respects, respects-with_name, respects-candidates_by) depth 14

pub respects-precedes : (w : Setting) {inv : Invariant w} (levels line : ℕ) (backwards : Bool) (y x : Value × Value) → Respects inv (precedes w levels line backwards y x)
respects-precedes w levels line backwards y x = search (respects, respects-compare) depth 14

pub respects-sorted_pairs : (w : Setting) {inv : Invariant w} (levels line : ℕ) (backwards : Bool) (ps : List (Value × Value)) → Respects inv (sorted_pairs w levels line backwards ps)
respects-sorted_pairs w {inv = inv} levels line backwards ps =
    let h1 : Respects inv (merge_sort (precedes w levels line backwards) ps) = respects-merge_sort (precedes w levels line backwards) ps (λ y x. respects-precedes w levels line backwards y x) in
    respects_seeing (λ s. if can_sort (map (λ p. content w s p.0) ps) then give (sorted_free w s backwards ps) else merge_sort (precedes w levels line backwards) ps) (λ k s. refl)
    (λ s. respects_if (can_sort (map (λ p. content w s p.0) ps)) (give (sorted_free w s backwards ps)) (merge_sort (precedes w levels line backwards) ps) (respects_give (sorted_free w s backwards ps)) h1)

pub respects-sort_by : (w : Setting) {inv : Invariant w} (levels line : ℕ) (backwards : Bool) (ps : List (Value × Value)) → Respects inv (sort_by w levels line backwards ps)
respects-sort_by w levels line backwards ps = search (respects, respects-new_list, respects-sorted_pairs) depth 14

pub respects-best_pair : (w : Setting) {inv : Invariant w} (levels line : ℕ) (better : Ordering → Bool) (best : Value × Value) (a5 : List (Value × Value)) → Respects inv (best_pair w levels line better best a5)
respects-best_pair w levels line better best [] = search respects depth 14
respects-best_pair w {inv = inv} levels line better best (p ∷ ps) =
    let h1 : (q : Value × Value) → Respects inv (best_pair w levels line better q ps) = λ q. respects-best_pair w levels line better q ps in
    search (respects, respects-compare, h1) depth 14

pub respects-best_by : (w : Setting) {inv : Invariant w} (levels line : ℕ) (better : Ordering → Bool) (a4 : List (Value × Value)) → Respects inv (best_by w levels line better a4)
respects-best_by w levels line better [] = search respects depth 14
respects-best_by w levels line better (p ∷ ps) = search (respects, respects-best_pair) depth 14
