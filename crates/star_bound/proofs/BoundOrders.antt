-- Actions that make no more than they pay: items in the order of their keys.
use Rattle.std.specs.declared.cmp.Ordering.{Ordering}
use Rattle.std.proofs.Common.{ℕ, zero, suc, List, [], ◌∷◌, length, Option, Some, None, Bool, if◌then◌else◌, map}
use Rattle.star_store.specs.declared.values.Value.{Value}
use Rattle.star_store.specs.declared.values.Cell.TheVariants as cell
use Rattle.star_meaning.specs.Run.{Action, give}
use Rattle.star_meaning.specs.Program.{Setting}
use Rattle.star_meaning.specs.Values.{Content, Nothing, BuiltInFunction, Held, content}
use Rattle.star_meaning.specs.declared.given.Arguments.{Arguments}
use Rattle.star_meaning.specs.Merging.{in_front, first_among, merged, halved, merge_sort}
use Rattle.star_meaning.specs.Orders.{want_reverse, key_in, want_key, asked_to_sort, candidates_by, asked_for_best, can_sort, sorted_free, precedes, sorted_pairs, sort_by, best_pair, best_by}
use Rattle.star_bound.proofs.Within.{Bounded, bounded_then, bounded_if, bounded_give, bounded_seeing}
use Rattle.star_bound.proofs.Bounds.{bounded}
use Rattle.star_bound.proofs.BoundArguments.{bounded-with_name, bounded-only_one}
use Rattle.star_bound.proofs.BoundValues.{bounded-with_content, bounded-want_bool, bounded-new_list, bounded-count_of, bounded-take_items, bounded-compare}

pub bounded-in_front : {A : Type 0} (x : A) (others : Action (List A)) → Bounded others → Bounded (in_front x others)
bounded-in_front x others k0 = search (bounded, k0) depth 14

pub bounded-first_among : {A : Type 0} (before : A → A → Action Bool) (x : A) (more : List A → Action (List A)) (ys : List A) → ((y z : A) → Bounded (before y z)) → ((zs : List A) → Bounded (more zs)) → Bounded (first_among before x more ys)
bounded-first_among before x more [] k0 k1 = search (bounded, bounded-in_front, k1) depth 14
bounded-first_among before x more (y ∷ ys) k0 k1 =
    let h1 : Bounded (in_front y (first_among before x more ys)) = bounded-in_front y (first_among before x more ys) (bounded-first_among before x more ys k0 k1) in
    let h2 : Bounded (in_front x (more (y ∷ ys))) = bounded-in_front x (more (y ∷ ys)) (k1 (y ∷ ys)) in
    bounded_then (before y x) (λ b. if b then in_front y (first_among before x more ys) else in_front x (more (y ∷ ys))) (k0 y x)
    (λ b. bounded_if b (in_front y (first_among before x more ys)) (in_front x (more (y ∷ ys))) h1 h2)

pub bounded-merged : {A : Type 0} (before : A → A → Action Bool) (xs ys : List A) → ((y z : A) → Bounded (before y z)) → Bounded (merged before xs ys)
bounded-merged before [] ys k0 = search bounded depth 14
bounded-merged before (x ∷ xs) ys k0 = bounded-first_among before x (merged before xs) ys k0 (λ zs. bounded-merged before xs zs k0)

pub bounded-halved : {A : Type 0} (before : A → A → Action Bool) (n : ℕ) (xs : List A) → ((y z : A) → Bounded (before y z)) → Bounded (halved before n xs)
bounded-halved before zero xs k0 = search bounded depth 14
bounded-halved {A = A} before (suc n) xs k0 =
    let h1 : (ys : List A) → Bounded (halved before n ys) = λ ys. bounded-halved before n ys k0 in
    let h2 : (ys zs : List A) → Bounded (merged before ys zs) = λ ys zs. bounded-merged before ys zs k0 in
    search (bounded, h1, h2) depth 14

pub bounded-merge_sort : {A : Type 0} (before : A → A → Action Bool) (xs : List A) → ((y z : A) → Bounded (before y z)) → Bounded (merge_sort before xs)
bounded-merge_sort before xs k0 = bounded-halved before (length xs) xs k0

pub bounded-want_reverse : (w : Setting) (line : ℕ) (a2 : Option Value) → Bounded (want_reverse w line a2)
bounded-want_reverse w line None = search bounded depth 14
bounded-want_reverse w line (Some v) = search (bounded, bounded-want_bool) depth 14

pub bounded-key_in : (line : ℕ) (v : Value) (a2 : Content) → Bounded (key_in line v a2)
bounded-key_in line v Nothing = search bounded depth 14
bounded-key_in line v (BuiltInFunction b) = search bounded depth 14
bounded-key_in line v (Held (cell.Func f)) = search bounded depth 14
bounded-key_in line v (Held (cell.Bound m x)) = search bounded depth 14
bounded-key_in line v _ = search bounded depth 14

pub bounded-want_key : (w : Setting) (line : ℕ) (a2 : Option Value) → Bounded (want_key w line a2)
bounded-want_key w line None = search bounded depth 14
bounded-want_key w line (Some v) = search (bounded, bounded-with_content, bounded-key_in) depth 14

pub bounded-asked_to_sort : (w : Setting) (line : ℕ) (g : Arguments) → Bounded (asked_to_sort w line g)
bounded-asked_to_sort w line g = search (bounded, bounded-count_of, bounded-take_items, bounded-only_one, bounded-want_key, bounded-want_reverse) depth 14

pub bounded-candidates_by : (w : Setting) (line : ℕ) (a2 : Option Value) (a3 : List Value) → Bounded (candidates_by w line a2 a3)
bounded-candidates_by w line k [] = search bounded depth 14
bounded-candidates_by w line k (v ∷ []) = search (bounded, bounded-count_of, bounded-take_items, bounded-want_key) depth 14
bounded-candidates_by w line k (x ∷ y ∷ xs) = search (bounded, bounded-want_key) depth 14

pub bounded-asked_for_best : (w : Setting) (line : ℕ) (g : Arguments) → Bounded (asked_for_best w line g)
bounded-asked_for_best w line g = search (bounded, bounded-with_name, bounded-candidates_by) depth 14

pub bounded-precedes : (w : Setting) (levels line : ℕ) (backwards : Bool) (y x : Value × Value) → Bounded (precedes w levels line backwards y x)
bounded-precedes w levels line backwards y x = search (bounded, bounded-compare) depth 14

pub bounded-sorted_pairs : (w : Setting) (levels line : ℕ) (backwards : Bool) (ps : List (Value × Value)) → Bounded (sorted_pairs w levels line backwards ps)
bounded-sorted_pairs w levels line backwards ps =
    let h1 : Bounded (merge_sort (precedes w levels line backwards) ps) = bounded-merge_sort (precedes w levels line backwards) ps (λ y x. bounded-precedes w levels line backwards y x) in
    bounded_seeing (λ s. if can_sort (map (λ p. content w s p.0) ps) then give (sorted_free w s backwards ps) else merge_sort (precedes w levels line backwards) ps)
    (λ s. bounded_if (can_sort (map (λ p. content w s p.0) ps)) (give (sorted_free w s backwards ps)) (merge_sort (precedes w levels line backwards) ps) (bounded_give (sorted_free w s backwards ps)) h1)

pub bounded-sort_by : (w : Setting) (levels line : ℕ) (backwards : Bool) (ps : List (Value × Value)) → Bounded (sort_by w levels line backwards ps)
bounded-sort_by w levels line backwards ps = search (bounded, bounded-new_list, bounded-sorted_pairs) depth 14

pub bounded-best_pair : (w : Setting) (levels line : ℕ) (better : Ordering → Bool) (best : Value × Value) (a5 : List (Value × Value)) → Bounded (best_pair w levels line better best a5)
bounded-best_pair w levels line better best [] = search bounded depth 14
bounded-best_pair w levels line better best (p ∷ ps) =
    let h1 : (q : Value × Value) → Bounded (best_pair w levels line better q ps) = λ q. bounded-best_pair w levels line better q ps in
    search (bounded, bounded-compare, h1) depth 14

pub bounded-best_by : (w : Setting) (levels line : ℕ) (better : Ordering → Bool) (a4 : List (Value × Value)) → Bounded (best_by w levels line better a4)
bounded-best_by w levels line better [] = search bounded depth 14
bounded-best_by w levels line better (p ∷ ps) = search (bounded, bounded-best_pair) depth 14
