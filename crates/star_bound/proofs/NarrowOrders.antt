-- Actions that keep frames narrow: items in the order of their keys.
use Rattle.std.specs.declared.cmp.Ordering.{Ordering}
use Rattle.std.proofs.Common.{ℕ, zero, suc, List, [], ◌∷◌, length, Option, Some, None, Bool, if◌then◌else◌, map}
use Rattle.star_store.specs.declared.values.Value.{Value}
use Rattle.star_store.specs.declared.values.Cell.TheVariants as cell
use Rattle.star_meaning.specs.Run.{Action, give}
use Rattle.star_meaning.specs.Program.{Setting}
use Rattle.star_meaning.specs.Values.{Content, Nothing, BuiltInFunction, Held, content}
use Rattle.star_meaning.specs.declared.given.Arguments.{Arguments}
use Rattle.star_meaning.specs.Merging.{in_front, first_among, merged, halved, merge_sort}
use Rattle.star_meaning.specs.Orders.{want_reverse, key_in, want_key, asked_to_sort, candidates_by, asked_for_best, can_sort, sorted_free, precedes, sorted_pairs, sort_by, best_pair, best_by}
use Rattle.star_bound.proofs.Narrow.{narrow, Narrows, narrow_then, narrow_if, narrow_give, narrow_seeing}
use Rattle.star_bound.proofs.NarrowArguments.{narrow-with_name, narrow-only_one}
use Rattle.star_bound.proofs.NarrowValues.{narrow-with_content, narrow-want_bool, narrow-new_list, narrow-count_of, narrow-take_items, narrow-compare}

pub narrow-in_front : {most : ℕ} {A : Type 0} (x : A) (others : Action (List A)) → Narrows most others → Narrows most (in_front x others)
narrow-in_front x others k0 = search (narrow, k0) depth 14

pub narrow-first_among : {most : ℕ} {A : Type 0} (before : A → A → Action Bool) (x : A) (more : List A → Action (List A)) (ys : List A) → ((y z : A) → Narrows most (before y z)) → ((zs : List A) → Narrows most (more zs)) → Narrows most (first_among before x more ys)
narrow-first_among before x more [] k0 k1 = search (narrow, narrow-in_front, k1) depth 14
narrow-first_among {most = most} before x more (y ∷ ys) k0 k1 =
    let h1 : Narrows most (in_front y (first_among before x more ys)) = narrow-in_front y (first_among before x more ys) (narrow-first_among before x more ys k0 k1) in
    let h2 : Narrows most (in_front x (more (y ∷ ys))) = narrow-in_front x (more (y ∷ ys)) (k1 (y ∷ ys)) in
    narrow_then (before y x) (λ b. if b then in_front y (first_among before x more ys) else in_front x (more (y ∷ ys))) (k0 y x)
    (λ b. narrow_if b (in_front y (first_among before x more ys)) (in_front x (more (y ∷ ys))) h1 h2)

pub narrow-merged : {most : ℕ} {A : Type 0} (before : A → A → Action Bool) (xs ys : List A) → ((y z : A) → Narrows most (before y z)) → Narrows most (merged before xs ys)
narrow-merged before [] ys k0 = search narrow depth 14
narrow-merged before (x ∷ xs) ys k0 = narrow-first_among before x (merged before xs) ys k0 (λ zs. narrow-merged before xs zs k0)

pub narrow-halved : {most : ℕ} {A : Type 0} (before : A → A → Action Bool) (n : ℕ) (xs : List A) → ((y z : A) → Narrows most (before y z)) → Narrows most (halved before n xs)
narrow-halved before zero xs k0 = search narrow depth 14
narrow-halved {most = most} {A = A} before (suc n) xs k0 =
    let h1 : (ys : List A) → Narrows most (halved before n ys) = λ ys. narrow-halved before n ys k0 in
    let h2 : (ys zs : List A) → Narrows most (merged before ys zs) = λ ys zs. narrow-merged before ys zs k0 in
    search (narrow, h1, h2) depth 14

pub narrow-merge_sort : {most : ℕ} {A : Type 0} (before : A → A → Action Bool) (xs : List A) → ((y z : A) → Narrows most (before y z)) → Narrows most (merge_sort before xs)
narrow-merge_sort before xs k0 = narrow-halved before (length xs) xs k0

pub narrow-want_reverse : {most : ℕ} (w : Setting) (line : ℕ) (a2 : Option Value) → Narrows most (want_reverse w line a2)
narrow-want_reverse w line None = search narrow depth 14
narrow-want_reverse w line (Some v) = search (narrow, narrow-want_bool) depth 14

pub narrow-key_in : {most : ℕ} (line : ℕ) (v : Value) (a2 : Content) → Narrows most (key_in line v a2)
narrow-key_in line v Nothing = search narrow depth 14
narrow-key_in line v (BuiltInFunction b) = search narrow depth 14
narrow-key_in line v (Held (cell.Func f)) = search narrow depth 14
narrow-key_in line v (Held (cell.Bound m x)) = search narrow depth 14
narrow-key_in line v _ = search narrow depth 14

pub narrow-want_key : {most : ℕ} (w : Setting) (line : ℕ) (a2 : Option Value) → Narrows most (want_key w line a2)
narrow-want_key w line None = search narrow depth 14
narrow-want_key w line (Some v) = search (narrow, narrow-with_content, narrow-key_in) depth 14

pub narrow-asked_to_sort : {most : ℕ} (w : Setting) (line : ℕ) (g : Arguments) → Narrows most (asked_to_sort w line g)
narrow-asked_to_sort w line g = search (narrow, narrow-count_of, narrow-take_items, narrow-only_one, narrow-want_key, narrow-want_reverse) depth 14

pub narrow-candidates_by : {most : ℕ} (w : Setting) (line : ℕ) (a2 : Option Value) (a3 : List Value) → Narrows most (candidates_by w line a2 a3)
narrow-candidates_by w line k [] = search narrow depth 14
narrow-candidates_by w line k (v ∷ []) = search (narrow, narrow-count_of, narrow-take_items, narrow-want_key) depth 14
narrow-candidates_by w line k (x ∷ y ∷ xs) = search (narrow, narrow-want_key) depth 14

pub narrow-asked_for_best : {most : ℕ} (w : Setting) (line : ℕ) (g : Arguments) → Narrows most (asked_for_best w line g)
narrow-asked_for_best w line g = search (narrow, narrow-with_name, narrow-candidates_by) depth 14

pub narrow-precedes : {most : ℕ} (w : Setting) (levels line : ℕ) (backwards : Bool) (y x : Value × Value) → Narrows most (precedes w levels line backwards y x)
narrow-precedes w levels line backwards y x = search (narrow, narrow-compare) depth 14

pub narrow-sorted_pairs : {most : ℕ} (w : Setting) (levels line : ℕ) (backwards : Bool) (ps : List (Value × Value)) → Narrows most (sorted_pairs w levels line backwards ps)
narrow-sorted_pairs {most = most} w levels line backwards ps =
    let h1 : Narrows most (merge_sort (precedes w levels line backwards) ps) = narrow-merge_sort (precedes w levels line backwards) ps (λ y x. narrow-precedes w levels line backwards y x) in
    narrow_seeing (λ s. if can_sort (map (λ p. content w s p.0) ps) then give (sorted_free w s backwards ps) else merge_sort (precedes w levels line backwards) ps)
    (λ s. narrow_if (can_sort (map (λ p. content w s p.0) ps)) (give (sorted_free w s backwards ps)) (merge_sort (precedes w levels line backwards) ps) (narrow_give (sorted_free w s backwards ps)) h1)

pub narrow-sort_by : {most : ℕ} (w : Setting) (levels line : ℕ) (backwards : Bool) (ps : List (Value × Value)) → Narrows most (sort_by w levels line backwards ps)
narrow-sort_by w levels line backwards ps = search (narrow, narrow-new_list, narrow-sorted_pairs) depth 14

pub narrow-best_pair : {most : ℕ} (w : Setting) (levels line : ℕ) (better : Ordering → Bool) (best : Value × Value) (a5 : List (Value × Value)) → Narrows most (best_pair w levels line better best a5)
narrow-best_pair w levels line better best [] = search narrow depth 14
narrow-best_pair {most = most} w levels line better best (p ∷ ps) =
    let h1 : (q : Value × Value) → Narrows most (best_pair w levels line better q ps) = λ q. narrow-best_pair w levels line better q ps in
    search (narrow, narrow-compare, h1) depth 14

pub narrow-best_by : {most : ℕ} (w : Setting) (levels line : ℕ) (better : Ordering → Bool) (a4 : List (Value × Value)) → Narrows most (best_by w levels line better a4)
narrow-best_by w levels line better [] = search narrow depth 14
narrow-best_by w levels line better (p ∷ ps) = search (narrow, narrow-best_pair) depth 14
