-- Pairs of actions that do the same over two shelves: items in the order of their keys.
use Rattle.std.proofs.Common.{◌≡◌, ℕ, zero, suc, ◌/◌, nat_lt, length, take, drop, map, List, [], ◌∷◌, Option, Some, None, Bool, true, false, if◌then◌else◌, codes, refl, ap, subst, ◌∙◌}
use Rattle.std.specs.List.{list_all}
use Rattle.std.specs.declared.cmp.Ordering.{Ordering}
use Rattle.star_store.specs.declared.values.Value.{Value}
use Rattle.star_store.specs.declared.values.Cell.TheVariants as cell
use Rattle.star_meaning.specs.declared.fault.FaultCode.TheVariants as code
use Rattle.star_meaning.specs.declared.given.Arguments.{Arguments}
use Rattle.star_meaning.specs.Run.{State, Action, give}
use Rattle.star_meaning.specs.Binding.{value_named}
use Rattle.star_meaning.specs.Program.{Setting}
use Rattle.star_meaning.specs.Values.{Content, Nothing, BuiltInFunction, Held, content}
use Rattle.star_meaning.specs.Merging.{in_front, first_among, merged, halved, merge_sort}
use Rattle.star_meaning.specs.Orders.{asked_for_best, asked_to_sort, best_by, best_pair, by_itself, can_sort, candidates_by, goes_first, is_before_by, is_of_sorted, key_in, precedes, sort_by, sorted_free, sorted_pairs, want_key, want_reverse}
use Rattle.star_store.specs.Names.{is_function}
use Rattle.star_store.specs.Sorting.{in_order, placed}
use Rattle.star_unseen.specs.Veil.{AreVisible, Every, Hides, IsVisible, VisibleIfThere}
use Rattle.star_unseen.specs.Shelves.{Veil, with_other}
use Rattle.star_unseen.proofs.Looks.{same_content}
use Rattle.star_unseen.proofs.Visible.{ArgumentsAreVisible}
use Rattle.star_unseen.proofs.Alike.{Alike, Any, alike_check, alike_content, alike_fail, alike_give, alike_if, alike_seeing, alike_then}
use Rattle.star_unseen.proofs.Values.{alike-want_bool, alike-new_list, alike-count_of, alike-take_items, alike-compare}
use Rattle.star_unseen.proofs.Arguments.{alike-with_name, alike-only_one}
use Rattle.star_unseen.proofs.Binding.{visible-value_named}

-- an item beside its key, both visible
abbrev pub PairIsVisible : Hides → Value × Value → Type 0
PairIsVisible hides p = IsVisible hides p.0 × IsVisible hides p.1

-- ---- merging, of items with any property

module _ {A : Type 0} {w : Setting} (k : Veil w) (P : A → Type 0) where
  alike-in_front : (x : A) (m n : Action (List A)) → P x → Alike k (Every P) m n → Alike k (Every P) (in_front x m) (in_front x n)
  alike-in_front x m n h l = alike_then l (λ xs hs. alike_give (Every P) (x ∷ xs) (h, hs))

  alike-first_among : (f g : A → A → Action Bool) (x : A) (m n : List A → Action (List A)) (ys : List A) → ((y z : A) → P y → P z → Alike k Any (f y z) (g y z)) → ((zs : List A) → Every P zs → Alike k (Every P) (m zs) (n zs)) → P x → Every P ys → Alike k (Every P) (first_among f x m ys) (first_among g x n ys)
  alike-first_among f g x m n [] a l h hs = alike-in_front x (m []) (n []) h (l [] tt)
  alike-first_among f g x m n (y ∷ ys) a l h hs =
      alike_then (a y x hs.0 h) (λ b _. alike_if (Every P) b _ _ _ _
      (alike-in_front y _ _ hs.0 (alike-first_among f g x m n ys a l h hs.1))
      (alike-in_front x _ _ h (l (y ∷ ys) hs)))

  alike-merged : (f g : A → A → Action Bool) (xs ys : List A) → ((y z : A) → P y → P z → Alike k Any (f y z) (g y z)) → Every P xs → Every P ys → Alike k (Every P) (merged f xs ys) (merged g xs ys)
  alike-merged f g [] ys a h hs = alike_give (Every P) ys hs
  alike-merged f g (x ∷ xs) ys a h hs = alike-first_among f g x (merged f xs) (merged g xs) ys a (λ zs l. alike-merged f g xs zs a h.1 l) h.0 hs

  every_take : (n : ℕ) (xs : List A) → Every P xs → Every P (take n xs)
  every_take zero xs h = tt
  every_take (suc n) [] h = tt
  every_take (suc n) (x ∷ xs) h = (h.0, every_take n xs h.1)

  every_drop : (n : ℕ) (xs : List A) → Every P xs → Every P (drop n xs)
  every_drop zero xs h = h
  every_drop (suc n) [] h = tt
  every_drop (suc n) (x ∷ xs) h = every_drop n xs h.1

  alike-halved : (f g : A → A → Action Bool) (n : ℕ) (xs : List A) → ((y z : A) → P y → P z → Alike k Any (f y z) (g y z)) → Every P xs → Alike k (Every P) (halved f n xs) (halved g n xs)
  alike-halved f g zero xs a h = alike_give (Every P) xs h
  alike-halved f g (suc n) xs a h =
      alike_if (Every P) (nat_lt (length xs) 2) _ _ _ _ (alike_give (Every P) xs h)
      (alike_then (alike-halved f g n (take (length xs / 2) xs) a (every_take (length xs / 2) xs h)) (λ front hf.
      alike_then (alike-halved f g n (drop (length xs / 2) xs) a (every_drop (length xs / 2) xs h)) (λ rest hr.
      alike-merged f g front rest a hf hr)))

  -- ---- items in order by a test that pays nothing

  abbrev pub AgreeOn : (A → A → Bool) → (A → A → Bool) → Type 0
  AgreeOn f g = (x y : A) → P x → P y → f x y ≡ g x y

  every_placed : (f : A → A → Bool) (x : A) (ys : List A) → P x → Every P ys → Every P (placed f x ys)
  every_placed f x [] h l = (h, tt)
  every_placed f x (y ∷ ys) h l = either_way (f y x) (y ∷ placed f x ys) (x ∷ y ∷ ys) (l.0, every_placed f x ys h l.1) (h, l)
    where
      either_way : (b : Bool) (xs zs : List A) → Every P xs → Every P zs → Every P (if b then xs else zs)
      either_way true xs zs p q = p
      either_way false xs zs p q = q

  every_ordered : (f : A → A → Bool) (xs : List A) → Every P xs → Every P (in_order f xs)
  every_ordered f [] h = tt
  every_ordered f (x ∷ xs) h = every_placed f x (in_order f xs) h.0 (every_ordered f xs h.1)

  same_placed : (f g : A → A → Bool) → AgreeOn f g → (x : A) (ys : List A) → P x → Every P ys → placed f x ys ≡ placed g x ys
  same_placed f g a x [] h l = refl
  same_placed f g a x (y ∷ ys) h l =
      ap (λ b. if b then y ∷ placed f x ys else x ∷ y ∷ ys) (a y x l.0 h) ∙ ap (λ zs. if g y x then y ∷ zs else x ∷ y ∷ ys) (same_placed f g a x ys h l.1)

  same_ordered : (f g : A → A → Bool) → AgreeOn f g → (xs : List A) → Every P xs → in_order f xs ≡ in_order g xs
  same_ordered f g a [] h = refl
  same_ordered f g a (x ∷ xs) h = same_placed f g a x (in_order f xs) h.0 (every_ordered f xs h.1) ∙ ap (placed g x) (same_ordered f g a xs h.1)

-- ---- what is asked for

pub alike-want_reverse : {w : Setting} (k : Veil w) (line : ℕ) (o : Option Value) → VisibleIfThere k.hides o → Alike k Any (want_reverse w line o) (want_reverse (with_other k.other w) line o)
alike-want_reverse k line None h = alike_give Any false tt
alike-want_reverse k line (Some v) h = alike-want_bool k line v h

alike-key_in : {w : Setting} (k : Veil w) (line : ℕ) (v : Value) (c : Content) → IsVisible k.hides v → Alike k (VisibleIfThere k.hides) (key_in line v c) (key_in line v c)
alike-key_in k line v Nothing h = alike_give {A = Option Value} (VisibleIfThere k.hides) None tt
alike-key_in k line v (BuiltInFunction b) h = alike_then (alike_check code.BadType line (is_function b)) (λ _ _. alike_give (VisibleIfThere k.hides) (Some v) h)
alike-key_in k line v (Held (cell.Func f)) h = alike_give (VisibleIfThere k.hides) (Some v) h
alike-key_in k line v (Held (cell.Bound m x)) h = alike_give (VisibleIfThere k.hides) (Some v) h
alike-key_in k line v _ h = alike_fail (Option Value) (VisibleIfThere k.hides) code.BadType line

alike-want_key : {w : Setting} (k : Veil w) (line : ℕ) (o : Option Value) → VisibleIfThere k.hides o → Alike k (VisibleIfThere k.hides) (want_key w line o) (want_key (with_other k.other w) line o)
alike-want_key k line None h = alike_give {A = Option Value} (VisibleIfThere k.hides) None tt
alike-want_key k line (Some v) h = alike_content (VisibleIfThere k.hides) v _ _ h (λ c _. alike-key_in k line v c h)

-- the items and the function are visible
abbrev pub SortingIsVisible : Hides → List Value × Option Value × Bool → Type 0
SortingIsVisible hides a = AreVisible hides a.0 × VisibleIfThere hides a.1

abbrev pub CandidatesAreVisible : Hides → List Value × Option Value → Type 0
CandidatesAreVisible hides a = AreVisible hides a.0 × VisibleIfThere hides a.1

pub alike-asked_to_sort : {w : Setting} (k : Veil w) (line : ℕ) (g : Arguments) → ArgumentsAreVisible k.hides g → Alike k (SortingIsVisible k.hides) (asked_to_sort w line g) (asked_to_sort (with_other k.other w) line g)
alike-asked_to_sort k line g h =
    alike_then (alike_check code.Args line (list_all is_of_sorted g.named)) (λ _ _.
    alike_then (alike-only_one k line g.positional h.0) (λ it r.
    alike_then (alike-count_of k line it r) (λ n _.
    alike_then (alike-want_key k line (value_named (codes "key") g.named) (visible-value_named k (codes "key") g.named h.1)) (λ key hk.
    alike_then (alike-want_reverse k line (value_named (codes "reverse") g.named) (visible-value_named k (codes "reverse") g.named h.1)) (λ backwards _.
    alike_then (alike-take_items k line it n r) (λ xs q.
    alike_give (SortingIsVisible k.hides) (xs, key, backwards) (q, hk)))))))

alike-candidates_by : {w : Setting} (k : Veil w) (line : ℕ) (o : Option Value) (xs : List Value) → VisibleIfThere k.hides o → AreVisible k.hides xs → Alike k (CandidatesAreVisible k.hides) (candidates_by w line o xs) (candidates_by (with_other k.other w) line o xs)
alike-candidates_by k line o [] h l = alike_fail (List Value × Option Value) (CandidatesAreVisible k.hides) code.Args line
alike-candidates_by k line o (v ∷ []) h l =
    alike_then (alike-count_of k line v l.0) (λ n _. alike_then (alike-want_key k line o h) (λ key hk. alike_then (alike-take_items k line v n l.0) (λ xs q.
    alike_give (CandidatesAreVisible k.hides) (xs, key) (q, hk))))
alike-candidates_by k line o (x ∷ y ∷ xs) h l = alike_then (alike-want_key k line o h) (λ key hk. alike_give (CandidatesAreVisible k.hides) (x ∷ y ∷ xs, key) (l, hk))

pub alike-asked_for_best : {w : Setting} (k : Veil w) (line : ℕ) (g : Arguments) → ArgumentsAreVisible k.hides g → Alike k (CandidatesAreVisible k.hides) (asked_for_best w line g) (asked_for_best (with_other k.other w) line g)
alike-asked_for_best k line g h = alike_then (alike-with_name k line (codes "key") g h) (λ a l. alike-candidates_by k line a.1 a.0 l.1 l.0)

-- ---- the work

pub visible-by_itself : (hides : Hides) (xs : List Value) → AreVisible hides xs → Every (PairIsVisible hides) (map by_itself xs)
visible-by_itself hides [] h = tt
visible-by_itself hides (x ∷ xs) h = ((h.0, h.0), visible-by_itself hides xs h.1)

visible-items : (hides : Hides) (ps : List (Value × Value)) → Every (PairIsVisible hides) ps → AreVisible hides (map (λ p. p.1) ps)
visible-items hides [] h = tt
visible-items hides (p ∷ ps) h = ((h.0).1, visible-items hides ps h.1)

same_keys : {w : Setting} (k : Veil w) (s : State) (ps : List (Value × Value)) → Every (PairIsVisible k.hides) ps → map (λ p. content w s p.0) ps ≡ map (λ p. content (with_other k.other w) s p.0) ps
same_keys k s [] h = refl
same_keys {w = w} k s (p ∷ ps) h = ap (λ c. c ∷ map (λ q. content w s q.0) ps) (same_content k s p.0 (h.0).0) ∙ ap (λ cs. content (with_other k.other w) s p.0 ∷ cs) (same_keys k s ps h.1)

same_before_by : {w : Setting} (k : Veil w) (s : State) (backwards : Bool) → AgreeOn k (PairIsVisible k.hides) (λ p q. is_before_by backwards (content w s p.0) (content w s q.0)) (λ p q. is_before_by backwards (content (with_other k.other w) s p.0) (content (with_other k.other w) s q.0))
same_before_by {w = w} k s backwards = λ p q h l. ap (λ c. is_before_by backwards c (content w s q.0)) (same_content k s p.0 h.0) ∙ ap (λ c. is_before_by backwards (content (with_other k.other w) s p.0) c) (same_content k s q.0 l.0)

alike-precedes : {w : Setting} (k : Veil w) (levels line : ℕ) (backwards : Bool) (y x : Value × Value) → PairIsVisible k.hides y → PairIsVisible k.hides x → Alike k Any (precedes w levels line backwards y x) (precedes (with_other k.other w) levels line backwards y x)
alike-precedes k levels line backwards y x h l = alike_then (alike-compare k levels line y.0 x.0 h.0 l.0) (λ o _. alike_give Any (goes_first backwards o) tt)

alike-sorted_pairs : {w : Setting} (k : Veil w) (levels line : ℕ) (backwards : Bool) (ps : List (Value × Value)) → Every (PairIsVisible k.hides) ps → Alike k (Every (PairIsVisible k.hides)) (sorted_pairs w levels line backwards ps) (sorted_pairs (with_other k.other w) levels line backwards ps)
alike-sorted_pairs {w = w} k levels line backwards ps h = alike_seeing (Every (PairIsVisible k.hides)) _ _ (λ s _.
    let V = PairIsVisible k.hides in
    let other = with_other k.other w in
    subst (λ cs. Alike k (Every V) (if can_sort (map (λ p. content w s p.0) ps) then give (sorted_free w s backwards ps) else merge_sort (precedes w levels line backwards) ps) (if can_sort cs then give (sorted_free other s backwards ps) else merge_sort (precedes other levels line backwards) ps)) (same_keys k s ps h)
    (alike_if (Every V) (can_sort (map (λ p. content w s p.0) ps)) _ _ _ _
    (subst (λ qs. Alike k (Every V) (give (sorted_free w s backwards ps)) (give qs)) (same_ordered k V _ _ (same_before_by k s backwards) ps h) (alike_give (Every V) (sorted_free w s backwards ps) (every_ordered k V _ ps h)))
    (alike-halved k V _ _ (length ps) ps (λ y x hy hx. alike-precedes k levels line backwards y x hy hx) h)))

pub alike-sort_by : {w : Setting} (k : Veil w) (levels line : ℕ) (backwards : Bool) (ps : List (Value × Value)) → Every (PairIsVisible k.hides) ps → Alike k (IsVisible k.hides) (sort_by w levels line backwards ps) (sort_by (with_other k.other w) levels line backwards ps)
alike-sort_by k levels line backwards ps h = alike_then (alike-sorted_pairs k levels line backwards ps h) (λ qs l. alike-new_list k line (map (λ q. q.1) qs) (visible-items k.hides qs l))

pair_if : (hides : Hides) (b : Bool) (p q : Value × Value) → PairIsVisible hides p → PairIsVisible hides q → PairIsVisible hides (if b then p else q)
pair_if hides true p q h l = h
pair_if hides false p q h l = l

alike-best_pair : {w : Setting} (k : Veil w) (levels line : ℕ) (better : Ordering → Bool) (best : Value × Value) (ps : List (Value × Value)) → PairIsVisible k.hides best → Every (PairIsVisible k.hides) ps → Alike k (IsVisible k.hides) (best_pair w levels line better best ps) (best_pair (with_other k.other w) levels line better best ps)
alike-best_pair k levels line better best [] h l = alike_give (IsVisible k.hides) best.1 h.1
alike-best_pair k levels line better best (p ∷ ps) h l =
    alike_then (alike-compare k levels line p.0 best.0 (l.0).0 h.0) (λ o _. alike-best_pair k levels line better (if better o then p else best) ps (pair_if k.hides (better o) p best l.0 h) l.1)

pub alike-best_by : {w : Setting} (k : Veil w) (levels line : ℕ) (better : Ordering → Bool) (ps : List (Value × Value)) → Every (PairIsVisible k.hides) ps → Alike k (IsVisible k.hides) (best_by w levels line better ps) (best_by (with_other k.other w) levels line better ps)
alike-best_by k levels line better [] h = alike_fail Value (IsVisible k.hides) code.BadValue line
alike-best_by k levels line better (p ∷ ps) h = alike-best_pair k levels line better p ps h.0 h.1
