-- Tables of published stores: their rows, and the places of their keys in an index.
use Rattle.std.proofs.Common.{◌≡◌, ℕ, zero, suc, ◌+◌, ◌<◌, ◌≤◌, nat_eq, nat_lt, Bool, true, false, cond, ◌&&◌, ◌||◌, List, [], ◌∷◌, ◌++◌, length, get_or, set, map, drop, Option, Some, None, slice_get, position, refl, ap, sym, subst, ◌∙◌, arith, inl, inr}
use Rattle.std.specs.List.{list_all, list_any}
use Rattle.std.specs.Option.{option_map}
use Rattle.std.specs.Cmp.Lexicographic.{pointwise}
use Rattle.std.proofs.lemmas.Bool.{and_parts, cases_lt, eqb-false, eqb-true, ltb-false, ne_eqb}
use Rattle.std.proofs.lemmas.List.{drop_more, get_or-set_other, get_or-set_same, length-set}
use Rattle.std.proofs.lemmas.List.Folds.{list_any-append}
use Rattle.std.proofs.lemmas.List.Quantifiers.{position-Some}
use Rattle.std.proofs.lemmas.Option.{slice_get-get_or, slice_get_past}
use Rattle.star_store.specs.declared.values.Value.{Value}
use Rattle.star_store.specs.declared.values.Value.TheVariants as value
use Rattle.star_store.specs.declared.values.Cell.{Cell}
use Rattle.star_store.specs.declared.values.Cell.TheVariants as cell
use Rattle.star_store.specs.declared.values.HeapCell.{HeapCell}
use Rattle.star_store.specs.declared.content.Atom.{Atom}
use Rattle.star_store.specs.declared.content.Atom.TheVariants as atom
use Rattle.star_store.specs.Content.{content, content_cell, content_each, join, same_atom, same_content}
use Rattle.star_store.specs.Fields.{names_of, values_of}
use Rattle.star_store.specs.Index.{Covers, Shows, far_home, is_far, is_within, place_by, place_told}
use Rattle.star_store.specs.Key.{key_levels}
use Rattle.star_store.specs.Scalars.{contents_alike}
use Rattle.star_store.specs.Table.{AreRows, AreRowsUpTo, IsAdded, IsRow, earlier, has, is_among, is_closed, is_closed_cell, is_from, is_from_any, is_home, or_none, row_at}
use Rattle.star_store.specs.Write.{cell_at}
use Rattle.star_store.proofs.Indexes.{alike, front}
use Rattle.star_store.proofs.Places.{earlier_assoc, earlier_none, or_place, position_never, position_or, position_push, position_same}
use Rattle.star_store.proofs.Contents.{and_false, and_true, or_false}

-- truth

none_passes : {X : Type 0} (f : X → Bool) (xs : List X) → ((x : X) → f x ≡ false) → list_any f xs ≡ false
none_passes f [] h = refl
none_passes f (x ∷ xs) h = ap (λ (b : Bool). b || list_any f xs) (h x) ∙ none_passes f xs h

any_same : {X : Type 0} (f g : X → Bool) (xs : List X) → ((x : X) → f x ≡ g x) → list_any f xs ≡ list_any g xs
any_same f g [] h = refl
any_same f g (x ∷ xs) h = ap (λ (b : Bool). b || list_any f xs) (h x) ∙ ap (λ (b : Bool). g x || b) (any_same f g xs h)

-- the keys of a row in an index

among_far : (home : ℕ) (row : List ℕ) (h a : ℕ) (r : Bool) → has row a ≡ r → is_among home row (atom.Far h a ∷ []) ≡ (nat_eq home h && r)
among_far home row h a r e = by (nat_eq home h) refl
  where
    one : (at : ℕ) → pointwise same_atom (atom.Far home at ∷ []) (atom.Far h a ∷ []) ≡ (nat_eq home h && nat_eq at a)
    one at = and_true (nat_eq home h && nat_eq at a)

    by : (b : Bool) → nat_eq home h ≡ b → is_among home row (atom.Far h a ∷ []) ≡ (b && r)
    by true q = any_same (λ at. pointwise same_atom (atom.Far home at ∷ []) (atom.Far h a ∷ [])) (λ at. nat_eq at a) row (λ at. one at ∙ ap (λ (b : Bool). b && nat_eq at a) q) ∙ e
    by false q = none_passes (λ at. pointwise same_atom (atom.Far home at ∷ []) (atom.Far h a ∷ [])) row (λ at. one at ∙ ap (λ (b : Bool). b && nat_eq at a) q)

among_is : (look : Value → Option Cell) (atoms : List Atom) (home : ℕ) (row : List ℕ) → IsRow look atoms home row → (k : List Atom) → is_among home row k ≡ is_from look atoms home k
among_is look atoms home row r [] = none_passes (λ at. pointwise same_atom (atom.Far home at ∷ []) []) row (λ at. refl)
among_is look atoms home row r (atom.Nothing ∷ ks) = none_passes (λ at. pointwise same_atom (atom.Far home at ∷ []) (atom.Nothing ∷ ks)) row (λ at. refl)
among_is look atoms home row r (atom.Bool b ∷ ks) = none_passes (λ at. pointwise same_atom (atom.Far home at ∷ []) (atom.Bool b ∷ ks)) row (λ at. refl)
among_is look atoms home row r (atom.Int n ∷ ks) = none_passes (λ at. pointwise same_atom (atom.Far home at ∷ []) (atom.Int n ∷ ks)) row (λ at. refl)
among_is look atoms home row r (atom.Text t ∷ ks) = none_passes (λ at. pointwise same_atom (atom.Far home at ∷ []) (atom.Text t ∷ ks)) row (λ at. refl)
among_is look atoms home row r (atom.Row n ∷ ks) = none_passes (λ at. pointwise same_atom (atom.Far home at ∷ []) (atom.Row n ∷ ks)) row (λ at. refl)
among_is look atoms home row r (atom.Names ns ∷ ks) = none_passes (λ at. pointwise same_atom (atom.Far home at ∷ []) (atom.Names ns ∷ ks)) row (λ at. refl)
among_is look atoms home row r (atom.Far h a ∷ b ∷ ks) = none_passes (λ at. pointwise same_atom (atom.Far home at ∷ []) (atom.Far h a ∷ b ∷ ks)) row (λ at. and_false (same_atom (atom.Far home at) (atom.Far h a)))
among_is look atoms home row r (atom.Far h a ∷ []) = among_far home row h a (same_content (Some atoms) (content look key_levels (value.Ref home a))) (r a) ∙ by (nat_eq home h) refl
  where
    by : (b : Bool) → nat_eq home h ≡ b → (b && same_content (Some atoms) (content look key_levels (value.Ref home a))) ≡ (b && same_content (Some atoms) (content look key_levels (value.Ref h a)))
    by true q = ap (λ (n : ℕ). same_content (Some atoms) (content look key_levels (value.Ref n a))) (eqb-true home h q)
    by false q = refl

-- the first place of a row's keys is the first place of the file's keys with the content
pub row_place : (look : Value → Option Cell) (atoms : List Atom) (home : ℕ) (row : List ℕ) (index : List (List Atom)) → IsRow look atoms home row → position (is_among home row) index ≡ position (is_from look atoms home) index
row_place look atoms home row index r = position_same (is_among home row) (is_from look atoms home) index (among_is look atoms home row r)

pub no_row_place : (look : Value → Option Cell) (atoms : List Atom) (home : ℕ) (index : List (List Atom)) → IsRow look atoms home [] → None ≡ position (is_from look atoms home) index
no_row_place look atoms home index r = sym (position_never (is_among home []) index (λ k. refl)) ∙ row_place look atoms home [] index r

pub among_first : (home at : ℕ) (row : List ℕ) (index : List (List Atom)) → position (is_among home (at ∷ row)) index ≡ earlier (place_by (atom.Far home at ∷ []) index) (position (is_among home row) index)
among_first home at row index = position_or (pointwise same_atom (atom.Far home at ∷ [])) (is_among home row) index

pub first_row_place : (look : Value → Option Cell) (atoms : List Atom) (home at : ℕ) (row : List ℕ) (index : List (List Atom)) → IsRow look atoms home (at ∷ row) → earlier (place_by (atom.Far home at ∷ []) index) (position (is_among home row) index) ≡ position (is_from look atoms home) index
first_row_place look atoms home at row index r = sym (among_first home at row index) ∙ row_place look atoms home (at ∷ row) index r

-- contents of a store that has no value of another file

missing : (look : Value → Option Cell) (n home at : ℕ) → look (value.Ref home at) ≡ None → content look n (value.Ref home at) ≡ None
unfolding content
missing look zero home at h = refl
missing look (suc n) home at h = ap (content_cell (content look n)) h

closed_at : (home : ℕ) (cells : List HeapCell) (at : ℕ) (c : Cell) → is_closed home cells ≡ true → cell_at cells at ≡ Some c → is_closed_cell home c ≡ true
closed_at home [] at c h e = cc
closed_at home (d ∷ cells) zero c h e =
    let q : d.cell ≡ c = cc in
    ap (is_closed_cell home) (sym q) ∙ (and_parts (is_closed_cell home d.cell) (is_closed home cells) h).0
closed_at home (d ∷ cells) (suc at) c h e = closed_at home cells at c (and_parts (is_closed_cell home d.cell) (is_closed home cells) h).1 e

module _ (home : ℕ) (cells : List HeapCell) (look later : Value → Option Cell) (h : Shows look home cells) (k : Shows later home cells) (c : is_closed home cells ≡ true) where
  Alike : ℕ → Type 0
  Alike n = (at : ℕ) → content look n (value.Ref home at) ≡ content later n (value.Ref home at)

  item_alike : (n : ℕ) → Alike n → (x : Value) → is_home home x ≡ true → content look n x ≡ content later n x
  unfolding content Alike
  item_alike n a (value.Ref i at) e = ap (λ (m : ℕ). content look n (value.Ref m at)) (eqb-true i home e) ∙ a at ∙ ap (λ (m : ℕ). content later n (value.Ref m at)) (sym (eqb-true i home e))
  item_alike zero a x e = refl
  item_alike (suc n) a value.NoneValue e = refl
  item_alike (suc n) a (value.Bool b) e = refl
  item_alike (suc n) a (value.Int m) e = refl
  item_alike (suc n) a (value.Builtin b) e = refl

  items_alike : (n : ℕ) → Alike n → (xs : List Value) → list_all (is_home home) xs ≡ true → content_each (content look n) xs ≡ content_each (content later n) xs
  items_alike n a [] e = refl
  items_alike n a (x ∷ xs) e =
      ap (λ (o : Option (List Atom)). join o (content_each (content look n) xs)) (item_alike n a x (and_parts (is_home home x) (list_all (is_home home) xs) e).0)
      ∙ ap (join (content later n x)) (items_alike n a xs (and_parts (is_home home x) (list_all (is_home home) xs) e).1)

  cell_alike : (n : ℕ) → Alike n → (o : Option Cell) → ((d : Cell) → o ≡ Some d → is_closed_cell home d ≡ true) → content_cell (content look n) o ≡ content_cell (content later n) o
  cell_alike n a (Some (cell.Tuple xs)) f = ap (join (Some (atom.Row (length xs) ∷ []))) (items_alike n a xs (f (cell.Tuple xs) refl))
  cell_alike n a (Some (cell.Struct fs)) f = ap (join (Some (atom.Names (names_of fs) ∷ []))) (ap (join (Some (atom.Row (length (values_of fs)) ∷ []))) (items_alike n a (values_of fs) (f (cell.Struct fs) refl)))
  cell_alike n a _ f = refl

  contents_alike_at : (n : ℕ) → Alike n
  unfolding content Alike
  contents_alike_at zero = λ at. refl
  contents_alike_at (suc n) = λ at.
      ap (content_cell (content look n)) (h at)
      ∙ cell_alike n (contents_alike_at n) (cell_at cells at) (λ d e. closed_at home cells at d c e)
      ∙ ap (content_cell (content later n)) (sym (k at))

past : (cells : List HeapCell) (at : ℕ) → length cells ≤ at → cell_at cells at ≡ None
past cells at h = ap (option_map (λ (e : HeapCell). e.cell)) (slice_get_past cells at h)

-- rows that have all keys of a store are right beside all other stores
pub rows_right : (look : Value → Option Cell) (home : ℕ) (cells : List HeapCell) (count : ℕ) (contents : List (List Atom)) (rows : List (List ℕ)) → Shows look home cells → is_closed home cells ≡ true → count ≡ length cells → AreRowsUpTo look home count contents rows → AreRows home cells contents rows
unfolding Alike
rows_right look home cells count contents rows h c e r later k atoms at =
    r atoms at ∙ ap (λ (n : ℕ). nat_lt at n && same_content (Some atoms) (content look key_levels (value.Ref home at))) e ∙ by (nat_lt at (length cells)) refl
  where
    by : (b : Bool) → nat_lt at (length cells) ≡ b → (b && same_content (Some atoms) (content look key_levels (value.Ref home at))) ≡ same_content (Some atoms) (content later key_levels (value.Ref home at))
    by true q = ap (same_content (Some atoms)) (contents_alike_at home cells look later h k c key_levels at)
    by false q = sym (ap (same_content (Some atoms)) (missing later key_levels home at (k at ∙ past cells at (ltb-false at (length cells) q))))

-- rows with an address more

pub no_rows : (look : Value → Option Cell) (home : ℕ) → AreRowsUpTo look home 0 [] []
no_rows look home atoms at = sym (ap (λ (b : Bool). b && same_content (Some atoms) (content look key_levels (value.Ref home at))) (let q : nat_lt at 0 ≡ false = grind arith in q))

same_test : (atoms content : List Atom) → pointwise same_atom atoms content ≡ true → (contents : List (List Atom)) → place_by atoms contents ≡ place_by content contents
same_test atoms content e contents = position_same (pointwise same_atom atoms) (pointwise same_atom content) contents (λ k. contents_alike.congr atoms content k e)

get_set : {X : Type 0} (xs : List X) (i : ℕ) (x : X) → i < length xs → slice_get (set xs i x) i ≡ Some x
get_set xs i x h = slice_get-get_or (set xs i x) i x (omega (arith, h, length-set xs i x)) ∙ ap Some (get_or-set_same xs i x x h)

get_other : {X : Type 0} (xs : List X) (at i : ℕ) (x : X) → (i ≡ at → ⊥) → slice_get (set xs at x) i ≡ slice_get xs i
get_other xs at i x n = elim (cases_lt i (length xs)) [
  | inl low ↦ slice_get-get_or (set xs at x) i x (omega (arith, low, length-set xs at x)) ∙ ap Some (get_or-set_other xs at i x x n) ∙ sym (slice_get-get_or xs i x low)
  | inr high ↦ slice_get_past (set xs at x) i (omega (arith, high, length-set xs at x)) ∙ sym (slice_get_past xs i high)
]

row_more : (row : List ℕ) (at i : ℕ) → has (row ++ at ∷ []) i ≡ (has row i || (nat_eq at i && true))
row_more row at i = list_any-append (λ j. nat_eq j i) row (at ∷ []) ∙ ap (λ (b : Bool). has row i || b) (or_false (nat_eq at i) ∙ sym (and_true (nat_eq at i)))

no_more : {new : Bool} (old here : Bool) → new ≡ old → new ≡ (old || (here && false))
no_more old here e = e ∙ sym (or_false old) ∙ ap (λ (b : Bool). old || b) (sym (and_false here))

-- a content that has a row
here_added : (content : List Atom) (at : ℕ) (contents : List (List Atom)) (rows : List (List ℕ)) (place : ℕ) → place_by content contents ≡ Some place → place < length rows → IsAdded content at contents rows contents (set rows place (or_none (slice_get rows place) ++ at ∷ []))
here_added content at contents rows place p l atoms i = by (pointwise same_atom atoms content) refl
  where
    by : (b : Bool) → pointwise same_atom atoms content ≡ b → has (or_none (row_at (set rows place (or_none (slice_get rows place) ++ at ∷ [])) (place_by atoms contents))) i ≡ (has (or_none (row_at rows (place_by atoms contents))) i || (nat_eq at i && b))
    by true e =
        let q : place_by atoms contents ≡ Some place = same_test atoms content e contents ∙ p in
        ap (λ (o : Option ℕ). has (or_none (row_at (set rows place (or_none (slice_get rows place) ++ at ∷ [])) o)) i) q
        ∙ ap (λ (o : Option (List ℕ)). has (or_none o) i) (get_set rows place (or_none (slice_get rows place) ++ at ∷ []) l)
        ∙ row_more (or_none (slice_get rows place)) at i
        ∙ ap (λ (o : Option ℕ). has (or_none (row_at rows o)) i || (nat_eq at i && true)) (sym q)
    by false e = no_more (has (or_none (row_at rows (place_by atoms contents))) i) (nat_eq at i) (other (place_by atoms contents) refl)
      where
        apart : (j : ℕ) → place_by atoms contents ≡ Some j → j ≡ place → ⊥
        apart j q same =
            let here = position-Some (pointwise same_atom atoms) contents j [] q in
            let there = position-Some (pointwise same_atom content) contents place [] p in
            let one : pointwise same_atom atoms (get_or contents place []) ≡ true = subst (λ (m : ℕ). pointwise same_atom atoms (get_or contents m []) ≡ true) same here.1 in
            let two : pointwise same_atom atoms content ≡ true = contents_alike.congr atoms (get_or contents place []) content one ∙ contents_alike.symm (get_or contents place []) content ∙ there.1 in
            cc

        other : (o : Option ℕ) → place_by atoms contents ≡ o → has (or_none (row_at (set rows place (or_none (slice_get rows place) ++ at ∷ [])) o)) i ≡ has (or_none (row_at rows o)) i
        other None q = refl
        other (Some j) q = ap (λ (o : Option (List ℕ)). has (or_none o) i) (get_other rows place j (or_none (slice_get rows place) ++ at ∷ []) (apart j q))

pub added_here : (content : List Atom) (at : ℕ) (contents : List (List Atom)) (rows new : List (List ℕ)) (place : ℕ) → place_by content contents ≡ Some place → place < length rows → new ≡ set rows place (or_none (slice_get rows place) ++ at ∷ []) → IsAdded content at contents rows contents new
added_here content at contents rows new place p l e = subst (λ (r : List (List ℕ)). IsAdded content at contents rows contents r) (sym e) (here_added content at contents rows place p l)

last_at : {X : Type 0} (xs : List X) (x : X) (n : ℕ) → n ≡ length xs → slice_get (xs ++ x ∷ []) n ≡ Some x
last_at [] x zero h = refl
last_at [] x (suc n) h = absurd (omega arith)
last_at (y ∷ ys) x zero h = absurd (omega arith)
last_at (y ∷ ys) x (suc n) h = last_at ys x n (omega arith)

-- a content that has none yet
new_added : (content : List Atom) (at : ℕ) (contents : List (List Atom)) (rows : List (List ℕ)) → place_by content contents ≡ None → length rows ≡ length contents → IsAdded content at contents rows (contents ++ content ∷ []) (rows ++ (at ∷ []) ∷ [])
new_added content at contents rows p l atoms i =
    ap (λ (o : Option ℕ). has (or_none (row_at (rows ++ (at ∷ []) ∷ []) o)) i) (position_push (pointwise same_atom atoms) contents content)
    ∙ by (pointwise same_atom atoms content) refl
  where
    by : (b : Bool) → pointwise same_atom atoms content ≡ b → has (or_none (row_at (rows ++ (at ∷ []) ∷ []) (or_place (place_by atoms contents) (cond b (Some (length contents)) None)))) i ≡ (has (or_none (row_at rows (place_by atoms contents))) i || (nat_eq at i && b))
    by true e =
        let q : place_by atoms contents ≡ None = same_test atoms content e contents ∙ p in
        ap (λ (o : Option ℕ). has (or_none (row_at (rows ++ (at ∷ []) ∷ []) (or_place o (Some (length contents))))) i) q
        ∙ ap (λ (o : Option (List ℕ)). has (or_none o) i) (last_at rows (at ∷ []) (length contents) (sym l))
        ∙ (or_false (nat_eq at i) ∙ sym (and_true (nat_eq at i)))
        ∙ ap (λ (o : Option ℕ). has (or_none (row_at rows o)) i || (nat_eq at i && true)) (sym q)
    by false e = no_more (has (or_none (row_at rows (place_by atoms contents))) i) (nat_eq at i) (other (place_by atoms contents) refl)
      where
        other : (o : Option ℕ) → place_by atoms contents ≡ o → has (or_none (row_at (rows ++ (at ∷ []) ∷ []) (or_place o None))) i ≡ has (or_none (row_at rows o)) i
        other None q = refl
        other (Some j) q =
            let here = position-Some (pointwise same_atom atoms) contents j [] q in
            let s : j < length contents = here.0 in
            ap (λ (o : Option (List ℕ)). has (or_none o) i) (front rows ((at ∷ []) ∷ []) j (omega (arith, l)))

pub added_new : (content : List Atom) (at : ℕ) (contents contents' : List (List Atom)) (rows rows' : List (List ℕ)) → place_by content contents ≡ None → length rows ≡ length contents → contents' ≡ contents ++ content ∷ [] → rows' ≡ rows ++ (at ∷ []) ∷ [] → IsAdded content at contents rows contents' rows'
added_new content at contents contents' rows rows' p l e f =
    subst (λ (r : List (List ℕ)). IsAdded content at contents rows contents' r) (sym f)
    (subst (λ (k : List (List Atom)). IsAdded content at contents rows k (rows ++ (at ∷ []) ∷ [])) (sym e) (new_added content at contents rows p l))

-- whether an address is below one more than another
up_to : (i at : ℕ) (x y : Bool) → (i ≡ at → x ≡ y) → (nat_lt i (at + 1) && x) ≡ ((nat_lt i at && x) || (nat_eq at i && y))
up_to i at x y f = by (nat_eq i at) refl
  where
    here : (nat_lt i (at + 1) && y) ≡ ((nat_lt i at && y) || (nat_eq at i && y)) → i ≡ at → (nat_lt i (at + 1) && x) ≡ ((nat_lt i at && x) || (nat_eq at i && y))
    here h e = ap (λ (b : Bool). nat_lt i (at + 1) && b) (f e) ∙ h ∙ ap (λ (b : Bool). (nat_lt i at && b) || (nat_eq at i && y)) (sym (f e))

    tests : (b : Bool) → i ≡ at → (nat_lt i (at + 1) && b) ≡ ((nat_lt i at && b) || (nat_eq at i && b))
    tests true e = grind (arith, e)
    tests false e = and_false (nat_lt i (at + 1)) ∙ sym (ap (λ (c : Bool). c || (nat_eq at i && false)) (and_false (nat_lt i at)) ∙ and_false (nat_eq at i))

    off : (x y : Bool) → (i ≡ at → ⊥) → (nat_lt i (at + 1) && x) ≡ ((nat_lt i at && x) || (nat_eq at i && y))
    off x y n =
        let q : nat_eq at i ≡ false = ne_eqb at i (λ e. n (sym e)) in
        let r : nat_lt i (at + 1) ≡ nat_lt i at = grind (arith, n) in
        ap (λ (b : Bool). b && x) r ∙ sym (ap (λ (b : Bool). (nat_lt i at && x) || (b && y)) q ∙ or_false (nat_lt i at && x))

    by : (b : Bool) → nat_eq i at ≡ b → (nat_lt i (at + 1) && x) ≡ ((nat_lt i at && x) || (nat_eq at i && y))
    by true e = here (tests y (eqb-true i at e)) (eqb-true i at e)
    by false e = off x y (eqb-false i at e)

-- the rows have the keys up to one address more
pub rows_more : (look : Value → Option Cell) (home at : ℕ) (k : List Atom) (contents contents' : List (List Atom)) (rows rows' : List (List ℕ)) → AreRowsUpTo look home at contents rows → content look key_levels (value.Ref home at) ≡ Some k → IsAdded k at contents rows contents' rows' → AreRowsUpTo look home (at + 1) contents' rows'
rows_more look home at k contents contents' rows rows' r e a atoms i =
    a atoms i
    ∙ ap (λ (b : Bool). b || (nat_eq at i && pointwise same_atom atoms k)) (r atoms i)
    ∙ sym (up_to i at (same_content (Some atoms) (content look key_levels (value.Ref home i))) (pointwise same_atom atoms k)
    (λ q. ap (λ (n : ℕ). same_content (Some atoms) (content look key_levels (value.Ref home n))) q ∙ ap (same_content (Some atoms)) e))

pub rows_same : (look : Value → Option Cell) (home at : ℕ) (contents : List (List Atom)) (rows : List (List ℕ)) → AreRowsUpTo look home at contents rows → content look key_levels (value.Ref home at) ≡ None → AreRowsUpTo look home (at + 1) contents rows
rows_same look home at contents rows r e atoms i =
    r atoms i
    ∙ sym (up_to i at (same_content (Some atoms) (content look key_levels (value.Ref home i))) false
    (λ q. ap (λ (n : ℕ). same_content (Some atoms) (content look key_levels (value.Ref home n))) q ∙ ap (same_content (Some atoms)) e)
    ∙ ap (λ (b : Bool). (nat_lt i at && same_content (Some atoms) (content look key_levels (value.Ref home i))) || b) (and_false (nat_eq at i))
    ∙ or_false (nat_lt i at && same_content (Some atoms) (content look key_levels (value.Ref home i))))

drop_past : {X : Type 0} (xs : List X) (i : ℕ) → length xs ≤ i → drop i xs ≡ []
drop_past [] zero h = refl
drop_past [] (suc i) h = refl
drop_past (x ∷ xs) zero h = absurd (omega arith)
drop_past (x ∷ xs) (suc i) h = drop_past xs i (omega arith)

-- the loop over a row
pub among_step : (home : ℕ) (row : List ℕ) (i at : ℕ) (index : List (List Atom)) (place : Option ℕ) → i < length row → at ≡ get_or row i at → earlier place (position (is_among home (drop i row)) index) ≡ earlier (earlier place (place_by (atom.Far home at ∷ []) index)) (position (is_among home (drop (i + 1) row)) index)
among_step home row i at index place l e =
    ap (λ (r : List ℕ). earlier place (position (is_among home r) index)) (drop_more row i at l ∙ ap (λ (n : ℕ). n ∷ drop (i + 1) row) (sym e))
    ∙ ap (earlier place) (among_first home at (drop (i + 1) row) index)
    ∙ earlier_assoc place (place_by (atom.Far home at ∷ []) index) (position (is_among home (drop (i + 1) row)) index)

pub among_done : (home : ℕ) (row : List ℕ) (i : ℕ) (index : List (List Atom)) (place : Option ℕ) → length row ≤ i → earlier place (position (is_among home (drop i row)) index) ≡ place
among_done home row i index place l =
    ap (λ (r : List ℕ). earlier place (position (is_among home r) index)) (drop_past row i l)
    ∙ ap (earlier place) (position_never (is_among home []) index (λ k. refl))
    ∙ earlier_none place

-- the loop over an index's files
pub from_step : (look : Value → Option Cell) (atoms : List Atom) (homes : List ℕ) (i home : ℕ) (index : List (List Atom)) (place : Option ℕ) → i < length homes → home ≡ get_or homes i home → earlier place (position (is_from_any look atoms (drop i homes)) index) ≡ earlier (earlier place (position (is_from look atoms home) index)) (position (is_from_any look atoms (drop (i + 1) homes)) index)
from_step look atoms homes i home index place l e =
    ap (λ (r : List ℕ). earlier place (position (is_from_any look atoms r) index)) (drop_more homes i home l ∙ ap (λ (n : ℕ). n ∷ drop (i + 1) homes) (sym e))
    ∙ ap (earlier place) (position_or (is_from look atoms home) (is_from_any look atoms (drop (i + 1) homes)) index)
    ∙ earlier_assoc place (position (is_from look atoms home) index) (position (is_from_any look atoms (drop (i + 1) homes)) index)

pub from_done : (look : Value → Option Cell) (atoms : List Atom) (homes : List ℕ) (i : ℕ) (index : List (List Atom)) (place : Option ℕ) → length homes ≤ i → earlier place (position (is_from_any look atoms (drop i homes)) index) ≡ place
from_done look atoms homes i index place l =
    ap (λ (r : List ℕ). earlier place (position (is_from_any look atoms r) index)) (drop_past homes i l)
    ∙ ap (earlier place) (position_never (is_from_any look atoms []) index (λ k. refl))
    ∙ earlier_none place

pub from_start : (look : Value → Option Cell) (atoms : List Atom) (homes : List ℕ) (index : List (List Atom)) → earlier (place_by atoms index) (position (is_from_any look atoms homes) index) ≡ position (λ k. pointwise same_atom atoms k || is_from_any look atoms homes k) index
from_start look atoms homes index = sym (position_or (pointwise same_atom atoms) (is_from_any look atoms homes) index)

-- a number is asked for among the index's files

other_files : (look : Value → Option Cell) (atoms : List Atom) (homes : List ℕ) (k : List Atom) → ((home : ℕ) → is_from look atoms home k ≡ false) → is_from_any look atoms homes k ≡ false
other_files look atoms homes k f = none_passes (λ home. is_from look atoms home k) homes f

asked : (homes : List ℕ) (h : ℕ) (b : Bool) → list_any (λ home. nat_eq home h && b) homes ≡ (list_any (λ home. nat_eq home h) homes && b)
asked [] h b = refl
asked (home ∷ homes) h b = ap (λ (c : Bool). (nat_eq home h && b) || c) (asked homes h b) ∙ both (nat_eq home h) (list_any (λ i. nat_eq i h) homes) b
  where
    both : (x y b : Bool) → ((x && b) || (y && b)) ≡ ((x || y) && b)
    both true true true = refl
    both true true false = refl
    both true false true = refl
    both true false false = refl
    both false y b = refl

from_any_is : (look : Value → Option Cell) (atoms : List Atom) (homes : List ℕ) (k : List Atom) → is_within homes (far_home k) ≡ true → is_from_any look atoms homes k ≡ is_far look atoms k
from_any_is look atoms homes [] e = other_files look atoms homes [] (λ h. refl)
from_any_is look atoms homes (atom.Nothing ∷ ks) e = other_files look atoms homes (atom.Nothing ∷ ks) (λ h. refl)
from_any_is look atoms homes (atom.Bool b ∷ ks) e = other_files look atoms homes (atom.Bool b ∷ ks) (λ h. refl)
from_any_is look atoms homes (atom.Int n ∷ ks) e = other_files look atoms homes (atom.Int n ∷ ks) (λ h. refl)
from_any_is look atoms homes (atom.Text t ∷ ks) e = other_files look atoms homes (atom.Text t ∷ ks) (λ h. refl)
from_any_is look atoms homes (atom.Row n ∷ ks) e = other_files look atoms homes (atom.Row n ∷ ks) (λ h. refl)
from_any_is look atoms homes (atom.Names ns ∷ ks) e = other_files look atoms homes (atom.Names ns ∷ ks) (λ h. refl)
from_any_is look atoms homes (atom.Far h a ∷ b ∷ ks) e = other_files look atoms homes (atom.Far h a ∷ b ∷ ks) (λ i. refl)
from_any_is look atoms homes (atom.Far h a ∷ []) e =
    asked homes h (same_content (Some atoms) (content look key_levels (value.Ref h a)))
    ∙ ap (λ (b : Bool). b && same_content (Some atoms) (content look key_levels (value.Ref h a))) e

-- the first place of a content, or of a number that has it
pub told_place : (look : Value → Option Cell) (atoms : List Atom) (homes : List ℕ) (index : List (List Atom)) → Covers homes index → position (λ k. pointwise same_atom atoms k || is_from_any look atoms homes k) index ≡ place_told look atoms index
told_place look atoms homes index h = alike (λ k. pointwise same_atom atoms k || is_from_any look atoms homes k) (λ k. pointwise same_atom atoms k || is_far look atoms k) index index (each index h)
  where
    each : (ks : List (List Atom)) → Covers homes ks → map (λ k. pointwise same_atom atoms k || is_from_any look atoms homes k) ks ≡ map (λ k. pointwise same_atom atoms k || is_far look atoms k) ks
    each [] e = refl
    each (k ∷ ks) e =
        ap (λ (b : Bool). (pointwise same_atom atoms k || b) ∷ map (λ j. pointwise same_atom atoms j || is_from_any look atoms homes j) ks) (from_any_is look atoms homes k (and_parts (is_within homes (far_home k)) (list_all (λ j. is_within homes (far_home j)) ks) e).0)
        ∙ ap (λ (bs : List Bool). (pointwise same_atom atoms k || is_far look atoms k) ∷ bs) (each ks (and_parts (is_within homes (far_home k)) (list_all (λ j. is_within homes (far_home j)) ks) e).1)

-- the start of that loop, its steps and its end
pub told_start : (look : Value → Option Cell) (atoms : List Atom) (homes : List ℕ) (keys index : List (List Atom)) (place : Option ℕ) → Covers homes index → keys ≡ index → place ≡ place_by atoms keys → earlier place (position (is_from_any look atoms homes) keys) ≡ place_told look atoms index
told_start look atoms homes keys index place h e f =
    ap (λ (o : Option ℕ). earlier o (position (is_from_any look atoms homes) keys)) f
    ∙ from_start look atoms homes keys
    ∙ ap (position (λ k. pointwise same_atom atoms k || is_from_any look atoms homes k)) e
    ∙ told_place look atoms homes index h

same_default : (row : List ℕ) (i d : ℕ) → i < length row → get_or row i d ≡ get_or row i (get_or row i d)
same_default [] i d h = absurd (omega arith)
same_default (x ∷ row) zero d h = refl
same_default (x ∷ row) (suc i) d h = same_default row i d (omega arith)

pub among_next : (home : ℕ) (row : List ℕ) (i d : ℕ) (index : List (List Atom)) (place more next : Option ℕ) (k : List Atom) → i < length row → k ≡ atom.Far home (get_or row i d) ∷ [] → more ≡ place_by k index → next ≡ earlier place more → earlier place (position (is_among home (drop i row)) index) ≡ position (is_among home row) index → earlier next (position (is_among home (drop (i + 1) row)) index) ≡ position (is_among home row) index
among_next home row i d index place more next k l e f g h =
    ap (λ (o : Option ℕ). earlier o (position (is_among home (drop (i + 1) row)) index)) (g ∙ ap (earlier place) (f ∙ ap (λ (j : List Atom). place_by j index) e))
    ∙ sym (among_step home row i (get_or row i d) index place l (same_default row i d l))
    ∙ h

pub from_next : (look : Value → Option Cell) (atoms : List Atom) (homes : List ℕ) (i d : ℕ) (index : List (List Atom)) (place more next : Option ℕ) → i < length homes → more ≡ position (is_from look atoms (get_or homes i d)) index → next ≡ earlier place more → earlier next (position (is_from_any look atoms (drop (i + 1) homes)) index) ≡ earlier place (position (is_from_any look atoms (drop i homes)) index)
from_next look atoms homes i d index place more next l f g =
    ap (λ (o : Option ℕ). earlier o (position (is_from_any look atoms (drop (i + 1) homes)) index)) (g ∙ ap (earlier place) f)
    ∙ sym (from_step look atoms homes i (get_or homes i d) index place l (same_default homes i d l))

-- a store's row
pub found_row : (look : Value → Option Cell) (atoms : List Atom) (home thome : ℕ) (cells tcells : List HeapCell) (row : List ℕ) → thome ≡ home → tcells ≡ cells → Shows look home cells → ((later : Value → Option Cell) → Shows later thome tcells → IsRow later atoms thome row) → IsRow look atoms home row
found_row look atoms home thome cells tcells row e f h r =
    subst (λ (n : ℕ). IsRow look atoms n row) e (r look (subst (λ (n : ℕ). Shows look n tcells) (sym e) (subst (Shows look home) (sym f) h)))

-- no store has no key
pub empty_row : (look : Value → Option Cell) (atoms : List Atom) (home : ℕ) → Shows look home [] → IsRow look atoms home []
empty_row look atoms home h at = sym (ap (same_content (Some atoms)) (missing look key_levels home at (h at)))

pub no_row_place_at : (look : Value → Option Cell) (atoms : List Atom) (home : ℕ) (index : List (List Atom)) (o : Option (List ℕ)) → o ≡ None → IsRow look atoms home (or_none o) → None ≡ position (is_from look atoms home) index
no_row_place_at look atoms home index o e r = no_row_place look atoms home index (subst (λ (p : Option (List ℕ)). IsRow look atoms home (or_none p)) e r)

pub row_place_at : (look : Value → Option Cell) (atoms : List Atom) (home first : ℕ) (row others : List ℕ) (index : List (List Atom)) (k : List Atom) (one more : Option ℕ) → IsRow look atoms home row → row ≡ first ∷ drop 1 row → others ≡ drop 1 row → k ≡ atom.Far home first ∷ [] → one ≡ place_by k index → more ≡ position (is_among home others) index → earlier one more ≡ position (is_from look atoms home) index
row_place_at look atoms home first row others index k one more r e f g h i =
    ap (λ (o : Option ℕ). earlier o more) (h ∙ ap (λ (j : List Atom). place_by j index) g)
    ∙ ap (earlier (place_by (atom.Far home first ∷ []) index)) (i ∙ ap (λ (xs : List ℕ). position (is_among home xs) index) f)
    ∙ first_row_place look atoms home first (drop 1 row) index (subst (IsRow look atoms home) e r)
