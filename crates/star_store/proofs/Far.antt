-- Indexes with keys of other files: the places that they give beside other stores.
use Rattle.std.proofs.Common.{◌≡◌, ℕ, zero, suc, nat_eq, Bool, true, false, ◌&&◌, ◌||◌, if◌then◌else◌, List, [], ◌∷◌, ◌++◌, length, map, Option, Some, None, IfSome, slice_get, option_and_then, refl, ap, sym, subst, ◌∙◌}
use Rattle.std.specs.List.{list_all, remove}
use Rattle.std.specs.Option.{option_map}
use Rattle.std.specs.Cmp.Lexicographic.{pointwise}
use Rattle.std.proofs.lemmas.Bool.{and_parts, eqb-true}
use Rattle.std.proofs.lemmas.List.Folds.{list_all-append}
use Rattle.std.proofs.lemmas.Option.{slice_get-map}
use Rattle.star_store.specs.declared.values.Value.{Value}
use Rattle.star_store.specs.declared.values.Value.TheVariants as value
use Rattle.star_store.specs.declared.values.Cell.{Cell}
use Rattle.star_store.specs.declared.values.Cell.TheVariants as cell
use Rattle.star_store.specs.declared.content.Atom.{Atom}
use Rattle.star_store.specs.declared.content.Atom.TheVariants as atom
use Rattle.star_store.specs.Content.{KeepsKeys, content, content_cell, content_each, content_row, content_value, join, same_atom, same_content}
use Rattle.star_store.specs.Fields.{names_of, values_of}
use Rattle.star_store.specs.Index.{Covers, IsIndexed, IsKnown, Places, PlacesAt, Shows, alone, entries_by, entries_of, far_home, is_far, is_within, key_entry, place_by, place_told}
use Rattle.star_store.specs.Key.{key_levels, same_key}
use Rattle.star_store.specs.Store.{Store}
use Rattle.star_store.proofs.Contents.{contents_stay, same_keys, or_false}
use Rattle.star_store.proofs.Indexes.{alike, indexed_entries, none_found}

-- contents and numbers

not_far : Atom → Bool
not_far (atom.Far h a) = false
not_far atom.Nothing = true
not_far (atom.Bool b) = true
not_far (atom.Int n) = true
not_far (atom.Text t) = true
not_far (atom.Row n) = true
not_far (atom.Names ns) = true

-- whether a list of atoms does not begin with a number
pub near : List Atom → Bool
near [] = true
near (a ∷ ks) = not_far a

-- a content does not
pub content_near : (look : Value → Option Cell) (n : ℕ) (v : Value) (k : List Atom) → content look n v ≡ Some k → near k ≡ true
unfolding content near not_far
content_near look zero v k h = cc
content_near look (suc n) v k h = in_value v h
  where
    is : (ks : List Atom) → Some ks ≡ Some k → near ks ≡ near k
    is ks e = let q : ks ≡ k = cc in ap near q

    in_row : (m : ℕ) (o : Option (List Atom)) → join (Some (atom.Row m ∷ [])) o ≡ Some k → near k ≡ true
    in_row m (Some ys) e = sym (is (atom.Row m ∷ ys) e)
    in_row m None e = cc

    in_struct : (ns : List (List ℕ)) (o : Option (List Atom)) → join (Some (atom.Names ns ∷ [])) o ≡ Some k → near k ≡ true
    in_struct ns (Some ys) e = sym (is (atom.Names ns ∷ ys) e)
    in_struct ns None e = cc

    in_cell : (c : Option Cell) → content_cell (content look n) c ≡ Some k → near k ≡ true
    in_cell (Some (cell.Text t)) e = sym (is (atom.Text t ∷ []) e)
    in_cell (Some (cell.Tuple xs)) e = in_row (length xs) (content_each (content look n) xs) e
    in_cell (Some (cell.Struct fs)) e = in_struct (names_of fs) (content_row (content look n) (values_of fs)) e
    in_cell _ e = cc

    in_value : (v : Value) → content_value look (content look n) v ≡ Some k → near k ≡ true
    in_value value.NoneValue e = sym (is (atom.Nothing ∷ []) e)
    in_value (value.Bool b) e = sym (is (atom.Bool b ∷ []) e)
    in_value (value.Int m) e = sym (is (atom.Int m ∷ []) e)
    in_value (value.Builtin f) e = cc
    in_value (value.Ref h a) e = in_cell (look (value.Ref h a)) e

-- neither does that of a string
pub near_text : (t : List ℕ) → near (atom.Text t ∷ []) ≡ true
unfolding near not_far
near_text t = refl

far_alone : (look : Value → Option Cell) (atoms k : List Atom) → near k ≡ true → is_far look atoms k ≡ false
unfolding near not_far
far_alone look atoms [] e = refl
far_alone look atoms (atom.Far h a ∷ ks) e = cc
far_alone look atoms (atom.Nothing ∷ ks) e = refl
far_alone look atoms (atom.Bool b ∷ ks) e = refl
far_alone look atoms (atom.Int n ∷ ks) e = refl
far_alone look atoms (atom.Text t ∷ ks) e = refl
far_alone look atoms (atom.Row n ∷ ks) e = refl
far_alone look atoms (atom.Names ns ∷ ks) e = refl

-- a content is not a number
not_same : (atoms : List Atom) (h a : ℕ) → near atoms ≡ true → pointwise same_atom atoms (atom.Far h a ∷ []) ≡ false
unfolding near not_far
not_same [] h a e = refl
not_same (atom.Far i b ∷ ks) h a e = cc
not_same (atom.Nothing ∷ ks) h a e = refl
not_same (atom.Bool b ∷ ks) h a e = refl
not_same (atom.Int n ∷ ks) h a e = refl
not_same (atom.Text t ∷ ks) h a e = refl
not_same (atom.Row n ∷ ks) h a e = refl
not_same (atom.Names ns ∷ ks) h a e = refl

-- a store's keys beside others

shown : (s : Store) (look : Value → Option Cell) → Shows look s.home s.cells → (v : Value) (c : Cell) → alone s v ≡ Some c → look v ≡ Some c
shown s look h (value.Ref home at) c e = by (nat_eq home s.home) refl e
  where
    by : (b : Bool) → nat_eq home s.home ≡ b → option_map (λ e. e.cell) (slice_get (if b then s.cells else []) at) ≡ Some c → look (value.Ref home at) ≡ Some c
    by true q e' = ap (λ (n : ℕ). look (value.Ref n at)) (eqb-true home s.home q) ∙ (h at ∙ e')
    by false q e' = cc
shown s look h value.NoneValue c e = cc
shown s look h (value.Bool b) c e = cc
shown s look h (value.Int n) c e = cc
shown s look h (value.Builtin b) c e = cc

shown_keeps : (s : Store) (look : Value → Option Cell) → Shows look s.home s.cells → KeepsKeys (alone s) look
shown_keeps s look h = record { texts = λ v t e. shown s look h v (cell.Text t) e; tuples = λ v xs e. shown s look h v (cell.Tuple xs) e; structs = λ v fs e. shown s look h v (cell.Struct fs) e }

-- whether a key of an index has a content
abbrev pub has_key : (Value → Option Cell) → List Atom → List Atom → Bool
has_key look atoms k = pointwise same_atom atoms k || is_far look atoms k

module _ (s : Store) (look : Value → Option Cell) (h : Shows look s.home s.cells) where
  -- the entry of an index for a key of the store's own is the key's content, beside other stores too
  own_content : (v : Value) (k : List Atom) → content (alone s) key_levels v ≡ Some k → content look key_levels v ≡ Some k
  own_content v k e = contents_stay (alone s) look key_levels v k (shown_keeps s look h) e

  own_tells : (atoms : List Atom) (v : Value) (k : List Atom) → content (alone s) key_levels v ≡ Some k → has_key look atoms k ≡ same_content (Some atoms) (content look key_levels v)
  own_tells atoms v k e =
      ap (λ (b : Bool). pointwise same_atom atoms k || b) (far_alone look atoms k (content_near (alone s) key_levels v k e))
      ∙ or_false (pointwise same_atom atoms k)
      ∙ ap (same_content (Some atoms)) (sym (own_content v k e))

  far_tells : (atoms : List Atom) → near atoms ≡ true → (home at : ℕ) (k : List Atom) → Some (atom.Far home at ∷ []) ≡ Some k → has_key look atoms k ≡ same_content (Some atoms) (content look key_levels (value.Ref home at))
  far_tells atoms n home at k e =
      let q : atom.Far home at ∷ [] ≡ k = cc in
      ap (has_key look atoms) (sym q)
      ∙ ap (λ (b : Bool). b || same_content (Some atoms) (content look key_levels (value.Ref home at))) (not_same atoms home at n)

  pub entry_tells : (atoms : List Atom) → near atoms ≡ true → (v : Value) (k : List Atom) → key_entry s v ≡ Some k → has_key look atoms k ≡ same_content (Some atoms) (content look key_levels v)
  entry_tells atoms n (value.Ref home at) k e = by (nat_eq home s.home) e
    where
      by : (b : Bool) → (if b then content (alone s) key_levels (value.Ref home at) else Some (atom.Far home at ∷ [])) ≡ Some k → has_key look atoms k ≡ same_content (Some atoms) (content look key_levels (value.Ref home at))
      by true q = own_tells atoms (value.Ref home at) k q
      by false q = far_tells atoms n home at k q
  entry_tells atoms n v k e = own_tells atoms v k e

  entries_tell : (key : Value) (atoms : List Atom) → content look key_levels key ≡ Some atoms → (es : List (Value × Value)) (index : List (List Atom)) → map (λ e. key_entry s e.0) es ≡ map Some index → map (has_key look atoms) index ≡ map (λ e. same_key look key_levels key e.0) es
  entries_tell key atoms t [] [] e = refl
  entries_tell key atoms t [] (k ∷ index) e = cc
  entries_tell key atoms t (x ∷ es) [] e = cc
  entries_tell key atoms t (x ∷ es) (k ∷ index) e =
      let first : key_entry s x.0 ≡ Some k = cc in
      let rest : map (λ d. key_entry s d.0) es ≡ map Some index = cc in
      ap (λ (b : Bool). b ∷ map (has_key look atoms) index)
      (entry_tells atoms (content_near look key_levels key atoms t) x.0 k first
      ∙ ap (λ (o : Option (List Atom)). same_content o (content look key_levels x.0)) (sym t)
      ∙ sym (same_keys look key_levels key x.0))
      ∙ ap (λ (bs : List Bool). same_key look key_levels key x.0 ∷ bs) (entries_tell key atoms t es index rest)

  -- a key of the store's own is in an index under its content
  entry_content : (v : Value) (k : List Atom) → is_within [] (far_home k) ≡ true → key_entry s v ≡ Some k → content look key_levels v ≡ Some k
  entry_content (value.Ref home at) k w e = by (nat_eq home s.home) e
    where
      by : (b : Bool) → (if b then content (alone s) key_levels (value.Ref home at) else Some (atom.Far home at ∷ [])) ≡ Some k → content look key_levels (value.Ref home at) ≡ Some k
      by true q = own_content (value.Ref home at) k q
      by false q =
          let p : atom.Far home at ∷ [] ≡ k = cc in
          let n : is_within [] (far_home (atom.Far home at ∷ [])) ≡ true = subst (λ (j : List Atom). is_within [] (far_home j) ≡ true) (sym p) w in
          cc
  entry_content value.NoneValue k w e = own_content value.NoneValue k e
  entry_content (value.Bool b) k w e = own_content (value.Bool b) k e
  entry_content (value.Int m) k w e = own_content (value.Int m) k e
  entry_content (value.Builtin b) k w e = own_content (value.Builtin b) k e

-- places

-- a content is at the place in an index that its key has among the entries
pub known_place : (look : Value → Option Cell) (key : Value) (atoms : List Atom) (c : Option Cell) (index : List (List Atom)) → content look key_levels key ≡ Some atoms → IsKnown look c index → Places look key c (place_told look atoms index)
known_place look key atoms c index t k es e =
    let right : entries_by k.of es ≡ map Some index = indexed_entries k.of c es index e k.indexed in
    alike (has_key look atoms) (λ d. same_key look key_levels key d.0) index es (entries_tell k.of look k.shows key atoms t es index right)

known_found : (look : Value → Option Cell) (key : Value) (c : Option Cell) (index : List (List Atom)) (o : Option (List Atom)) → content look key_levels key ≡ o → IsKnown look c index → Places look key c (option_and_then (λ atoms. place_told look atoms index) o)
known_found look key c index (Some atoms) h k = known_place look key atoms c index h k
known_found look key c index None h k = none_found look key c h

pub known_places : (look : Value → Option Cell) (key : Value) (c : Option Cell) (index : List (List Atom)) (found : Option (Option ℕ)) → IfSome found (λ place. place ≡ option_and_then (λ atoms. place_told look atoms index) (content look key_levels key)) → IsKnown look c index → IfSome found (Places look key c)
known_places look key c index (Some place) h k = subst (Places look key c) (sym h) (known_found look key c index (content look key_levels key) refl k)
known_places look key c index None h k = tt

-- an index that has no number

no_number : (look : Value → Option Cell) (atoms k : List Atom) → is_within [] (far_home k) ≡ true → is_far look atoms k ≡ false
no_number look atoms [] e = refl
no_number look atoms (atom.Far h a ∷ []) e = cc
no_number look atoms (atom.Far h a ∷ b ∷ ks) e = refl
no_number look atoms (atom.Nothing ∷ ks) e = refl
no_number look atoms (atom.Bool b ∷ ks) e = refl
no_number look atoms (atom.Int n ∷ ks) e = refl
no_number look atoms (atom.Text t ∷ ks) e = refl
no_number look atoms (atom.Row n ∷ ks) e = refl
no_number look atoms (atom.Names ns ∷ ks) e = refl

near_tests : (look : Value → Option Cell) (atoms : List Atom) (index : List (List Atom)) → Covers [] index → map (pointwise same_atom atoms) index ≡ map (has_key look atoms) index
near_tests look atoms [] h = refl
near_tests look atoms (k ∷ index) h =
    let one : is_within [] (far_home k) ≡ true = (and_parts (is_within [] (far_home k)) (list_all (λ j. is_within [] (far_home j)) index) h).0 in
    let rest : Covers [] index = (and_parts (is_within [] (far_home k)) (list_all (λ j. is_within [] (far_home j)) index) h).1 in
    ap (λ (b : Bool). b ∷ map (pointwise same_atom atoms) index)
    (sym (or_false (pointwise same_atom atoms k)) ∙ ap (λ (b : Bool). pointwise same_atom atoms k || b) (sym (no_number look atoms k one)))
    ∙ ap (λ (bs : List Bool). has_key look atoms k ∷ bs) (near_tests look atoms index rest)

pub near_place : (look : Value → Option Cell) (atoms : List Atom) (index : List (List Atom)) → Covers [] index → place_by atoms index ≡ place_told look atoms index
near_place look atoms index h = alike (pointwise same_atom atoms) (has_key look atoms) index index (near_tests look atoms index h)

pub near_found : (look : Value → Option Cell) (key : Value) (atoms : List Atom) (c : Option Cell) (index : List (List Atom)) → content look key_levels key ≡ Some atoms → IsKnown look c index → Covers [] index → Places look key c (place_by atoms index)
near_found look key atoms c index t k h = subst (Places look key c) (sym (near_place look atoms index h)) (known_place look key atoms c index t k)

pub near_places : (look : Value → Option Cell) (key : Value) (c : Option Cell) (index : List (List Atom)) (found : Option (Option ℕ)) → IfSome found (λ place. place ≡ option_and_then (λ atoms. place_by atoms index) (content look key_levels key)) → IsKnown look c index → Covers [] index → IfSome found (Places look key c)
near_places look key c index (Some place) t k h = subst (Places look key c) (sym t) (one (content look key_levels key) refl)
  where
    one : (o : Option (List Atom)) → content look key_levels key ≡ o → Places look key c (option_and_then (λ atoms. place_by atoms index) o)
    one (Some atoms) e = near_found look key atoms c index e k h
    one None e = none_found look key c e
near_places look key c index None t k h = tt

covered_at : (homes : List ℕ) (index : List (List Atom)) (at : ℕ) (a : List Atom) → Covers homes index → slice_get index at ≡ Some a → is_within homes (far_home a) ≡ true
covered_at homes [] at a h e = cc
covered_at homes (k ∷ index) zero a h e =
    let q : k ≡ a = cc in
    subst (λ (j : List Atom). is_within homes (far_home j) ≡ true) q (and_parts (is_within homes (far_home k)) (list_all (λ j. is_within homes (far_home j)) index) h).0
covered_at homes (k ∷ index) (suc at) a h e = covered_at homes index at a (and_parts (is_within homes (far_home k)) (list_all (λ j. is_within homes (far_home j)) index) h).1 e

content_in : (look : Value → Option Cell) (es : List (Value × Value)) (index : List (List Atom)) (at : ℕ) (e : Value × Value) (a : List Atom) (s : Store) → Shows look s.home s.cells → entries_by s es ≡ map Some index → Covers [] index → slice_get es at ≡ Some e → slice_get index at ≡ Some a → content look key_levels e.0 ≡ Some a
content_in look es index at e a s shows right h p q =
    let one : slice_get (map (λ d. key_entry s d.0) es) at ≡ slice_get (map Some index) at = ap (λ (os : List (Option (List Atom))). slice_get os at) right in
    let left : slice_get (map (λ d. key_entry s d.0) es) at ≡ Some (key_entry s e.0) = slice_get-map (λ (d : Value × Value). key_entry s d.0) es at ∙ ap (option_map (λ (d : Value × Value). key_entry s d.0)) p in
    let there : slice_get (map Some index) at ≡ Some (Some a) = slice_get-map Some index at ∙ ap (option_map Some) q in
    let both : Some (key_entry s e.0) ≡ Some (Some a) = sym left ∙ one ∙ there in
    let entry : key_entry s e.0 ≡ Some a = cc in
    entry_content s look shows e.0 a (covered_at [] index at a h q) entry

-- the content at a place of an index is the content of the key there
content_at : (look : Value → Option Cell) (c : Option Cell) (index : List (List Atom)) (at : ℕ) (e : Value × Value) (a : List Atom) → IsKnown look c index → Covers [] index → slice_get (entries_of c) at ≡ Some e → slice_get index at ≡ Some a → content look key_levels e.0 ≡ Some a
content_at look (Some (cell.Dict es)) index at e a k h p q = content_in look es index at e a k.of k.shows k.indexed h p q
content_at look (Some (cell.Set es)) index at e a k h p q = content_in look es index at e a k.of k.shows k.indexed h p q
content_at look (Some (cell.Text t)) index at e a k h p q = cc
content_at look (Some (cell.Range t)) index at e a k h p q = cc
content_at look (Some (cell.Tuple t)) index at e a k h p q = cc
content_at look (Some (cell.List t)) index at e a k h p q = cc
content_at look (Some (cell.Func t)) index at e a k h p q = cc
content_at look (Some (cell.Frame t)) index at e a k h p q = cc
content_at look (Some (cell.Bound m v)) index at e a k h p q = cc
content_at look (Some (cell.Struct t)) index at e a k h p q = cc
content_at look None index at e a k h p q = cc

-- a content of one dictionary's index is at the place in another's that its key has among the entries
pub beside_found : (look : Value → Option Cell) (c other : Option Cell) (left right : List (List Atom)) (at : ℕ) (a : List Atom) → IsKnown look c left → Covers [] left → IsKnown look other right → Covers [] right → slice_get left at ≡ Some a → PlacesAt look c at other (place_by a right)
beside_found look c other left right at a k h l m q e p = near_found look e.0 a other right (content_at look c left at e a k h p q) l m

-- the files of an index's numbers

abbrev is_covered : List ℕ → List Atom → Bool
is_covered homes k = is_within homes (far_home k)

pub covers_more : (homes more : List ℕ) (index : List (List Atom)) → ((k : List Atom) → is_within homes (far_home k) ≡ true → is_within more (far_home k) ≡ true) → Covers homes index → Covers more index
covers_more homes more [] f h = refl
covers_more homes more (k ∷ index) f h =
    let one : is_covered more k ≡ true = f k (and_parts (is_covered homes k) (list_all (is_covered homes) index) h).0 in
    let rest : Covers more index = covers_more homes more index f (and_parts (is_covered homes k) (list_all (is_covered homes) index) h).1 in
    ap (λ (b : Bool). b && list_all (is_covered more) index) one ∙ rest

covers_last : (homes : List ℕ) (index : List (List Atom)) (k : List Atom) → Covers homes index → is_within homes (far_home k) ≡ true → Covers homes (index ++ k ∷ [])
covers_last homes index k h e =
    list_all-append (is_covered homes) index (k ∷ [])
    ∙ ap (λ (b : Bool). b && list_all (is_covered homes) (k ∷ [])) h
    ∙ ap (λ (b : Bool). b && true) e

pub covers_removed : (homes : List ℕ) (index : List (List Atom)) (at : ℕ) → Covers homes index → Covers homes (remove index at)
covers_removed homes [] zero h = refl
covers_removed homes [] (suc at) h = refl
covers_removed homes (k ∷ index) zero h = (and_parts (is_covered homes k) (list_all (is_covered homes) index) h).1
covers_removed homes (k ∷ index) (suc at) h =
    ap (λ (b : Bool). b && list_all (is_covered homes) (remove index at)) (and_parts (is_covered homes k) (list_all (is_covered homes) index) h).0
    ∙ covers_removed homes index at (and_parts (is_covered homes k) (list_all (is_covered homes) index) h).1

-- a key that is pushed, or not, after its file was added
pub covers_push : (homes more : List ℕ) (index new : List (List Atom)) (k : List Atom) (o : Option ℕ) (b : Bool) → Covers homes index → ((j : List Atom) → is_within homes (far_home j) ≡ true → is_within more (far_home j) ≡ true) → o ≡ far_home k → is_within more o ≡ true → new ≡ (if b then index ++ k ∷ [] else index) → Covers more new
covers_push homes more index new k o true h f g e q = subst (Covers more) (sym q) (covers_last more index k (covers_more homes more index f h) (ap (is_within more) (sym g) ∙ e))
covers_push homes more index new k o false h f g e q = subst (Covers more) (sym q) (covers_more homes more index f h)
