-- Indexes: the places that they give, and how they follow each write.
use Rattle.std.proofs.Common.{◌≡◌, Bor, ℕ, zero, suc, ◌+◌, ◌<◌, ◌≤◌, Bool, true, false, not, cond, nat_eq, nat_lt, List, [], ◌∷◌, ◌++◌, length, map, get_or, take, drop, set, if◌then◌else◌, Option, Some, None, slice_get, slice_set, position, option_and_then, IfSome, Result, Ok, Err, refl, ap, sym, subst, ◌∙◌, ◌⊎◌, ⊎_elim, inl, inr, max, length-append, ◌-◌, arith}
use Rattle.std.specs.List.{remove, prefix_len}
use Rattle.std.specs.Option.{option_copied, option_flatten, option_map}
use Rattle.std.specs.Global.{Box}
use Rattle.std.proofs.lemmas.Bool.{eq-eqb, eqb-true, eqb-false, ne_eqb}
use Rattle.std.proofs.lemmas.List.{map-append, take-map, drop-map, length-map, length-set}
use Rattle.std.proofs.lemmas.Option.{get_or_from_slice_get}
use Rattle.std.proofs.Math.Seq.{map-set_same}
use Rattle.star_store.specs.declared.values.Value.{Value}
use Rattle.star_store.specs.declared.values.Value.TheVariants as value
use Rattle.star_store.specs.declared.values.Cell.{Cell}
use Rattle.star_store.specs.declared.values.Cell.TheVariants as cell
use Rattle.star_store.specs.declared.values.HeapCell.{HeapCell}
use Rattle.star_store.specs.declared.content.Atom.{Atom}
use Rattle.star_store.specs.declared.content.Atom.TheVariants as atom
use Rattle.star_store.specs.declared.arena.write.Change.{Change}
use Rattle.star_store.specs.declared.arena.write.Change.TheVariants as change
use Rattle.star_store.specs.declared.fault.StoreFault.{StoreFault}
use Rattle.star_store.specs.declared.fault.StoreFault.TheVariants.{BadType, Key}
use Rattle.star_store.specs.Content.{KeepsKeys, content, same_content}
use Rattle.star_store.specs.Equal.{same_entry, same_found, same_pairs}
use Rattle.star_store.specs.Fields.{Fields}
use Rattle.star_store.specs.Index.{AreChanged, AreIndexed, Indexes, IsIndexed, IsKnown, Places, PlacesAt, Shows, alone, beside, entries_by, entries_of, held_entries, index_after, index_at, key_entry, value_at}
use Rattle.star_store.specs.Key.{find_in, is_key, key_levels, place_of, same_key, value_of}
use Rattle.star_store.specs.Spend.{Spend, answer}
use Rattle.star_store.specs.Store.{Published, Shelf, Store, bound_cell, changed_at, closed_in, is_container, look, opened_in, published_cells}
use Rattle.star_store.specs.Write.{cell_at, change_cell, change_entries, change_items, in_cell, in_cells, key_of, place_in, put_at, taken}
use Rattle.star_store.proofs.Contents.{contents_stay, same_keys}

-- places

prefix_by : {X : Type 0} (p : X → Bool) (xs : List X) → prefix_len (λ x. not (p x)) xs ≡ prefix_len not (map p xs)
prefix_by p [] = refl
prefix_by p (x ∷ xs) = ap (λ (n : ℕ). cond (not (p x)) (1 + n) 0) (prefix_by p xs)

first_of : ℕ → ℕ → Option ℕ
first_of n m = cond (nat_lt n m) (Some n) None

position_by : {X : Type 0} (p : X → Bool) (xs : List X) → position p xs ≡ first_of (prefix_len not (map p xs)) (length (map p xs))
unfolding first_of
position_by p xs = ap (λ (n : ℕ). cond (nat_lt n (length xs)) (Some n) None) (prefix_by p xs) ∙ ap (λ (m : ℕ). cond (nat_lt (prefix_len not (map p xs)) m) (Some (prefix_len not (map p xs))) None) (sym (length-map xs p))

-- tests that answer the same in turn find the same place
pub alike : {X Y : Type 0} (p : X → Bool) (q : Y → Bool) (xs : List X) (ys : List Y) → map p xs ≡ map q ys → position p xs ≡ position q ys
alike p q xs ys h = position_by p xs ∙ ap (λ (bs : List Bool). first_of (prefix_len not bs) (length bs)) h ∙ sym (position_by q ys)

pub map_removed : {X Y : Type 0} (f : X → Y) (xs : List X) (i : ℕ) → map f (remove xs i) ≡ remove (map f xs) i
map_removed f xs i =
    map-append f (take i xs) (drop (suc i) xs)
    ∙ ap (λ l. l ++ map f (drop (suc i) xs)) (sym (take-map f i xs))
    ∙ ap (λ l. take i (map f xs) ++ l) (sym (drop-map f (suc i) xs))

none_passes : (bs : List Bool) → prefix_len not (map (λ b. false) bs) ≡ length (map (λ b. false) bs)
none_passes [] = refl
none_passes (b ∷ bs) = ap (λ (n : ℕ). 1 + n) (none_passes bs) ∙ omega arith

none_tests : (look : Value → Option Cell) (n : ℕ) (key : Value) (es : List (Value × Value)) → content look n key ≡ None → map (λ e. same_key look n key e.0) es ≡ map (λ b. false) (map (λ e. same_key look n key e.0) es)
none_tests look n key [] h = refl
none_tests look n key (e ∷ es) h =
    ap (λ (b : Bool). b ∷ map (λ d. same_key look n key d.0) es) (same_keys look n key e.0 ∙ ap (λ (o : Option (List Atom)). same_content o (content look n e.0)) h)
    ∙ ap (λ (bs : List Bool). false ∷ bs) (none_tests look n key es h)

-- a value that is not a key is nowhere
pub none_found : (look : Value → Option Cell) (key : Value) (c : Option Cell) → content look key_levels key ≡ None → Places look key c None
unfolding first_of
none_found look key c h es k = sym (none_at key_levels h)
  where
    past : (n m : ℕ) → n ≡ m → first_of n m ≡ None
    past n m e = grind arith

    none_at : (n : ℕ) → content look n key ≡ None → position (λ e. same_key look n key e.0) es ≡ None
    none_at n e =
        position_by (λ d. same_key look n key d.0) es
        ∙ past (prefix_len not (map (λ d. same_key look n key d.0) es)) (length (map (λ d. same_key look n key d.0) es))
        (subst (λ (bs : List Bool). prefix_len not bs ≡ length bs) (sym (none_tests look n key es e)) (none_passes (map (λ d. same_key look n key d.0) es)))

-- an index beside other stores

look_own : (s : Store) (shelf : Shelf) (home at : ℕ) → nat_eq home s.home ≡ true → look s shelf (value.Ref home at) ≡ cell_at s.cells at
look_own s shelf home at own = ap (λ (b : Bool). option_map (λ (e : HeapCell). e.cell) (slice_get (if b then s.cells else published_cells (slice_get shelf home)) at)) own

look_far : (s : Store) (shelf : Shelf) (home at : ℕ) (p : Published) → nat_eq home s.home ≡ false → slice_get shelf home ≡ Some (Some p) → look s shelf (value.Ref home at) ≡ cell_at p.cells at
look_far s shelf home at p far h =
    ap (λ (b : Bool). option_map (λ (e : HeapCell). e.cell) (slice_get (if b then s.cells else published_cells (slice_get shelf home)) at)) far
    ∙ ap (λ (o : Option (Option Published)). option_map (λ (e : HeapCell). e.cell) (slice_get (published_cells o) at)) h

-- an index of a store's own dictionary is one beside published stores
own_indexed : (s : Store) (shelf : Shelf) (indexes : Indexes) (v : Value) (home at : ℕ) (index : List (List Atom)) → v ≡ value.Ref home at → AreIndexed s indexes → nat_eq home s.home ≡ true → index_at indexes at ≡ Some index → IsKnown (look s shelf) (look s shelf v) index
own_indexed s shelf indexes v home at index e h own k = record {
  of = s;
  shows = λ i. look_own s shelf s.home i (eq-eqb s.home s.home refl);
  indexed = subst (λ (c : Option Cell). IsIndexed s c index) (sym (ap (look s shelf) e ∙ look_own s shelf home at own)) (h.each at index k);
}

store : ℕ → List HeapCell → Store
store home cells = record { home = home; cells = cells }

-- the cells of a published store are shown under its number
pub far_shown : (s : Store) (shelf : Shelf) (home : ℕ) (p : Published) → nat_eq home s.home ≡ false → slice_get shelf home ≡ Some (Some p) → Shows (look s shelf) home p.cells
far_shown s shelf home p far h = λ i. look_far s shelf home i p far h

-- an index of a published dictionary is one beside a store that reaches it
far_indexed : (s : Store) (shelf : Shelf) (v : Value) (home at : ℕ) (p : Published) (index : List (List Atom)) → v ≡ value.Ref home at → nat_eq home s.home ≡ false → slice_get shelf home ≡ Some (Some p) → IsIndexed (record { home = home; cells = p.cells }) (cell_at p.cells at) index → IsKnown (look s shelf) (look s shelf v) index
unfolding store
far_indexed s shelf v home at p index e far h k = record {
  of = store home p.cells;
  shows = far_shown s shelf home p far h;
  indexed = subst (λ (c : Option Cell). IsIndexed (store home p.cells) c index) (sym (ap (look s shelf) e ∙ look_far s shelf home at p far h)) k;
}

-- facts of an index of a dictionary of the store's own
pub told_own : (own : ℕ) (cells : List HeapCell) (s : Store) (shelf : Shelf) (indexes : Indexes) (v : Value) (home at : ℕ) (r : Option (Bor (List (List Atom)))) → record { home = own; cells = cells } ≡ s → AreIndexed (record { home = own; cells = cells }) indexes → v ≡ value.Ref home at → home ≡ own → option_copied r ≡ index_at indexes at → IfSome r (λ b. IsKnown (look s shelf) (look s shelf v) b.now)
told_own own cells s shelf indexes v home at None es h e q k = tt
told_own own cells s shelf indexes v home at (Some b) es h e q k =
    subst (λ (t : Store). IsKnown (look t shelf) (look t shelf v) b.now) es (own_indexed (record { home = own; cells = cells }) shelf indexes v home at b.now e h (eq-eqb home own q) (sym k))

there : (p : Published) (o : Option (Option Published)) → Some p ≡ option_flatten o → o ≡ Some (Some p)
there p (Some o) q = ap Some (sym q)
there p None q = cc

-- a store that is found under another number is shown under it
pub told_shown : (own : ℕ) (cells : List HeapCell) (s : Store) (shelf : Shelf) (home : ℕ) (p : Published) → record { home = own; cells = cells } ≡ s → (home ≡ own → ⊥) → Some p ≡ option_flatten (slice_get shelf home) → Shows (look s shelf) home p.cells
told_shown own cells s shelf home p es n h = far_shown s shelf home p (subst (λ (t : Store). nat_eq home t.home ≡ false) es (ne_eqb home own n)) (there p (slice_get shelf home) h)

-- and of a published one
pub told_far : (own : ℕ) (cells : List HeapCell) (s : Store) (shelf : Shelf) (v : Value) (home at : ℕ) (p : Published) (r : Option (Bor (List (List Atom)))) → record { home = own; cells = cells } ≡ s → v ≡ value.Ref home at → (home ≡ own → ⊥) → Some p ≡ option_flatten (slice_get shelf home) → IfSome r (λ b. IsIndexed (record { home = home; cells = p.cells }) (cell_at p.cells at) b.now) → IfSome r (λ b. IsKnown (look s shelf) (look s shelf v) b.now)
told_far own cells s shelf v home at p None es e n h k = tt
told_far own cells s shelf v home at p (Some b) es e n h k = far_indexed s shelf v home at p b.now e (subst (λ (t : Store). nat_eq home t.home ≡ false) es (ne_eqb home own n)) (there p (slice_get shelf home) h) k

-- without a store nothing is found under a number
pub none_shown : (own : ℕ) (cells : List HeapCell) (s : Store) (shelf : Shelf) (home : ℕ) → record { home = own; cells = cells } ≡ s → (home ≡ own → ⊥) → option_flatten (slice_get shelf home) ≡ None → Shows (look s shelf) home []
none_shown own cells s shelf home es n h = λ at. by (slice_get shelf home) h at (nat_eq home s.home) (subst (λ (t : Store). nat_eq home t.home ≡ false) es (ne_eqb home own n))
  where
    by : (o : Option (Option Published)) → option_flatten o ≡ None → (at : ℕ) (b : Bool) → b ≡ false → option_map (λ e. e.cell) (slice_get (if b then s.cells else published_cells o) at) ≡ cell_at [] at
    by None q at true e = cc
    by None q at false e = refl
    by (Some None) q at true e = cc
    by (Some None) q at false e = refl
    by (Some (Some p)) q at b e = cc

-- a store that changes

-- strings, tuples and structs stay where they are
pub record Stays (s t : Store) : Type 0 where
  pub home : t.home ≡ s.home
  pub texts : (at : ℕ) (x : List ℕ) → cell_at s.cells at ≡ Some (cell.Text x) → cell_at t.cells at ≡ Some (cell.Text x)
  pub tuples : (at : ℕ) (xs : List Value) → cell_at s.cells at ≡ Some (cell.Tuple xs) → cell_at t.cells at ≡ Some (cell.Tuple xs)
  pub structs : (at : ℕ) (fs : Fields) → cell_at s.cells at ≡ Some (cell.Struct fs) → cell_at t.cells at ≡ Some (cell.Struct fs)

alone_at : (s t : Store) (home at : ℕ) (c : Cell) → t.home ≡ s.home → (cell_at s.cells at ≡ Some c → cell_at t.cells at ≡ Some c) → alone s (value.Ref home at) ≡ Some c → alone t (value.Ref home at) ≡ Some c
alone_at s t home at c q f h =
    ap (λ (n : ℕ). option_map (λ (e : HeapCell). e.cell) (slice_get (if nat_eq home n then t.cells else []) at)) q
    ∙ by (nat_eq home s.home) h
  where
    by : (b : Bool) → option_map (λ (e : HeapCell). e.cell) (slice_get (if b then s.cells else []) at) ≡ Some c → option_map (λ (e : HeapCell). e.cell) (slice_get (if b then t.cells else []) at) ≡ Some c
    by true g = f g
    by false g = g

alone_texts : (s t : Store) → Stays s t → (v : Value) (x : List ℕ) → alone s v ≡ Some (cell.Text x) → alone t v ≡ Some (cell.Text x)
alone_texts s t k (value.Ref home at) x h = alone_at s t home at (cell.Text x) k.home (k.texts at x) h
alone_texts s t k _ x h = cc

alone_tuples : (s t : Store) → Stays s t → (v : Value) (xs : List Value) → alone s v ≡ Some (cell.Tuple xs) → alone t v ≡ Some (cell.Tuple xs)
alone_tuples s t k (value.Ref home at) xs h = alone_at s t home at (cell.Tuple xs) k.home (k.tuples at xs) h
alone_tuples s t k _ xs h = cc

alone_structs : (s t : Store) → Stays s t → (v : Value) (fs : Fields) → alone s v ≡ Some (cell.Struct fs) → alone t v ≡ Some (cell.Struct fs)
alone_structs s t k (value.Ref home at) fs h = alone_at s t home at (cell.Struct fs) k.home (k.structs at fs) h
alone_structs s t k _ fs h = cc

alone_stays : (s t : Store) → Stays s t → KeepsKeys (alone s) (alone t)
alone_stays s t k = record { texts = alone_texts s t k; tuples = alone_tuples s t k; structs = alone_structs s t k }

-- the entry of an index for a key stays
entry_stays : (s t : Store) → Stays s t → (v : Value) (a : List Atom) → key_entry s v ≡ Some a → key_entry t v ≡ Some a
entry_stays s t k (value.Ref home at) a h =
    ap (λ (n : ℕ). if nat_eq home n then content (alone t) key_levels (value.Ref home at) else Some (atom.Far home at ∷ [])) k.home
    ∙ by (nat_eq home s.home) h
  where
    by : (b : Bool) → (if b then content (alone s) key_levels (value.Ref home at) else Some (atom.Far home at ∷ [])) ≡ Some a → (if b then content (alone t) key_levels (value.Ref home at) else Some (atom.Far home at ∷ [])) ≡ Some a
    by true g = contents_stay (alone s) (alone t) key_levels (value.Ref home at) a (alone_stays s t k) g
    by false g = g
entry_stays s t k v a h = contents_stay (alone s) (alone t) key_levels v a (alone_stays s t k) h

each_stays : (s t : Store) → Stays s t → (es : List (Value × Value)) (index : List (List Atom)) → map (λ e. key_entry s e.0) es ≡ map Some index → map (λ e. key_entry t e.0) es ≡ map Some index
each_stays s t k [] [] h = refl
each_stays s t k [] (a ∷ index) h = cc
each_stays s t k (e ∷ es) [] h = cc
each_stays s t k (e ∷ es) (a ∷ index) h =
    let first : key_entry s e.0 ≡ Some a = cc in
    let rest : map (λ d. key_entry s d.0) es ≡ map Some index = cc in
    let one : key_entry t e.0 ≡ Some a = entry_stays s t k e.0 a first in
    let all : map (λ d. key_entry t d.0) es ≡ map Some index = each_stays s t k es index rest in
    cc

stays_indexed : (s t : Store) (c : Option Cell) (index : List (List Atom)) → Stays s t → IsIndexed s c index → IsIndexed t c index
stays_indexed s t (Some (cell.Dict es)) index k h = each_stays s t k es index h
stays_indexed s t (Some (cell.Set es)) index k h = each_stays s t k es index h
stays_indexed s t _ index k h = tt

within_rows : (indexes : Indexes) (at : ℕ) (index : List (List Atom)) → index_at indexes at ≡ Some index → at < length indexes
within_rows [] at index h = cc
within_rows (r ∷ indexes) zero index h = omega arith
within_rows (r ∷ indexes) (suc at) index h = let k : at < length indexes = within_rows indexes at index h in omega arith

-- an index of entries
pub indexed_entries : (s : Store) (c : Option Cell) (es : List (Value × Value)) (index : List (List Atom)) → held_entries c ≡ Some es → IsIndexed s c index → entries_by s es ≡ map Some index
indexed_entries s (Some (cell.Dict fs)) es index e h = let same : fs ≡ es = cc in subst (λ (gs : List (Value × Value)). entries_by s gs ≡ map Some index) same h
indexed_entries s (Some (cell.Set fs)) es index e h = let same : fs ≡ es = cc in subst (λ (gs : List (Value × Value)). entries_by s gs ≡ map Some index) same h
indexed_entries s (Some (cell.Text t)) es index e h = cc
indexed_entries s (Some (cell.Range r)) es index e h = cc
indexed_entries s (Some (cell.Tuple xs)) es index e h = cc
indexed_entries s (Some (cell.List xs)) es index e h = cc
indexed_entries s (Some (cell.Func f)) es index e h = cc
indexed_entries s (Some (cell.Frame f)) es index e h = cc
indexed_entries s (Some (cell.Bound m v)) es index e h = cc
indexed_entries s (Some (cell.Struct fs)) es index e h = cc
indexed_entries s None es index e h = cc

-- if strings, tuples and structs stay, and so do the dictionaries and sets that may have an index, indexes stay right
pub still_indexed : (s t : Store) (indexes : Indexes) → AreIndexed s indexes → Stays s t → ((at : ℕ) (es : List (Value × Value)) → at < length s.cells → cell_at t.cells at ≡ Some (cell.Dict es) → cell_at s.cells at ≡ Some (cell.Dict es)) → ((at : ℕ) (es : List (Value × Value)) → at < length s.cells → cell_at t.cells at ≡ Some (cell.Set es) → cell_at s.cells at ≡ Some (cell.Set es)) → length s.cells ≤ length t.cells → AreIndexed t indexes
still_indexed s t indexes h k d m l = record { each = λ at index q. each at index q (cell_at t.cells at) refl; within = let w : length indexes ≤ length s.cells = h.within in omega arith }
  where
    each : (at : ℕ) (index : List (List Atom)) → index_at indexes at ≡ Some index → (c : Option Cell) → cell_at t.cells at ≡ c → IsIndexed t c index
    each at index q (Some (cell.Dict es)) e =
        let r : at < length indexes = within_rows indexes at index q in
        let w : length indexes ≤ length s.cells = h.within in
        stays_indexed s t (Some (cell.Dict es)) index k
        (subst (λ (c : Option Cell). IsIndexed s c index) (d at es (omega arith) e) (h.each at index q))
    each at index q (Some (cell.Set es)) e =
        let r : at < length indexes = within_rows indexes at index q in
        let w : length indexes ≤ length s.cells = h.within in
        stays_indexed s t (Some (cell.Set es)) index k
        (subst (λ (c : Option Cell). IsIndexed s c index) (m at es (omega arith) e) (h.each at index q))
    each at index q (Some (cell.Text t)) e = tt
    each at index q (Some (cell.Range r)) e = tt
    each at index q (Some (cell.Tuple xs)) e = tt
    each at index q (Some (cell.List xs)) e = tt
    each at index q (Some (cell.Func f)) e = tt
    each at index q (Some (cell.Frame f)) e = tt
    each at index q (Some (cell.Bound m v)) e = tt
    each at index q (Some (cell.Struct fs)) e = tt
    each at index q None e = tt

pub front : {X : Type 0} (xs ys : List X) (i : ℕ) → i < length xs → slice_get (xs ++ ys) i ≡ slice_get xs i
front [] ys i h = absurd (omega arith)
front (x ∷ xs) ys zero h = refl
front (x ∷ xs) ys (suc i) h = front xs ys i (omega arith)

cell_within : (cells : List HeapCell) (at : ℕ) (c : Cell) → cell_at cells at ≡ Some c → at < length cells
cell_within [] at c h = cc
cell_within (e ∷ cells) zero c h = omega arith
cell_within (e ∷ cells) (suc at) c h = let k : at < length cells = cell_within cells at c h in omega arith

-- a new cell has an address without an index
pub made_indexed : (home : ℕ) (cells : List HeapCell) (e : HeapCell) (indexes : Indexes) → AreIndexed (record { home = home; cells = cells }) indexes → AreIndexed (record { home = home; cells = cells ++ e ∷ [] }) indexes
unfolding store
made_indexed home cells e indexes h =
    still_indexed (store home cells) (store home (cells ++ e ∷ [])) indexes h
    (record { home = refl; texts = λ at x q. kept at (cell.Text x) q; tuples = λ at xs q. kept at (cell.Tuple xs) q; structs = λ at fs q. kept at (cell.Struct fs) q })
    (λ at es l q. sym (same at l) ∙ q)
    (λ at es l q. sym (same at l) ∙ q)
    (omega (arith, length-append cells (e ∷ [])))
  where
    same : (at : ℕ) → at < length cells → cell_at (cells ++ e ∷ []) at ≡ cell_at cells at
    same at l = ap (option_map (λ (d : HeapCell). d.cell)) (front cells (e ∷ []) at l)

    kept : (at : ℕ) (c : Cell) → cell_at cells at ≡ Some c → cell_at (cells ++ e ∷ []) at ≡ Some c
    kept at c q = same at (cell_within cells at c q) ∙ q

-- a cell that is changed

changed_by : (R : Option Cell → Option Cell → Type 0) (f : HeapCell → HeapCell) → ((c : Option Cell) → R c c) → ((e : HeapCell) → R (Some e.cell) (Some (f e).cell)) → (cells : List HeapCell) (at i : ℕ) → R (cell_at cells i) (cell_at (changed_at f cells at) i)
changed_by R f same one [] at i = same None
changed_by R f same one (e ∷ cells) zero zero = one e
changed_by R f same one (e ∷ cells) zero (suc i) = same (cell_at cells i)
changed_by R f same one (e ∷ cells) (suc at) zero = same (Some e.cell)
changed_by R f same one (e ∷ cells) (suc at) (suc i) = changed_by R f same one cells at i

length_changed : (f : HeapCell → HeapCell) (cells : List HeapCell) (at : ℕ) → length (changed_at f cells at) ≡ length cells
length_changed f [] at = refl
length_changed f (e ∷ cells) zero = refl
length_changed f (e ∷ cells) (suc at) = ap suc (length_changed f cells at)

-- a string, a tuple or a struct stays, and a dictionary or a set is not new
pub record CellStays (c d : Option Cell) : Type 0 where
  pub texts : (x : List ℕ) → c ≡ Some (cell.Text x) → d ≡ Some (cell.Text x)
  pub tuples : (xs : List Value) → c ≡ Some (cell.Tuple xs) → d ≡ Some (cell.Tuple xs)
  pub structs : (fs : Fields) → c ≡ Some (cell.Struct fs) → d ≡ Some (cell.Struct fs)
  pub dicts : (es : List (Value × Value)) → d ≡ Some (cell.Dict es) → c ≡ Some (cell.Dict es)
  pub sets : (es : List (Value × Value)) → d ≡ Some (cell.Set es) → c ≡ Some (cell.Set es)

itself : (c : Option Cell) → CellStays c c
itself c = record { texts = λ x h. h; tuples = λ xs h. h; structs = λ fs h. h; dicts = λ es h. h; sets = λ es h. h }

pub changed_indexed : (home : ℕ) (cells : List HeapCell) (f : HeapCell → HeapCell) (at : ℕ) (indexes : Indexes) → ((e : HeapCell) → CellStays (Some e.cell) (Some (f e).cell)) → AreIndexed (record { home = home; cells = cells }) indexes → AreIndexed (record { home = home; cells = changed_at f cells at }) indexes
unfolding store
changed_indexed home cells f at indexes one h =
    still_indexed (store home cells) (store home (changed_at f cells at)) indexes h
    (record { home = refl; texts = λ i x q. (all i).texts x q; tuples = λ i xs q. (all i).tuples xs q; structs = λ i fs q. (all i).structs fs q })
    (λ i es l q. (all i).dicts es q)
    (λ i es l q. (all i).sets es q)
    (omega (arith, length_changed f cells at))
  where
    all : (i : ℕ) → CellStays (cell_at cells i) (cell_at (changed_at f cells at) i)
    all i = changed_by CellStays f itself one cells at i

pub cell_same : (c d : Cell) → d ≡ c → CellStays (Some c) (Some d)
cell_same c d q = record { texts = λ x h. ap Some q ∙ h; tuples = λ xs h. ap Some q ∙ h; structs = λ fs h. ap Some q ∙ h; dicts = λ es h. ap Some (sym q) ∙ h; sets = λ es h. ap Some (sym q) ∙ h }

pub opened_stays : (e : HeapCell) → CellStays (Some e.cell) (Some (opened_in e).cell)
opened_stays e = cell_same e.cell (opened_in e).cell (by (is_container e.cell))
  where
    by : (b : Bool) → (if b then record e { iterations = e.iterations + 1 } else e).cell ≡ e.cell
    by true = refl
    by false = refl

pub closed_stays : (e : HeapCell) → CellStays (Some e.cell) (Some (closed_in e).cell)
closed_stays e = cell_same e.cell (closed_in e).cell (by (is_container e.cell))
  where
    by : (b : Bool) → (if b then record e { iterations = e.iterations - 1 } else e).cell ≡ e.cell
    by true = refl
    by false = refl

bound_cell_stays : (slot : ℕ) (v : Value) (c : Cell) → CellStays (Some c) (Some (bound_cell slot v c))
bound_cell_stays slot v (cell.Frame f) = record { texts = λ x h. cc; tuples = λ xs h. cc; structs = λ fs h. cc; dicts = λ es h. cc; sets = λ es h. cc }
bound_cell_stays slot v (cell.Text t) = itself (Some (cell.Text t))
bound_cell_stays slot v (cell.Range r) = itself (Some (cell.Range r))
bound_cell_stays slot v (cell.Tuple xs) = itself (Some (cell.Tuple xs))
bound_cell_stays slot v (cell.List xs) = itself (Some (cell.List xs))
bound_cell_stays slot v (cell.Dict es) = itself (Some (cell.Dict es))
bound_cell_stays slot v (cell.Set es) = itself (Some (cell.Set es))
bound_cell_stays slot v (cell.Func f) = itself (Some (cell.Func f))
bound_cell_stays slot v (cell.Bound m w) = itself (Some (cell.Bound m w))
bound_cell_stays slot v (cell.Struct fs) = itself (Some (cell.Struct fs))

pub bound_stays : (slot : ℕ) (v : Value) (e : HeapCell) → CellStays (Some e.cell) (Some (bound_cell slot v e.cell))
bound_stays slot v e = bound_cell_stays slot v e.cell

-- a change of a dictionary's entries and of its index

abbrev pair : {A B : Type 0} → A → B → A × B
pair a b = (a, b)

second : {A B : Type 0} (a c : A) (b d : B) → pair a b ≡ pair c d → b ≡ d
second a c b d h = ap (λ p. p.1) h

entries_follow : (f : Value → Option (List Atom)) (c : Change) (at : Option ℕ) (atoms : Option (List Atom)) (es : List (Value × Value)) (before index : List (List Atom)) (x : Option Value) (after : List (Value × Value)) → map (λ e. f e.0) es ≡ map Some before → change_entries c at es ≡ Ok (x, after) → index_after c at atoms before ≡ Some index → IfSome atoms (λ a. option_and_then f (key_of c) ≡ Some a) → map (λ e. f e.0) after ≡ map Some index
entries_follow f (change.Put k v) None (Some a) es before index x after h w q r =
    let here : after ≡ es ++ (k, v) ∷ [] = second x None after (es ++ (k, v) ∷ []) (cc) in
    let there : index ≡ before ++ a ∷ [] = cc in
    ap (map (λ e. f e.0)) here
    ∙ map-append (λ (e : Value × Value). f e.0) es ((k, v) ∷ [])
    ∙ ap (λ l. l ++ f k ∷ []) h
    ∙ ap (λ o. map Some before ++ o ∷ []) r
    ∙ sym (map-append Some before (a ∷ []))
    ∙ ap (map Some) (sym there)
entries_follow f (change.Put k v) None None es before index x after h w q r = cc
entries_follow f (change.Put k v) (Some i) atoms es before index x after h w q r = by (slice_get es i) refl w
  where
    by : (o : Option (Value × Value)) → slice_get es i ≡ o → put_at i v o es ≡ Ok (x, after) → map (λ e. f e.0) after ≡ map Some index
    by None e p = cc
    by (Some e) s p =
        let here : after ≡ slice_set es i (e.0, v) = second x (Some e.1) after (slice_set es i (e.0, v)) (cc) in
        let there : before ≡ index = cc in
        ap (map (λ d. f d.0)) here
        ∙ map-set_same (λ (d : Value × Value). f d.0) es i (e.0, v) (e.0, v) (ap (λ (d : Value × Value). f d.0) (sym (get_or_from_slice_get es i e (e.0, v) s)))
        ∙ h
        ∙ ap (map Some) there
entries_follow f (change.Delete k) None atoms es before index x after h w q r = cc
entries_follow f (change.Delete k) (Some i) atoms es before index x after h w q r = by (option_map (λ e. e.1) (slice_get es i)) w
  where
    by : (o : Option Value) → taken Key o (remove es i) ≡ Ok (x, after) → map (λ e. f e.0) after ≡ map Some index
    by None p = cc
    by (Some y) p =
        let here : after ≡ remove es i = second x (Some y) after (remove es i) (cc) in
        let there : remove before i ≡ index = cc in
        ap (map (λ d. f d.0)) here
        ∙ map_removed (λ (d : Value × Value). f d.0) es i
        ∙ ap (λ l. remove l i) h
        ∙ sym (map_removed Some before i)
        ∙ ap (map Some) there
entries_follow f (change.Append v) at atoms es before index x after h w q r = cc
entries_follow f (change.Set i v) at atoms es before index x after h w q r = cc
entries_follow f (change.Insert i v) at atoms es before index x after h w q r = cc
entries_follow f (change.RemoveAt i) at atoms es before index x after h w q r = cc
entries_follow f change.Clear at atoms es before index x after h w q r = cc

cell_follows : (s : Store) (c : Change) (at : Option ℕ) (atoms : Option (List Atom)) (o : Option Cell) (before index : List (List Atom)) (x : Option Value) (d : Cell) → IsIndexed s o before → change_cell c at o ≡ Ok (x, d) → index_after c at atoms before ≡ Some index → IfSome atoms (λ a. option_and_then (key_entry s) (key_of c) ≡ Some a) → IsIndexed s (Some d) index
cell_follows s c at atoms (Some (cell.Dict es)) before index x d h w q r = by (change_entries c at es) refl w
  where
    by : (o : Result (Option Value × List (Value × Value)) StoreFault) → change_entries c at es ≡ o → in_cell cell.Dict o ≡ Ok (x, d) → IsIndexed s (Some d) index
    by (Err f) z p = cc
    by (Ok y) z p =
        let shape : cell.Dict y.1 ≡ d = second y.0 x (cell.Dict y.1) d (cc) in
        let done : change_entries c at es ≡ Ok (y.0, y.1) = z in
        subst (λ (e : Cell). IsIndexed s (Some e) index) shape (entries_follow (key_entry s) c at atoms es before index y.0 y.1 h done q r)
cell_follows s c at atoms (Some (cell.Set es)) before index x d h w q r = by (change_entries c at es) refl w
  where
    by : (o : Result (Option Value × List (Value × Value)) StoreFault) → change_entries c at es ≡ o → in_cell cell.Set o ≡ Ok (x, d) → IsIndexed s (Some d) index
    by (Err f) z p = cc
    by (Ok y) z p =
        let shape : cell.Set y.1 ≡ d = second y.0 x (cell.Set y.1) d (cc) in
        let done : change_entries c at es ≡ Ok (y.0, y.1) = z in
        subst (λ (e : Cell). IsIndexed s (Some e) index) shape (entries_follow (key_entry s) c at atoms es before index y.0 y.1 h done q r)
cell_follows s c at atoms (Some (cell.List xs)) before index x d h w q r = by (change_items c xs) w
  where
    by : (o : Result (Option Value × List Value) StoreFault) → in_cell cell.List o ≡ Ok (x, d) → IsIndexed s (Some d) index
    by (Err f) p = cc
    by (Ok y) p =
        let shape : cell.List y.1 ≡ d = second y.0 x (cell.List y.1) d (cc) in
        subst (λ (e : Cell). IsIndexed s (Some e) index) shape tt
cell_follows s c at atoms (Some (cell.Text t)) before index x d h w q r = cc
cell_follows s c at atoms (Some (cell.Range t)) before index x d h w q r = cc
cell_follows s c at atoms (Some (cell.Tuple t)) before index x d h w q r = cc
cell_follows s c at atoms (Some (cell.Func t)) before index x d h w q r = cc
cell_follows s c at atoms (Some (cell.Frame t)) before index x d h w q r = cc
cell_follows s c at atoms (Some (cell.Bound m v)) before index x d h w q r = cc
cell_follows s c at atoms (Some (cell.Struct t)) before index x d h w q r = cc
cell_follows s c at atoms None before index x d h w q r = cc

changed_other : (f : HeapCell → HeapCell) (cells : List HeapCell) (at i : ℕ) → (i ≡ at → ⊥) → cell_at (changed_at f cells at) i ≡ cell_at cells i
changed_other f [] at i n = refl
changed_other f (e ∷ cells) zero zero n = absurd (n refl)
changed_other f (e ∷ cells) zero (suc i) n = refl
changed_other f (e ∷ cells) (suc at) zero n = refl
changed_other f (e ∷ cells) (suc at) (suc i) n = changed_other f cells at i (λ q. n (ap suc q))

put_in : Cell → HeapCell → HeapCell
put_in d e = record e { cell = d }

changed_here : (d : Cell) (cells : List HeapCell) (at : ℕ) (c : Cell) → cell_at cells at ≡ Some c → cell_at (changed_at (put_in d) cells at) at ≡ Some d
unfolding put_in
changed_here d [] at c h = cc
changed_here d (e ∷ cells) zero c h = refl
changed_here d (e ∷ cells) (suc at) c h = changed_here d cells at c h

module _ (c : Change) (place : Option ℕ) (x : Option Value) (d : Cell) where
  no_text : (o : Option Cell) (t : List ℕ) → change_cell c place o ≡ Ok (x, d) → o ≡ Some (cell.Text t) → ⊥
  no_text o t w h = let k : change_cell c place (Some (cell.Text t)) ≡ Ok (x, d) = subst (λ p. change_cell c place p ≡ Ok (x, d)) h w in cc

  no_tuple : (o : Option Cell) (xs : List Value) → change_cell c place o ≡ Ok (x, d) → o ≡ Some (cell.Tuple xs) → ⊥
  no_tuple o xs w h = let k : change_cell c place (Some (cell.Tuple xs)) ≡ Ok (x, d) = subst (λ p. change_cell c place p ≡ Ok (x, d)) h w in cc

  no_struct : (o : Option Cell) (fs : Fields) → change_cell c place o ≡ Ok (x, d) → o ≡ Some (cell.Struct fs) → ⊥
  no_struct o fs w h = let k : change_cell c place (Some (cell.Struct fs)) ≡ Ok (x, d) = subst (λ p. change_cell c place p ≡ Ok (x, d)) h w in cc

  some_cell : (o : Option Cell) → change_cell c place o ≡ Ok (x, d) → (b : Cell) × (o ≡ Some b)
  some_cell (Some b) w = (b, refl)
  some_cell None w = cc

put_indexed : (home : ℕ) (cells : List HeapCell) (indexes new : Indexes) (at : ℕ) (c : Change) (place : Option ℕ) (atoms : Option (List Atom)) (x : Option Value) (d : Cell) → AreIndexed (record { home = home; cells = cells }) indexes → AreChanged at c place atoms indexes new → IfSome atoms (λ a. option_and_then (key_entry (record { home = home; cells = cells })) (key_of c) ≡ Some a) → change_cell c place (cell_at cells at) ≡ Ok (x, d) → AreIndexed (record { home = home; cells = changed_at (λ e. record e { cell = d }) cells at }) new
unfolding store put_in
put_indexed home cells indexes new at c place atoms x d h k r w = record {
  each = λ i index q. by i index q (nat_eq i at) refl;
  within = let l : length indexes ≤ length cells = h.within in omega (arith, k.as_long, length_changed (put_in d) cells at);
}
  where
    s : Store
    s = store home cells

    t : Store
    t = store home (changed_at (put_in d) cells at)

    kept : (b : Cell) → (cell_at cells at ≡ Some b → ⊥) → (i : ℕ) → cell_at cells i ≡ Some b → cell_at (changed_at (put_in d) cells at) i ≡ Some b
    kept b n i q = changed_other (put_in d) cells at i (λ e. n (subst (λ (j : ℕ). cell_at cells j ≡ Some b) e q)) ∙ q

    keeps : Stays (store home cells) (store home (changed_at (put_in d) cells at))
    keeps = record {
      home = refl;
      texts = λ i y q. kept (cell.Text y) (no_text c place x d (cell_at cells at) y w) i q;
      tuples = λ i ys q. kept (cell.Tuple ys) (no_tuple c place x d (cell_at cells at) ys w) i q;
      structs = λ i fs q. kept (cell.Struct fs) (no_struct c place x d (cell_at cells at) fs w) i q;
    }

    by : (i : ℕ) (index : List (List Atom)) → index_at new i ≡ Some index → (b : Bool) → nat_eq i at ≡ b → IsIndexed (store home (changed_at (put_in d) cells at)) (cell_at (changed_at (put_in d) cells at) i) index
    by i index q true e =
        let here : i ≡ at = eqb-true i at e in
        let was = k.here index (subst (λ (j : ℕ). index_at new j ≡ Some index) here q) in
        let one = some_cell c place x d (cell_at cells at) w in
        subst (λ (j : ℕ). IsIndexed (store home (changed_at (put_in d) cells at)) (cell_at (changed_at (put_in d) cells at) j) index) (sym here)
        (subst (λ (o : Option Cell). IsIndexed (store home (changed_at (put_in d) cells at)) o index) (sym (changed_here d cells at one.0 one.1))
        (stays_indexed (store home cells) (store home (changed_at (put_in d) cells at)) (Some d) index keeps
        (cell_follows (store home cells) c place atoms (cell_at cells at) was.0 index x d (h.each at was.0 was.1) w was.2 r)))
    by i index q false e =
        let off : i ≡ at → ⊥ = eqb-false i at e in
        subst (λ (o : Option Cell). IsIndexed (store home (changed_at (put_in d) cells at)) o index) (sym (changed_other (put_in d) cells at i off))
        (stays_indexed (store home cells) (store home (changed_at (put_in d) cells at)) (cell_at cells i) index keeps
        (h.each i index (sym (k.others i off) ∙ q)))

-- a change of a cell among the others, and of its index among theirs
pub written_indexed : (home : ℕ) (cells : List HeapCell) (indexes new : Indexes) (at : ℕ) (c : Change) (place : Option ℕ) (atoms : Option (List Atom)) (x : Option Value) (later : List HeapCell) → AreIndexed (record { home = home; cells = cells }) indexes → AreChanged at c place atoms indexes new → IfSome atoms (λ a. option_and_then (key_entry (record { home = home; cells = cells })) (key_of c) ≡ Some a) → in_cells cells at (change_cell c place (cell_at cells at)) ≡ Ok (x, later) → AreIndexed (record { home = home; cells = later }) new
written_indexed home cells indexes new at c place atoms x later h k r w = by (change_cell c place (cell_at cells at)) refl w
  where
    by : (o : Result (Option Value × Cell) StoreFault) → change_cell c place (cell_at cells at) ≡ o → in_cells cells at o ≡ Ok (x, later) → AreIndexed (record { home = home; cells = later }) new
    by (Err f) e p = cc
    by (Ok y) e p =
        let shape : changed_at (λ d. record d { cell = y.1 }) cells at ≡ later = second y.0 x (changed_at (λ d. record d { cell = y.1 }) cells at) later (cc) in
        subst (λ (cs : List HeapCell). AreIndexed (record { home = home; cells = cs }) new) shape (put_indexed home cells indexes new at c place atoms y.0 y.1 h k r e)

content_told : (s t : Store) (key : Option Value) (r : Option (List Atom)) → s ≡ t → IfSome r (λ a. option_and_then (key_entry t) key ≡ Some a) → IfSome r (λ a. option_and_then (key_entry s) key ≡ Some a)
content_told s t key None e h = tt
content_told s t key (Some a) e h = ap (λ (u : Store). option_and_then (key_entry u) key) e ∙ h

-- the same, if the store and its indexes are given by their parts
pub write_indexed : (own : ℕ) (cells mid later : List HeapCell) (indexes middle new : Indexes) (s : Store) (at : ℕ) (c : Change) (place : Option ℕ) (r : Option (List Atom)) (x : Option Value) → record { home = own; cells = cells } ≡ s → AreIndexed (record { home = own; cells = cells }) indexes → mid ≡ cells → middle ≡ indexes → AreChanged at c place r middle new → IfSome r (λ a. option_and_then (key_entry s) (key_of c) ≡ Some a) → in_cells mid at (change_cell c place (cell_at mid at)) ≡ Ok (x, later) → AreIndexed (record { home = own; cells = later }) new
unfolding store
write_indexed own cells mid later indexes middle new s at c place r x es h em er k t w =
    written_indexed own cells indexes new at c place r x later h
    (subst (λ (q : Indexes). AreChanged at c place r q new) er k)
    (content_told (store own cells) s (key_of c) r es t)
    (subst (λ (q : List HeapCell). in_cells q at (change_cell c place (cell_at q at)) ≡ Ok (x, later)) em w)

-- look-ups

pub finds : (seen : Value → Option Cell) (key : Value) (c : Option Cell) (es : List (Value × Value)) (r : Option Value) → c ≡ Some (cell.Dict es) → is_key seen key_levels key ≡ true → r ≡ value_of seen key (entries_of c) → find_in seen c key ≡ Ok r
finds seen key c es r e h k =
    let k' : r ≡ value_of seen key es = k ∙ ap (λ (d : Option Cell). value_of seen key (entries_of d)) e in
    ap (λ (d : Option Cell). find_in seen d key) e
    ∙ ap (λ (b : Bool). if b then Ok (value_of seen key es) else Err BadType) h
    ∙ ap Ok (sym k')

pub place_either : (seen : Value → Option Cell) (key : Value) (c : Option Cell) → place_in seen (Some key) c ≡ place_of seen key (entries_of c)
place_either seen key (Some (cell.Dict es)) = refl
place_either seen key (Some (cell.Set es)) = refl
place_either seen key (Some (cell.Text t)) = refl
place_either seen key (Some (cell.Range r)) = refl
place_either seen key (Some (cell.Tuple xs)) = refl
place_either seen key (Some (cell.List xs)) = refl
place_either seen key (Some (cell.Func f)) = refl
place_either seen key (Some (cell.Frame f)) = refl
place_either seen key (Some (cell.Bound m v)) = refl
place_either seen key (Some (cell.Struct fs)) = refl
place_either seen key None = refl

-- the indexes at their addresses

pub row_grown : (indexes : Indexes) (i : ℕ) → index_at (indexes ++ None ∷ []) i ≡ index_at indexes i
row_grown [] zero = refl
row_grown [] (suc i) = refl
row_grown (r ∷ indexes) zero = refl
row_grown (r ∷ indexes) (suc i) = row_grown indexes i

row_other : (indexes : Indexes) (at i : ℕ) (r : Option (Box (List (List Atom)))) → (i ≡ at → ⊥) → index_at (set indexes at r) i ≡ index_at indexes i
row_other [] at i r n = refl
row_other (q ∷ indexes) zero zero r n = absurd (n refl)
row_other (q ∷ indexes) zero (suc i) r n = refl
row_other (q ∷ indexes) (suc at) zero r n = refl
row_other (q ∷ indexes) (suc at) (suc i) r n = row_other indexes at i r (λ e. n (ap suc e))

row_here : (indexes : Indexes) (at : ℕ) (r : Option (Box (List (List Atom)))) → at < length indexes → index_at (set indexes at r) at ≡ option_map (λ b. b.value) r
row_here [] at r h = absurd (omega arith)
row_here (q ∷ indexes) zero r h = refl
row_here (q ∷ indexes) (suc at) r h = row_here indexes at r (omega arith)

-- an index that is put at an address is found there, and the others where they were
pub row_put : (indexes : Indexes) (at : ℕ) (b : Box (List (List Atom))) → at < length indexes → (i : ℕ) (found : List (List Atom)) → index_at (set indexes at (Some b)) i ≡ Some found → (index_at indexes i ≡ Some found) ⊎ ((i ≡ at) × (found ≡ b.value))
row_put indexes at b l i found h = by (nat_eq i at) refl
  where
    by : (q : Bool) → nat_eq i at ≡ q → (index_at indexes i ≡ Some found) ⊎ ((i ≡ at) × (found ≡ b.value))
    by true e =
        let here : i ≡ at = eqb-true i at e in
        let at_it : index_at (set indexes at (Some b)) at ≡ Some found = subst (λ (j : ℕ). index_at (set indexes at (Some b)) j ≡ Some found) here h in
        let same : Some b.value ≡ Some found = sym (row_here indexes at (Some b) l) ∙ at_it in
        inr (here, cc)
    by false e = inl (sym (row_other indexes at i (Some b) (eqb-false i at e)) ∙ h)

-- a right index at an address keeps all of them right
pub put_right : (s : Store) (indexes new : Indexes) (at : ℕ) (index : List (List Atom)) → AreIndexed s indexes → ((i : ℕ) (found : List (List Atom)) → index_at new i ≡ Some found → (index_at indexes i ≡ Some found) ⊎ ((i ≡ at) × (found ≡ index))) → length new ≤ max (length indexes) (at + 1) → at + 1 ≤ length s.cells → IsIndexed s (cell_at s.cells at) index → AreIndexed s new
put_right s indexes new at index h k l m q = record {
  each = λ i found e. ⊎_elim (λ p. h.each i found p) (λ p. subst (λ (j : ℕ). IsIndexed s (cell_at s.cells j) found) (sym p.0) (subst (IsIndexed s (cell_at s.cells at)) (sym p.1) q)) (k i found e);
  within = let w : length indexes ≤ length s.cells = h.within in omega arith;
}

-- a row that is changed as its dictionary was
pub row_changed : (indexes : Indexes) (at : ℕ) (c : Change) (place : Option ℕ) (atoms : Option (List Atom)) (e r : Option (Box (List (List Atom)))) → at < length indexes → IfSome r (λ index. option_and_then (λ b. index_after c place atoms b.value) (get_or indexes at e) ≡ Some index.value) → AreChanged at c place atoms indexes (set indexes at r)
row_changed indexes at c place atoms e r l h = record {
  others = λ i n. row_other indexes at i r n;
  here = λ index q. by r (get_or indexes at e) h index (sym (row_here indexes at r l) ∙ q) (old indexes at e l);
  as_long = length-set indexes at r;
}
  where
    old : (indexes : Indexes) (at : ℕ) (e : Option (Box (List (List Atom)))) → at < length indexes → index_at indexes at ≡ option_map (λ b. b.value) (get_or indexes at e)
    old [] at e l = absurd (omega arith)
    old (q ∷ indexes) zero e l = refl
    old (q ∷ indexes) (suc at) e l = old indexes at e (omega arith)

    by : (r e : Option (Box (List (List Atom)))) → IfSome r (λ index. option_and_then (λ b. index_after c place atoms b.value) e ≡ Some index.value) → (index : List (List Atom)) → option_map (λ b. b.value) r ≡ Some index → index_at indexes at ≡ option_map (λ b. b.value) e → (before : List (List Atom)) × (index_at indexes at ≡ Some before) × (index_after c place atoms before ≡ Some index)
    by (Some b) (Some a) h index q o = (a.value, o, h ∙ q)
    by (Some b) None h index q o = cc
    by None e h index q o = cc

-- without such a row, nothing changes
pub row_unchanged : (indexes : Indexes) (at : ℕ) (c : Change) (place : Option ℕ) (atoms : Option (List Atom)) → length indexes ≤ at → AreChanged at c place atoms indexes indexes
row_unchanged indexes at c place atoms l = record {
  others = λ i n. refl;
  here = λ index q. absurd (let k : at < length indexes = within_rows indexes at index q in omega arith);
  as_long = refl;
}

-- two dictionaries

nothing : (seen : Value → Option Cell) (key : Value) (place : Option ℕ) → value_at [] place ≡ value_of seen key []
nothing seen key (Some i) = refl
nothing seen key None = refl

-- equality of an entry's value and of the value beside it
abbrev pub compared : (Value → Value → Spend Bool) → Option (Value × Option Value) → Spend Bool
compared f (Some p) = same_found f p.0 p.1
compared f None = answer true

-- the value at the place of a key is the key's
pub value_found : (seen : Value → Option Cell) (key : Value) (c : Option Cell) (place : Option ℕ) → Places seen key c place → value_at (entries_of c) place ≡ value_of seen key (entries_of c)
value_found seen key (Some (cell.Dict es)) place h = ap (value_at es) (h es refl)
value_found seen key (Some (cell.Set es)) place h = ap (value_at es) (h es refl)
value_found seen key (Some (cell.Text t)) place h = nothing seen key place
value_found seen key (Some (cell.Range t)) place h = nothing seen key place
value_found seen key (Some (cell.Tuple t)) place h = nothing seen key place
value_found seen key (Some (cell.List t)) place h = nothing seen key place
value_found seen key (Some (cell.Func t)) place h = nothing seen key place
value_found seen key (Some (cell.Frame t)) place h = nothing seen key place
value_found seen key (Some (cell.Bound m v)) place h = nothing seen key place
value_found seen key (Some (cell.Struct t)) place h = nothing seen key place
value_found seen key None place h = nothing seen key place

-- a pair of a value and the value that another dictionary has for its key
pub beside_told : (seen : Value → Option Cell) (c other : Option Cell) (at : ℕ) (e : Value × Value) (place : Option ℕ) (v : Option Value) → Some e ≡ slice_get (entries_of c) at → PlacesAt seen c at other place → v ≡ value_at (entries_of other) place → Some (e.1, v) ≡ option_map (beside seen other) (slice_get (entries_of c) at)
beside_told seen c other at e place v h k q = ap (λ (o : Option Value). Some (e.1, o)) (q ∙ value_found seen e.0 other place (k e (sym h))) ∙ ap (option_map (beside seen other)) h

pub beside_key : (seen : Value → Option Cell) (c other : Option Cell) (at : ℕ) (e : Value × Value) (place : Option ℕ) (v : Option Value) → Some e ≡ slice_get (entries_of c) at → Places seen e.0 other place → v ≡ value_at (entries_of other) place → Some (e.1, v) ≡ option_map (beside seen other) (slice_get (entries_of c) at)
beside_key seen c other at e place v h k q = ap (λ (o : Option Value). Some (e.1, o)) (q ∙ value_found seen e.0 other place k) ∙ ap (option_map (beside seen other)) h

-- equality compares the value beside an entry
pub same_beside : (seen : Value → Option Cell) (f : Value → Value → Spend Bool) (xs : List (Value × Value)) (other : Option Cell) (i : ℕ) (r : Option (Value × Option Value)) → r ≡ option_map (beside seen other) (slice_get xs i) → same_entry seen f xs (entries_of other) i ≡ compared f r
same_beside seen f xs other i r h = by (slice_get xs i) ∙ ap (compared f) (sym h)
  where
    by : (o : Option (Value × Value)) → same_pairs seen f (entries_of other) o ≡ compared f (option_map (beside seen other) o)
    by (Some e) = refl
    by None = refl
