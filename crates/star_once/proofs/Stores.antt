-- The cells that are seen after one is made or changed.
use Rattle.std.proofs.Common.{◌≡◌, ◌⊎◌, inl, inr, ℕ, zero, suc, Bool, true, false, List, [], ◌∷◌, ◌++◌, slice_get, Option, Some, None, if◌then◌else◌, refl, ap, sym, subst, ◌∙◌, nat_eq}
use Rattle.std.specs.Option.{option_map}
use Rattle.star_store.specs.declared.values.Value.{Value}
use Rattle.star_store.specs.declared.values.Value.TheVariants as value
use Rattle.star_store.specs.declared.values.Cell.{Cell}
use Rattle.star_store.specs.declared.values.Cell.TheVariants as cell
use Rattle.star_store.specs.declared.values.HeapCell.{HeapCell}
use Rattle.star_store.specs.Store.{Shelf, Store, changed, changed_at, counted_at, look, made, published_cells}
use Rattle.star_store.specs.Write.{cell_at}
use Rattle.star_meaning.specs.Laws.{KeepsKind}
use Rattle.star_meaning.specs.Program.{Setting, seen}
use Rattle.star_meaning.specs.Run.{State}
use Rattle.star_meaning.proofs.Stays.{Stays}
use Rattle.star_meaning.proofs.Quiet.{same_cells}
use Rattle.star_once.specs.Keys.{Differ, IsFixed, KeysDiffer}
use Rattle.star_once.proofs.Keys.{Stay, differ_stays}

-- ---- strings, tuples and structs stay where cells keep their kind

kind_fixed : (c d : Cell) → IsFixed c → KeepsKind c d → d ≡ c
kind_fixed (cell.Text t) d f k = k
kind_fixed (cell.Tuple xs) d f k = k
kind_fixed (cell.Struct fs) d f k = k
kind_fixed (cell.List xs) d f k = absurd f
kind_fixed (cell.Dict xs) d f k = absurd f
kind_fixed (cell.Range xs) d f k = absurd f
kind_fixed (cell.Set xs) d f k = absurd f
kind_fixed (cell.Func xs) d f k = absurd f
kind_fixed (cell.Frame xs) d f k = absurd f
kind_fixed (cell.Bound m xs) d f k = absurd f

pub has_cell : (o : Option HeapCell) (c : Cell) → option_map (λ e. e.cell) o ≡ Some c → (a : HeapCell) × (o ≡ Some a) × (a.cell ≡ c)
has_cell None c h = absurd (let no : ⊥ = cc in no)
has_cell (Some a) c h = (a, refl, cc)

own_stays : (s t : State) → Stays s t → (at : ℕ) (c : Cell) → cell_at s.store.cells at ≡ Some c → IsFixed c → cell_at t.store.cells at ≡ Some c
own_stays s t k at c e f =
    let a = has_cell (slice_get s.store.cells at) c e in
    let b = k.cells at a.0 a.1 in
    let same : b.0.cell ≡ a.0.cell = kind_fixed a.0.cell b.0.cell (subst IsFixed (sym a.2) f) b.2.kind in
    ap (option_map (λ e. e.cell)) b.1 ∙ ap Some (same ∙ a.2)

either_stays : (s t : State) → Stays s t → (b : Bool) (ps : List HeapCell) (at : ℕ) (c : Cell) → cell_at (if b then s.store.cells else ps) at ≡ Some c → IsFixed c → cell_at (if b then t.store.cells else ps) at ≡ Some c
either_stays s t k true ps at c e f = own_stays s t k at c e f
either_stays s t k false ps at c e f = e

pub stays_seen : (w : Setting) (s t : State) → Stays s t → Stay (seen w s) (seen w t)
stays_seen w s t k (value.Ref home at) c e f =
    ap (λ h. cell_at (if nat_eq home h then t.store.cells else published_cells (slice_get w.shelf home)) at) k.home
    ∙ either_stays s t k (nat_eq home s.store.home) (published_cells (slice_get w.shelf home)) at c e f
stays_seen w s t k value.NoneValue c e f = absurd (let no : ⊥ = cc in no)
stays_seen w s t k (value.Bool b) c e f = absurd (let no : ⊥ = cc in no)
stays_seen w s t k (value.Int n) c e f = absurd (let no : ⊥ = cc in no)
stays_seen w s t k (value.Builtin b) c e f = absurd (let no : ⊥ = cc in no)

-- ---- keys differ after a step where each dictionary was there, or has keys that differ

pub after_step : (w : Setting) (s t : State) → KeysDiffer w s → Stay (seen w s) (seen w t) → ((v : Value) (es : List (Value × Value)) → seen w t v ≡ Some (cell.Dict es) → (seen w s v ≡ Some (cell.Dict es)) ⊎ Differ (seen w s) es) → KeysDiffer w t
after_step w s t h k each v es e = by (each v es e)
  where
    by : (seen w s v ≡ Some (cell.Dict es)) ⊎ Differ (seen w s) es → Differ (seen w t) es
    by (inl old) = differ_stays (seen w s) (seen w t) es k (h v es old)
    by (inr new) = differ_stays (seen w s) (seen w t) es k new

-- the same if all is seen as before
pub after_same : (w : Setting) (s t : State) → KeysDiffer w s → ((v : Value) → seen w t v ≡ seen w s v) → KeysDiffer w t
after_same w s t h same = after_step w s t h (λ v c e f. same v ∙ e) (λ v es e. inl (sym (same v) ∙ e))

-- ---- a new cell

last_or : (xs : List HeapCell) (x : HeapCell) (at : ℕ) (d : Cell) → cell_at (xs ++ x ∷ []) at ≡ Some d → (cell_at xs at ≡ Some d) ⊎ (x.cell ≡ d)
last_or [] x zero d h = inr (let e : x.cell ≡ d = cc in e)
last_or [] x (suc at) d h = absurd (let no : ⊥ = cc in no)
last_or (y ∷ xs) x zero d h = inl h
last_or (y ∷ xs) x (suc at) d h = last_or xs x at d h

either_or : (b : Bool) (xs ps : List HeapCell) (x : HeapCell) (at : ℕ) (d : Cell) → cell_at (if b then xs ++ x ∷ [] else ps) at ≡ Some d → (cell_at (if b then xs else ps) at ≡ Some d) ⊎ (x.cell ≡ d)
either_or true xs ps x at d h = last_or xs x at d h
either_or false xs ps x at d h = inl h

pub made_look : (c : Cell) (s : Store) (shelf : Shelf) (v : Value) (d : Cell) → look (made c s) shelf v ≡ Some d → (look s shelf v ≡ Some d) ⊎ (c ≡ d)
made_look c s shelf (value.Ref home at) d h = either_or (nat_eq home s.home) s.cells (published_cells (slice_get shelf home)) (record { iterations = 0; cell = c }) at d h
made_look c s shelf value.NoneValue d h = absurd (let no : ⊥ = cc in no)
made_look c s shelf (value.Bool b) d h = absurd (let no : ⊥ = cc in no)
made_look c s shelf (value.Int n) d h = absurd (let no : ⊥ = cc in no)
made_look c s shelf (value.Builtin b) d h = absurd (let no : ⊥ = cc in no)

-- ---- a changed cell: it was there, and is as before or changed

abbrev pub WasThere : (HeapCell → HeapCell) → Option Cell → Cell → Type 0
WasThere f o d = (a : HeapCell) × (o ≡ Some a.cell) × ((a.cell ≡ d) ⊎ ((f a).cell ≡ d))

was_same : (f : HeapCell → HeapCell) (o : Option HeapCell) (d : Cell) → option_map (λ e. e.cell) o ≡ Some d → WasThere f (option_map (λ e. e.cell) o) d
was_same f None d h = absurd (let no : ⊥ = cc in no)
was_same f (Some a) d h = (a, refl, inl (let e : a.cell ≡ d = cc in e))

changed_cell : (f : HeapCell → HeapCell) (xs : List HeapCell) (i at : ℕ) (d : Cell) → cell_at (changed_at f xs i) at ≡ Some d → WasThere f (cell_at xs at) d
changed_cell f [] i at d h = absurd (let no : ⊥ = cc in no)
changed_cell f (x ∷ xs) zero zero d h = (x, refl, inr (let e : (f x).cell ≡ d = cc in e))
changed_cell f (x ∷ xs) zero (suc at) d h = was_same f (slice_get xs at) d h
changed_cell f (x ∷ xs) (suc i) zero d h = was_same f (Some x) d h
changed_cell f (x ∷ xs) (suc i) (suc at) d h = changed_cell f xs i at d h

either_changed : (f : HeapCell → HeapCell) (b c : Bool) (xs ps : List HeapCell) (i at : ℕ) (d : Cell) → cell_at (if b then (if c then changed_at f xs i else xs) else ps) at ≡ Some d → WasThere f (cell_at (if b then xs else ps) at) d
either_changed f true true xs ps i at d h = changed_cell f xs i at d h
either_changed f true false xs ps i at d h = was_same f (slice_get xs at) d h
either_changed f false c xs ps i at d h = was_same f (slice_get ps at) d h

own_home : (b : Bool) (s : Store) (cells : List HeapCell) → (if b then record s { cells = cells } else s).home ≡ s.home
own_home true s cells = refl
own_home false s cells = refl

own_cells : (b : Bool) (s : Store) (cells : List HeapCell) → (if b then record s { cells = cells } else s).cells ≡ (if b then cells else s.cells)
own_cells true s cells = refl
own_cells false s cells = refl

pub changed_look : (f : HeapCell → HeapCell) (u : Value) (s : Store) (shelf : Shelf) (v : Value) (d : Cell) → look (changed f u s) shelf v ≡ Some d → WasThere f (look s shelf v) d
changed_look f (value.Ref h i) s shelf (value.Ref home at) d e =
    either_changed f (nat_eq home s.home) (nat_eq h s.home) s.cells (published_cells (slice_get shelf home)) i at d
    (ap (λ n. cell_at (if nat_eq home n then (if nat_eq h s.home then changed_at f s.cells i else s.cells) else published_cells (slice_get shelf home)) at) (sym (own_home (nat_eq h s.home) s (changed_at f s.cells i)))
    ∙ (ap (λ xs. cell_at (if nat_eq home (changed f (value.Ref h i) s).home then xs else published_cells (slice_get shelf home)) at) (sym (own_cells (nat_eq h s.home) s (changed_at f s.cells i))) ∙ e))
changed_look f (value.Ref h i) s shelf value.NoneValue d e = absurd (let no : ⊥ = cc in no)
changed_look f (value.Ref h i) s shelf (value.Bool b) d e = absurd (let no : ⊥ = cc in no)
changed_look f (value.Ref h i) s shelf (value.Int n) d e = absurd (let no : ⊥ = cc in no)
changed_look f (value.Ref h i) s shelf (value.Builtin b) d e = absurd (let no : ⊥ = cc in no)
changed_look f value.NoneValue s shelf v d e = was_same f (counted_at s shelf v) d e
changed_look f (value.Bool b) s shelf v d e = was_same f (counted_at s shelf v) d e
changed_look f (value.Int n) s shelf v d e = was_same f (counted_at s shelf v) d e
changed_look f (value.Builtin b) s shelf v d e = was_same f (counted_at s shelf v) d e

either_same : (b c : Bool) (s : Store) (xs ps : List HeapCell) (at : ℕ) → cell_at xs at ≡ cell_at s.cells at → cell_at (if b then (if c then record s { cells = xs } else s).cells else ps) at ≡ cell_at (if b then s.cells else ps) at
either_same true true s xs ps at h = h
either_same true false s xs ps at h = refl
either_same false c s xs ps at h = refl

pub same_look : (f : HeapCell → HeapCell) → ((e : HeapCell) → (f e).cell ≡ e.cell) → (u : Value) (s : Store) (shelf : Shelf) (v : Value) → look (changed f u s) shelf v ≡ look s shelf v
same_look f h (value.Ref k i) s shelf (value.Ref home at) =
    ap (λ n. cell_at (if nat_eq home n then (changed f (value.Ref k i) s).cells else published_cells (slice_get shelf home)) at) (own_home (nat_eq k s.home) s (changed_at f s.cells i))
    ∙ either_same (nat_eq home s.home) (nat_eq k s.home) s (changed_at f s.cells i) (published_cells (slice_get shelf home)) at (same_cells f h s.cells i at)
same_look f h (value.Ref k i) s shelf value.NoneValue = refl
same_look f h (value.Ref k i) s shelf (value.Bool b) = refl
same_look f h (value.Ref k i) s shelf (value.Int n) = refl
same_look f h (value.Ref k i) s shelf (value.Builtin b) = refl
same_look f h value.NoneValue s shelf v = refl
same_look f h (value.Bool b) s shelf v = refl
same_look f h (value.Int n) s shelf v = refl
same_look f h (value.Builtin b) s shelf v = refl
