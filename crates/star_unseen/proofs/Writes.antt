-- Writes by visible changes are the same over both shelves, and leave visible cells.
use Rattle.std.proofs.Common.{◌≡◌, ℕ, List, [], ◌∷◌, length, Option, Some, None, Bool, true, false, if◌then◌else◌, nat_eq, nat_lt, slice_get, slice_set, Result, Ok, Err, refl, ap, ◌∙◌}
use Rattle.std.specs.List.{insert, remove}
use Rattle.star_store.specs.declared.values.Value.{Value}
use Rattle.star_store.specs.declared.values.Cell.{Cell}
use Rattle.star_store.specs.declared.values.Cell.TheVariants as cell
use Rattle.star_store.specs.declared.arena.write.Change.{Change}
use Rattle.star_store.specs.declared.arena.write.Change.TheVariants as change_to
use Rattle.star_store.specs.declared.fault.StoreFault.{StoreFault}
use Rattle.star_store.specs.declared.fault.StoreFault.TheVariants as refused
use Rattle.star_store.specs.Store.{Store, iterations_of, look}
use Rattle.star_store.specs.Key.{key_levels}
use Rattle.star_store.specs.Write.{allowed, change_cell, change_entries, change_items, delete, in_cell, in_store, is_good_key, is_own, key_of, leads_to_container, made_if, may_change, may_write, place_in, put, put_at, suits, taken, write}
use Rattle.star_meaning.specs.Run.{State, agreed}
use Rattle.star_meaning.specs.Program.{Setting, seen}
use Rattle.star_meaning.specs.Values.{change, guard, written}
use Rattle.star_unseen.specs.Veil.{AreVisible, CellIsVisible, Hides, IsVisible, Maybe, VisibleIfThere, PairIsVisible, PairsAreVisible, StateIsVisible}
use Rattle.star_unseen.specs.Shelves.{Veil, with_other}
use Rattle.star_unseen.proofs.Looks.{visible_seen, same_seen}
use Rattle.star_unseen.proofs.Visits.{Looks, same-is_key, same-place_of}
use Rattle.star_unseen.proofs.Alike.{Alike, Any, Ends, alike_agreed, changed_visible}
use Rattle.star_unseen.proofs.Rows.{every_append, every_get, every_insert, every_remove, every_set, maybe_map}

-- the looks of a visible state over the two shelves
pub looks : {w : Setting} (k : Veil w) (s : State) → StateIsVisible k.hides w.home s → Looks k.hides (seen w s) (seen (with_other k.other w) s)
looks k s c = record { agree = λ v h. same_seen k s v h; visible = λ v h. visible_seen k s v c h }

-- a change that puts nothing hidden in
abbrev pub ChangeIsVisible : Hides → Change → Type 0
ChangeIsVisible hides (change_to.Append v) = IsVisible hides v
ChangeIsVisible hides (change_to.Set i v) = IsVisible hides v
ChangeIsVisible hides (change_to.Insert i v) = IsVisible hides v
ChangeIsVisible hides (change_to.RemoveAt i) = Unit {0}
ChangeIsVisible hides change_to.Clear = Unit {0}
ChangeIsVisible hides (change_to.Put k v) = IsVisible hides k × IsVisible hides v
ChangeIsVisible hides (change_to.Delete k) = IsVisible hides k

pub visible-key_of : (hides : Hides) (c : Change) → ChangeIsVisible hides c → VisibleIfThere hides (key_of c)
visible-key_of hides (change_to.Append v) h = tt
visible-key_of hides (change_to.Set i v) h = tt
visible-key_of hides (change_to.Insert i v) h = tt
visible-key_of hides (change_to.RemoveAt i) h = tt
visible-key_of hides change_to.Clear h = tt
visible-key_of hides (change_to.Put k v) h = h.0
visible-key_of hides (change_to.Delete k) h = h

good_key : (hides : Hides) (look other : Value → Option Cell) → Looks hides look other → (o : Option Value) → VisibleIfThere hides o → is_good_key look o ≡ is_good_key other o
good_key hides look other l None h = refl
good_key hides look other l (Some k) h = same-is_key hides look other l key_levels k h

place_same : (hides : Hides) (look other : Value → Option Cell) → Looks hides look other → (o : Option Value) (c : Option Cell) → VisibleIfThere hides o → Maybe (CellIsVisible hides) c → place_in look o c ≡ place_in other o c
place_same hides look other l (Some k) (Some (cell.Dict es)) h d = same-place_of hides look other l k es h d
place_same hides look other l (Some k) (Some (cell.Set es)) h d = same-place_of hides look other l k es h d
place_same hides look other l None c h d = refl
place_same hides look other l (Some k) None h d = refl
place_same hides look other l (Some k) (Some (cell.Text t)) h d = refl
place_same hides look other l (Some k) (Some (cell.Range r)) h d = refl
place_same hides look other l (Some k) (Some (cell.Tuple xs)) h d = refl
place_same hides look other l (Some k) (Some (cell.List xs)) h d = refl
place_same hides look other l (Some k) (Some (cell.Func f)) h d = refl
place_same hides look other l (Some k) (Some (cell.Frame f)) h d = refl
place_same hides look other l (Some k) (Some (cell.Bound m x)) h d = refl
place_same hides look other l (Some k) (Some (cell.Struct fs)) h d = refl

-- ---- what a change leaves is visible

-- an answer of a change: the value replaced or taken out, and what is left
abbrev pub IfVisible : {A : Type 0} → Hides → (A → Type 0) → Result (Option Value × A) StoreFault → Type 0
IfVisible hides P (Ok r) = VisibleIfThere hides r.0 × P r.1
IfVisible hides P (Err f) = Unit {0}

taken_visible : {A : Type 0} (hides : Hides) (P : A → Type 0) (f : StoreFault) (o : Option Value) (a : A) → VisibleIfThere hides o → P a → IfVisible hides P (taken f o a)
taken_visible hides P f None a h p = tt
taken_visible hides P f (Some v) a h p = (h, p)

inserted : (hides : Hides) (b : Bool) (xs ys : List Value) → AreVisible hides ys → IfVisible hides (AreVisible hides) (if b then Err refused.Index else Ok (None, ys))
inserted hides true xs ys h = tt
inserted hides false xs ys h = (tt, h)

items_visible : (hides : Hides) (c : Change) (xs : List Value) → ChangeIsVisible hides c → AreVisible hides xs → IfVisible hides (AreVisible hides) (change_items c xs)
items_visible hides (change_to.Append v) xs h c = (tt, every_append _ xs (v ∷ []) c (h, tt))
items_visible hides (change_to.Set i v) xs h c = taken_visible hides (AreVisible hides) _ (slice_get xs i) (slice_set xs i v) (every_get _ xs i c) (every_set _ xs i v c h)
items_visible hides (change_to.Insert i v) xs h c = inserted hides (nat_lt (length xs) i) xs (insert xs i v) (every_insert _ xs i v c h)
items_visible hides (change_to.RemoveAt i) xs h c = taken_visible hides (AreVisible hides) _ (slice_get xs i) (remove xs i) (every_get _ xs i c) (every_remove _ xs i c)
items_visible hides change_to.Clear xs h c = (tt, tt)
items_visible hides (change_to.Put k v) xs h c = tt
items_visible hides (change_to.Delete k) xs h c = tt

put_at_visible : (hides : Hides) (i : ℕ) (v : Value) (o : Option (Value × Value)) (es : List (Value × Value)) → IsVisible hides v → Maybe (PairIsVisible hides) o → PairsAreVisible hides es → IfVisible hides (PairsAreVisible hides) (put_at i v o es)
put_at_visible hides i v None es h p c = tt
put_at_visible hides i v (Some e) es h p c = (p.1, every_set _ es i (e.0, v) c (p.0, h))

pub put_visible : (hides : Hides) (k v : Value) (place : Option ℕ) (es : List (Value × Value)) → IsVisible hides k → IsVisible hides v → PairsAreVisible hides es → IfVisible hides (PairsAreVisible hides) (put k v place es)
put_visible hides k v None es h l c = (tt, every_append _ es ((k, v) ∷ []) c ((h, l), tt))
put_visible hides k v (Some i) es h l c = put_at_visible hides i v (slice_get es i) es l (every_get _ es i c) c

delete_visible : (hides : Hides) (place : Option ℕ) (es : List (Value × Value)) → PairsAreVisible hides es → IfVisible hides (PairsAreVisible hides) (delete place es)
delete_visible hides None es c = tt
delete_visible hides (Some i) es c = taken_visible hides (PairsAreVisible hides) _ _ (remove es i) (maybe_map (PairIsVisible hides) (IsVisible hides) (λ e. e.1) (λ e p. p.1) (slice_get es i) (every_get _ es i c)) (every_remove _ es i c)

entries_visible : (hides : Hides) (c : Change) (place : Option ℕ) (es : List (Value × Value)) → ChangeIsVisible hides c → PairsAreVisible hides es → IfVisible hides (PairsAreVisible hides) (change_entries c place es)
entries_visible hides (change_to.Put k v) place es h c = put_visible hides k v place es h.0 h.1 c
entries_visible hides (change_to.Delete k) place es h c = delete_visible hides place es c
entries_visible hides change_to.Clear place es h c = (tt, tt)
entries_visible hides (change_to.Append v) place es h c = tt
entries_visible hides (change_to.Set i v) place es h c = tt
entries_visible hides (change_to.Insert i v) place es h c = tt
entries_visible hides (change_to.RemoveAt i) place es h c = tt

into_cell : {A : Type 0} (hides : Hides) (P : A → Type 0) (f : A → Cell) → ((a : A) → P a → CellIsVisible hides (f a)) → (r : Result (Option Value × A) StoreFault) → IfVisible hides P r → IfVisible hides (CellIsVisible hides) (in_cell f r)
into_cell hides P f l (Ok r) h = (h.0, l r.1 h.1)
into_cell hides P f l (Err e) h = tt

cell_changed : (hides : Hides) (c : Change) (place : Option ℕ) (o : Option Cell) → ChangeIsVisible hides c → Maybe (CellIsVisible hides) o → IfVisible hides (CellIsVisible hides) (change_cell c place o)
cell_changed hides c place (Some (cell.List xs)) h d = into_cell hides (AreVisible hides) cell.List (λ a p. p) (change_items c xs) (items_visible hides c xs h d)
cell_changed hides c place (Some (cell.Dict es)) h d = into_cell hides (PairsAreVisible hides) cell.Dict (λ a p. p) (change_entries c place es) (entries_visible hides c place es h d)
cell_changed hides c place (Some (cell.Set es)) h d = into_cell hides (PairsAreVisible hides) cell.Set (λ a p. p) (change_entries c place es) (entries_visible hides c place es h d)
cell_changed hides c place None h d = tt
cell_changed hides c place (Some (cell.Text t)) h d = tt
cell_changed hides c place (Some (cell.Range r)) h d = tt
cell_changed hides c place (Some (cell.Tuple xs)) h d = tt
cell_changed hides c place (Some (cell.Func f)) h d = tt
cell_changed hides c place (Some (cell.Frame f)) h d = tt
cell_changed hides c place (Some (cell.Bound m x)) h d = tt
cell_changed hides c place (Some (cell.Struct fs)) h d = tt

-- ---- the write of a run

by_allowed : (s : Store) (v : Value) (c : Change) (o : Option Cell) (b : Bool) → Result (Unit {0}) StoreFault
by_allowed s v c o b =
    if suits c o then
    (if is_own s v then
    (if nat_eq (iterations_of s v) 0 then
    (if b then Ok tt else Err refused.BadType)
    else Err refused.Iterating)
    else Err refused.Frozen)
    else Err refused.BadType

write_by : (s : Store) (v : Value) (c : Change) (o : Option Cell) (b : Bool) (place : Option ℕ) → Result (Option Value × Store) StoreFault
write_by s v c o b place = made_if (by_allowed s v c o b) (in_store v s (change_cell c place o))

same_write : {w : Setting} (k : Veil w) (s : State) (v : Value) (c : Change) → StateIsVisible k.hides w.home s → IsVisible k.hides v → ChangeIsVisible k.hides c → write s.store w.shelf v c ≡ write s.store k.other.shelf v c
unfolding write_by by_allowed
same_write {w = w} k s v c i h d =
    let l : Looks k.hides (seen w s) (seen (with_other k.other w) s) = looks k s i in
    let good = good_key k.hides (seen w s) (seen (with_other k.other w) s) l (key_of c) (visible-key_of k.hides c d) in
    let place = place_same k.hides (seen w s) (seen (with_other k.other w) s) l (key_of c) (seen w s v) (visible-key_of k.hides c d) (l.visible v h) in
    ap (λ b. write_by s.store v c (seen w s v) b (place_in (seen w s) (key_of c) (seen w s v))) good
    ∙ ap (λ o. write_by s.store v c (seen w s v) (is_good_key (seen (with_other k.other w) s) (key_of c)) o) place
    ∙ ap (λ o. write_by s.store v c o (is_good_key (seen (with_other k.other w) s) (key_of c)) (place_in (seen (with_other k.other w) s) (key_of c) o)) (l.agree v h)

ends_written : {w : Setting} (k : Veil w) (line : ℕ) (s : State) (v : Value) (a : Result (Unit {0}) StoreFault) (r : Result (Option Value × Cell) StoreFault) → StateIsVisible k.hides w.home s → IfVisible k.hides (CellIsVisible k.hides) r
    → Ends k.hides w.home (VisibleIfThere k.hides) (written line (made_if a (in_store v s.store r)) s)
ends_written {w = w} k line s v (Ok x) (Ok r) i h = (h.0, changed_visible k.hides w.home (λ e. record e { cell = r.1 }) (λ e c. h.1) v s i)
ends_written k line s v (Ok x) (Err f) i h = tt
ends_written k line s v (Err f) r i h = tt

pub alike-change : {w : Setting} (k : Veil w) (line : ℕ) (v : Value) (c : Change) → IsVisible k.hides v → ChangeIsVisible k.hides c → Alike k (VisibleIfThere k.hides) (change w line v c) (change (with_other k.other w) line v c)
unfolding change
alike-change {w = w} k line v c h d = record {
  holds = λ s i. (ap (λ r. written line r s) (same_write k s v c i h d), ends_written k line s v (allowed s.store w.shelf v c) _ i (cell_changed k.hides c _ (seen w s v) d (visible_seen k s v i h)));
}

guarded_by : Store → Value → Option Cell → Result (Unit {0}) StoreFault
guarded_by s v o = if leads_to_container o then may_change s v else Err refused.BadType

same_guard : {w : Setting} (k : Veil w) (s : State) (v : Value) → IsVisible k.hides v → may_write s.store w.shelf v ≡ may_write s.store k.other.shelf v
unfolding guarded_by
same_guard k s v h = ap (guarded_by s.store v) (same_seen k s v h)

pub alike-guard : {w : Setting} (k : Veil w) (line : ℕ) (v : Value) → IsVisible k.hides v → Alike k Any (guard w line v) (guard (with_other k.other w) line v)
unfolding guard
alike-guard {w = w} k line v h = record {
  holds = λ s i. let r = (alike_agreed {k = k} Any line (may_write s.store w.shelf v) (λ x e. tt)).holds s i in (ap (λ o. agreed line o s) (same_guard k s v h), r.1);
}
