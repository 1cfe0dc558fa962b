-- Keys differ after each change of a dictionary.
use Rattle.std.proofs.Common.{◌≡◌, ◌⊎◌, inl, inr, ℕ, Bool, true, false, List, [], ◌∷◌, ◌++◌, slice_get, slice_set, Option, Some, None, if◌then◌else◌, refl, ap, subst, ◌∙◌, nat_eq, Result, Ok, Err}
use Rattle.std.specs.List.{remove}
use Rattle.std.specs.Option.{option_map}
use Rattle.star_store.specs.declared.values.Value.{Value}
use Rattle.star_store.specs.declared.values.Cell.{Cell}
use Rattle.star_store.specs.declared.values.Cell.TheVariants as cell
use Rattle.star_store.specs.declared.values.HeapCell.{HeapCell}
use Rattle.star_store.specs.declared.arena.write.Change.{Change}
use Rattle.star_store.specs.declared.arena.write.Change.TheVariants as change_to
use Rattle.star_store.specs.declared.fault.StoreFault.{StoreFault}
use Rattle.star_store.specs.declared.fault.StoreFault.TheVariants as refused
use Rattle.star_store.specs.Key.{key_levels, place_of}
use Rattle.star_store.specs.Store.{changed, iterations_of, look}
use Rattle.star_store.specs.Write.{allowed, change_cell, change_entries, change_items, delete, in_cell, in_store, is_good_key, is_own, key_of, made_if, place_in, put, put_at, suits, taken}
use Rattle.star_meaning.specs.Program.{Setting, seen}
use Rattle.star_meaning.specs.Run.{Done, Failed, Outcome, State}
use Rattle.star_meaning.specs.Values.{written}
use Rattle.star_meaning.proofs.Stays as stays
use Rattle.star_once.specs.Keys.{Differ, IsThere, KeysDiffer}
use Rattle.star_once.proofs.Keys.{absent, differ_append, differ_remove, differ_set, is_there}
use Rattle.star_once.proofs.Stores.{after_step, changed_look, stays_seen}

-- the keys of the entries that a change leaves differ
abbrev DifferIn : (Value → Option Cell) → Result (Option Value × List (Value × Value)) StoreFault → Type 0
DifferIn look o = (r : Option Value × List (Value × Value)) → o ≡ Ok r → Differ look r.1

put_there : (look : Value → Option Cell) (v : Value) (i : ℕ) (es : List (Value × Value)) (o : Option (Value × Value)) → slice_get es i ≡ o → Differ look es → DifferIn look (put_at i v o es)
put_there look v i es None at d = λ r e. absurd (let no : ⊥ = cc in no)
put_there look v i es (Some x) at d = λ r e.
    let same : (Some x.1, slice_set es i (x.0, v)) ≡ r = cc in
    subst (λ (z : Option Value × List (Value × Value)). Differ look z.1) same (differ_set look v es i x at d)

pub put_in : (look : Value → Option Cell) (k v : Value) (es : List (Value × Value)) (o : Option ℕ) → IsThere look k → place_of look k es ≡ o → Differ look es → DifferIn look (put k v o es)
put_in look k v es None there at d = λ r e.
    let same : (None, es ++ (k, v) ∷ []) ≡ r = cc in
    subst (λ (z : Option Value × List (Value × Value)). Differ look z.1) same (differ_append look k v es d there (absent look k es at))
put_in look k v es (Some i) there at d = put_there look v i es (slice_get es i) refl d

taken_out : (look : Value → Option Cell) (o : Option Value) (es : List (Value × Value)) → Differ look es → DifferIn look (taken refused.Key o es)
taken_out look None es d = λ r e. absurd (let no : ⊥ = cc in no)
taken_out look (Some v) es d = λ r e. let same : (Some v, es) ≡ r = cc in subst (λ (z : Option Value × List (Value × Value)). Differ look z.1) same d

delete_in : (look : Value → Option Cell) (es : List (Value × Value)) (o : Option ℕ) → Differ look es → DifferIn look (delete o es)
delete_in look es None d = λ r e. absurd (let no : ⊥ = cc in no)
delete_in look es (Some i) d = taken_out look (option_map (λ e. e.1) (slice_get es i)) (remove es i) (differ_remove look es i d)

change_in : (look : Value → Option Cell) (c : Change) (es : List (Value × Value)) → is_good_key look (key_of c) ≡ true → Differ look es → DifferIn look (change_entries c (place_in look (key_of c) (Some (cell.Dict es))) es)
change_in look (change_to.Put k v) es good d = put_in look k v es (place_of look k es) (is_there look key_levels k good) refl d
change_in look (change_to.Delete k) es good d = delete_in look es (place_of look k es) d
change_in look change_to.Clear es good d = λ r e. let same : (None, []) ≡ r = cc in subst (λ (z : Option Value × List (Value × Value)). Differ look z.1) same tt
change_in look (change_to.Append v) es good d = λ r e. absurd (let no : ⊥ = cc in no)
change_in look (change_to.Set i v) es good d = λ r e. absurd (let no : ⊥ = cc in no)
change_in look (change_to.Insert i v) es good d = λ r e. absurd (let no : ⊥ = cc in no)
change_in look (change_to.RemoveAt i) es good d = λ r e. absurd (let no : ⊥ = cc in no)

-- the entries of a dictionary that a change made
in_list : (o : Result (Option Value × List Value) StoreFault) (x : Option Value) (es : List (Value × Value)) → in_cell cell.List o ≡ Ok (x, cell.Dict es) → ⊥
in_list (Ok q) x es h = let e : (q.0, cell.List q.1) ≡ (x, cell.Dict es) = cc in let f : cell.List q.1 ≡ cell.Dict es = ap (λ (z : Option Value × Cell). z.1) e in let no : ⊥ = cc in no
in_list (Err f) x es h = let no : ⊥ = cc in no

in_set : (o : Result (Option Value × List (Value × Value)) StoreFault) (x : Option Value) (es : List (Value × Value)) → in_cell cell.Set o ≡ Ok (x, cell.Dict es) → ⊥
in_set (Ok q) x es h = let e : (q.0, cell.Set q.1) ≡ (x, cell.Dict es) = cc in let f : cell.Set q.1 ≡ cell.Dict es = ap (λ (z : Option Value × Cell). z.1) e in let no : ⊥ = cc in no
in_set (Err f) x es h = let no : ⊥ = cc in no

in_dict : (look : Value → Option Cell) (o : Result (Option Value × List (Value × Value)) StoreFault) (x : Option Value) (es : List (Value × Value)) → DifferIn look o → in_cell cell.Dict o ≡ Ok (x, cell.Dict es) → Differ look es
in_dict look (Ok q) x es d h = let e : (q.0, cell.Dict q.1) ≡ (x, cell.Dict es) = cc in let f : cell.Dict q.1 ≡ cell.Dict es = ap (λ (z : Option Value × Cell). z.1) e in let same : q.1 ≡ es = cc in subst (Differ look) same (d q refl)
in_dict look (Err f) x es d h = absurd (let no : ⊥ = cc in no)

entries_differ : (look : Value → Option Cell) (c : Change) (o : Option Cell) (x : Option Value) (es : List (Value × Value)) → is_good_key look (key_of c) ≡ true → ((fs : List (Value × Value)) → o ≡ Some (cell.Dict fs) → Differ look fs) → change_cell c (place_in look (key_of c) o) o ≡ Ok (x, cell.Dict es) → Differ look es
entries_differ look c (Some (cell.List xs)) x es good d h = absurd (in_list (change_items c xs) x es h)
entries_differ look c (Some (cell.Dict fs)) x es good d h = in_dict look (change_entries c (place_in look (key_of c) (Some (cell.Dict fs))) fs) x es (change_in look c fs good (d fs refl)) h
entries_differ look c (Some (cell.Set fs)) x es good d h = absurd (in_set (change_entries c (place_in look (key_of c) (Some (cell.Set fs))) fs) x es h)
entries_differ look c (Some (cell.Text t)) x es good d h = absurd (let no : ⊥ = cc in no)
entries_differ look c (Some (cell.Tuple t)) x es good d h = absurd (let no : ⊥ = cc in no)
entries_differ look c (Some (cell.Range t)) x es good d h = absurd (let no : ⊥ = cc in no)
entries_differ look c (Some (cell.Func t)) x es good d h = absurd (let no : ⊥ = cc in no)
entries_differ look c (Some (cell.Frame t)) x es good d h = absurd (let no : ⊥ = cc in no)
entries_differ look c (Some (cell.Bound m t)) x es good d h = absurd (let no : ⊥ = cc in no)
entries_differ look c (Some (cell.Struct t)) x es good d h = absurd (let no : ⊥ = cc in no)
entries_differ look c None x es good d h = absurd (let no : ⊥ = cc in no)

good_key : (b1 b2 b3 b4 : Bool) (u : Unit {0}) → (if b1 then (if b2 then (if b3 then (if b4 then Ok tt else Err refused.BadType) else Err refused.Iterating) else Err refused.Frozen) else Err refused.BadType) ≡ Ok u → b4 ≡ true
good_key true true true true u h = refl
good_key true true true false u h = absurd (let no : ⊥ = cc in no)
good_key true true false b4 u h = absurd (let no : ⊥ = cc in no)
good_key true false b3 b4 u h = absurd (let no : ⊥ = cc in no)
good_key false b2 b3 b4 u h = absurd (let no : ⊥ = cc in no)

-- after a step that ends well keys differ
abbrev pub Held : {A : Type 0} → Setting → Outcome A → Type 0
Held w (Done x t) = KeysDiffer w t
Held w (Failed f lines) = Unit {0}

written_differ : (w : Setting) (line : ℕ) (v : Value) (s : State) (p : Result (Unit {0}) StoreFault) (d : Result (Option Value × Cell) StoreFault)
    → KeysDiffer w s → ((u : Unit {0}) (x : Option Value) (es : List (Value × Value)) → p ≡ Ok u → d ≡ Ok (x, cell.Dict es) → Differ (seen w s) es)
    → stays.Preserved s (written line (made_if p (in_store v s.store d)) s) → Held w (written line (made_if p (in_store v s.store d)) s)
written_differ w line v s (Ok u) (Ok r) h ok k =
    after_step w s (record s { store = changed (λ e. record e { cell = r.1 }) v s.store }) h (stays_seen w s (record s { store = changed (λ e. record e { cell = r.1 }) v s.store }) k) (λ x es e. by x es (changed_look (λ e. record e { cell = r.1 }) v s.store w.shelf x (cell.Dict es) e))
  where
    by : (x : Value) (es : List (Value × Value)) → (a : HeapCell) × (look s.store w.shelf x ≡ Some a.cell) × ((a.cell ≡ cell.Dict es) ⊎ (r.1 ≡ cell.Dict es)) → (seen w s x ≡ Some (cell.Dict es)) ⊎ Differ (seen w s) es
    by x es (a, there, inl old) = inl (there ∙ ap Some old)
    by x es (a, there, inr new) = inr (ok u r.0 es refl (ap (λ z. Ok (r.0, z)) new))
written_differ w line v s (Ok u) (Err f) h ok k = tt
written_differ w line v s (Err f) d h ok k = tt

pub write_differs : (w : Setting) (line : ℕ) (v : Value) (c : Change) (s : State) → KeysDiffer w s
    → stays.Preserved s (written line (made_if (allowed s.store w.shelf v c) (in_store v s.store (change_cell c (place_in (look s.store w.shelf) (key_of c) (look s.store w.shelf v)) (look s.store w.shelf v)))) s)
    → Held w (written line (made_if (allowed s.store w.shelf v c) (in_store v s.store (change_cell c (place_in (look s.store w.shelf) (key_of c) (look s.store w.shelf v)) (look s.store w.shelf v)))) s)
write_differs w line v c s h k = written_differ w line v s (allowed s.store w.shelf v c) (change_cell c (place_in (look s.store w.shelf) (key_of c) (look s.store w.shelf v)) (look s.store w.shelf v)) h
    (λ u x es p d. entries_differ (seen w s) c (look s.store w.shelf v) x es (good_key (suits c (look s.store w.shelf v)) (is_own s.store v) (nat_eq (iterations_of s.store v) 0) (is_good_key (look s.store w.shelf) (key_of c)) u p) (λ fs e. h v fs e) d) k
