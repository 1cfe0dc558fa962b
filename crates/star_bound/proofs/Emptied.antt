-- A set that is written as a whole: it is emptied, and what stays of it is put back. What it held pays for that.
use Rattle.std.proofs.Common.{◌≡◌, ℕ, zero, suc, ◌+◌, ◌≤◌, nat_eq, Bool, true, false, List, [], ◌∷◌, length, filter, slice_get, Option, Some, None, cond, if◌then◌else◌, refl, ap, sym, subst, arith, Result, Ok, Err}
use Rattle.std.specs.Option.{option_map}
use Rattle.star_store.specs.declared.values.Value.{Value}
use Rattle.star_store.specs.declared.values.Value.TheVariants as value
use Rattle.star_store.specs.declared.values.Cell.{Cell}
use Rattle.star_store.specs.declared.values.Cell.TheVariants as cell
use Rattle.star_store.specs.declared.values.HeapCell.{HeapCell}
use Rattle.star_store.specs.declared.arena.write.Change.{Change}
use Rattle.star_store.specs.declared.arena.write.Change.TheVariants as change_to
use Rattle.star_store.specs.declared.fault.StoreFault.{StoreFault}
use Rattle.star_store.specs.declared.fault.StoreFault.TheVariants as refused
use Rattle.star_store.specs.Index.{entries_of}
use Rattle.star_store.specs.Store.{Store, Shelf, changed, changed_at, iterations_of, look}
use Rattle.star_store.specs.Write.{allowed, change_cell, in_cell, in_store, is_good_key, is_own, key_of, made_if, place_in, suits}
use Rattle.star_meaning.specs.declared.merge.Merge.{Merge}
use Rattle.star_meaning.specs.declared.merge.Merge.TheVariants as merge
use Rattle.star_meaning.specs.Run.{State}
use Rattle.star_meaning.specs.Program.{Setting, seen}
use Rattle.star_meaning.specs.Subscript.{entries_in}
use Rattle.star_meaning.specs.Values.{change, content, held, written}
use Rattle.star_meaning.specs.Entries.{with_elements}
use Rattle.star_meaning.specs.Sets.{added, keep_only, kept, put_back, put_element, reset, those_in, those_in_all, write_merged}
use Rattle.star_bound.specs.Made.{Within, size, weight, weight_of}
use Rattle.star_bound.proofs.Within.{Bounded, Credited, bounded_all_of, bounded_give, credited_then, within_less, within_then}
use Rattle.star_bound.proofs.Changes as changes
use Rattle.star_bound.proofs.Changes.{change_within, place_now}
use Rattle.star_bound.proofs.Paid.{credited_all, credited_less}
use Rattle.star_bound.proofs.Bounds.{Leaves, within_spared}

-- ---- a cell that weighs less

weight_freed : (f : HeapCell → HeapCell) (cells : List HeapCell) (at k : ℕ) (e : HeapCell) → slice_get cells at ≡ Some e → weight (f e).cell + k ≤ weight e.cell → weight_of (changed_at f cells at) + k ≤ weight_of cells
weight_freed f [] at k e h l = cc
weight_freed f (x ∷ xs) zero k e h l =
    let same : x ≡ e = cc in
    let here : weight (f x).cell + k ≤ weight x.cell = subst (λ (y : HeapCell). weight (f y).cell + k ≤ weight y.cell) (sym same) l in
    omega (arith, here)
weight_freed f (x ∷ xs) (suc at) k e h l = omega (arith, weight_freed f xs at k e h l)

has_cell : (o : Option HeapCell) (c : Cell) → option_map (λ (e : HeapCell). e.cell) o ≡ Some c → (a : HeapCell) × (o ≡ Some a) × (a.cell ≡ c)
has_cell None c h = absurd (let no : ⊥ = cc in no)
has_cell (Some a) c h = (a, refl, cc)

freed_own : (b : Bool) (s : Store) (ps : List HeapCell) (at k : ℕ) (c d : Cell) → b ≡ true → option_map (λ (e : HeapCell). e.cell) (slice_get (if b then s.cells else ps) at) ≡ Some c → weight d + k ≤ weight c
    → weight_of (if b then record s { cells = changed_at (λ e. record e { cell = d }) s.cells at } else s).cells + k ≤ weight_of s.cells
freed_own true s ps at k c d t h l =
    let a = has_cell (slice_get s.cells at) c h in
    weight_freed (λ e. record e { cell = d }) s.cells at k a.0 a.1 (subst (λ (x : Cell). weight d + k ≤ weight x) (sym a.2) l)
freed_own false s ps at k c d t h l = absurd (let no : ⊥ = cc in no)

store_freed : (v : Value) (s : Store) (shelf : Shelf) (c d : Cell) (k : ℕ) → is_own s v ≡ true → look s shelf v ≡ Some c → weight d + k ≤ weight c → weight_of (changed (λ e. record e { cell = d }) v s).cells + k ≤ weight_of s.cells
store_freed (value.Ref home at) s shelf c d k own h l = freed_own (nat_eq home s.home) s _ at k c d own h l
store_freed value.NoneValue s shelf c d k own h l = absurd (let no : ⊥ = cc in no)
store_freed (value.Bool b) s shelf c d k own h l = absurd (let no : ⊥ = cc in no)
store_freed (value.Int n) s shelf c d k own h l = absurd (let no : ⊥ = cc in no)
store_freed (value.Builtin b) s shelf c d k own h l = absurd (let no : ⊥ = cc in no)

-- ---- emptying leaves what was held

owned : (b1 b2 b3 b4 : Bool) (u : Unit {0}) → (if b1 then (if b2 then (if b3 then (if b4 then Ok tt else Err refused.BadType) else Err refused.Iterating) else Err refused.Frozen) else Err refused.BadType) ≡ Ok u → b2 ≡ true
owned true true b3 b4 u h = refl
owned true false b3 b4 u h = absurd (let no : ⊥ = cc in no)
owned false b2 b3 b4 u h = absurd (let no : ⊥ = cc in no)

own_if_allowed : (s : Store) (shelf : Shelf) (v : Value) (c : Change) (u : Unit {0}) → allowed s shelf v c ≡ Ok u → is_own s v ≡ true
own_if_allowed s shelf v c u h = owned (suits c (look s shelf v)) (is_own s v) (nat_eq (iterations_of s v) 0) (is_good_key (look s shelf) (key_of c)) u h

-- a cell alone, and what is left of a cell that was emptied
abbrev alone : Cell → Option Value × Cell
alone c = (None, c)

cleared : {A : Type 0} (f : A → Cell) (a : A) (r : Option Value × Cell) → in_cell f (Ok (None, a)) ≡ Ok r → f a ≡ r.1
cleared f a r h = let e : alone (f a) ≡ r = cc in ap (λ (z : Option Value × Cell). z.1) e

emptied : (place : Option ℕ) (o : Option Cell) (r : Option Value × Cell) → change_cell change_to.Clear place o ≡ Ok r → (c : Cell) × (o ≡ Some c) × (weight r.1 + length (entries_of o) ≤ weight c)
emptied place (Some (cell.List xs)) r h = (cell.List xs, refl, subst (λ (d : Cell). weight d + 0 ≤ 1 + length xs) (cleared cell.List [] r h) (omega arith))
emptied place (Some (cell.Dict es)) r h = (cell.Dict es, refl, subst (λ (d : Cell). weight d + length es ≤ 1 + length es) (cleared cell.Dict [] r h) (omega arith))
emptied place (Some (cell.Set es)) r h = (cell.Set es, refl, subst (λ (d : Cell). weight d + length es ≤ 1 + length es) (cleared cell.Set [] r h) (omega arith))
emptied place (Some (cell.Text t)) r h = absurd (let no : ⊥ = cc in no)
emptied place (Some (cell.Range t)) r h = absurd (let no : ⊥ = cc in no)
emptied place (Some (cell.Tuple t)) r h = absurd (let no : ⊥ = cc in no)
emptied place (Some (cell.Func t)) r h = absurd (let no : ⊥ = cc in no)
emptied place (Some (cell.Frame t)) r h = absurd (let no : ⊥ = cc in no)
emptied place (Some (cell.Bound m v)) r h = absurd (let no : ⊥ = cc in no)
emptied place (Some (cell.Struct fs)) r h = absurd (let no : ⊥ = cc in no)
emptied place None r h = absurd (let no : ⊥ = cc in no)

written_leaves : (p : Result (Unit {0}) StoreFault) (d : Result (Option Value × Cell) StoreFault) (v : Value) (shelf : Shelf) (line k : ℕ) (s : State)
    → ((u : Unit {0}) (r : Option Value × Cell) → p ≡ Ok u → d ≡ Ok r → (is_own s.store v ≡ true) × (c : Cell) × (look s.store shelf v ≡ Some c) × (weight r.1 + k ≤ weight c))
    → Leaves (λ (x : Option Value). k) (size s + s.steps) (written line (made_if p (in_store v s.store d)) s)
written_leaves (Ok u) (Ok r) v shelf line k s h =
    let it = h u r refl refl in
    let less : weight_of (changed (λ e. record e { cell = r.1 }) v s.store).cells + k ≤ weight_of s.store.cells = store_freed v s.store shelf it.1 r.1 k it.0 it.2 it.3 in
    omega (arith, less)
written_leaves (Ok u) (Err f) v shelf line k s h = omega arith
written_leaves (Err f) d v shelf line k s h = omega arith

clear_leaves : (w : Setting) (line : ℕ) (v : Value) (s : State) → Leaves (λ (x : Option Value). length (entries_of (look s.store w.shelf v))) (size s + s.steps) (change w line v change_to.Clear s)
unfolding change
clear_leaves w line v s =
    let o = look s.store w.shelf v in
    written_leaves (allowed s.store w.shelf v change_to.Clear) _ v w.shelf line (length (entries_of o)) s
    (λ u r p d. (let it = emptied (place_in (look s.store w.shelf) None o) o r d in (own_if_allowed s.store w.shelf v change_to.Clear u p, it.0, it.1, it.2)))

held_entries : (o : Option Cell) → entries_in (held o) ≡ entries_of o
held_entries (Some (cell.Dict es)) = refl
held_entries (Some (cell.Set es)) = refl
held_entries (Some (cell.Text t)) = refl
held_entries (Some (cell.Range r)) = refl
held_entries (Some (cell.Tuple xs)) = refl
held_entries (Some (cell.List xs)) = refl
held_entries (Some (cell.Func f)) = refl
held_entries (Some (cell.Frame f)) = refl
held_entries (Some (cell.Bound m v)) = refl
held_entries (Some (cell.Struct fs)) = refl
held_entries None = refl

entries_same : (w : Setting) (s : State) (v : Value) → entries_in (content w s v) ≡ entries_of (look s.store w.shelf v)
entries_same w s value.NoneValue = refl
entries_same w s (value.Bool b) = refl
entries_same w s (value.Int n) = refl
entries_same w s (value.Builtin b) = refl
entries_same w s (value.Ref h a) = held_entries (seen w s (value.Ref h a))

-- ---- putting back

put_one : (k v : Value) (place : Option ℕ) → changes.added (change_to.Put k v) place ≤ 1
put_one k v None = omega arith
put_one k v (Some i) = omega arith

credited_put_back : (w : Setting) (line : ℕ) (v : Value) (e : Value × Value) → Credited 1 (put_back w line v e)
credited_put_back w line v e =
    credited_then 1 _ _
    (record { holds = λ s. within_less (size s + s.steps + changes.added (change_to.Put e.0 e.1) (place_now w s v (change_to.Put e.0 e.1))) (size s + s.steps + 1) _ (omega (arith, put_one e.0 e.1 (place_now w s v (change_to.Put e.0 e.1)))) (change_within w line v (change_to.Put e.0 e.1) s) })
    (λ _. bounded_give {A = Unit {0}} tt)

reset_within : (w : Setting) (line : ℕ) (v : Value) (fs : List (Value × Value)) (s : State) → length fs ≤ length (entries_in (content w s v)) → Within (size s + s.steps) (reset w line v fs s)
reset_within w line v fs s h =
    let k = length (entries_of (look s.store w.shelf v)) in
    let same : length (entries_in (content w s v)) ≡ k = ap length (entries_same w s v) in
    within_spared (size s + s.steps) (λ (x : Option Value). k) (change w line v change_to.Clear s) _ (clear_leaves w line v s)
    (λ _. credited_less (length fs) k _ (omega (arith, h, same)) (credited_all (put_back w line v) fs (credited_put_back w line v)))

-- ---- what stays is no more

choice_less : {A : Type 0} (b : Bool) (x : A) (ys : List A) (n : ℕ) → length ys ≤ n → length (cond b (x ∷ ys) ys) ≤ suc n
choice_less true x ys n h = omega (arith, h)
choice_less false x ys n h = omega (arith, h)

filter_less : {A : Type 0} (f : A → Bool) (xs : List A) → length (filter f xs) ≤ length xs
filter_less f [] = omega arith
filter_less f (x ∷ xs) = choice_less (f x) x (filter f xs) (length xs) (filter_less f xs)

in_all_less : (w : Setting) (s : State) (es : List (Value × Value)) (xss : List (List Value)) → length (those_in_all w s es xss) ≤ length es
in_all_less w s es [] = omega arith
in_all_less w s es (xs ∷ xss) =
    let more = in_all_less w s (those_in w s (with_elements w s [] xs) es) xss in
    let less : length (those_in w s (with_elements w s [] xs) es) ≤ length es = filter_less _ es in
    omega (arith, more, less)

kept_less : (w : Setting) (s : State) (m : Merge) (es : List (Value × Value)) (xss : List (List Value)) → length (kept w s m es xss) ≤ length es
kept_less w s merge.Union es xss = omega arith
kept_less w s merge.Intersection es xss = in_all_less w s es xss
kept_less w s merge.Difference es xss = filter_less _ es
kept_less w s merge.SymmetricDifference es xss = filter_less _ es

keep_within : (w : Setting) (line : ℕ) (v : Value) (m : Merge) (fs : List (Value × Value)) (s : State) → length fs ≤ length (entries_in (content w s v)) → Within (size s + s.steps) (keep_only w line v m fs s)
keep_within w line v merge.Union fs s h = (bounded_give {A = Unit {0}} tt).holds s
keep_within w line v merge.Intersection fs s h = reset_within w line v fs s h
keep_within w line v merge.Difference fs s h = reset_within w line v fs s h
keep_within w line v merge.SymmetricDifference fs s h = reset_within w line v fs s h

pub write_within : (w : Setting) (line : ℕ) (v : Value) (m : Merge) (xss : List (List Value)) (s : State) → ((x : Value) → Bounded (put_element w line v x))
    → Within (size s + s.steps) (write_merged w line v (kept w s m (entries_in (content w s v)) xss) (added w s m (entries_in (content w s v)) xss) m s)
write_within w line v m xss s k =
    let es = entries_in (content w s v) in
    within_then (size s + s.steps) (keep_only w line v m (kept w s m es xss) s) _ (keep_within w line v m (kept w s m es xss) s (kept_less w s m es xss))
    (λ _. bounded_all_of (put_element w line v) (added w s m es xss) k)
