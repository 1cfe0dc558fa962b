-- How many cells a store has after a change of one of them.
use Rattle.std.proofs.Common.{◌≡◌, ℕ, zero, suc, nat_eq, Bool, true, false, List, [], ◌∷◌, length, Option, Result, Ok, Err, refl, ap, sym, ◌∙◌, if◌then◌else◌}
use Rattle.star_store.specs.declared.values.Value.{Value}
use Rattle.star_store.specs.declared.values.Value.TheVariants as value
use Rattle.star_store.specs.declared.values.Cell.{Cell}
use Rattle.star_store.specs.declared.values.HeapCell.{HeapCell}
use Rattle.star_store.specs.declared.arena.write.Change.{Change}
use Rattle.star_store.specs.declared.fault.StoreFault.{StoreFault}
use Rattle.star_store.specs.Store.{Store, Shelf, bound, bound_cell, changed_at, changed, closed, closed_in, opened, opened_in, look}
use Rattle.star_store.specs.Write.{write, made_if, in_store, allowed, change_cell, place_in, key_of}

length_changed_at : (f : HeapCell → HeapCell) (cells : List HeapCell) (at : ℕ) → length (changed_at f cells at) ≡ length cells
length_changed_at f [] at = refl
length_changed_at f (e ∷ es) zero = refl
length_changed_at f (e ∷ es) (suc at) = ap suc (length_changed_at f es at)

length_if : (f : HeapCell → HeapCell) (at : ℕ) (s : Store) (b : Bool) → length (if b then record s { cells = changed_at f s.cells at } else s).cells ≡ length s.cells
length_if f at s true = length_changed_at f s.cells at
length_if f at s false = refl

pub length_changed : (f : HeapCell → HeapCell) (v : Value) (s : Store) → length (changed f v s).cells ≡ length s.cells
length_changed f (value.Ref home at) s = length_if f at s (nat_eq home s.home)
length_changed f value.NoneValue s = refl
length_changed f (value.Bool b) s = refl
length_changed f (value.Int n) s = refl
length_changed f (value.Builtin b) s = refl

pub length_closed : (v : Value) (s : Store) → length (closed v s).cells ≡ length s.cells
length_closed v s = length_changed closed_in v s

store_of : Store → Result (Option Value × Store) StoreFault → Store
store_of s (Ok r) = r.1
store_of s (Err f) = s

in_store_length : (v : Value) (s : Store) (o : Result (Option Value × Cell) StoreFault) → length (store_of s (in_store v s o)).cells ≡ length s.cells
unfolding store_of
in_store_length v s (Ok r) = length_changed (λ (c : HeapCell). record c { cell = r.1 }) v s
in_store_length v s (Err f) = refl

in_store_keeps : (v : Value) (s t : Store) (o : Result (Option Value × Cell) StoreFault) (x : Option Value) → in_store v s o ≡ Ok (x, t) → length t.cells ≡ length s.cells
unfolding store_of
in_store_keeps v s t o x h = sym (ap (λ r. length (store_of s r).cells) h) ∙ in_store_length v s o

made_if_keeps : (v : Value) (s t : Store) (a : Result (Unit {0}) StoreFault) (o : Result (Option Value × Cell) StoreFault) (x : Option Value) → made_if a (in_store v s o) ≡ Ok (x, t) → length t.cells ≡ length s.cells
made_if_keeps v s t (Ok _) o x h = in_store_keeps v s t o x h
made_if_keeps v s t (Err f) o x h = cc

pub length_written : (s : Store) (shelf : Shelf) (v : Value) (c : Change) (x : Option Value) (t : Store) → write s shelf v c ≡ Ok (x, t) → length t.cells ≡ length s.cells
length_written s shelf v c x t h = made_if_keeps v s t (allowed s shelf v c) (change_cell c (place_in (look s shelf) (key_of c) (look s shelf v)) (look s shelf v)) x h

pub length_opened : (v : Value) (s : Store) → length (opened v s).cells ≡ length s.cells
length_opened v s = length_changed opened_in v s

pub length_bound : (frame : Value) (slot : ℕ) (v : Value) (s : Store) → length (bound frame slot v s).cells ≡ length s.cells
length_bound frame slot v s = length_changed (λ (e : HeapCell). record e { cell = bound_cell slot v e.cell }) frame s
