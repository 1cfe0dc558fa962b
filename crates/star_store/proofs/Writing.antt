-- Laws of writes: a cell that is changed among its cells.
use Rattle.std.proofs.Common.{◌≡◌, ℕ, zero, suc, ◌<◌, ◌≤◌, List, [], ◌∷◌, length, get_or, set, Option, Some, slice_get, Result, Ok, Err, Bool, true, false, nat_eq, if◌then◌else◌, refl, ap, subst, sym, ◌∙◌, arith}
use Rattle.std.specs.Option.{option_map}
use Rattle.std.proofs.lemmas.Option.{slice_get_past}
use Rattle.star_store.specs.declared.values.Value.{Value}
use Rattle.star_store.specs.declared.values.Value.TheVariants as value
use Rattle.star_store.specs.declared.values.Cell.{Cell}
use Rattle.star_store.specs.declared.values.HeapCell.{HeapCell}
use Rattle.star_store.specs.declared.arena.write.Change.{Change}
use Rattle.star_store.specs.declared.fault.StoreFault.{StoreFault}
use Rattle.star_store.specs.declared.fault.StoreFault.TheVariants.{Frozen, Iterating, BadType, Index, Key, Overflow, Memory, Steps, Deep}
use Rattle.star_store.specs.Store.{Store, Shelf, changed_at, look, published_cells}
use Rattle.star_store.specs.Write.{Writes, allowed, cell_at, change_cell, in_cells, in_store, key_of, made_if, place_in, write}
use Rattle.star_store.proofs.Store.{written}

set_same : (cells : List HeapCell) (at : ℕ) (e : HeapCell) → e ≡ get_or cells at e → set cells at e ≡ cells
set_same [] at e h = refl
set_same (x ∷ xs) zero e h = ap (λ y. y ∷ xs) h
set_same (x ∷ xs) (suc at) e h = ap (λ ys. x ∷ ys) (set_same xs at e h)

same_cell : (e e' : HeapCell) → e'.iterations ≡ e.iterations → e'.cell ≡ e.cell → e' ≡ e
same_cell e e' h k = ap (λ i. record { iterations = i; cell = e'.cell }) h ∙ ap (λ c. record { iterations = e.iterations; cell = c }) k

new_cell : (e e' : HeapCell) → e'.iterations ≡ e.iterations → e' ≡ record e { cell = e'.cell }
new_cell e e' h = ap (λ i. record { iterations = i; cell = e'.cell }) h

kept : (cells : List HeapCell) (at : ℕ) (e e' : HeapCell) → e ≡ get_or cells at e → e'.iterations ≡ e.iterations → e'.cell ≡ e.cell → set cells at e' ≡ cells
kept cells at e e' k h q = ap (set cells at) (same_cell e e' h q) ∙ set_same cells at e k

refused : (f : StoreFault) (o : Result (Option Value × Cell) StoreFault) (cells : List HeapCell) (at : ℕ) (e e' : HeapCell) → e ≡ get_or cells at e → e'.iterations ≡ e.iterations → (o ≡ Err f) × (e'.cell ≡ e.cell) → (in_cells cells at o ≡ Err f) × (set cells at e' ≡ cells)
refused f o cells at e e' k h w = (ap (in_cells cells at) w.0, kept cells at e e' k h w.1)

cells_written : (o : Result (Option Value × Cell) StoreFault) (r : Result (Option Value) StoreFault) (cells : List HeapCell) (at : ℕ) (e e' : HeapCell) → at < length cells → e ≡ get_or cells at e → e'.iterations ≡ e.iterations → Writes o r e.cell e'.cell → Writes (in_cells cells at o) r cells (set cells at e')
cells_written o (Ok x) cells at e e' m k h w =
    ap (in_cells cells at) w ∙ ap (λ cs. Ok (x, cs)) (sym (written (λ (d : HeapCell). record d { cell = e'.cell }) cells at e e' m k (new_cell e e' h)))
cells_written o (Err Memory) cells at e e' m k h w = kept cells at e e' k h w
cells_written o (Err Frozen) cells at e e' m k h w = refused Frozen o cells at e e' k h w
cells_written o (Err Iterating) cells at e e' m k h w = refused Iterating o cells at e e' k h w
cells_written o (Err BadType) cells at e e' m k h w = refused BadType o cells at e e' k h w
cells_written o (Err Index) cells at e e' m k h w = refused Index o cells at e e' k h w
cells_written o (Err Key) cells at e e' m k h w = refused Key o cells at e e' k h w
cells_written o (Err Overflow) cells at e e' m k h w = refused Overflow o cells at e e' k h w
cells_written o (Err Steps) cells at e e' m k h w = refused Steps o cells at e e' k h w
cells_written o (Err Deep) cells at e e' m k h w = refused Deep o cells at e e' k h w

cell_at_in : (cells : List HeapCell) (at : ℕ) (e : HeapCell) → at < length cells → e ≡ get_or cells at e → cell_at cells at ≡ Some e.cell
cell_at_in [] at e m k = absurd (omega arith)
cell_at_in (x ∷ xs) zero e m k = ap (λ d. Some d.cell) (sym k)
cell_at_in (x ∷ xs) (suc at) e m k = cell_at_in xs at e (omega arith) k

-- the change of a cell is the change among the cells
pub changed_within : (c : Change) (place : Option ℕ) (r : Result (Option Value) StoreFault) (cells : List HeapCell) (at : ℕ) (e e' : HeapCell) → at < length cells → e ≡ get_or cells at e → e'.iterations ≡ (get_or cells at e).iterations → Writes (change_cell c place (Some (get_or cells at e).cell)) r (get_or cells at e).cell e'.cell → Writes (in_cells cells at (change_cell c place (cell_at cells at))) r cells (set cells at e')
changed_within c place r cells at e e' m k h w =
    let h' : e'.iterations ≡ e.iterations = subst (λ (d : HeapCell). e'.iterations ≡ d.iterations) (sym k) h in
    let w' : Writes (change_cell c place (Some e.cell)) r e.cell e'.cell = subst (λ (d : HeapCell). Writes (change_cell c place (Some d.cell)) r d.cell e'.cell) (sym k) w in
    subst (λ (o : Option Cell). Writes (in_cells cells at (change_cell c place o)) r cells (set cells at e')) (sym (cell_at_in cells at e m k))
    (cells_written (change_cell c place (Some e.cell)) r cells at e e' m k h' w')

-- without such a cell, a change is refused
pub changed_without : (c : Change) (place : Option ℕ) (cells : List HeapCell) (at : ℕ) → length cells ≤ at → in_cells cells at (change_cell c place (cell_at cells at)) ≡ Err BadType
changed_without c place cells at h = ap (λ (o : Option HeapCell). in_cells cells at (change_cell c place (option_map (λ e. e.cell) o))) (slice_get_past cells at h)

-- an answer with the cells back in their store
lift : Store → Result (Option Value × List HeapCell) StoreFault → Result (Option Value × Store) StoreFault
lift s (Ok q) = Ok (q.0, record s { cells = q.1 })
lift s (Err f) = Err f

stored : (s : Store) (home at : ℕ) (o : Result (Option Value × Cell) StoreFault) → nat_eq home s.home ≡ true → in_store (value.Ref home at) s o ≡ lift s (in_cells s.cells at o)
unfolding lift
stored s home at (Ok p) own = ap (λ (b : Bool). Ok (p.0, (if b then record s { cells = changed_at (λ (e : HeapCell). record e { cell = p.1 }) s.cells at } else s))) own
stored s home at (Err f) own = refl

turned_down : (s : Store) (f : StoreFault) (o : Result (Option Value × List HeapCell) StoreFault) (cells : List HeapCell) → (o ≡ Err f) × (cells ≡ s.cells) → (lift s o ≡ Err f) × (record s { cells = cells } ≡ s)
unfolding lift
turned_down s f o cells w = (ap (lift s) w.0, ap (λ (cs : List HeapCell). record s { cells = cs }) w.1)

lifted : (s : Store) (o : Result (Option Value × List HeapCell) StoreFault) (r : Result (Option Value) StoreFault) (cells : List HeapCell) → Writes o r s.cells cells → Writes (lift s o) r s (record s { cells = cells })
unfolding lift
lifted s o (Ok x) cells w = ap (lift s) w
lifted s o (Err Memory) cells w = ap (λ (cs : List HeapCell). record s { cells = cs }) w
lifted s o (Err Frozen) cells w = turned_down s Frozen o cells w
lifted s o (Err Iterating) cells w = turned_down s Iterating o cells w
lifted s o (Err BadType) cells w = turned_down s BadType o cells w
lifted s o (Err Index) cells w = turned_down s Index o cells w
lifted s o (Err Key) cells w = turned_down s Key o cells w
lifted s o (Err Overflow) cells w = turned_down s Overflow o cells w
lifted s o (Err Steps) cells w = turned_down s Steps o cells w
lifted s o (Err Deep) cells w = turned_down s Deep o cells w

own_of : (a b : Bool) (x : Result (Unit {0}) StoreFault) → (if a then (if b then x else Err Frozen) else Err BadType) ≡ Ok tt → b ≡ true
own_of true true x h = refl
own_of true false x h = cc
own_of false b x h = cc

look_own : (s : Store) (shelf : Shelf) (home at : ℕ) → nat_eq home s.home ≡ true → look s shelf (value.Ref home at) ≡ cell_at s.cells at
look_own s shelf home at own = ap (λ (b : Bool). option_map (λ (e : HeapCell). e.cell) (slice_get (if b then s.cells else published_cells (slice_get shelf home)) at)) own

written_ref : (s : Store) (shelf : Shelf) (c : Change) (home at : ℕ) (r : Result (Option Value) StoreFault) (place : Option ℕ) (cells : List HeapCell) → allowed s shelf (value.Ref home at) c ≡ Ok tt → place ≡ place_in (look s shelf) (key_of c) (look s shelf (value.Ref home at)) → Writes (in_cells s.cells at (change_cell c place (cell_at s.cells at))) r s.cells cells → Writes (write s shelf (value.Ref home at) c) r s (record s { cells = cells })
written_ref s shelf c home at r place cells ha hp w =
    let own : nat_eq home s.home ≡ true = own_of _ _ _ ha in
    let here : look s shelf (value.Ref home at) ≡ cell_at s.cells at = look_own s shelf home at own in
    let done : Writes (in_store (value.Ref home at) s (change_cell c place (cell_at s.cells at))) r s (record s { cells = cells }) =
    subst (λ (o : Result (Option Value × Store) StoreFault). Writes o r s (record s { cells = cells })) (sym (stored s home at (change_cell c place (cell_at s.cells at)) own)) (lifted s (in_cells s.cells at (change_cell c place (cell_at s.cells at))) r cells w) in
    let seen : Writes (in_store (value.Ref home at) s (change_cell c place (look s shelf (value.Ref home at)))) r s (record s { cells = cells }) =
    subst (λ (o : Option Cell). Writes (in_store (value.Ref home at) s (change_cell c place o)) r s (record s { cells = cells })) (sym here) done in
    let placed : Writes (in_store (value.Ref home at) s (change_cell c (place_in (look s shelf) (key_of c) (look s shelf (value.Ref home at))) (look s shelf (value.Ref home at)))) r s (record s { cells = cells }) =
    subst (λ (p : Option ℕ). Writes (in_store (value.Ref home at) s (change_cell c p (look s shelf (value.Ref home at)))) r s (record s { cells = cells })) hp seen in
    subst (λ (a : Result (Unit {0}) StoreFault). Writes (made_if a (in_store (value.Ref home at) s (change_cell c (place_in (look s shelf) (key_of c) (look s shelf (value.Ref home at))) (look s shelf (value.Ref home at))))) r s (record s { cells = cells })) (sym ha) placed

-- an allowed write of a cell of the store's own is a write of the store
pub write_done : (s : Store) (shelf : Shelf) (v : Value) (c : Change) (home at : ℕ) (r : Result (Option Value) StoreFault) (place : Option ℕ) (cells : List HeapCell) → v ≡ value.Ref home at → allowed s shelf v c ≡ Ok tt → place ≡ place_in (look s shelf) (key_of c) (look s shelf v) → Writes (in_cells s.cells at (change_cell c place (cell_at s.cells at))) r s.cells cells → Writes (write s shelf v c) r s (record s { cells = cells })
write_done s shelf v c home at r place cells e ha hp w =
    subst (λ (u : Value). allowed s shelf u c ≡ Ok tt → place ≡ place_in (look s shelf) (key_of c) (look s shelf u) → Writes (write s shelf u c) r s (record s { cells = cells })) (sym e) (λ ha' hp'. written_ref s shelf c home at r place cells ha' hp' w) ha hp

-- the same, if the store is given by its parts
pub write_within : (s : Store) (shelf : Shelf) (v : Value) (c : Change) (home at own : ℕ) (r : Result (Option Value) StoreFault) (place : Option ℕ) (old mid cells : List HeapCell) → record { home = own; cells = old } ≡ s → v ≡ value.Ref home at → allowed s shelf v c ≡ Ok tt → place ≡ place_in (look s shelf) (key_of c) (look s shelf v) → mid ≡ old → Writes (in_cells mid at (change_cell c place (cell_at mid at))) r mid cells → Writes (write s shelf v c) r s (record { home = own; cells = cells })
write_within s shelf v c home at own r place old mid cells es ev ha hp em w =
    let w' : Writes (in_cells old at (change_cell c place (cell_at old at))) r old cells = subst (λ (m : List HeapCell). Writes (in_cells m at (change_cell c place (cell_at m at))) r m cells) em w in
    subst (λ (t : Store). allowed t shelf v c ≡ Ok tt → place ≡ place_in (look t shelf) (key_of c) (look t shelf v) → Writes (write t shelf v c) r t (record { home = own; cells = cells })) es
    (λ ha' hp'. write_done (record { home = own; cells = old }) shelf v c home at r place cells ev ha' hp' w') ha hp
