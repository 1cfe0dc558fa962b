-- Writes: which are allowed, and the list, dictionary or set after each change. A set is written as a dictionary.
use Rattle.std.specs.Prelude.{◌≡◌, ℕ, nat_eq, nat_lt, Bool, true, false, List, [], ◌∷◌, ◌++◌, length, Option, Some, None, slice_get, slice_set, Result, Ok, Err, if◌then◌else◌}
use Rattle.std.specs.List.{insert, remove}
use Rattle.std.specs.Option.{option_map}
use Rattle.star_store.specs.declared.values.Value.{Value}
use Rattle.star_store.specs.declared.values.Value.TheVariants as value
use Rattle.star_store.specs.declared.values.Cell.{Cell}
use Rattle.star_store.specs.declared.values.Cell.TheVariants as cell
use Rattle.star_store.specs.declared.values.HeapCell.{HeapCell}
use Rattle.star_store.specs.declared.arena.write.Change.{Change}
use Rattle.star_store.specs.declared.arena.write.Change.TheVariants as change
use Rattle.star_store.specs.declared.fault.StoreFault.{StoreFault}
use Rattle.star_store.specs.declared.fault.StoreFault.TheVariants.{Frozen, Iterating, BadType, Index, Key, Memory}
use Rattle.star_store.specs.Store.{Store, Shelf, look, changed, changed_at, is_container, iterations_of}
use Rattle.star_store.specs.Key.{is_key, key_levels, place_of}

-- whether a value's home is the running module
abbrev pub is_own : Store → Value → Bool
is_own s (value.Ref home at) = nat_eq home s.home
is_own s _ = false

-- may write: the value's home is the running module, and no iteration is open on it
abbrev pub may_change : Store → Value → Result (Unit {0}) StoreFault
may_change s v = if is_own s v then (if nat_eq (iterations_of s v) 0 then Ok tt else Err Iterating) else Err Frozen

-- whether a value leads to a list, a dictionary or a set
abbrev pub leads_to_container : Option Cell → Bool
leads_to_container (Some c) = is_container c
leads_to_container None = false

abbrev pub may_write : Store → Shelf → Value → Result (Unit {0}) StoreFault
may_write s shelf v = if leads_to_container (look s shelf v) then may_change s v else Err BadType

-- whether a change is one for the cell: a list's, a dictionary's, or one for both
abbrev pub suits_list : Change → Bool
suits_list (change.Put k v) = false
suits_list (change.Delete k) = false
suits_list _ = true

abbrev pub suits_dict : Change → Bool
suits_dict (change.Put k v) = true
suits_dict (change.Delete k) = true
suits_dict change.Clear = true
suits_dict _ = false

abbrev pub suits : Change → Option Cell → Bool
suits c (Some (cell.List xs)) = suits_list c
suits c (Some (cell.Dict es)) = suits_dict c
suits c (Some (cell.Set es)) = suits_dict c
suits c _ = false

-- the key of a change
abbrev pub key_of : Change → Option Value
key_of (change.Put k v) = Some k
key_of (change.Delete k) = Some k
key_of _ = None

-- whether the key of a change, if it has one, is a key
abbrev pub is_good_key : (Value → Option Cell) → Option Value → Bool
is_good_key look None = true
is_good_key look (Some k) = is_key look key_levels k

-- the place of a key in a dictionary or a set
abbrev pub place_in : (Value → Option Cell) → Option Value → Option Cell → Option ℕ
place_in look (Some k) (Some (cell.Dict es)) = place_of look k es
place_in look (Some k) (Some (cell.Set es)) = place_of look k es
place_in look _ _ = None

-- an answer is the value that was replaced or taken out, and the items or entries that are left
abbrev pub taken : {A : Type 0} → StoreFault → Option Value → A → Result (Option Value × A) StoreFault
taken f None a = Err f
taken f (Some v) a = Ok (Some v, a)

-- the items of a list after a change
abbrev pub change_items : Change → List Value → Result (Option Value × List Value) StoreFault
change_items (change.Append v) xs = Ok (None, xs ++ v ∷ [])
change_items (change.Set i v) xs = taken Index (slice_get xs i) (slice_set xs i v)
change_items (change.Insert i v) xs = if nat_lt (length xs) i then Err Index else Ok (None, insert xs i v)
change_items (change.RemoveAt i) xs = taken Index (slice_get xs i) (remove xs i)
change_items change.Clear xs = Ok (None, [])
change_items _ xs = Err BadType

-- an entry gets another value, and its key stays
abbrev pub put_at : ℕ → Value → Option (Value × Value) → List (Value × Value)
    → Result (Option Value × List (Value × Value)) StoreFault
put_at i v None es = Err Key
put_at i v (Some e) es = Ok (Some e.1, slice_set es i (e.0, v))

-- puts an entry in: at the place of its key if it is there, else after all others
abbrev pub put : Value → Value → Option ℕ → List (Value × Value)
    → Result (Option Value × List (Value × Value)) StoreFault
put k v None es = Ok (None, es ++ (k, v) ∷ [])
put k v (Some i) es = put_at i v (slice_get es i) es

-- takes the entry at a place out; those after it close up
abbrev pub delete : Option ℕ → List (Value × Value) → Result (Option Value × List (Value × Value)) StoreFault
delete None es = Err Key
delete (Some i) es = taken Key (option_map (λ e. e.1) (slice_get es i)) (remove es i)

-- the entries of a dictionary after a change, if it has the change's key at a place
abbrev pub change_entries : Change → Option ℕ → List (Value × Value)
    → Result (Option Value × List (Value × Value)) StoreFault
change_entries (change.Put k v) place es = put k v place es
change_entries (change.Delete k) place es = delete place es
change_entries change.Clear place es = Ok (None, [])
change_entries _ place es = Err BadType

-- an answer with the items or entries back in their cell
abbrev pub in_cell : {A : Type 0} → (A → Cell) → Result (Option Value × A) StoreFault
    → Result (Option Value × Cell) StoreFault
in_cell f (Ok r) = Ok (r.0, f r.1)
in_cell f (Err e) = Err e

-- a cell after a change
abbrev pub change_cell : Change → Option ℕ → Option Cell → Result (Option Value × Cell) StoreFault
change_cell c place (Some (cell.List xs)) = in_cell cell.List (change_items c xs)
change_cell c place (Some (cell.Dict es)) = in_cell cell.Dict (change_entries c place es)
change_cell c place (Some (cell.Set es)) = in_cell cell.Set (change_entries c place es)
change_cell c place _ = Err BadType

-- the cell at an address
abbrev pub cell_at : List HeapCell → ℕ → Option Cell
cell_at cells at = option_map (λ e. e.cell) (slice_get cells at)

-- an answer with the cell back among its cells
abbrev pub in_cells : List HeapCell → ℕ → Result (Option Value × Cell) StoreFault
    → Result (Option Value × List HeapCell) StoreFault
in_cells cells at (Ok r) = Ok (r.0, changed_at (λ e. record e { cell = r.1 }) cells at)
in_cells cells at (Err f) = Err f

-- an answer with the cell back in its store
abbrev pub in_store : Value → Store → Result (Option Value × Cell) StoreFault → Result (Option Value × Store) StoreFault
in_store v s (Ok r) = Ok (r.0, changed (λ e. record e { cell = r.1 }) v s)
in_store v s (Err f) = Err f

-- the refusals of a write before it is made, in order: the change is one for the target, the target may be written, and
-- the key is one
abbrev pub allowed : Store → Shelf → Value → Change → Result (Unit {0}) StoreFault
allowed s shelf v c =
    if suits c (look s shelf v) then
    (if is_own s v then
    (if nat_eq (iterations_of s v) 0 then
    (if is_good_key (look s shelf) (key_of c) then Ok tt else Err BadType)
    else Err Iterating)
    else Err Frozen)
    else Err BadType

-- an allowed write makes its change
abbrev pub made_if : Result (Unit {0}) StoreFault → Result (Option Value × Store) StoreFault
    → Result (Option Value × Store) StoreFault
made_if (Ok x) o = o
made_if (Err f) o = Err f

abbrev pub write : Store → Shelf → Value → Change → Result (Option Value × Store) StoreFault
write s shelf v c =
    made_if (allowed s shelf v c) (in_store v s (change_cell c (place_in (look s shelf) (key_of c) (look s shelf v))
    (look s shelf v)))

-- A writing call's answer, and the store that it left, are those of the definition. After a refusal all is as it was.
abbrev pub Writes : {A : Type 0} → Result (Option Value × A) StoreFault → Result (Option Value) StoreFault → A → A
    → Type 0
Writes o (Ok x) old new = o ≡ Ok (x, new)
Writes o (Err Memory) old new = new ≡ old
Writes o (Err f) old new = (o ≡ Err f) × (new ≡ old)
