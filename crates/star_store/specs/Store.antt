-- The stores: the cells of the running module and of the published modules, and the cell that a value leads to.
use Rattle.std.specs.Prelude.{ℕ, zero, suc, ◌+◌, ◌-◌, nat_eq, Bool, true, false, List, [], ◌∷◌, ◌++◌, Option, Some, None, length, replicate, slice_get, slice_set, if◌then◌else◌}
use Rattle.std.specs.Option.{option_map, option_flatten}
use Rattle.std.specs.Cmp.Lexicographic.{pointwise, slice_cmp}
use Rattle.std.specs.List.Sorted.{IsStrictlySortedBy}
use Rattle.std.specs.Ordering.{nat_cmp}
use Rattle.star_store.specs.declared.values.Value.{Value}
use Rattle.star_store.specs.declared.values.Value.TheVariants as value
use Rattle.star_store.specs.declared.values.Cell.{Cell}
use Rattle.star_store.specs.declared.values.Cell.TheVariants as cell
use Rattle.star_store.specs.declared.values.HeapCell.{HeapCell}

-- a module's file, and the cells that it has made, in order
pub record Store : Type 0 where
  pub home : ℕ
  pub cells : List HeapCell

-- a published module: its cells, and its globals with their names, which nothing changes any more
pub record Published : Type 0 where
  pub cells : List HeapCell
  pub globals : List (List ℕ × Value)

-- the published modules that a running one reaches, each at the place of its file's number
abbrev pub Shelf : Type 0
Shelf = List (Option Published)

-- the cells of a place of the shelf
abbrev pub published_cells : Option (Option Published) → List HeapCell
published_cells None = []
published_cells (Some None) = []
published_cells (Some (Some p)) = p.cells

-- the cells of a file: the running module's own, or a published module's
abbrev pub cells_of : Store → Shelf → ℕ → List HeapCell
cells_of s shelf home = if nat_eq home s.home then s.cells else published_cells (slice_get shelf home)

-- the cell that a value leads to, with its open iterations
abbrev pub counted_at : Store → Shelf → Value → Option HeapCell
counted_at s shelf (value.Ref home at) = slice_get (cells_of s shelf home) at
counted_at s shelf _ = None

-- the cell that a value leads to
abbrev pub look : Store → Shelf → Value → Option Cell
look s shelf v = option_map (λ e. e.cell) (counted_at s shelf v)

-- the value that leads to the next new cell
abbrev pub next_value : Store → Value
next_value s = value.Ref s.home (length s.cells)

-- a new cell is the last, with no iteration open
abbrev pub made : Cell → Store → Store
made c s = record s { cells = s.cells ++ record { iterations = 0; cell = c } ∷ [] }

-- the cells with one of them changed
abbrev pub changed_at : (HeapCell → HeapCell) → List HeapCell → ℕ → List HeapCell
changed_at f [] at = []
changed_at f (e ∷ es) zero = f e ∷ es
changed_at f (e ∷ es) (suc at) = e ∷ changed_at f es at

-- the store with a cell of its own changed; another value's cell is left as it is
abbrev pub changed : (HeapCell → HeapCell) → Value → Store → Store
changed f (value.Ref home at) s = if nat_eq home s.home then record s { cells = changed_at f s.cells at } else s
changed f _ s = s

-- a frame with a value in one slot
abbrev pub bound_cell : ℕ → Value → Cell → Cell
bound_cell slot v (cell.Frame f) = cell.Frame (record f { slots = slice_set f.slots slot (Some v) })
bound_cell slot v c = c

-- the value of a slot of a frame; none if it is unbound or there is no such slot, and in another cell
abbrev pub slot_value : Option Cell → ℕ → Option Value
slot_value (Some (cell.Frame f)) slot = option_flatten (slice_get f.slots slot)
slot_value _ slot = None

-- gives a slot of a frame a value
abbrev pub bound : Value → ℕ → Value → Store → Store
bound frame slot v s = changed (λ e. record e { cell = bound_cell slot v e.cell }) frame s

-- whether a cell is a list, a dictionary or a set
abbrev pub is_container : Cell → Bool
is_container (cell.List xs) = true
is_container (cell.Dict es) = true
is_container (cell.Set es) = true
is_container _ = false

-- one iteration more is open, if the cell is a list, a dictionary or a set
abbrev pub opened_in : HeapCell → HeapCell
opened_in e = if is_container e.cell then record e { iterations = e.iterations + 1 } else e

-- one less
abbrev pub closed_in : HeapCell → HeapCell
closed_in e = if is_container e.cell then record e { iterations = e.iterations - 1 } else e

-- opens an iteration of a list, dictionary or set of the module's own
abbrev pub opened : Value → Store → Store
opened v s = changed opened_in v s

-- closes one
abbrev pub closed : Value → Store → Store
closed v s = changed closed_in v s

-- the iterations that are open on a list, a dictionary or a set
abbrev pub iterations_in : Option HeapCell → ℕ
iterations_in None = 0
iterations_in (Some e) = if is_container e.cell then e.iterations else 0

-- the iterations that are open on a list, dictionary or set of the module's own
abbrev pub iterations_of : Store → Value → ℕ
iterations_of s (value.Ref home at) = if nat_eq home s.home then iterations_in (slice_get s.cells at) else 0
iterations_of s _ = 0

-- the shelf with places up to a number; the new places are empty
abbrev pub widened : ℕ → Shelf → Shelf
widened n shelf = shelf ++ replicate (n - length shelf) None

abbrev pub is_taken : Option (Option Published) → Bool
is_taken (Some (Some p)) = true
is_taken _ = false

-- puts a published module on the shelf, at the place of its file; a module that is there already stays
abbrev pub put_up : ℕ → Published → Shelf → Shelf
put_up home p shelf =
    if is_taken (slice_get shelf home) then shelf else slice_set (widened (home + 1) shelf) home (Some p)

-- each name is below those after it, by their bytes
abbrev pub ascend : List (List ℕ) → Type 0
ascend = IsStrictlySortedBy (slice_cmp nat_cmp)

-- the value of the first global with a name
abbrev pub global_of : List ℕ → List (List ℕ × Value) → Option Value
global_of name [] = None
global_of name (g ∷ gs) = if pointwise nat_eq g.0 name then Some g.1 else global_of name gs
