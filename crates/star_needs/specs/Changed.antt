-- Plans that agree but for files that have changed: what is loaded of these is the same data in both.
use Rattle.std.specs.Prelude.{◌≡◌, ◌⊎◌, ℕ, zero, suc, nat_eq, Bool, true, false, ◌&&◌, List, [], ◌∷◌, Option, Some, slice_get}
use Rattle.std.specs.Bool.{beq}
use Rattle.std.specs.Cmp.Lexicographic.{pointwise}
use Rattle.std.specs.List.{find}
use Rattle.std.specs.Option.{option_map}
use Rattle.std.specs.Ordering.{int_eq}
use Rattle.star_cache.specs.State.{Loads}
use Rattle.star_label.specs.Files.{File}
use Rattle.star_store.specs.declared.range.Range.{Range}
use Rattle.star_store.specs.declared.values.Value.{Value}
use Rattle.star_store.specs.declared.values.Value.TheVariants as value
use Rattle.star_store.specs.declared.values.Cell.{Cell}
use Rattle.star_store.specs.declared.values.Cell.TheVariants as cell
use Rattle.star_store.specs.declared.values.HeapCell.{HeapCell}
use Rattle.star_store.specs.Fields.{Fields, names_of, same_names, values_of}
use Rattle.star_store.specs.Store.{Published, Shelf, global_of}
use Rattle.star_store.specs.Write.{cell_at}
use Rattle.star_tree.specs.declared.tree.Form.TheOpen as form
use Rattle.star_tree.specs.declared.tree.LoadedName.{LoadedName}
use Rattle.star_tree.specs.declared.tree.Statement.{Statement}
use Rattle.star_outline.specs.Syntax.{StatementForm, form_of, position_of}
use Rattle.star_meaning.specs.declared.said.Said.{Said}
use Rattle.star_meaning.specs.Module.{Good, most_levels}
use Rattle.star_meaning.specs.Programs.{load_files}
use Rattle.star_plan.specs.Plan.{Plan, Reading, loaded, loads_of, read_of, tree_in}
use Rattle.star_plan.specs.Reading.{IsPlanOf}
use Rattle.star_plan.specs.Results.{IsOutcome, Ran}
use Rattle.star_plan.specs.Shelves.{IsOwn}
use Rattle.star_outcome.specs.Paid.{HasPaid}

-- ---- data

-- two items of cells are the same; a built-in function is the same as none
abbrev pub same_value : Value → Value → Bool
same_value value.NoneValue value.NoneValue = true
same_value (value.Bool b) (value.Bool c) = beq b c
same_value (value.Int m) (value.Int n) = int_eq m n
same_value (value.Ref h a) (value.Ref k b) = nat_eq h k && nat_eq a b
same_value _ _ = false

-- two rows of items are the same, and each item is data
abbrev pub same_items : (Value → Bool) → List Value → List Value → Bool
same_items fits [] [] = true
same_items fits (x ∷ xs) (y ∷ ys) = same_value x y && (fits x && same_items fits xs ys)
same_items fits _ _ = false

-- .. and two rows of entries
abbrev pub same_entries : (Value → Bool) → List (Value × Value) → List (Value × Value) → Bool
same_entries fits [] [] = true
same_entries fits (x ∷ xs) (y ∷ ys) =
    (same_value x.0 y.0 && fits x.0) && ((same_value x.1 y.1 && fits x.1) && same_entries fits xs ys)
same_entries fits _ _ = false

-- .. and two structs
abbrev pub same_fields : (Value → Bool) → Fields → Fields → Bool
same_fields fits s t = same_names (names_of s) (names_of t) && same_items fits (values_of s) (values_of t)

abbrev pub one_range : Range → Range → Bool
one_range r s = int_eq r.start s.start && (int_eq r.stop s.stop && int_eq r.step s.step)

-- two cells are there and have the same content, which is data: no function, frame or bound method
abbrev pub same_cell : (Value → Bool) → Option Cell → Option Cell → Bool
same_cell fits (Some (cell.Text t)) (Some (cell.Text u)) = pointwise nat_eq t u
same_cell fits (Some (cell.Range r)) (Some (cell.Range s)) = one_range r s
same_cell fits (Some (cell.Tuple xs)) (Some (cell.Tuple ys)) = same_items fits xs ys
same_cell fits (Some (cell.List xs)) (Some (cell.List ys)) = same_items fits xs ys
same_cell fits (Some (cell.Dict es)) (Some (cell.Dict fs)) = same_entries fits es fs
same_cell fits (Some (cell.Struct s)) (Some (cell.Struct t)) = same_fields fits s t
same_cell fits _ _ = false

-- a value is data, by which cells of this home are: an atom, or one of these cells
abbrev pub data_by : ℕ → (ℕ → Bool) → Value → Bool
data_by home cells (value.Ref h at) = nat_eq h home && cells at
data_by home cells _ = true

-- two rows of cells of one home have the same data at a place, if at most this many levels are opened
unfoldable pub same_at : List HeapCell → List HeapCell → ℕ → ℕ → ℕ → Bool
same_at own other home zero at = false
same_at own other home (suc levels) at =
    same_cell (data_by home (same_at own other home levels)) (cell_at own at) (cell_at other at)

-- a value is the same data in both
abbrev pub same_data : List HeapCell → List HeapCell → ℕ → ℕ → Value → Bool
same_data own other home levels v = data_by home (same_at own other home levels) v

-- ---- loads

-- a statement loads this name
abbrev pub FormLoads : StatementForm → List ℕ → Type 0
FormLoads (form.Load l names) name =
    (i : ℕ) × (one : LoadedName) × (slice_get names i ≡ Some one) × (one.loaded.text ≡ name)
FormLoads _ name = ⊥

-- a load statement of the file n loads this name of the file m
pub record LoadsName (p : Plan) (n m : ℕ) (name : List ℕ) : Type 0 where
  pub statements : List Statement
  pub sound : tree_in (read_of p n) ≡ Some statements
  pub place : ℕ
  pub statement : Statement
  pub there : slice_get statements place ≡ Some statement
  pub file : option_map (λ l. l.1) (find (λ l. nat_eq l.0 (position_of statement).token) (load_files (loads_of p n)))
      ≡ Some m
  pub loads : FormLoads (form_of statement) name

-- the file m is good in two plans, and each name that n loads of it has one value in both, which is the same data there
pub record SharesLoads (p q : Plan) (n m : ℕ) : Type 0 where
  pub one : Published
  pub other : Published
  pub own_one : IsOwn p m one
  pub own_other : IsOwn q m other
  pub same : (name : List ℕ) → LoadsName p n m name → global_of name one.globals ≡ global_of name other.globals
  pub as_data : (name : List ℕ) (v : Value) → LoadsName p n m name → global_of name one.globals ≡ Some v
      → same_data one.cells other.cells m most_levels v ≡ true

-- two plans agree on these files, of which the prelude is one, but for what these load of others, which have changed.
-- The plans have the same mode and the same prelude. Each of these files was read and has the same reading in both,
-- and what it loads of a changed file is the same data in both
pub record AgreeButFor (is_in : ℕ → Bool) (p q : Plan) : Type 0 where
  pub mode : p.mode ≡ q.mode
  pub prelude : p.prelude ≡ q.prelude
  pub prelude_in : (k : ℕ) → p.prelude ≡ Some k → is_in k ≡ true
  pub reads : (n : ℕ) → is_in n ≡ true → read_of p n ≡ read_of q n
  pub loads : (n m : ℕ) → is_in n ≡ true → Loads (loaded p) n m → (is_in m ≡ true) ⊎ SharesLoads p q n m
  pub read : (n : ℕ) → is_in n ≡ true → (r : Reading) × (read_of p n ≡ Some r)

-- ---- the law

-- a good file stays as it was: its own module, its globals, their texts, its lines, and the steps that it has paid
pub record Stays (p q : Plan) (n : ℕ) : Type 0 where
  pub own : (m : Published) → IsOwn p n m → IsOwn q n m
  pub outcome : (shelf : Shelf) (globals : List (List ℕ × Value)) (texts : List (List ℕ × List ℕ))
      (lines : List Said) → IsOutcome p n (Ran (Good shelf globals texts lines))
      → (other : Shelf) × IsOutcome q n (Ran (Good other globals texts lines))
  pub paid : (k : ℕ) → HasPaid p n k → HasPaid q n k

-- The law: so it is with each of these files in two plans, each of files of its own, that agree so.
abbrev pub KeptResultsStay : Type 0
KeptResultsStay =
    (files others : List File) (p q : Plan) → IsPlanOf files p → IsPlanOf others q
    → (is_in : ℕ → Bool) → AgreeButFor is_in p q → (n : ℕ) → is_in n ≡ true → Stays p q n
