-- Laws of every run: its invariants, and the effect of more steps.
use Rattle.std.specs.Prelude.{◌≡◌, ◌≢◌, ◌≤◌, ◌<◌, ℕ, ◌+◌, List, ◌++◌, length, None, Some, slice_get}
use Rattle.star_store.specs.declared.values.Value.{Value}
use Rattle.star_store.specs.declared.values.Cell.{Cell}
use Rattle.star_store.specs.declared.values.Cell.TheVariants as cell
use Rattle.star_store.specs.declared.values.HeapCell.{HeapCell}
use Rattle.star_store.specs.declared.values.Frame.{Frame}
use Rattle.star_store.specs.Store.{iterations_in}
use Rattle.star_tree.specs.declared.tree.Expression.{Expression}
use Rattle.star_tree.specs.declared.tree.Statement.{Statement}
use Rattle.star_meaning.specs.declared.fault.FaultCode.TheVariants as code
use Rattle.star_meaning.specs.declared.site.Site.{Site}
use Rattle.star_meaning.specs.declared.site.Flow.{Flow}
use Rattle.star_meaning.specs.declared.said.Said.{Said}
use Rattle.star_meaning.specs.Run.{State, Outcome, Done, Failed}
use Rattle.star_meaning.specs.Program.{Setting}
use Rattle.star_meaning.specs.Variables.{by_names}
use Rattle.star_meaning.specs.Module.{meaning, local, Local, Good, Stopped}

-- after a run the module is the same, cells are not fewer, steps not more, and lines are the same with further ones
pub record Grows (s t : State) : Type 0 where
  pub home : t.store.home ≡ s.store.home
  pub cells : length s.store.cells ≤ length t.store.cells
  pub steps : t.steps ≤ s.steps
  pub lines : (more : List Said) × (t.lines ≡ s.lines ++ more)

-- a fault too keeps the lines that were printed before
abbrev pub Grown : {A : Type 0} → State → Outcome A → Type 0
Grown s (Done x t) = Grows s t
Grown s (Failed f lines) = (more : List Said) × (lines ≡ s.lines ++ more)

-- The law: so it is with every expression and every statement.
abbrev pub RunsGrow : Type 0
RunsGrow = (w : Setting) (levels : ℕ) (p : Site) (s : State)
    → ((e : Expression) → Grown s ((meaning (by_names w) w levels).expr p e s))
    × ((x : Statement) → Grown s ((meaning (by_names w) w levels).stmt p x s))

-- a frame keeps its file, its block, its parent and the number of its slots
pub record KeepsFrame (f g : Frame) : Type 0 where
  pub file : g.file ≡ f.file
  pub block : g.block ≡ f.block
  pub parent : g.parent ≡ f.parent
  pub slots : length g.slots ≡ length f.slots

-- the changes that a cell may undergo: a list stays a list, a dictionary a dictionary, a set a set, a frame the
-- same frame; all others stay as they are
abbrev pub KeepsKind : Cell → Cell → Type 0
KeepsKind (cell.List xs) d = (ys : List Value) × (d ≡ cell.List ys)
KeepsKind (cell.Dict es) d = (fs : List (Value × Value)) × (d ≡ cell.Dict fs)
KeepsKind (cell.Set es) d = (fs : List (Value × Value)) × (d ≡ cell.Set fs)
KeepsKind (cell.Frame f) d = (g : Frame) × (d ≡ cell.Frame g) × KeepsFrame f g
KeepsKind c d = d ≡ c

-- a cell keeps its kind and the number of its open iterations; one that was being iterated keeps its items
pub record KeepsCell (a b : HeapCell) : Type 0 where
  pub kind : KeepsKind a.cell b.cell
  pub iterations : b.iterations ≡ a.iterations
  pub held : 0 < iterations_in (Some a) → b.cell ≡ a.cell

-- The invariants of a run that ends well: the module, its cells, which only grow in number, the active definitions and
-- the lines printed. Steps only fall, and no iteration is open on a cell that is new after the run.
pub record Kept (s t : State) : Type 0 where
  pub home : t.store.home ≡ s.store.home
  pub cells : (at : ℕ) (a : HeapCell) → slice_get s.store.cells at ≡ Some a → (b : HeapCell)
      × (slice_get t.store.cells at ≡ Some b) × KeepsCell a b
  pub fresh : (at : ℕ) (b : HeapCell) → slice_get s.store.cells at ≡ None → slice_get t.store.cells at ≡ Some b
      → b.iterations ≡ 0
  pub active : t.active ≡ s.active
  pub steps : t.steps ≤ s.steps
  pub lines : (more : List Said) × (t.lines ≡ s.lines ++ more)

-- The law: every expression and every statement that ends well keeps this.
abbrev pub RunsKeep : Type 0
RunsKeep = (w : Setting) (levels : ℕ) (p : Site) (s t : State)
    → ((e : Expression) (v : Value) → (meaning (by_names w) w levels).expr p e s ≡ Done v t → Kept s t)
    × ((x : Statement) (f : Flow) → (meaning (by_names w) w levels).stmt p x s ≡ Done f t → Kept s t)

-- an outcome that is not for want of steps
abbrev pub IsNotForSteps : Local → Type 0
IsNotForSteps (Good shelf globals texts lines) = Unit {0}
IsNotForSteps (Stopped f lines) = f.code ≢ code.Steps

-- The law: the meaning of a file does not change if it gets more steps than it needs.
abbrev pub MoreStepsMeanTheSame : Type 0
MoreStepsMeanTheSame =
    (w : Setting) (steps more : ℕ) (statements : List Statement) → IsNotForSteps (local w steps statements)
    → local w (steps + more) statements ≡ local w steps statements
