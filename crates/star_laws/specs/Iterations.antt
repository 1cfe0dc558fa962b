-- Open iterations: the counter of a cell counts the loops that are open over it.
use Rattle.std.specs.Prelude.{◌≡◌, ℕ, ◌+◌, nat_eq, Bool, true, false, ◌&&◌, List, [], ◌∷◌, None, Some, slice_get, if◌then◌else◌}
use Rattle.star_store.specs.declared.values.Value.{Value}
use Rattle.star_store.specs.declared.values.Value.TheVariants as value
use Rattle.star_store.specs.declared.values.HeapCell.{HeapCell}
use Rattle.star_store.specs.Store.{Store, is_container, iterations_of}
use Rattle.star_tree.specs.declared.tree.Expression.{Expression}
use Rattle.star_tree.specs.declared.tree.Statement.{Statement}
use Rattle.star_meaning.specs.declared.site.Site.{Site}
use Rattle.star_meaning.specs.declared.site.Flow.{Flow}
use Rattle.star_meaning.specs.Run.{State, Done}
use Rattle.star_meaning.specs.Program.{Setting}
use Rattle.star_meaning.specs.Values.{iterate, leave}
use Rattle.star_meaning.specs.Variables.{by_names}
use Rattle.star_meaning.specs.Module.{meaning, start}

-- whether a value leads to a cell of a module
abbrev pub leads_to : Value → ℕ → ℕ → Bool
leads_to (value.Ref h i) home at = nat_eq h home && nat_eq i at
leads_to _ home at = false

-- the number of loops over that cell, of loops over these values
abbrev pub loops_over : ℕ → ℕ → List Value → ℕ
loops_over home at [] = 0
loops_over home at (v ∷ vs) = (if leads_to v home at then 1 else 0) + loops_over home at vs

-- the counters of a module are right for the open loops, given by the values that they go over, the innermost first
pub record AreCounted (s : Store) (loops : List Value) : Type 0 where
  -- each list, dictionary and set has as many open iterations as loops go over it, and no other cell has any
  pub counted : (at : ℕ) (a : HeapCell) → slice_get s.cells at ≡ Some a
      → a.iterations ≡ (if is_container a.cell then loops_over s.home at loops else 0)
  -- no loop goes over a cell that the module does not have
  pub there : (at : ℕ) → slice_get s.cells at ≡ None → loops_over s.home at loops ≡ 0

-- The law: as a file begins, no loop is open, and the counters are right.
abbrev pub FilesBeginWithNoLoop : Type 0
FilesBeginWithNoLoop = (w : Setting) (steps : ℕ) → AreCounted (start w steps).store []

-- The law: after an expression or a statement that ends well the same loops are open as before it, and the counters are
-- right for them.
abbrev pub RunsEndTheirLoops : Type 0
RunsEndTheirLoops = (w : Setting) (levels : ℕ) (p : Site) (s t : State) (loops : List Value) → AreCounted s.store loops
    → ((e : Expression) (v : Value) → (meaning (by_names w) w levels).expr p e s ≡ Done v t → AreCounted t.store loops)
    × ((x : Statement) (f : Flow) → (meaning (by_names w) w levels).stmt p x s ≡ Done f t → AreCounted t.store loops)

-- The law: a loop that begins over a value is one more open loop, and one less as it ends.
abbrev pub LoopsAreCounted : Type 0
LoopsAreCounted = (w : Setting) (line n : ℕ) (v : Value) (s t : State) (loops : List Value)
    → (AreCounted s.store loops → iterate w line v s ≡ Done n t → AreCounted t.store (v ∷ loops))
    × (AreCounted s.store (v ∷ loops) → leave v s ≡ Done tt t → AreCounted t.store loops)

-- The law: the rules of writing ask for the open iterations of a list, a dictionary or a set. These are the open loops
-- over it.
abbrev pub OpenIterationsAreOpenLoops : Type 0
OpenIterationsAreOpenLoops = (s : Store) (loops : List Value) (at : ℕ) (a : HeapCell) → AreCounted s loops
    → slice_get s.cells at ≡ Some a → is_container a.cell ≡ true → iterations_of s (value.Ref s.home at)
    ≡ loops_over s.home at loops
