-- The graph of loads as it is found among the modules of a run.
use Rattle.std.specs.Prelude.{◌≡◌, ◌+◌, ◌<◌, ◌↔◌, ℕ, List, Bool, Option, Some, true, IfSome, map, slice_get}
use denote.Ref.{Bor}
use Rattle.std.specs.List.{All}
use Rattle.star_cache.specs.State.{Loads}
use Rattle.star_cache.specs.Walk.{IsOnCycle}
use Rattle.star_label.specs.Files.{File}
use Rattle.star_plan.specs.Plan.{Plan, loaded}
use Rattle.star_plan.specs.Reading.{IsPlanOf}
use Rattle.star_outcome.specs.Kept.{AreModules, RunView}
use Rattle.star_outcome.specs.Views.{IsModule}
use Rattle.star_outcome.specs.declared.module.Module.{Module}
use Rattle.star_reading.specs.Found.{IsReadOf}
use Rattle.star_reading.specs.Listed.{AreListed}
use Rattle.star_reading.specs.Readings.{InReadPlans, Row}
pub use Rattle.star_reading.specs.Readings.{LeadWithin}
use Rattle.star_report.specs.Graph as graph
use Rattle.star_report.specs.Graph.{IsGraphText, IsNode}
use Rattle.star_report.specs.Table.{IsTable, Table}
use Rattle.star_report.specs.declared.graph.Edge.{Edge}
use Rattle.star_report.specs.declared.graph.Node.{Node}

abbrev pub node_view : Node → graph.Node
node_view v = record { file = v.file; is_ok = v.is_ok; edges = v.edges.items }

-- the answer is whether the load from a file to another lies on a cycle
abbrev pub SaysCycle : Plan → ℕ → ℕ → Bool → Type 0
SaysCycle plan n m on_cycle = (on_cycle ≡ true) ↔ IsOnCycle (Loads (loaded plan)) n m

-- so does each of these edges of a module's file
abbrev pub SayCycles : Row → Module → List Edge → Type 0
SayCycles row it edges =
    InReadPlans row (λ plan. IsModule plan it.number it → All (λ e. SaysCycle plan it.number e.to e.on_cycle) edges)

-- edges lead to files below this number
abbrev pub EndWithin : ℕ → List Edge → Type 0
EndWithin count edges = All (λ e. e.to < count) edges

-- the files of nodes, and those that their edges lead to, are below this number
abbrev pub AreNodesWithin : ℕ → List Node → Type 0
AreNodesWithin count nodes = All (λ v. (v.file < count) × EndWithin count v.edges.items) nodes

abbrev pub IsTableWithin : ℕ → Table → Type 0
IsTableWithin count table = All (λ o. IfSome o (λ m. m.now.number < count)) table

-- the nodes of the reached files below a number, in order
pub record IsGraphBelow (plan : Plan) (count : ℕ) (nodes : List graph.Node) : Type 0 where
  pub listed : AreListed plan count (map (λ v. v.file) nodes)
  pub each : All (IsNode plan) nodes

-- the file after the files of a graph has this entry in the table of modules. With its node the graph goes on
abbrev pub IsNextNode : Plan → Option (Bor Module) → List Node → List Node → Type 0
IsNextNode plan entry old new =
    (table : Table) (n : ℕ) → IsTable plan table → slice_get table n ≡ Some entry
    → IsGraphBelow plan n (map node_view old) → IsGraphBelow plan (n + 1) (map node_view new)

-- a text is the graph of a run over these files, by what was read of them
abbrev pub DrawsRun : List File → Row → RunView → List ℕ → Type 0
DrawsRun files row run text =
    (plan : Plan) → IsPlanOf files plan → IsReadOf files plan.roots plan.prelude plan.mode.language row
    → AreModules plan run.kept
    → IsGraphText files plan text
