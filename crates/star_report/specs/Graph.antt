-- The graph of loads, as DOT.
use Rattle.std.specs.Prelude.{◌≡◌, ◌↔◌, ℕ, List, [], ◌++◌, Bool, true, Contains, codes, filter, flat_map, is_some, map, nat_eq, if◌then◌else◌}
use Rattle.std.specs.List.{All}
use Rattle.std.specs.List.Sorted.{IsStrictlyIncreasing}
use Rattle.indexmap.specs.IndexSet.{insert_all}
use Rattle.json.specs.Print.{quoted}
use Rattle.star_cache.specs.State.{Loads}
use Rattle.star_cache.specs.Walk.{IsOnCycle}
use Rattle.star_label.specs.Files.{File, label_at}
use Rattle.star_scope.specs.declared.loads.Load.{Load}
use Rattle.star_plan.specs.Plan.{Plan, loaded, loads_of}
use Rattle.star_plan.specs.Reached.{IsReached}
use Rattle.star_plan.specs.Results.{IsGood}
use Rattle.star_report.specs.declared.graph.Edge.{Edge}

-- the files that load statements load, in source order, each once: the prelude's load has no statement
abbrev pub targets : List Load → List ℕ
targets loads = insert_all nat_eq [] (map (λ l. l.file) (filter (λ l. is_some l.token) loads))

-- a file, whether it is ok, and its edges
pub record Node : Type 0 where
  pub file : ℕ
  pub is_ok : Bool
  pub edges : List Edge

-- a node of a plan: an edge for each file that it loads, which says whether it lies on a cycle of loads
pub record IsNode (plan : Plan) (v : Node) : Type 0 where
  pub ok : (v.is_ok ≡ true) ↔ IsGood plan v.file
  pub edges : map (λ e. e.to) v.edges ≡ targets (loads_of plan v.file)
  pub cycles : All (λ e. (e.on_cycle ≡ true) ↔ IsOnCycle (Loads (loaded plan)) v.file e.to) v.edges

-- the graph of a plan: the reached files, in order
pub record IsGraph (plan : Plan) (nodes : List Node) : Type 0 where
  pub in_order : IsStrictlyIncreasing (map (λ v. v.file) nodes)
  pub all : (n : ℕ) → IsReached plan n ↔ Contains (map (λ v. v.file) nodes) n
  pub each : All (IsNode plan) nodes

-- a file that is not ok is filled
abbrev pub node_line : List File → Node → List ℕ
node_line files v =
    codes "  " ++ (quoted (label_at files v.file) ++ (if v.is_ok then codes ";\n" else codes " [style=filled];\n"))

-- an edge that lies on a cycle is red
abbrev pub edge_line : List File → ℕ → Edge → List ℕ
edge_line files n e =
    codes "  " ++ (quoted (label_at files n) ++ (codes " -> " ++ (quoted (label_at files e.to)
    ++ (if e.on_cycle then codes " [color=red];\n" else codes ";\n"))))

abbrev pub edge_lines : List File → Node → List ℕ
edge_lines files v = flat_map (edge_line files v.file) v.edges

-- first the nodes, then the edges
abbrev pub graph_text : List File → List Node → List ℕ
graph_text files nodes =
    codes "digraph loads {\n" ++ (flat_map (node_line files) nodes ++ (flat_map (edge_lines files) nodes ++ codes "}\n"))

-- a text is the graph of a plan
abbrev pub IsGraphText : List File → Plan → List ℕ → Type 0
IsGraphText files plan text = (nodes : List Node) × IsGraph plan nodes × (text ≡ graph_text files nodes)
