-- Laws of the report with the further members that are wanted of each module.
use Rattle.std.specs.Prelude.{◌≡◌, ◌↔◌, ◌⊎◌, ◌+◌, ℕ, Bool, true, false, not, List, Option, Some, None, Contains, is_some, length, map}
use Rattle.std.specs.List.{filter}
use Rattle.serde_json.specs.Data.{Data}
use Rattle.serde_json.specs.Find.{get_member}
use Rattle.star_label.specs.Files.{File}
use Rattle.star_store.specs.declared.values.Value.{Value}
use Rattle.star_store.specs.Store.{Shelf}
use Rattle.star_data.specs.Counts.{member_count}
use Rattle.star_data.specs.Data.{on_shelf}
use Rattle.star_meaning.specs.declared.said.Said.{Said}
use Rattle.star_meaning.specs.Module.{Good}
use Rattle.star_outline.specs.Definitions.{AllDiffer}
use Rattle.star_scope.specs.Loads.{is_private}
use Rattle.star_scope.specs.declared.loads.Load.{Load}
use Rattle.star_plan.specs.Plan.{Plan, loads_of}
use Rattle.star_plan.specs.Reached.{IsReached}
use Rattle.star_plan.specs.Results.{IsOutcome, Ran}
use Rattle.star_plan.specs.Text.{IsReportText}
use Rattle.star_report.specs.Graph.{IsGraph, Node}
use Rattle.star_report.specs.Output.{IsAnswer, IsOutput}
use Rattle.star_report.specs.Values.{global_data, opaque_names, shown_values}
use Rattle.star_report.specs.Wanted.{IsFullText, nothing_more}
use Rattle.star_report.specs.declared.wanted.Output.TheVariants.{Report}
use Rattle.star_report.specs.declared.wanted.Wanted.{Wanted}

-- if nothing more is wanted, the report is the plain one
abbrev pub NothingMore : Type 0
NothingMore =
    (files : List File) (plan : Plan) (text : List ℕ) → IsFullText nothing_more files plan text
    ↔ IsReportText files plan text

-- a plan has at most one report for given options
abbrev pub OneFullText : Type 0
OneFullText = (wanted : Wanted) (files : List File) (plan : Plan) (a b : List ℕ) → IsFullText wanted files plan a
    → IsFullText wanted files plan b → a ≡ b

-- if nothing more is wanted, the plain report is written
abbrev pub ReportAsBefore : Type 0
ReportAsBefore =
    (files : List File) (plan : Plan) (text : List ℕ) (ok : Bool) → IsOutput (Report nothing_more) files plan text ok
    ↔ (IsReportText files plan text × IsAnswer plan ok)

-- the node of a file has an edge to another file
abbrev pub HasEdge : List Node → ℕ → ℕ → Type 0
HasEdge nodes n m = (v : Node) × Contains nodes v × (v.file ≡ n) × Contains (map (λ e. e.to) v.edges) m

-- the edges of the graph of a plan are exactly the loads of load statements of reached files
abbrev pub EdgesAreLoads : Type 0
EdgesAreLoads =
    (plan : Plan) (nodes : List Node) → IsGraph plan nodes → (n m : ℕ) → HasEdge nodes n m
    ↔ (IsReached plan n × ((l : Load) × Contains (loads_of plan n) l × (is_some l.token ≡ true) × (l.file ≡ m)))

-- no edge of a node comes twice
abbrev pub EdgesStandOnce : Type 0
EdgesStandOnce =
    (plan : Plan) (nodes : List Node) → IsGraph plan nodes → (v : Node) → Contains nodes v
    → AllDiffer (map (λ e. e.to) v.edges)

-- the names of a module's globals, which have these data. A name that is not private is a member of the values, with
-- its data, or it is among the names of globals without data. No other name is in either
pub record IsToldOnce (f : List ℕ → Option Data) (names : List (List ℕ)) (name : List ℕ) : Type 0 where
  pub told : Contains names name → is_private name ≡ false
      → ((d : Data) × (get_member name (shown_values f names) ≡ Some d)) ⊎ Contains (opaque_names f names) name
  pub shown : (d : Data) → get_member name (shown_values f names) ≡ Some d
      → Contains names name × (is_private name ≡ false) × (f name ≡ Some d)
  pub opaque : Contains (opaque_names f names) name → Contains names name × (is_private name ≡ false) × (f name ≡ None)

abbrev pub NoneDropped : Type 0
NoneDropped = (f : List ℕ → Option Data) (names : List (List ℕ)) (name : List ℕ) → IsToldOnce f names name

-- there are as many values and opaque names together as names that are not private
abbrev pub AreToldOnce : (List ℕ → Option Data) → List (List ℕ) → Type 0
AreToldOnce f names =
    member_count (shown_values f names) + length (opaque_names f names)
    ≡ length (filter (λ n. not (is_private n)) names)

-- no global of a file that ended well is reported twice
abbrev pub NoneTwice : Type 0
NoneTwice =
    (plan : Plan) (n : ℕ) (shelf : Shelf) (globals : List (List ℕ × Value)) (texts : List (List ℕ × List ℕ))
    (lines : List Said) → IsOutcome plan n (Ran (Good shelf globals texts lines))
    → AreToldOnce (global_data (on_shelf shelf) globals) (map (λ g. g.0) texts)
