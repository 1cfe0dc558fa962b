-- The graph of loads.
use Rattle.std.proofs.Common.{arith, ◌≡◌, ◌<◌, ◌+◌, ◌↔◌, ℕ, zero, suc, Bool, true, false, List, [], ◌∷◌, ◌++◌, length, map, take, get_or, Some, None, refl, ap, sym, subst, ◌∙◌, if◌then◌else◌}
use denote.Ref.{Bor}
use Rattle.std.specs.Prelude.{All, Contains, filter, is_some, nat_eq, slice_get}
use Rattle.std.specs.List.{list_any}
use Rattle.std.proofs.lemmas.List.{map_push, take_more}
use Rattle.std.proofs.lemmas.List.Elements.{All-append, All-contains, Contains-append_left, Contains-append_right}
use Rattle.indexmap.specs.IndexSet.{insert_all, insert_key}
use Rattle.star_cache.specs.State.{Loads}
use Rattle.star_cache.specs.Walk.{LeadsTo}
use Rattle.star_cache.proofs.Walks.{Walk-fewer}
use Rattle.star_scope.specs.declared.loads.Load.{Load}
use Rattle.star_plan.specs.Plan.{Plan, loaded, loads_of}
use Rattle.star_plan.specs.Reached.{IsReached}
use Rattle.star_plan.specs.Results.{IsGood}
use Rattle.star_reading.specs.Readings.{InReadPlans, LeadWithin, Row, loads_at, readings}
use Rattle.star_reading.proofs.Finds.{all_one, contains_here}
use Rattle.star_reading.specs.Listed.{AreListed}
use Rattle.star_reading.proofs.Listed.{listed_more, listed_on}
use Rattle.star_reading.proofs.Rows.{loads_are}
use Rattle.star_outcome.specs.Goods.{end_good}
use Rattle.star_outcome.specs.Views.{IsModule, ended_well}
use Rattle.star_outcome.specs.declared.module.Module.{Module}
use Rattle.star_report.specs.Drawn.{EndWithin, IsGraphBelow, IsNextNode, SayCycles, SaysCycle, node_view}
use Rattle.star_report.specs.Graph as graph
use Rattle.star_report.specs.Graph.{IsGraph, IsNode, targets}
use Rattle.star_report.specs.Components.{AreComponents, AreOne, loaded_at}
use Rattle.star_report.specs.Table.{IsTable, Table}
use Rattle.star_report.specs.declared.components.Mark.{Mark}
use Rattle.star_report.specs.declared.graph.Edge.{Edge}
use Rattle.star_report.specs.declared.graph.Node.{Node}

-- ---- targets

insert_keeps : (P : ℕ → Type 0) (b : Bool) (ks : List ℕ) (k : ℕ) → All P ks → P k → All P (if b then ks else ks ++ k ∷ [])
insert_keeps P true ks k all one = all
insert_keeps P false ks k all one = All-append P ks (k ∷ []) all (all_one P k one)

insert_all_keeps : (P : ℕ → Type 0) (ks xs : List ℕ) → All P ks → All P xs → All P (insert_all nat_eq ks xs)
insert_all_keeps P ks [] all more = all
insert_all_keeps P ks (x ∷ xs) all more =
    insert_all_keeps P (insert_key nat_eq ks x) xs (insert_keeps P (list_any (nat_eq x) ks) ks x all (more 0 x (omega arith))) (λ i d lt. more (suc i) d (omega (arith, lt)))

none_fail : (P : ℕ → Type 0) → All P []
none_fail P i d lt = absurd (let no : ⊥ = omega (arith, lt) in no)

stated_all : (P : ℕ → Type 0) (loads : List Load) → All (λ (l : Load). is_some l.token ≡ true → P l.file) loads → All P (map (λ (l : Load). l.file) (filter (λ (l : Load). is_some l.token) loads))
stated_all P [] all = none_fail P
stated_all P (x ∷ xs) all = turn (is_some x.token) refl (stated_all P xs (λ i d lt. all (suc i) d (omega (arith, lt))))
  where
    turn : (b : Bool) → is_some x.token ≡ b → All P (map (λ (l : Load). l.file) (filter (λ (l : Load). is_some l.token) xs)) → All P (map (λ (l : Load). l.file) (if b then x ∷ filter (λ (l : Load). is_some l.token) xs else filter (λ (l : Load). is_some l.token) xs))
    turn true is rest = All-append P (x.file ∷ []) (map (λ (l : Load). l.file) (filter (λ (l : Load). is_some l.token) xs)) (all_one P x.file (all 0 x (omega arith) is)) rest
    turn false is rest = rest

-- a property of all files that load statements load is one of the targets
pub targets_all : (P : ℕ → Type 0) (loads : List Load) → All (λ (l : Load). is_some l.token ≡ true → P l.file) loads → All P (targets loads)
targets_all P loads all = insert_all_keeps P [] (map (λ (l : Load). l.file) (filter (λ (l : Load). is_some l.token) loads)) (none_fail P) (stated_all P loads all)

own_there : (loads : List Load) → All (λ (l : Load). Contains (map (λ (x : Load). x.file) loads) l.file) loads
own_there [] i d lt = absurd (let no : ⊥ = omega (arith, lt) in no)
own_there (x ∷ xs) zero d lt = Contains-append_left (x.file ∷ []) (map (λ (y : Load). y.file) xs) x.file (contains_here x.file)
own_there (x ∷ xs) (suc i) d lt = Contains-append_right (x.file ∷ []) (map (λ (y : Load). y.file) xs) (get_or xs i d).file (own_there xs i d (omega (arith, lt)))

-- a target is a file that is loaded
pub target_loaded : (plan : Plan) (row : Row) (n m : ℕ) → readings row ≡ plan.reads → Contains (targets (loads_at row n)) m → Loads (loaded plan) n m
target_loaded plan row n m read there =
    subst (λ ls. Contains (map (λ (l : Load). l.file) ls) m) (sym (loads_are plan row n read))
    (All-contains (λ k. Contains (map (λ (l : Load). l.file) (loads_at row n)) k) (targets (loads_at row n)) m (targets_all (λ k. Contains (map (λ (l : Load). l.file) (loads_at row n)) k) (loads_at row n) (λ i d lt _. own_there (loads_at row n) i d lt)) there)

pub target_within : (row : Row) (n m : ℕ) → LeadWithin row → Contains (targets (loads_at row n)) m → m < length row
target_within row n m within there = All-contains (λ k. k < length row) (targets (loads_at row n)) m (targets_all (λ k. k < length row) (loads_at row n) (λ i d lt _. within n i d lt)) there

-- ---- cycles

pub module_good : (plan : Plan) (n : ℕ) (m : Module) → IsModule plan n m → (ended_well m.ended ≡ true) ↔ IsGood plan n
module_good plan n m is = end_good plan n m.ended is.ended

-- if the loaded file leads back, the load lies on a cycle
back_says : (plan : Plan) (row : Row) (n m : ℕ) (b : Bool) → readings row ≡ plan.reads → Loads (loaded plan) n m → (b ≡ true) ↔ LeadsTo (Loads (loaded_at row)) m n → SaysCycle plan n m b
back_says plan row n m b read load leads = (λ e. (load, forth (leads.0 e)), λ on. leads.1 (back on.1))
  where
    same : (k : ℕ) → loaded plan k ≡ loaded_at row k
    same k = ap (map (λ (l : Load). l.file)) (loads_are plan row k read)

    forth : LeadsTo (Loads (loaded_at row)) m n → LeadsTo (Loads (loaded plan)) m n
    forth (k, w) = (k, Walk-fewer (Loads (loaded plan)) (Loads (loaded_at row)) (λ x y c. subst (λ ns. Contains ns y) (sym (same x)) c) k m n w)

    back : LeadsTo (Loads (loaded plan)) m n → LeadsTo (Loads (loaded_at row)) m n
    back (k, w) = (k, Walk-fewer (Loads (loaded_at row)) (Loads (loaded plan)) (λ x y c. subst (λ ns. Contains ns y) (same x) c) k m n w)

-- if both files are in one component, it does
pub one_says : (plan : Plan) (row : Row) (marks : List Mark) (n m : ℕ) (b : Bool) → readings row ≡ plan.reads → AreComponents row marks → n < length row → m < length row → Loads (loaded plan) n m → (b ≡ true) ↔ AreOne marks n m → SaysCycle plan n m b
one_says plan row marks n m b read all n_in m_in load says =
    back_says plan row n m b read load (λ e. ((all n m n_in m_in).0 (says.0 e)).1, λ back. says.1 ((all n m n_in m_in).1 ((1, (m, there, refl)), back)))
  where
    there : Loads (loaded_at row) n m
    there = subst (λ ns. Contains ns m) (ap (map (λ (l : Load). l.file)) (loads_are plan row n read)) load

-- ---- edges

pub edges_push : (row : Row) (it : Module) (edges : List Edge) (e : Edge) → SayCycles row it edges → InReadPlans row (λ plan. IsModule plan it.number it → SaysCycle plan it.number e.to e.on_cycle) → SayCycles row it (edges ++ e ∷ [])
edges_push row it edges e say one plan read is =
    let P = λ (x : Edge). SaysCycle plan it.number x.to x.on_cycle in
    All-append P edges (e ∷ []) (say plan read is) (edge_one P e (one plan read is))
  where
    edge_one : (P : Edge → Type 0) (x : Edge) → P x → All P (x ∷ [])
    edge_one P x h zero d lt = h
    edge_one P x h (suc k) d lt = absurd (let no : ⊥ = omega (arith, lt) in no)

edge_alone : (P : Edge → Type 0) (x : Edge) → P x → All P (x ∷ [])
edge_alone P x h zero d lt = h
edge_alone P x h (suc k) d lt = absurd (let no : ⊥ = omega (arith, lt) in no)

pub within_push : (count : ℕ) (edges : List Edge) (e : Edge) → EndWithin count edges → e.to < count → EndWithin count (edges ++ e ∷ [])
within_push count edges e all less = All-append (λ (x : Edge). x.to < count) edges (e ∷ []) all (edge_alone (λ (x : Edge). x.to < count) e less)

pub to_more : (edges : List Edge) (files : List ℕ) (i m : ℕ) (b : Bool) → i < length files → ((d : ℕ) → get_or files i d ≡ m) → map (λ (e : Edge). e.to) edges ≡ take i files
    → map (λ (e : Edge). e.to) (edges ++ (record { to = m; on_cycle = b }) ∷ []) ≡ take (i + 1) files
to_more edges files i m b less at was =
    map_push (λ (e : Edge). e.to) edges (record { to = m; on_cycle = b }) ∙ (ap (λ ns. ns ++ m ∷ []) was ∙ (ap (λ x. take i files ++ x ∷ []) (sym (at 0)) ∙ sym (take_more files i 0 less)))

-- ---- nodes

pub node_is : (plan : Plan) (row : Row) (it : Module) (v : Node) → readings row ≡ plan.reads → IsModule plan it.number it → v.file ≡ it.number → v.is_ok ≡ ended_well it.ended → map (λ (e : Edge). e.to) v.edges.items ≡ targets (loads_at row it.number) → SayCycles row it v.edges.items → IsNode plan (node_view v)
node_is plan row it v read is file ok edges say = record {
  ok =
      let tell = module_good plan it.number it is in
      (λ e. subst (IsGood plan) (sym file) (tell.0 (sym ok ∙ e)), λ g. ok ∙ tell.1 (subst (IsGood plan) file g));
  edges = edges ∙ (ap targets (sym (loads_are plan row it.number read)) ∙ ap (λ n. targets (loads_of plan n)) (sym file));
  cycles = subst (λ n. All (λ (e : Edge). SaysCycle plan n e.to e.on_cycle) v.edges.items) (sym file) (say plan read is);
}

abbrev files_of : List graph.Node → List ℕ
files_of vs = map (λ (v : graph.Node). v.file) vs

-- a file that is not reached is passed by
pub graph_on : (plan : Plan) (n : ℕ) (vs : List graph.Node) → (IsReached plan n → ⊥) → IsGraphBelow plan n vs → IsGraphBelow plan (n + 1) vs
graph_on plan n vs never is = record { listed = listed_on plan n (files_of vs) never is.listed; each = is.each }

node_one : (plan : Plan) (v : graph.Node) → IsNode plan v → All (IsNode plan) (v ∷ [])
node_one plan v h zero d lt = h
node_one plan v h (suc k) d lt = absurd (let no : ⊥ = omega (arith, lt) in no)

-- a reached file has a node
pub graph_more : (plan : Plan) (n : ℕ) (vs : List graph.Node) (v : graph.Node) → v.file ≡ n → IsReached plan n → IsNode plan v → IsGraphBelow plan n vs → IsGraphBelow plan (n + 1) (vs ++ v ∷ [])
graph_more plan n vs v at reached node is = record {
  listed = subst (AreListed plan (n + 1)) (sym (map_push (λ (x : graph.Node). x.file) vs v)) (listed_more plan n (files_of vs) v.file at reached is.listed);
  each = All-append (IsNode plan) vs (v ∷ []) is.each (node_one plan v node);
}

within_table : (table : Table) (n : ℕ) (m : Bor Module) → slice_get table n ≡ Some (Some m) → n < length table
within_table [] n m e = absurd (let no : ⊥ = cc in no)
within_table (x ∷ xs) zero m e = omega arith
within_table (x ∷ xs) (suc n) m e = let less : n < length xs = within_table xs n m e in omega (arith, less)

-- all files were passed
pub graph_all : (plan : Plan) (table : Table) (n : ℕ) (vs : List graph.Node) → n ≡ length table → IsTable plan table → IsGraphBelow plan n vs → IsGraph plan vs
graph_all plan table n vs end is_table is = record {
  in_order = is.listed.in_order;
  all = λ m. (λ r. is.listed.all m r (let there = is_table.all m r in let less = within_table table m there.0 there.1 in omega (arith, less, end)), is.listed.reached m);
  each = is.each;
}

-- the next entry of the table
pub next_some : (plan : Plan) (m : Bor Module) (old : List Node) (v : Node) (new : List Node) → v.file ≡ m.now.number → (IsModule plan m.now.number m.now → IsNode plan (node_view v)) → new ≡ old ++ v ∷ [] → IsNextNode plan (Some m) old new
next_some plan m old v new file node all table n is at below =
    let here = is.right n m at in
    let number : m.now.number ≡ n = here.1.number in
    let own = node (subst (λ k. IsModule plan k m.now) (sym number) here.1) in
    let same : map node_view new ≡ map node_view old ++ node_view v ∷ [] = ap (map node_view) all ∙ map_push node_view old v in
    subst (IsGraphBelow plan (n + 1)) (sym same) (graph_more plan n (map node_view old) (node_view v) (file ∙ number) here.0 own below)

pub next_none : (plan : Plan) (old : List Node) → IsNextNode plan None old old
next_none plan old table n is at below = graph_on plan n (map node_view old) (λ reached. (
    let there = is.all n reached in
    let both : Some None ≡ Some (Some there.0) = sym at ∙ there.1 in
    let no : ⊥ = cc in no
    )) below
