-- The edges of the graph are the loads.
use Rattle.std.proofs.Common.{arith, ◌≡◌, ◌<◌, ◌||◌, ℕ, zero, suc, Bool, true, false, List, [], ◌∷◌, ◌++◌, length, map, get_or, refl, ap, sym, subst, ◌∙◌, eqb-true, if◌then◌else◌}
use Rattle.std.specs.Prelude.{All, Contains, is_some, nat_eq}
use Rattle.std.specs.List.{filter, list_any}
use Rattle.std.proofs.lemmas.List.{get_or-map, length-map}
use Rattle.std.proofs.lemmas.List.Elements.{All-contains, Contains-append_cases, Contains-append_left, Contains-append_right, Contains-get_or}
use Rattle.indexmap.proofs.CallerLemmas.{Contains-insert_key}
use Rattle.indexmap.specs.IndexSet.{insert_all, insert_key}
use Rattle.star_outline.specs.Definitions.{AllDiffer}
use Rattle.star_scope.specs.declared.loads.Load.{Load}
use Rattle.star_plan.specs.Plan.{loads_of}
use Rattle.star_plan.specs.Reached.{IsReached}
use Rattle.star_reading.proofs.Finds.{by_cases, contains_here, contains_one}
use Rattle.star_report.specs.Graph.{IsNode, Node, targets}
use Rattle.star_report.specs.Laws.{EdgesAreLoads, EdgesStandOnce, HasEdge, ReportAsBefore}
use Rattle.star_report.proofs.Drawings.{targets_all}
use Rattle.star_report.proofs.Nothing.{nothing_more_wanted}

-- ---- targets

insert_stays : (b : Bool) (ks : List ℕ) (k x : ℕ) → Contains ks x → Contains (if b then ks else ks ++ k ∷ []) x
insert_stays true ks k x c = c
insert_stays false ks k x c = Contains-append_left ks (k ∷ []) x c

all_stay : (ks xs : List ℕ) (x : ℕ) → Contains ks x → Contains (insert_all nat_eq ks xs) x
all_stay ks [] x c = c
all_stay ks (y ∷ xs) x c = all_stay (insert_key nat_eq ks y) xs x (insert_stays (list_any (nat_eq y) ks) ks y x c)

all_there : (ks xs : List ℕ) (x : ℕ) → Contains xs x → Contains (insert_all nat_eq ks xs) x
all_there ks [] x (k, less, e) = absurd (let no : ⊥ = omega (arith, less) in no)
all_there ks (y ∷ xs) x (zero, less, e) = all_stay (insert_key nat_eq ks y) xs x (subst (Contains (insert_key nat_eq ks y)) e (Contains-insert_key nat_eq eqb-true ks y))
all_there ks (y ∷ xs) x (suc k, less, e) = all_there (insert_key nat_eq ks y) xs x (k, omega (arith, less), e)

stated_there : (loads : List Load) (l : Load) → Contains loads l → is_some l.token ≡ true → Contains (map (λ (x : Load). x.file) (filter (λ (x : Load). is_some x.token) loads)) l.file
stated_there [] l (k, less, e) tok = absurd (let no : ⊥ = omega (arith, less) in no)
stated_there (x ∷ xs) l (zero, less, e) tok =
    let own : is_some x.token ≡ true = ap (λ (y : Load). is_some y.token) e ∙ tok in
    subst (λ b. Contains (map (λ (y : Load). y.file) (if b then x ∷ filter (λ (y : Load). is_some y.token) xs else filter (λ (y : Load). is_some y.token) xs)) l.file) (sym own)
    (Contains-append_left (x.file ∷ []) (map (λ (y : Load). y.file) (filter (λ (y : Load). is_some y.token) xs)) l.file (subst (Contains (x.file ∷ [])) (ap (λ (y : Load). y.file) e) (contains_here x.file)))
stated_there (x ∷ xs) l (suc k, less, e) tok = turn (is_some x.token) (stated_there xs l (k, omega (arith, less), e) tok)
  where
    turn : (b : Bool) → Contains (map (λ (y : Load). y.file) (filter (λ (y : Load). is_some y.token) xs)) l.file → Contains (map (λ (y : Load). y.file) (if b then x ∷ filter (λ (y : Load). is_some y.token) xs else filter (λ (y : Load). is_some y.token) xs)) l.file
    turn true c = Contains-append_right (x.file ∷ []) (map (λ (y : Load). y.file) (filter (λ (y : Load). is_some y.token) xs)) l.file c
    turn false c = c

-- a load by a statement
abbrev Stated : List Load → ℕ → Type 0
Stated loads m = (l : Load) × Contains loads l × (is_some l.token ≡ true) × (l.file ≡ m)

stated_own : (loads : List Load) → All (λ (l : Load). is_some l.token ≡ true → Stated loads l.file) loads
stated_own loads i d less tok = (get_or loads i d, Contains-get_or loads i d less, tok, refl)

target_stated : (loads : List Load) (m : ℕ) → Contains (targets loads) m → Stated loads m
target_stated loads m c = All-contains (Stated loads) (targets loads) m (targets_all (Stated loads) loads (stated_own loads)) c

stated_target : (loads : List Load) (m : ℕ) → Stated loads m → Contains (targets loads) m
stated_target loads m (l, there, tok, e) = subst (Contains (targets loads)) e (all_there [] (map (λ (x : Load). x.file) (filter (λ (x : Load). is_some x.token) loads)) l.file (stated_there loads l there tok))

-- ---- the law

file_there : (vs : List Node) (v : Node) → Contains vs v → Contains (map (λ (x : Node). x.file) vs) v.file
file_there vs v c = (c.0, (omega (arith, c.1, length-map vs (λ (x : Node). x.file))), get_or-map (λ (x : Node). x.file) vs c.0 v v.file c.1 ∙ ap (λ (x : Node). x.file) c.2)

node_there : (vs : List Node) (n : ℕ) → Contains (map (λ (x : Node). x.file) vs) n → (v : Node) × Contains vs v × (v.file ≡ n)
node_there vs n c =
    let none : Node = record { file = n; is_ok = false; edges = [] } in
    let low : c.0 < length vs = omega (arith, c.1, length-map vs (λ (x : Node). x.file)) in
    (get_or vs c.0 none, Contains-get_or vs c.0 none low, sym (get_or-map (λ (x : Node). x.file) vs c.0 none n low) ∙ c.2)

pub edges_are_loads : EdgesAreLoads
edges_are_loads plan nodes is n m = (to, from)
  where
    to : HasEdge nodes n m → IsReached plan n × Stated (loads_of plan n) m
    to (v, there, at, edge) =
        let node = All-contains (IsNode plan) nodes v is.each there in
        (subst (IsReached plan) at ((is.all v.file).1 (file_there nodes v there)), subst (λ k. Stated (loads_of plan k) m) at (target_stated (loads_of plan v.file) m (subst (λ ts. Contains ts m) node.edges edge)))

    from : (IsReached plan n × Stated (loads_of plan n) m) → HasEdge nodes n m
    from (reached, stated) =
        let found = node_there nodes n ((is.all n).0 reached) in
        let node = All-contains (IsNode plan) nodes found.0 is.each found.1 in
        (found.0, found.1, found.2, subst (λ ts. Contains ts m) (sym node.edges) (stated_target (loads_of plan found.0.file) m (subst (λ k. Stated (loads_of plan k) m) (sym found.2) stated)))

-- ---- each once

any_there : (ks : List ℕ) (k : ℕ) → Contains ks k → list_any (nat_eq k) ks ≡ true
any_there [] k (i, less, e) = absurd (let no : ⊥ = omega (arith, less) in no)
any_there (x ∷ xs) k (zero, less, e) =
    let own : nat_eq k x ≡ true = grind (arith, e) in
    ap (λ b. b || list_any (nat_eq k) xs) own
any_there (x ∷ xs) k (suc i, less, e) = turn (nat_eq k x) (any_there xs k (i, omega (arith, less), e))
  where
    turn : (b : Bool) → list_any (nat_eq k) xs ≡ true → (b || list_any (nat_eq k) xs) ≡ true
    turn true h = refl
    turn false h = h

differ_push : (ks : List ℕ) (k : ℕ) → AllDiffer ks → (Contains ks k → ⊥) → AllDiffer (ks ++ k ∷ [])
differ_push [] k all none = (λ c. (let less = c.1 in let no : ⊥ = omega (arith, less) in no), tt)
differ_push (x ∷ xs) k all none = (
  λ c. by_cases (Contains-append_cases xs (k ∷ []) x c) all.0 (λ one. none (subst (Contains (x ∷ xs)) (sym (contains_one k x one)) (Contains-append_left (x ∷ []) xs x (contains_here x)))),
  differ_push xs k all.1 (λ c. none (Contains-append_right (x ∷ []) xs k c)),
)

insert_differ : (ks : List ℕ) (k : ℕ) (b : Bool) → list_any (nat_eq k) ks ≡ b → AllDiffer ks → AllDiffer (if b then ks else ks ++ k ∷ [])
insert_differ ks k true e all = all
insert_differ ks k false e all = differ_push ks k all (λ c. (let both : true ≡ false = sym (any_there ks k c) ∙ e in let no : ⊥ = cc in no))

all_differ : (ks xs : List ℕ) → AllDiffer ks → AllDiffer (insert_all nat_eq ks xs)
all_differ ks [] all = all
all_differ ks (x ∷ xs) all = all_differ (insert_key nat_eq ks x) xs (insert_differ ks x (list_any (nat_eq x) ks) refl all)

pub edges_stand_once : EdgesStandOnce
edges_stand_once plan nodes is v there =
    let node = All-contains (IsNode plan) nodes v is.each there in
    subst AllDiffer (sym node.edges) (all_differ [] (map (λ (l : Load). l.file) (filter (λ (l : Load). is_some l.token) (loads_of plan v.file))) tt)

pub report_as_before : ReportAsBefore
report_as_before files plan text ok =
    let same = nothing_more_wanted files plan text in
    (λ h. (same.0 h.0, h.1), λ h. (same.1 h.0, h.1))
