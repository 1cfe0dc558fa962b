-- The shelf that the run of a file is given, and the run that a good result comes from.
use Rattle.std.proofs.Common.{arith, ◌≡◌, ◌<◌, ℕ, zero, suc, List, [], ◌∷◌, map, length, Option, Some, None, refl, ap, sym, subst, ◌∙◌, ◌⊎◌, inl, inr}
use Rattle.std.specs.Prelude.{Contains, slice_get}
use Rattle.std.specs.Option.{option_flatten, option_map}
use Rattle.std.proofs.lemmas.Option.{slice_get-map}
use Rattle.star_cache.specs.State.{Loads}
use Rattle.star_cache.specs.Walk.{IsOnCycle, LeadsTo}
use Rattle.star_cache.proofs.Walks.{cycle-not_good, next_on_cycle}
use Rattle.star_store.specs.Store.{Published, put_up}
use Rattle.star_tree.specs.declared.tree.Statement.{Statement}
use Rattle.star_meaning.specs.Run.{Done, Failed, Outcome, State}
use Rattle.star_meaning.specs.Local.{reached, statements_of, statements_or_none}
use Rattle.star_meaning.specs.Module.{Ended, Good, Local, Stopped, local_of, union}
use Rattle.star_meaning.specs.Places.{Stands}
use Rattle.star_plan.specs.Plan.{Plan, Reading, loaded, read_of, tree_in, trees}
use Rattle.star_plan.specs.Results.{IsGoodAt, all_good, if_good, ran, result}
use Rattle.star_plan.specs.Runs.{given, run_by_names}
use Rattle.star_plan.proofs.Options.{chained}
use Rattle.star_plan.proofs.Outcomes.{below, never}
use Rattle.star_plan.proofs.Shelves.{from_loads, holds, of_ran, one-own}
use Rattle.star_plan.proofs.Stay.{result-from}
use Rattle.star_plan.proofs.Union.{is_free, put_up-keeps, put_up-own, union_has}

-- ---- loads and cycles

pub contained : (ns : List ℕ) (i n : ℕ) → slice_get ns i ≡ Some n → Contains ns n
contained [] i n e = absurd (let no : ⊥ = cc in no)
contained (x ∷ ns) zero n e = (0, omega arith, let same : x ≡ n = cc in same)
contained (x ∷ ns) (suc i) n e =
    let rest = contained ns i n e in
    let short : rest.0 < length ns = rest.1 in
    (suc rest.0, omega arith, rest.2)

-- a file on a cycle of loads is good at no depth, nor is the next file on it
pub cycle_is_bad : (plan : Plan) (d n m : ℕ) → IsOnCycle (Loads (loaded plan)) n m → (IsGoodAt plan d n → ⊥) × (IsGoodAt plan d m → ⊥)
cycle_is_bad plan d n m on =
    let R : ℕ → ℕ → Type 0 = Loads (loaded plan) in
    let bad = cycle-not_good R (IsGoodAt plan) (never plan) (below plan) in
    let turn = next_on_cycle R n m on.0 on.1 in
    (bad d n m on.0 on.1, bad d m turn.0 turn.1.0 turn.1.1)

-- a result with a module on its shelf is good
pub good_shelf : (m : Local) (k : ℕ) (p : Published) → slice_get (reached m) k ≡ Some (Some p) → if_good (Some m) ≡ Some m
good_shelf (Good shelf globals texts lines) k p at = refl
good_shelf (Stopped f lines) k p at = absurd (let no : ⊥ = cc in no)

pub good_there : (plan : Plan) (d n : ℕ) (m : Local) (k : ℕ) (p : Published) → result plan d n ≡ Some m → slice_get (reached m) k ≡ Some (Some p) → IsGoodAt plan d n
good_there plan d n m k p is at = (m, ap if_good is ∙ good_shelf m k p at)

-- a file leads by loads to each file whose module its result reaches
pub leads : (plan : Plan) (d n : ℕ) (m : Local) → result plan d n ≡ Some m → (k : ℕ) (p : Published) → slice_get (reached m) k ≡ Some (Some p) → LeadsTo (Loads (loaded plan)) n k
unfolding result
leads plan zero n m e k p at = absurd (let no : ⊥ = cc in no)
leads plan (suc d) n m e k p at =
    let from = result-from plan d n m e in
    turn (λ h.
    let one = from_loads (result plan d) (loaded plan n) from.0 from.1 k p h in
    let way = leads plan d one.file one.outcome one.result k p one.there in
    (suc way.0, (one.file, contained (loaded plan n) one.place one.file one.loads, way.1))) (of_ran plan n from.0 m from.2 k p at)
  where
    turn : {A : Type 0} → (A → LeadsTo (Loads (loaded plan)) n k) → (A ⊎ (k ≡ n)) → LeadsTo (Loads (loaded plan)) n k
    turn others (inl h) = others h
    turn others (inr same) = (0, sym same)

-- ---- the shelf that a run is given, if all loads have good results at a depth

-- the module of a file is not on the shelf of its own run
pub not_own : (plan : Plan) (d n : ℕ) (ms : List Local) → all_good (map (result plan d) (loaded plan n)) ≡ Some ms → (p : Published) → slice_get (union (map reached ms)) n ≡ Some (Some p) → ⊥
not_own plan d n ms all p at =
    let one = from_loads (result plan d) (loaded plan n) ms all n p at in
    let on : IsOnCycle (Loads (loaded plan)) n one.file = (contained (loaded plan n) one.place one.file one.loads, leads plan d one.file one.outcome one.result n p one.there) in
    (cycle_is_bad plan d n one.file on).1 (good_there plan d one.file one.outcome n p one.result one.there)

-- the modules that a load's result reaches are there
pub stands_too : (plan : Plan) (d n : ℕ) (ms : List Local) → all_good (map (result plan d) (loaded plan n)) ≡ Some ms
    → (i k : ℕ) (m : Local) → slice_get ms i ≡ Some m → result plan d k ≡ Some m
    → (j : ℕ) (p : Published) → slice_get (reached m) j ≡ Some (Some p) → slice_get (union (map reached ms)) j ≡ Some (Some p)
stands_too plan d n ms all i k m among is j p at =
    let there : slice_get (map reached ms) i ≡ Some (reached m) = slice_get-map reached ms i ∙ ap (option_map reached) among in
    let has = union_has (map reached ms) i (reached m) j p there at in
    let one = from_loads (result plan d) (loaded plan n) ms all j has.0 has.1 in
    let same : has.0 ≡ p = one-own plan j has.0 p (holds plan d one.file one.outcome one.result j has.0 one.there) (holds plan d k m is j p at) in
    subst (λ z. slice_get (union (map reached ms)) j ≡ Some (Some z)) same has.1

-- ---- statements

tree_at : (o : Option (Option Reading)) (ss : List Statement) → tree_in (option_flatten o) ≡ Some ss → option_map tree_in o ≡ Some (Some ss)
tree_at None ss e = absurd (let no : ⊥ = cc in no)
tree_at (Some None) ss e = absurd (let no : ⊥ = cc in no)
tree_at (Some (Some r)) ss e = ap Some e

pub stands : (plan : Plan) (n : ℕ) (ss : List Statement) → tree_in (read_of plan n) ≡ Some ss → Stands (trees plan) n ss
stands plan n ss e = slice_get-map tree_in plan.reads n ∙ tree_at (slice_get plan.reads n) ss e

pub statements_are : (plan : Plan) (n : ℕ) (ss : List Statement) → tree_in (read_of plan n) ≡ Some ss → statements_of (trees plan) n ≡ ss
statements_are plan n ss e = ap (λ o. statements_or_none (option_flatten o)) (stands plan n ss e)

-- a file with a result has no static fault
pub result-sound : (plan : Plan) (d n : ℕ) (m : Local) → result plan d n ≡ Some m → (ss : List Statement) × (tree_in (read_of plan n) ≡ Some ss)
unfolding result
result-sound plan zero n m e = absurd (let no : ⊥ = cc in no)
result-sound plan (suc d) n m e =
    let body = chained (λ ss. option_map (ran plan n) (all_good (map (result plan d) (loaded plan n)))) (tree_in (read_of plan n)) m e in
    (body.0, body.1)

-- ---- the run that a result comes from

-- the own module of a run that ended so
abbrev pub own_module : Ended → State → Published
own_module e t = record { cells = t.store.cells; globals = e.globals }

-- a run that ended well, and its module
pub record EndsWell (plan : Plan) (n : ℕ) (ss : List Statement) (ms : List Local) (m : Local) : Type 0 where
  pub ended : Ended
  pub state : State
  pub done : run_by_names plan n ss ms ≡ Done ended state
  pub shelf : reached m ≡ put_up n (own_module ended state) (union (map reached ms))

pub ran-is : (plan : Plan) (n : ℕ) (ss : List Statement) (ms : List Local) → tree_in (read_of plan n) ≡ Some ss → local_of (given plan n ms) (run_by_names plan n ss ms) ≡ ran plan n ms
unfolding ran
ran-is plan n ss ms e = ap (λ xs. local_of (given plan n ms) (run_by_names plan n xs ms)) (sym (statements_are plan n ss e))

ends_well_by : (plan : Plan) (n : ℕ) (ss : List Statement) (ms : List Local) (m : Local) (o : Outcome Ended) → run_by_names plan n ss ms ≡ o → local_of (given plan n ms) o ≡ m → if_good (Some m) ≡ Some m → EndsWell plan n ss ms m
ends_well_by plan n ss ms m (Failed f lines) is e good =
    let nothing : None ≡ Some m = ap (λ x. if_good (Some x)) e ∙ good in
    absurd (let no : ⊥ = cc in no)
ends_well_by plan n ss ms m (Done x t) is e good = record { ended = x; state = t; done = is; shelf = ap reached (sym e) }

-- a good result comes from a run that ended well
pub ends_well : (plan : Plan) (n : ℕ) (ss : List Statement) (ms : List Local) (m : Local) → tree_in (read_of plan n) ≡ Some ss → ran plan n ms ≡ m → if_good (Some m) ≡ Some m → EndsWell plan n ss ms m
ends_well plan n ss ms m sound is good = ends_well_by plan n ss ms m (run_by_names plan n ss ms) refl (ran-is plan n ss ms sound ∙ is) good

-- the result reaches each module on the shelf of that run
pub run-keeps : (plan : Plan) (n : ℕ) (ss : List Statement) (ms : List Local) (m : Local) (run : EndsWell plan n ss ms m) (j : ℕ) (q : Published) → slice_get (union (map reached ms)) j ≡ Some (Some q) → slice_get (reached m) j ≡ Some (Some q)
run-keeps plan n ss ms m run j q at = ap (λ x. slice_get x j) run.shelf ∙ put_up-keeps n (own_module run.ended run.state) (union (map reached ms)) j q at

-- and so is the module that the run left
pub run-own : (plan : Plan) (d n : ℕ) (ss : List Statement) (ms : List Local) (m : Local) (run : EndsWell plan n ss ms m) → all_good (map (result plan d) (loaded plan n)) ≡ Some ms → slice_get (reached m) n ≡ Some (Some (own_module run.ended run.state))
run-own plan d n ss ms m run all = ap (λ x. slice_get x n) run.shelf ∙ put_up-own n (own_module run.ended run.state) (union (map reached ms)) (is_free (slice_get (union (map reached ms)) n) (not_own plan d n ms all))
