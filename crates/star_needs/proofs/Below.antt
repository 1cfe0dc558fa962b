-- The modules on the shelf of a run: each is its file's own at the depth of the loads, and all that its file reached is on
-- the shelf too.
use Rattle.std.proofs.Common.{arith, ◌≡◌, ◌⊎◌, inl, inr, ℕ, zero, suc, List, map, Some, sym, subst}
use Rattle.std.specs.Prelude.{slice_get}
use Rattle.star_cache.specs.State.{Loads}
use Rattle.star_cache.specs.Walk.{LeadsTo}
use Rattle.star_cache.proofs.Walks.{LeadsTo-join}
use Rattle.star_store.specs.Store.{Published}
use Rattle.star_meaning.specs.Local.{reached}
use Rattle.star_meaning.specs.Module.{Local, union}
use Rattle.star_plan.specs.Plan.{Plan, loaded}
use Rattle.star_plan.specs.Results.{AreGood, all_good, result}
use Rattle.star_plan.specs.Runs.{given}
use Rattle.star_plan.specs.Shelves.{Needs}
use Rattle.star_plan.proofs.Needs.{given_holds_needs}
use Rattle.star_plan.proofs.Seen.{leads}
use Rattle.star_plan.proofs.Shelves.{from_loads, holds, of_ran}
use Rattle.star_plan.proofs.Stay.{result-from, result-stays}

-- a file has a result at a depth, with this module of its own
pub record HasOwn (plan : Plan) (d k : ℕ) (p : Published) : Type 0 where
  pub outcome : Local
  pub ended : result plan d k ≡ Some outcome
  pub there : slice_get (reached outcome) k ≡ Some (Some p)

raised : (plan : Plan) (d k : ℕ) (p : Published) → HasOwn plan d k p → HasOwn plan (suc d) k p
raised plan d k p h = record { outcome = h.outcome; ended = result-stays plan d (suc d) k h.outcome (omega arith) h.ended; there = h.there }

pub own_below : (plan : Plan) (d n : ℕ) (m : Local) → result plan d n ≡ Some m → (k : ℕ) (p : Published) → slice_get (reached m) k ≡ Some (Some p) → HasOwn plan d k p
unfolding result
own_below plan zero n m e k p at = absurd (let no : ⊥ = cc in no)
own_below plan (suc d) n m e k p at =
    let from = result-from plan d n m e in
    turn (λ h. let one = from_loads (result plan d) (loaded plan n) from.0 from.1 k p h in raised plan d k p (own_below plan d one.file one.outcome one.result k p one.there)) (of_ran plan n from.0 m from.2 k p at)
  where
    turn : {A : Type 0} → (A → HasOwn plan (suc d) k p) → (A ⊎ (k ≡ n)) → HasOwn plan (suc d) k p
    turn others (inl h) = others h
    turn others (inr same) = record { outcome = m; ended = subst (λ z. result plan (suc d) z ≡ Some m) (sym same) e; there = at }

pub given_below : (plan : Plan) (d n : ℕ) (ms : List Local) → all_good (map (result plan d) (loaded plan n)) ≡ Some ms → (k : ℕ) (p : Published) → slice_get (union (map reached ms)) k ≡ Some (Some p) → HasOwn plan d k p
given_below plan d n ms all k p at =
    let one = from_loads (result plan d) (loaded plan n) ms all k p at in
    own_below plan d one.file one.outcome one.result k p one.there

-- all that a file on the shelf reached is there
pub reached_there : (plan : Plan) (n : ℕ) (ms : List Local) → AreGood plan (loaded plan n) ms → (h : ℕ) (x : Published) → slice_get (given plan n ms).shelf h ≡ Some (Some x)
    → (e : ℕ) (m : Local) → result plan e h ≡ Some m → (k : ℕ) (p : Published) → slice_get (reached m) k ≡ Some (Some p) → slice_get (given plan n ms).shelf k ≡ Some (Some p)
reached_there plan n ms g h x on e m is k p at =
    let all = (given_holds_needs plan n ms g).0 in
    let need : Needs plan n h = ((all h x).0 on).0 in
    let way : LeadsTo (Loads (loaded plan)) need.0 k = LeadsTo-join (Loads (loaded plan)) need.2.0 need.0 h k need.2.1 (leads plan e h m is k p at) in
    (all k p).1 ((need.0, need.1, way), holds plan e h m is k p at)
