-- Reached files and walks of loads.
use Rattle.std.proofs.Common.{◌≡◌, ℕ, zero, suc, Some, refl, subst}
use Rattle.std.specs.Prelude.{Contains}
use Rattle.star_cache.specs.Walk.{Walk, LeadsTo}
use Rattle.star_cache.specs.State.{Loads}
use Rattle.star_cache.proofs.Cycles.{LeadsTo-push}
use Rattle.star_plan.specs.Laws.{ReadingsMakePlans}
use Rattle.star_plan.specs.Plan.{Plan, Reading, loaded, read_of}
use Rattle.star_plan.specs.Reached.{IsReached, root, load}

pub walked : (plan : Plan) (k r n : ℕ) → IsReached plan r → Walk (Loads (loaded plan)) k r n → IsReached plan n
walked plan zero r n reached w = subst (IsReached plan) w reached
walked plan (suc k) r n reached w = walked plan k w.0 n (load reached w.1) w.2

pub to_walk : (plan : Plan) (n : ℕ) → IsReached plan n → (r : ℕ) × Contains plan.roots r × LeadsTo (Loads (loaded plan)) r n
to_walk plan n (root h) = (n, h, (0, refl))
to_walk plan m (load {n = n} reached step) =
    let way = to_walk plan n reached in
    (way.0, way.1, LeadsTo-push (Loads (loaded plan)) way.0 n m way.2 step)

pub least : (plan : Plan) (P : ℕ → Type 0) → ((n : ℕ) → Contains plan.roots n → P n) → ((n m : ℕ) → P n → Loads (loaded plan) n m → P m) → (n : ℕ) → IsReached plan n → P n
least plan P roots step n (root h) = roots n h
least plan P roots step m (load {n = n} reached h) = step n m (least plan P roots step n reached) h

pub readings_make_plans : ReadingsMakePlans
readings_make_plans files plan prelude prelude_is size right roots loads = record {
  prelude = prelude;
  prelude_is = prelude_is;
  size = size;
  right = λ n r e. (right n r e).0;
  reached = λ n. (least plan (λ k. (r : Reading) × (read_of plan k ≡ Some r)) roots (λ k m read step. loads k m read.0 read.1 step) n, λ h. (right n h.0 h.1).1);
}
