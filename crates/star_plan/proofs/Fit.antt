-- All functions fit before the run of each file whose loads are good, by the depth at which they are good.
use Rattle.std.proofs.Common.{arith, ◌≡◌, ℕ, zero, suc, Bool, true, false, List, [], map, Option, Some, None, refl, ap, sym, subst, ◌∙◌, ◌⊎◌, inl, inr, nat_eq}
use Rattle.std.specs.Prelude.{slice_get, if◌then◌else◌}
use Rattle.std.specs.Option.{option_flatten}
use Rattle.star_store.specs.declared.values.Value.{Value}
use Rattle.star_store.specs.declared.values.Value.TheVariants as value
use Rattle.star_store.specs.declared.values.Cell.{Cell}
use Rattle.star_store.specs.declared.values.Cell.TheVariants as cell
use Rattle.star_store.specs.declared.values.Function.{Function}
use Rattle.star_store.specs.Store.{Published, Shelf, is_taken, published_cells}
use Rattle.star_store.specs.Write.{cell_at}
use Rattle.star_tree.specs.declared.tree.Statement.{Statement}
use Rattle.star_meaning.specs.Local.{reached}
use Rattle.star_meaning.specs.Module.{Local, start, union}
use Rattle.star_meaning.specs.Places.{AllFit, FitAfter, IsResolved, Loaded, Stands, Tables}
use Rattle.star_meaning.specs.Program.{Setting, published_of, seen}
use Rattle.star_meaning.specs.Run.{State}
use Rattle.star_meaning.proofs.ByPlaces.{places_mean_names}
use Rattle.star_meaning.proofs.LoadedFit.{loads_fit}
use Rattle.star_plan.specs.Plan.{Plan, loaded, read_of, tree_in, trees}
use Rattle.star_plan.specs.Results.{all_good, result}
use Rattle.star_plan.specs.Runs.{given}
use Rattle.star_plan.proofs.Homes.{ends_at_home}
use Rattle.star_plan.proofs.Outcomes.{never}
use Rattle.star_plan.proofs.Seen.{EndsWell, contained, cycle_is_bad, ends_well, good_shelf, good_there, leads, not_own, own_module, result-sound, run-keeps, run-own, stands, stands_too}
use Rattle.star_plan.proofs.Rows.{flat_is}
use Rattle.star_plan.proofs.Shelves.{StandsOn, from_loads, from_put}
use Rattle.star_plan.proofs.Stay.{result-from}

-- the tables are right for each file in every run of the plan
abbrev pub Right : Plan → Tables → Type 0
Right plan tables = (n : ℕ) (ms : List Local) (file : ℕ) (ss : List Statement) → Stands (trees plan) file ss → IsResolved tables (given plan n ms) file ss

-- all functions fit before the run of each file whose loads are good at a depth
abbrev pub FitAt : Plan → ℕ → Type 0
FitAt plan d = (n : ℕ) (ms : List Local) → all_good (map (result plan d) (loaded plan n)) ≡ Some ms → AllFit (trees plan) (given plan n ms) (start (given plan n ms) plan.mode.steps)

pub same_number : (m n : ℕ) → m ≡ n → nat_eq m n ≡ true
same_number m n e = grind (arith, e)

pub other_number : (b : Bool) (m n : ℕ) → nat_eq m n ≡ b → (m ≡ n → ⊥) → b ≡ false
other_number true m n e h = absurd (h (grind (arith, e)))
other_number false m n e h = refl

-- a cell that is seen before a run is on its shelf
pub found_in : (b : Bool) (o : Option (Option Published)) (at : ℕ) (c : Cell) → cell_at (if b then [] else published_cells o) at ≡ Some c → (p : Published) × (o ≡ Some (Some p)) × (cell_at p.cells at ≡ Some c)
found_in true o at c e = absurd (let no : ⊥ = cc in no)
found_in false None at c e = absurd (let no : ⊥ = cc in no)
found_in false (Some None) at c e = absurd (let no : ⊥ = cc in no)
found_in false (Some (Some p)) at c e = (p, refl, e)

-- a load of a file: the place of its outcome among the outcomes of all loads, and its run, over good results at a
-- smaller depth
pub record Source (plan : Plan) (d n : ℕ) (ms : List Local) (k : ℕ) (m : Local) : Type 0 where
  pub all : all_good (map (result plan (suc d)) (loaded plan n)) ≡ Some ms
  pub place : ℕ
  pub loads : slice_get (loaded plan n) place ≡ Some k
  pub among : slice_get ms place ≡ Some m
  pub is : result plan (suc d) k ≡ Some m
  pub outcomes : List Local
  pub below : all_good (map (result plan d) (loaded plan k)) ≡ Some outcomes
  pub statements : List Statement
  pub sound : tree_in (read_of plan k) ≡ Some statements
  pub run : EndsWell plan k statements outcomes m

pub source : (plan : Plan) (d n : ℕ) (ms : List Local) → all_good (map (result plan (suc d)) (loaded plan n)) ≡ Some ms → (home : ℕ) (p : Published) → (one : StandsOn (result plan (suc d)) (loaded plan n) ms home p) → Source plan d n ms one.file one.outcome
source plan d n ms all home p one =
    let from = result-from plan d one.file one.outcome one.result in
    let sound = result-sound plan (suc d) one.file one.outcome one.result in
    record {
      all = all;
      place = one.place;
      loads = one.loads;
      among = one.among;
      is = one.result;
      outcomes = from.0;
      below = from.1;
      statements = sound.0;
      sound = sound.1;
      run = ends_well plan one.file sound.0 from.0 one.outcome sound.1 from.2 (good_shelf one.outcome home p one.there);
    }

abbrev pub own : (plan : Plan) (d n : ℕ) (ms : List Local) (k : ℕ) (m : Local) → Source plan d n ms k m → Published
own plan d n ms k m s = own_module s.run.ended s.run.state

-- the load's outcome reaches each module on the shelf of its run
pub kept : (plan : Plan) (d n : ℕ) (ms : List Local) (k : ℕ) (m : Local) (s : Source plan d n ms k m) (j : ℕ) (q : Published) → slice_get (union (map reached s.outcomes)) j ≡ Some (Some q) → slice_get (reached m) j ≡ Some (Some q)
kept plan d n ms k m s = run-keeps plan k s.statements s.outcomes m s.run

-- and so is the load's own module
pub own_there : (plan : Plan) (d n : ℕ) (ms : List Local) (k : ℕ) (m : Local) (s : Source plan d n ms k m) → slice_get (reached m) k ≡ Some (Some (own plan d n ms k m s))
own_there plan d n ms k m s = run-own plan d k s.statements s.outcomes m s.run s.below

-- each module that the load's outcome reaches is published for the file
pub published_too : (plan : Plan) (d n : ℕ) (ms : List Local) (k : ℕ) (m : Local) (s : Source plan d n ms k m) (j : ℕ) (q : Published) → slice_get (reached m) j ≡ Some (Some q) → published_of (given plan n ms) j ≡ Some q
published_too plan d n ms k m s j q at = ap option_flatten (stands_too plan (suc d) n ms s.all s.place k m s.among s.is j q at)

-- the file is not reached by the load's outcome
pub not_back : (plan : Plan) (d n : ℕ) (ms : List Local) (k : ℕ) (m : Local) (s : Source plan d n ms k m) (q : Published) → slice_get (reached m) n ≡ Some (Some q) → ⊥
not_back plan d n ms k m s q at = (cycle_is_bad plan (suc d) n k (contained (loaded plan n) s.place k s.loads, leads plan (suc d) k m s.is n q at)).1 (good_there plan (suc d) k m n q s.is at)

pub not_same : (plan : Plan) (d n : ℕ) (ms : List Local) (k : ℕ) (m : Local) (s : Source plan d n ms k m) → (n ≡ k → ⊥)
not_same plan d n ms k m s same = not_back plan d n ms k m s (own plan d n ms k m s) (subst (λ z. slice_get (reached m) z ≡ Some (Some (own plan d n ms k m s))) (sym same) (own_there plan d n ms k m s))

pub not_published : (plan : Plan) (d n : ℕ) (ms : List Local) (k : ℕ) (m : Local) (s : Source plan d n ms k m) (o : Option Published) → published_of (given plan k s.outcomes) n ≡ o → published_of (given plan k s.outcomes) n ≡ None
not_published plan d n ms k m s None e = e
not_published plan d n ms k m s (Some q) e = absurd (not_back plan d n ms k m s q (kept plan d n ms k m s n q (flat_is (slice_get (union (map reached s.outcomes)) n) q e)))

-- so it is a load that `loads_fit` can take
pub is_loaded : (plan : Plan) (d n : ℕ) (ms : List Local) (k : ℕ) (m : Local) (s : Source plan d n ms k m) → Loaded (given plan k s.outcomes) s.run.state (given plan n ms)
is_loaded plan d n ms k m s = record {
  outlines = refl;
  home = ends_at_home (given plan k s.outcomes) s.statements plan.mode.steps s.run.ended s.run.state s.run.done;
  own = (own plan d n ms k m s, published_too plan d n ms k m s k (own plan d n ms k m s) (own_there plan d n ms k m s), refl);
  others = λ j q e. published_too plan d n ms k m s j q (kept plan d n ms k m s j q (flat_is (slice_get (union (map reached s.outcomes)) j) q e));
  apart = not_same plan d n ms k m s;
  unseen = not_published plan d n ms k m s (published_of (given plan k s.outcomes) n) refl;
}

-- a cell that the file sees was seen at the end of the load's run
pub seen_on : (shelf : Shelf) (t : State) (k home : ℕ) (q p : Published) (at : ℕ) (c : Cell) → t.store.home ≡ k → q.cells ≡ t.store.cells → ((x : Published) → slice_get shelf k ≡ Some (Some x) → ⊥)
    → ((slice_get shelf home ≡ Some (Some p)) ⊎ ((home ≡ k) × (q ≡ p))) → cell_at p.cells at ≡ Some c → cell_at (if nat_eq home t.store.home then t.store.cells else published_cells (slice_get shelf home)) at ≡ Some c
seen_on shelf t k home q p at c ends cells alone (inl h) here =
    let apart : home ≡ t.store.home → ⊥ = λ same. alone p (subst (λ z. slice_get shelf z ≡ Some (Some p)) (same ∙ ends) h) in
    ap (λ b. cell_at (if b then t.store.cells else published_cells (slice_get shelf home)) at) (other_number (nat_eq home t.store.home) home t.store.home refl apart)
    ∙ (ap (λ o. cell_at (published_cells o) at) h ∙ here)
seen_on shelf t k home q p at c ends cells alone (inr (same, is)) here =
    ap (λ b. cell_at (if b then t.store.cells else published_cells (slice_get shelf home)) at) (same_number home t.store.home (same ∙ sym ends))
    ∙ (ap (λ xs. cell_at xs at) (sym cells) ∙ (ap (λ z. cell_at z.cells at) is ∙ here))

pub seen_there : (plan : Plan) (d n : ℕ) (ms : List Local) (k : ℕ) (m : Local) (s : Source plan d n ms k m) (home : ℕ) (p : Published) → slice_get (reached m) home ≡ Some (Some p) → (at : ℕ) (c : Cell) → cell_at p.cells at ≡ Some c
    → seen (given plan k s.outcomes) s.run.state (value.Ref home at) ≡ Some c
seen_there plan d n ms k m s home p there at c here =
    let shelf : Shelf = union (map reached s.outcomes) in
    seen_on shelf s.run.state k home (own plan d n ms k m s) p at c (ends_at_home (given plan k s.outcomes) s.statements plan.mode.steps s.run.ended s.run.state s.run.done) refl (not_own plan d k s.outcomes s.below)
    (from_put (is_taken (slice_get shelf k)) k (own plan d n ms k m s) shelf home p (subst (λ x. slice_get x home ≡ Some (Some p)) s.run.shelf there)) here

-- a cell that a file sees was seen at the end of a load's run
pub seen_before : (plan : Plan) (d n : ℕ) (ms : List Local) → all_good (map (result plan (suc d)) (loaded plan n)) ≡ Some ms → (v : Value) (c : Cell) → seen (given plan n ms) (start (given plan n ms) plan.mode.steps) v ≡ Some c
    → (k : ℕ) × (m : Local) × (s : Source plan d n ms k m) × (seen (given plan k s.outcomes) s.run.state v ≡ Some c)
seen_before plan d n ms all (value.Ref home at) c e =
    let found = found_in (nat_eq home n) (slice_get (union (map reached ms)) home) at c e in
    let one = from_loads (result plan (suc d)) (loaded plan n) ms all home found.0 found.1 in
    let s = source plan d n ms all home found.0 one in
    (one.file, one.outcome, s, seen_there plan d n ms one.file one.outcome s home found.0 one.there at c found.2)
seen_before plan d n ms all _ c e = absurd (let no : ⊥ = cc in no)

-- at depth 0 no load is good, so that nothing is seen
pub none_seen : (plan : Plan) (n : ℕ) (ms : List Local) → all_good (map (result plan zero) (loaded plan n)) ≡ Some ms → (v : Value) (c : Cell) → seen (given plan n ms) (start (given plan n ms) plan.mode.steps) v ≡ Some c → ⊥
none_seen plan n ms all (value.Ref home at) c e =
    let found = found_in (nat_eq home n) (slice_get (union (map reached ms)) home) at c e in
    let one = from_loads (result plan zero) (loaded plan n) ms all home found.0 found.1 in
    never plan one.file (good_there plan zero one.file one.outcome home found.0 one.result one.there)
none_seen plan n ms all _ c e = let no : ⊥ = cc in no

-- after the load's run all functions fit
fits_after : (plan : Plan) (tables : Tables) → Right plan tables → (d n : ℕ) (ms : List Local) (k : ℕ) (m : Local) (s : Source plan d n ms k m) → FitAt plan d → AllFit (trees plan) (given plan k s.outcomes) s.run.state
fits_after plan tables right d n ms k m s fit =
    let after = places_mean_names tables (trees plan) (given plan k s.outcomes) s.statements plan.mode.steps refl (stands plan k s.statements s.sound) (right k s.outcomes) (fit k s.outcomes s.below) in
    subst (FitAfter (trees plan) (given plan k s.outcomes)) s.run.done after.1

-- a function that a file sees was seen by a load, after whose run all functions fit
was_seen : (plan : Plan) (tables : Tables) → Right plan tables → (d n : ℕ) (ms : List Local) → all_good (map (result plan (suc d)) (loaded plan n)) ≡ Some ms → FitAt plan d
    → (v : Value) (f : Function) → seen (given plan n ms) (start (given plan n ms) plan.mode.steps) v ≡ Some (cell.Func f)
    → (u : Setting) × (t : State) × Loaded u t (given plan n ms) × AllFit (trees plan) u t × (seen u t v ≡ Some (cell.Func f))
was_seen plan tables right d n ms all fit v f e =
    let it = seen_before plan d n ms all v (cell.Func f) e in
    let s = it.2 in (
      given plan it.0 s.outcomes,
      s.run.state,
      is_loaded plan d n ms it.0 it.1 s,
      fits_after plan tables right d n ms it.0 it.1 s fit,
      it.3,
    )

pub fit_at : (plan : Plan) (tables : Tables) → Right plan tables → (d : ℕ) → FitAt plan d
fit_at plan tables right zero = λ n ms all. loads_fit (trees plan) (given plan n ms) plan.mode.steps (λ v f e. absurd (none_seen plan n ms all v (cell.Func f) e))
fit_at plan tables right (suc d) = λ n ms all. loads_fit (trees plan) (given plan n ms) plan.mode.steps (was_seen plan tables right d n ms all (fit_at plan tables right d))
