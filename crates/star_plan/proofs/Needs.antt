-- The shelf that a run is given over good outcomes holds the own modules of the files that the running file needs.
use Rattle.std.proofs.Common.{◌≡◌, ℕ, zero, suc, List, [], ◌∷◌, map, Option, Some, refl, ap, sym, subst, ◌∙◌, ◌⊎◌, inl, inr}
use Rattle.std.specs.Prelude.{slice_get}
use Rattle.std.specs.Option.{option_map}
use Rattle.star_cache.specs.State.{Loads}
use Rattle.star_cache.specs.Walk.{LeadsTo, Walk}
use Rattle.star_store.specs.Store.{Published, put_up}
use Rattle.star_meaning.specs.Local.{reached}
use Rattle.star_meaning.specs.Module.{Local, union}
use Rattle.star_plan.specs.Laws.{GivenHoldsNeeds, GoodFilesHaveOutcomes, NeedsOfLoads, OneShelf, RunsLeaveOwn}
use Rattle.star_plan.specs.Plan.{Plan, loaded}
use Rattle.star_plan.specs.Results.{IsGood, all_good, if_good, result}
use Rattle.star_plan.specs.Shelves.{IsOwn, Needs}
use Rattle.star_plan.proofs.Goodness.{well}
use Rattle.star_plan.proofs.Options.{chained, mapped}
use Rattle.star_plan.proofs.Outcomes.{gather, place_of, runs-over_loads}
use Rattle.star_plan.proofs.Seen.{contained, ends_well, leads, not_own, own_module, result-sound, run-keeps, run-own, stands_too}
use Rattle.star_plan.proofs.Shelves.{from_loads, holds, one-own}
use Rattle.star_plan.proofs.Stay.{good_is, result-from}
use Rattle.star_plan.proofs.Tight.{one_shelf, union_tight}
use Rattle.star_plan.proofs.Union.{is_free, put_up-own}

-- if all are good, the one at a place is there
pub record GoodThere (f : ℕ → Option Local) (ms : List Local) (i n : ℕ) : Type 0 where
  pub outcome : Local
  pub result : f n ≡ Some outcome
  pub good : if_good (Some outcome) ≡ Some outcome
  pub among : slice_get ms i ≡ Some outcome

good_at : (f : ℕ → Option Local) (ns : List ℕ) (ms : List Local) → all_good (map f ns) ≡ Some ms → (i n : ℕ) → slice_get ns i ≡ Some n → GoodThere f ms i n
good_at f [] ms e i n there = absurd (let no : ⊥ = cc in no)
good_at f (x ∷ ns) ms e zero n there =
    let first = chained (λ m. option_map (λ xs. m ∷ xs) (all_good (map f ns))) (if_good (f x)) ms e in
    let rest = mapped (λ xs. first.0 ∷ xs) (all_good (map f ns)) ms first.2 in
    let same : x ≡ n = cc in
    let is : f x ≡ Some first.0 = good_is (f x) first.0 first.1 in
    record { outcome = first.0; result = subst (λ y. f y ≡ Some first.0) same is; good = ap if_good (sym is) ∙ first.1; among = subst (λ z. slice_get z 0 ≡ Some first.0) rest.2 refl }
good_at f (x ∷ ns) ms e (suc i) n there =
    let first = chained (λ m. option_map (λ xs. m ∷ xs) (all_good (map f ns))) (if_good (f x)) ms e in
    let rest = mapped (λ xs. first.0 ∷ xs) (all_good (map f ns)) ms first.2 in
    let one = good_at f ns rest.0 rest.1 i n there in
    record { outcome = one.outcome; result = one.result; good = one.good; among = subst (λ z. slice_get z (suc i) ≡ Some one.outcome) rest.2 one.among }

-- a good result reaches the module of each file that its file reaches by loads
reaches : (plan : Plan) (d n : ℕ) (m : Local) → result plan d n ≡ Some m → if_good (Some m) ≡ Some m → (j k : ℕ) → Walk (Loads (loaded plan)) j n k → (q : Published) × (slice_get (reached m) k ≡ Some (Some q))
unfolding result
reaches plan zero n m e good j k walk = absurd (let no : ⊥ = cc in no)
reaches plan (suc d) n m e good zero k walk =
    let from = result-from plan d n m e in
    let sound = result-sound plan (suc d) n m e in
    let run = ends_well plan n sound.0 from.0 m sound.1 from.2 good in
    (own_module run.ended run.state, subst (λ z. slice_get (reached m) z ≡ Some (Some (own_module run.ended run.state))) walk (run-own plan d n sound.0 from.0 m run from.1))
reaches plan (suc d) n m e good (suc j) k walk =
    let from = result-from plan d n m e in
    let sound = result-sound plan (suc d) n m e in
    let run = ends_well plan n sound.0 from.0 m sound.1 from.2 good in
    let place : slice_get (loaded plan n) walk.1.0 ≡ Some walk.0 = place_of (loaded plan n) walk.0 walk.1.0 walk.1.1 walk.1.2 in
    let one = good_at (result plan d) (loaded plan n) from.0 from.1 walk.1.0 walk.0 place in
    let rest = reaches plan d walk.0 one.outcome one.result one.good j k walk.2 in
    (rest.0, run-keeps plan n sound.0 from.0 m run k rest.0 (stands_too plan d n from.0 from.1 walk.1.0 walk.0 one.outcome one.among one.result k rest.0 rest.1))

needed : (plan : Plan) (d n : ℕ) (ms : List Local) → all_good (map (result plan d) (loaded plan n)) ≡ Some ms → (k : ℕ) (p : Published) → slice_get (union (map reached ms)) k ≡ Some (Some p) → Needs plan n k × IsOwn plan k p
needed plan d n ms all k p at =
    let one = from_loads (result plan d) (loaded plan n) ms all k p at in
    ((one.file, contained (loaded plan n) one.place one.file one.loads, leads plan d one.file one.outcome one.result k p one.there), holds plan d one.file one.outcome one.result k p one.there)

held : (plan : Plan) (d n : ℕ) (ms : List Local) → all_good (map (result plan d) (loaded plan n)) ≡ Some ms → (k : ℕ) (p : Published) → Needs plan n k → IsOwn plan k p → slice_get (union (map reached ms)) k ≡ Some (Some p)
held plan d n ms all k p need own =
    let place : slice_get (loaded plan n) need.1.0 ≡ Some need.0 = place_of (loaded plan n) need.0 need.1.0 need.1.1 need.1.2 in
    let one = good_at (result plan d) (loaded plan n) ms all need.1.0 need.0 place in
    let has = reaches plan d need.0 one.outcome one.result one.good need.2.0 k need.2.1 in
    let there : slice_get (union (map reached ms)) k ≡ Some (Some has.0) = stands_too plan d n ms all need.1.0 need.0 one.outcome one.among one.result k has.0 has.1 in
    let same : has.0 ≡ p = one-own plan k has.0 p (holds plan d need.0 one.outcome one.result k has.0 has.1) own in
    subst (λ z. slice_get (union (map reached ms)) k ≡ Some (Some z)) same there

pub given_holds_needs : GivenHoldsNeeds
given_holds_needs plan n ms g =
    let all = gather plan (loaded plan n) ms g in
    (λ k p. (needed plan all.0 n ms all.1 k p, λ h. held plan all.0 n ms all.1 k p h.0 h.1), not_own plan all.0 n ms all.1)

pub the_one_shelf : OneShelf
the_one_shelf plan n ms g shelf tight is =
    let given_is = (given_holds_needs plan n ms g).0 in
    one_shelf shelf (union (map reached ms)) tight (union_tight (map reached ms)) (λ k p at. (given_is k p).1 ((is k p).0 at)) (λ k p at. (is k p).1 ((given_is k p).0 at))

pub runs_leave_own : RunsLeaveOwn
runs_leave_own plan n ss ms sound g p globals texts lines is =
    let all = gather plan (loaded plan n) ms g in
    let comes = runs-over_loads plan n ss ms sound g in
    record {
      depth = comes.0;
      shelf = put_up n p (union (map reached ms));
      globals = globals;
      texts = texts;
      lines = lines;
      ended = comes.1 ∙ ap Some is;
      there = put_up-own n p (union (map reached ms)) (is_free (slice_get (union (map reached ms)) n) (not_own plan all.0 n ms all.1));
    }

pub good_files_have_outcomes : GoodFilesHaveOutcomes
good_files_have_outcomes plan [] each = ([], tt)
good_files_have_outcomes plan (n ∷ ns) each =
    let here : IsGood plan n = each 0 n refl in
    let is : result plan here.0 n ≡ Some here.1.0 = good_is (result plan here.0 n) here.1.0 here.1.1 in
    let rest = good_files_have_outcomes plan ns (λ i. each (suc i)) in
    (here.1.0 ∷ rest.0, ((here.0, is), well here.1.0 (ap if_good (sym is) ∙ here.1.1), rest.1))

needs_below : (plan : Plan) (m k j : ℕ) → Walk (Loads (loaded plan)) j m k → (m ≡ k) ⊎ Needs plan m k
needs_below plan m k zero walk = inl walk
needs_below plan m k (suc j) walk = inr (walk.0, walk.1, (j, walk.2))

needs_above : (plan : Plan) (m k : ℕ) → (m ≡ k) ⊎ Needs plan m k → LeadsTo (Loads (loaded plan)) m k
needs_above plan m k (inl same) = (0, same)
needs_above plan m k (inr need) = (suc need.2.0, (need.0, need.1, need.2.1))

pub needs_of_loads : NeedsOfLoads
needs_of_loads plan n k = (λ need. (need.0, need.1, needs_below plan need.0 k need.2.0 need.2.1), λ h. (h.0, h.1, needs_above plan h.0 k h.2))
