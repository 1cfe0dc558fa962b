-- One outcome for a file, and none that is good on a cycle.
use Rattle.std.proofs.Common.{arith, ◌≡◌, ◌<◌, ◌+◌, true, ℕ, zero, suc, List, [], ◌∷◌, map, length, slice_index_or, Option, Some, None, refl, ap, sym, subst, ◌∙◌, ◌⊎◌, inl, inr}
use Rattle.std.specs.Prelude.{slice_get}
use Rattle.std.specs.Option.{option_and_then, option_map}
use Rattle.std.proofs.lemmas.Bool.{cases_order}
use Rattle.star_cache.specs.State.{Loads}
use Rattle.star_tree.specs.declared.tree.Statement.{Statement}
use Rattle.star_meaning.specs.Module.{Local, Good, Stopped}
use Rattle.star_plan.specs.Plan.{Plan, StaticFault, Faulty, loaded, loads_in, read_of, tree_in}
use Rattle.star_plan.specs.Results.{AreGood, IsFirstBad, IsGood, IsGoodAt, IsOutcome, Outcome, Static, Unloaded, Ran, all_good, if_good, ran, result, went_well}
use Rattle.star_plan.proofs.Options.{chained, mapped}
use Rattle.star_plan.proofs.Stay.{all_good-stay, good_is, result-from, result-stays, results-agree}

-- if all are good, each is
pub all_good-each : (f : ℕ → Option Local) (ns : List ℕ) (ms : List Local) → all_good (map f ns) ≡ Some ms → (i n : ℕ) → slice_get ns i ≡ Some n → (m : Local) × (if_good (f n) ≡ Some m)
all_good-each f [] ms e i n there = absurd (let no : ⊥ = cc in no)
all_good-each f (x ∷ ns) ms e zero n there =
    let first = chained (λ m. option_map (λ xs. m ∷ xs) (all_good (map f ns))) (if_good (f x)) ms e in
    let same : x ≡ n = cc in
    subst (λ y. (m : Local) × (if_good (f y) ≡ Some m)) same (first.0, first.1)
all_good-each f (x ∷ ns) ms e (suc i) n there =
    let first = chained (λ m. option_map (λ xs. m ∷ xs) (all_good (map f ns))) (if_good (f x)) ms e in
    let rest = mapped (λ xs. first.0 ∷ xs) (all_good (map f ns)) ms first.2 in
    all_good-each f ns rest.0 rest.1 i n there

pub place_of : (ns : List ℕ) (n k : ℕ) → k < length ns → slice_index_or ns k n ≡ n → slice_get ns k ≡ Some n
place_of [] n k short e = absurd (let no : ⊥ = omega arith in no)
place_of (x ∷ ns) n zero short e = ap Some e
place_of (x ∷ ns) n (suc k) short e = place_of ns n k (omega arith) e

-- nothing is good at depth 0
pub never : (plan : Plan) (n : ℕ) → IsGoodAt plan zero n → ⊥
unfolding result
never plan n (m, e) = let no : ⊥ = cc in no

-- each load of a file with a result is good at the depth below
pub loads-good : (plan : Plan) (d n : ℕ) (m : Local) → result plan (suc d) n ≡ Some m → (i k : ℕ) → slice_get (loaded plan n) i ≡ Some k → IsGoodAt plan d k
loads-good plan d n m e i k there =
    let from = result-from plan d n m e in
    all_good-each (result plan d) (loaded plan n) from.0 from.1 i k there

pub below : (plan : Plan) (d n k : ℕ) → IsGoodAt plan (suc d) n → Loads (loaded plan) n k → IsGoodAt plan d k
below plan d n k (m, e) (i, short, is) = loads-good plan d n m (good_is (result plan (suc d) n) m e) i k (place_of (loaded plan n) k i short is)

-- a file with a result has no first load that is not good
pub no_bad : (plan : Plan) (d n : ℕ) (m : Local) (i : ℕ) → result plan d n ≡ Some m → IsFirstBad plan (loaded plan n) i → ⊥
unfolding result
no_bad plan zero n m i e b = let no : ⊥ = cc in no
no_bad plan (suc d) n m i e b = b.bad (d, loads-good plan d n m e i b.file b.there)

-- a file with a result has no static fault
pub no_static : (plan : Plan) (d n : ℕ) (m : Local) (f : StaticFault) → result plan d n ≡ Some m → read_of plan n ≡ Some (Faulty f) → ⊥
unfolding result
no_static plan zero n m f e read = let no : ⊥ = cc in no
no_static plan (suc d) n m f e read =
    let body = chained (λ ss. option_map (ran plan n) (all_good (map (result plan d) (loaded plan n)))) (tree_in (read_of plan n)) m e in
    let none : tree_in (read_of plan n) ≡ None = ap tree_in read in
    let both : Some body.0 ≡ None = sym body.1 ∙ none in
    let no : ⊥ = cc in no

-- a file with a static fault loads nothing
pub no_loads : (plan : Plan) (n : ℕ) (f : StaticFault) (i : ℕ) → read_of plan n ≡ Some (Faulty f) → IsFirstBad plan (loaded plan n) i → ⊥
no_loads plan n f i read b =
    let none : loaded plan n ≡ [] = ap (λ r. map (λ l. l.file) (loads_in r)) read in
    let there : slice_get [] i ≡ Some b.file = subst (λ ns. slice_get ns i ≡ Some b.file) none b.there in
    let no : ⊥ = cc in no

-- the first of some files without a property has one place
pub one_first : (P : ℕ → Type 0) (ns : List ℕ) (i j m k : ℕ) → slice_get ns i ≡ Some m → slice_get ns j ≡ Some k → (P m → ⊥) → (P k → ⊥)
    → ((h n : ℕ) → h < i → slice_get ns h ≡ Some n → P n) → ((h n : ℕ) → h < j → slice_get ns h ≡ Some n → P n) → i ≡ j
one_first P ns i j m k at there bad ill before earlier = by_order (cases_order i j)
  where
    by_order : ((i ≡ j) ⊎ ((i < j) ⊎ (j < i))) → i ≡ j
    by_order (inl same) = same
    by_order (inr (inl less)) = absurd (bad (earlier i m less at))
    by_order (inr (inr less)) = absurd (ill (before j k less there))

pub one_place : (plan : Plan) (ns : List ℕ) (i j : ℕ) → IsFirstBad plan ns i → IsFirstBad plan ns j → i ≡ j
one_place plan ns i j a b = one_first (IsGood plan) ns i j a.file b.file a.there b.there a.bad b.bad a.before b.before

-- files that are good, each at some depth, are all good at one depth
pub gather : (plan : Plan) (ns : List ℕ) (ms : List Local) → AreGood plan ns ms → (d : ℕ) × (all_good (map (result plan d) ns) ≡ Some ms)
gather plan [] [] g = (0, refl)
gather plan [] (m ∷ ms) g = absurd g
gather plan (n ∷ ns) [] g = absurd g
gather plan (n ∷ ns) (m ∷ ms) g =
    let d : ℕ = g.0.0 in
    let rest : (k : ℕ) × (all_good (map (result plan k) ns) ≡ Some ms) = gather plan ns ms g.2 in
    let here : result plan (d + rest.0) n ≡ Some m = result-stays plan d (d + rest.0) n m (omega arith) g.0.1 in
    let others : all_good (map (result plan (d + rest.0)) ns) ≡ Some ms = all_good-stay (result plan rest.0) (result plan (d + rest.0)) (λ k x there. result-stays plan rest.0 (d + rest.0) k x (omega arith) there) ns ms rest.1 in
    let good : if_good (result plan (d + rest.0) n) ≡ Some m = ap if_good here ∙ well_good m g.1 in
    (d + rest.0, ap (option_and_then (λ x. option_map (λ xs. x ∷ xs) (all_good (map (result plan (d + rest.0)) ns)))) good ∙ ap (option_map (λ xs. m ∷ xs)) others)
  where
    well_good : (m : Local) → went_well (Ran m) ≡ true → if_good (Some m) ≡ Some m
    well_good (Good shelf globals texts lines) e = refl
    well_good (Stopped f lines) e = absurd (let no : ⊥ = cc in no)

pub runs-over_loads : (plan : Plan) (n : ℕ) (ss : List Statement) (ms : List Local) → tree_in (read_of plan n) ≡ Some ss → AreGood plan (loaded plan n) ms → IsOutcome plan n (Ran (ran plan n ms))
unfolding result
runs-over_loads plan n ss ms sound g =
    let all = gather plan (loaded plan n) ms g in
    (suc all.0, ap (option_and_then (λ x. option_map (ran plan n) (all_good (map (result plan all.0) (loaded plan n))))) sound ∙ ap (option_map (ran plan n)) all.1)

pub one-outcome : (plan : Plan) (n : ℕ) (a b : Outcome) → IsOutcome plan n a → IsOutcome plan n b → a ≡ b
one-outcome plan n (Static f) (Static g) x y = let both : Some (Faulty f) ≡ Some (Faulty g) = sym x ∙ y in let same : f ≡ g = cc in ap Static same
one-outcome plan n (Static f) (Unloaded j) x y = absurd (no_loads plan n f j x y)
one-outcome plan n (Static f) (Ran k) x y = absurd (no_static plan y.0 n k f y.1 x)
one-outcome plan n (Unloaded i) (Static g) x y = absurd (no_loads plan n g i y x)
one-outcome plan n (Unloaded i) (Unloaded j) x y = ap Unloaded (one_place plan (loaded plan n) i j x y)
one-outcome plan n (Unloaded i) (Ran k) x y = absurd (no_bad plan y.0 n k i y.1 x)
one-outcome plan n (Ran m) (Static g) x y = absurd (no_static plan x.0 n m g x.1 y)
one-outcome plan n (Ran m) (Unloaded j) x y = absurd (no_bad plan x.0 n m j x.1 y)
one-outcome plan n (Ran m) (Ran k) x y = ap Ran (results-agree plan x.0 y.0 n m k x.1 y.1)
