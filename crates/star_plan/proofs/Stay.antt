-- Results at greater depths.
use Rattle.std.proofs.Common.{arith, ◌≡◌, ◌≤◌, ◌+◌, ℕ, zero, suc, List, [], ◌∷◌, map, Option, Some, None, ap, sym, ◌∙◌}
use Rattle.std.specs.Option.{option_and_then, option_map}
use Rattle.star_meaning.specs.Module.{Local, Good, Stopped}
use Rattle.star_plan.specs.Plan.{Plan, loaded, read_of, tree_in}
use Rattle.star_plan.specs.Results.{all_good, if_good, ran, result}
use Rattle.star_plan.proofs.Options.{chained, mapped}

-- a good result is there
pub good_is : (o : Option Local) (m : Local) → if_good o ≡ Some m → o ≡ Some m
good_is None m e = absurd (let no : ⊥ = cc in no)
good_is (Some (Stopped f lines)) m e = absurd (let no : ⊥ = cc in no)
good_is (Some (Good shelf globals texts lines)) m e = e

-- files that are all good stay so if each result stays
pub all_good-stay : (below above : ℕ → Option Local) → ((n : ℕ) (m : Local) → below n ≡ Some m → above n ≡ Some m)
    → (ns : List ℕ) (ms : List Local) → all_good (map below ns) ≡ Some ms → all_good (map above ns) ≡ Some ms
all_good-stay below above stays [] ms e = e
all_good-stay below above stays (n ∷ ns) ms e =
    let first : (m : Local) × (if_good (below n) ≡ Some m) × (option_map (λ xs. m ∷ xs) (all_good (map below ns)) ≡ Some ms) = chained (λ m. option_map (λ xs. m ∷ xs) (all_good (map below ns))) (if_good (below n)) ms e in
    let rest : (xs : List Local) × (all_good (map below ns) ≡ Some xs) × ((first.0 ∷ xs) ≡ ms) = mapped (λ xs. first.0 ∷ xs) (all_good (map below ns)) ms first.2 in
    let here : above n ≡ Some first.0 = stays n first.0 (good_is (below n) first.0 first.1) in
    let there : below n ≡ Some first.0 = good_is (below n) first.0 first.1 in
    let good : if_good (above n) ≡ Some first.0 = ap if_good (here ∙ sym there) ∙ first.1 in
    let more : all_good (map above ns) ≡ Some rest.0 = all_good-stay below above stays ns rest.0 rest.1 in
    ap (option_and_then (λ m. option_map (λ xs. m ∷ xs) (all_good (map above ns)))) good ∙ (ap (option_map (λ xs. first.0 ∷ xs)) more ∙ ap Some rest.2)

-- the outcomes that the run of a result is over
pub result-from : (plan : Plan) (d n : ℕ) (m : Local) → result plan (suc d) n ≡ Some m
    → (ms : List Local) × (all_good (map (result plan d) (loaded plan n)) ≡ Some ms) × (ran plan n ms ≡ m)
unfolding result
result-from plan d n m e =
    let body = chained (λ ss. option_map (ran plan n) (all_good (map (result plan d) (loaded plan n)))) (tree_in (read_of plan n)) m e in
    mapped (ran plan n) (all_good (map (result plan d) (loaded plan n))) m body.2

pub result-stays : (plan : Plan) (d e n : ℕ) (m : Local) → d ≤ e → result plan d n ≡ Some m → result plan e n ≡ Some m
unfolding result
result-stays plan zero e n m le h = absurd (let no : ⊥ = cc in no)
result-stays plan (suc d) zero n m le h = absurd (let no : ⊥ = omega arith in no)
result-stays plan (suc d) (suc e) n m le h =
    let body = chained (λ ss. option_map (ran plan n) (all_good (map (result plan d) (loaded plan n)))) (tree_in (read_of plan n)) m h in
    let run = mapped (ran plan n) (all_good (map (result plan d) (loaded plan n))) m body.2 in
    let lower : d ≤ e = omega arith in
    let more : all_good (map (result plan e) (loaded plan n)) ≡ Some run.0 = all_good-stay (result plan d) (result plan e) (λ k x there. result-stays plan d e k x lower there) (loaded plan n) run.0 run.1 in
    ap (option_and_then (λ ss. option_map (ran plan n) (all_good (map (result plan e) (loaded plan n))))) body.1 ∙ (ap (option_map (ran plan n)) more ∙ ap Some run.2)

pub results-agree : (plan : Plan) (d e n : ℕ) (m k : Local) → result plan d n ≡ Some m → result plan e n ≡ Some k → m ≡ k
results-agree plan d e n m k a b =
    let one : result plan (d + e) n ≡ Some m = result-stays plan d (d + e) n m (omega arith) a in
    let other : result plan (d + e) n ≡ Some k = result-stays plan e (d + e) n k (omega arith) b in
    let same : Some m ≡ Some k = sym one ∙ other in
    cc
