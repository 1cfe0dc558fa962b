-- Goodness is settled at the depth that is the number of files, so that each file is good or is not.
use Rattle.std.proofs.Common.{arith, ◌≡◌, ◌<◌, ◌≤◌, ℕ, zero, suc, Bool, true, false, List, [], ◌∷◌, map, length, Option, Some, None, refl, ap, sym, subst, ◌∙◌, ◌⊎◌, inl, inr}
use Rattle.std.specs.Prelude.{slice_get}
use Rattle.std.specs.Option.{option_and_then, option_map}
use Rattle.std.proofs.lemmas.Option.{slice_get_within}
use Rattle.star_tree.specs.declared.tree.Statement.{Statement}
use Rattle.star_meaning.specs.Module.{Local}
use Rattle.star_plan.specs.Plan.{Plan, Reading, Sound, Faulty, loaded, read_of, tree_in}
use Rattle.star_plan.specs.Results.{IsFirstBad, IsGood, IsGoodAt, IsOutcome, Outcome, Ran, Static, Unloaded, all_good, if_good, ran, result}
use Rattle.star_plan.proofs.Counts.{count, count_all, count_grows, one_new}
use Rattle.star_plan.proofs.Goodness.{flat_there}
use Rattle.star_plan.proofs.Needs.{good_files_have_outcomes}
use Rattle.star_plan.proofs.Options.{chained, mapped}
use Rattle.star_plan.proofs.Outcomes.{never, runs-over_loads}
use Rattle.star_plan.proofs.Seen.{result-sound}
use Rattle.star_plan.proofs.Stay.{good_is, result-from, result-stays, results-agree}
use Rattle.star_plan.proofs.Tables.{sound_read}

abbrev there : Option Local → Bool
there None = false
there (Some m) = true

abbrev is_good_at : Plan → ℕ → ℕ → Bool
is_good_at plan d n = there (if_good (result plan d n))

to_test : (o : Option Local) (m : Local) → o ≡ Some m → there o ≡ true
to_test o m e = ap there e

from_test : (o : Option Local) → there o ≡ true → (m : Local) × (o ≡ Some m)
from_test None e = absurd (let no : ⊥ = cc in no)
from_test (Some m) e = (m, refl)

up : (plan : Plan) (d n : ℕ) → IsGoodAt plan d n → IsGoodAt plan (suc d) n
up plan d n (m, good) =
    let is : result plan d n ≡ Some m = good_is (result plan d n) m good in
    (m, ap if_good (result-stays plan d (suc d) n m (omega arith) is ∙ sym is) ∙ good)

-- if each good one stays, all stay good
all_good-more : (f g : ℕ → Option Local) → ((n : ℕ) (m : Local) → if_good (f n) ≡ Some m → if_good (g n) ≡ Some m) → (ns : List ℕ) (ms : List Local) → all_good (map f ns) ≡ Some ms → all_good (map g ns) ≡ Some ms
all_good-more f g more [] ms e = e
all_good-more f g more (n ∷ ns) ms e =
    let first = chained (λ m. option_map (λ xs. m ∷ xs) (all_good (map f ns))) (if_good (f n)) ms e in
    let rest = mapped (λ xs. first.0 ∷ xs) (all_good (map f ns)) ms first.2 in
    let others : all_good (map g ns) ≡ Some rest.0 = all_good-more f g more ns rest.0 rest.1 in
    ap (option_and_then (λ m. option_map (λ xs. m ∷ xs) (all_good (map g ns)))) (more n first.0 first.1) ∙ (ap (option_map (λ xs. first.0 ∷ xs)) others ∙ ap Some rest.2)

result_up : (plan : Plan) (d n : ℕ) (ss : List Statement) (ms : List Local) → tree_in (read_of plan n) ≡ Some ss → all_good (map (result plan d) (loaded plan n)) ≡ Some ms → result plan (suc d) n ≡ Some (ran plan n ms)
unfolding result
result_up plan d n ss ms sound all = ap (option_and_then (λ x. option_map (ran plan n) (all_good (map (result plan d) (loaded plan n))))) sound ∙ ap (option_map (ran plan n)) all

pub within : (plan : Plan) (n : ℕ) (r : Reading) → read_of plan n ≡ Some r → n < length plan.reads
within plan n r e =
    let one = flat_there plan.reads n r e in
    slice_get_within plan.reads n one.0 one.1

-- all good files are good at this depth
abbrev Settled : Plan → ℕ → Type 0
Settled plan d = (e n : ℕ) → IsGoodAt plan e n → IsGoodAt plan d n

-- a file that is good over loads that are good at a depth is good one above it
above : (plan : Plan) (d e n : ℕ) → ((k : ℕ) → IsGoodAt plan e k → IsGoodAt plan d k) → IsGoodAt plan (suc e) n → IsGoodAt plan (suc d) n
above plan d e n more (m, good) =
    let is : result plan (suc e) n ≡ Some m = good_is (result plan (suc e) n) m good in
    let from = result-from plan e n m is in
    let sound = result-sound plan (suc e) n m is in
    let stays : (k : ℕ) (x : Local) → if_good (result plan e k) ≡ Some x → if_good (result plan d k) ≡ Some x = λ k x h.
    let y = more k (x, h) in
    let same : x ≡ y.0 = results-agree plan e d k x y.0 (good_is (result plan e k) x h) (good_is (result plan d k) y.0 y.1) in
    y.1 ∙ ap Some (sym same) in
    let there : result plan (suc d) n ≡ Some m = result_up plan d n sound.0 from.0 sound.1 (all_good-more (result plan e) (result plan d) stays (loaded plan n) from.0 from.1) ∙ ap Some from.2 in
    (m, ap if_good (there ∙ sym is) ∙ good)

settled_by : (plan : Plan) (d : ℕ) → ((k : ℕ) → k < length plan.reads → is_good_at plan (suc d) k ≡ true → is_good_at plan d k ≡ true) → Settled plan d
settled_by plan d none zero n good = absurd (never plan n good)
settled_by plan d none (suc e) n good =
    let more : IsGoodAt plan (suc d) n = above plan d e n (λ k. settled_by plan d none e k) good in
    let sound = result-sound plan (suc d) n more.0 (good_is (result plan (suc d) n) more.0 more.1) in
    let read = sound_read (read_of plan n) sound.0 sound.1 in
    from_test (if_good (result plan d n)) (none n (within plan n (Sound sound.0 read.0) read.1) (to_test (if_good (result plan (suc d) n)) more.0 more.1))

settles : (plan : Plan) (d : ℕ) → Settled plan d ⊎ (d ≤ count (is_good_at plan d) (length plan.reads))
settles plan zero = inr (omega arith)
settles plan (suc d) = turn (settles plan d) (one_new (is_good_at plan d) (is_good_at plan (suc d)) (length plan.reads))
  where
    higher : (k : ℕ) → k < length plan.reads → is_good_at plan d k ≡ true → is_good_at plan (suc d) k ≡ true
    higher k less e =
        let more = up plan d k (from_test (if_good (result plan d k)) e) in
        to_test (if_good (result plan (suc d) k)) more.0 more.1

    turn : (Settled plan d ⊎ (d ≤ count (is_good_at plan d) (length plan.reads)))
        → (((k : ℕ) × (k < length plan.reads) × (is_good_at plan d k ≡ false) × (is_good_at plan (suc d) k ≡ true)) ⊎ ((k : ℕ) → k < length plan.reads → is_good_at plan (suc d) k ≡ true → is_good_at plan d k ≡ true))
        → Settled plan (suc d) ⊎ (suc d ≤ count (is_good_at plan (suc d)) (length plan.reads))
    turn (inl settled) any = inl (λ e n good. up plan d n (settled e n good))
    turn (inr many) (inr none) = inl (λ e n good. up plan d n (settled_by plan d none e n good))
    turn (inr many) (inl (k, less, a, b)) =
        let grows : count (is_good_at plan d) (length plan.reads) < count (is_good_at plan (suc d)) (length plan.reads) = count_grows (is_good_at plan d) (is_good_at plan (suc d)) (length plan.reads) k higher less a b in
        inr (omega (arith, many, grows))

settled : (plan : Plan) → Settled plan (length plan.reads)
settled plan = turn (settles plan (length plan.reads))
  where
    turn : (Settled plan (length plan.reads) ⊎ (length plan.reads ≤ count (is_good_at plan (length plan.reads)) (length plan.reads))) → Settled plan (length plan.reads)
    turn (inl h) = h
    turn (inr all) = λ e n good.
        let sound = result-sound plan e n good.0 (good_is (result plan e n) good.0 good.1) in
        let read = sound_read (read_of plan n) sound.0 sound.1 in
        from_test (if_good (result plan (length plan.reads) n)) (count_all (is_good_at plan (length plan.reads)) (length plan.reads) all n (within plan n (Sound sound.0 read.0) read.1))

-- each file is good or is not
pub good_or : (plan : Plan) (n : ℕ) → IsGood plan n ⊎ (IsGood plan n → ⊥)
good_or plan n = turn (if_good (result plan (length plan.reads) n)) refl
  where
    turn : (o : Option Local) → if_good (result plan (length plan.reads) n) ≡ o → IsGood plan n ⊎ (IsGood plan n → ⊥)
    turn (Some m) e = inl (length plan.reads, (m, e))
    turn None e = inr (λ good. let at = settled plan good.0 n good.1 in none at.0 (sym e ∙ at.1))
      where
        none : (m : Local) → None ≡ Some m → ⊥
        none m both = cc

-- either all files of a list are good, or one is the first that is not
pub first_bad : (plan : Plan) (ns : List ℕ) → ((i n : ℕ) → slice_get ns i ≡ Some n → IsGood plan n) ⊎ ((i : ℕ) × IsFirstBad plan ns i)
first_bad plan [] = inl (λ i n e. absurd (let no : ⊥ = cc in no))
first_bad plan (x ∷ ns) = turn (good_or plan x) (first_bad plan ns)
  where
    all : IsGood plan x → ((i n : ℕ) → slice_get ns i ≡ Some n → IsGood plan n) → (i n : ℕ) → slice_get (x ∷ ns) i ≡ Some n → IsGood plan n
    all good each zero n e = subst (IsGood plan) (let same : x ≡ n = cc in same) good
    all good each (suc i) n e = each i n e

    before : IsGood plan x → (i : ℕ) → IsFirstBad plan ns i → (j m : ℕ) → j < suc i → slice_get (x ∷ ns) j ≡ Some m → IsGood plan m
    before good i b zero m less e = subst (IsGood plan) (let same : x ≡ m = cc in same) good
    before good i b (suc j) m less e = b.before j m (omega (arith, less)) e

    turn : (IsGood plan x ⊎ (IsGood plan x → ⊥)) → (((i n : ℕ) → slice_get ns i ≡ Some n → IsGood plan n) ⊎ ((i : ℕ) × IsFirstBad plan ns i)) → ((i n : ℕ) → slice_get (x ∷ ns) i ≡ Some n → IsGood plan n) ⊎ ((i : ℕ) × IsFirstBad plan (x ∷ ns) i)
    turn (inl good) (inl each) = inl (all good each)
    turn (inl good) (inr (i, b)) = inr (suc i, record { file = b.file; there = b.there; bad = b.bad; before = before good i b })
    turn (inr bad) any = inr (0, record { file = x; there = refl; bad = bad; before = λ j m less e. absurd (let no : ⊥ = omega (arith, less) in no) })

-- each file that was read has an outcome
pub has_outcome : (plan : Plan) (n : ℕ) (r : Reading) → read_of plan n ≡ Some r → (o : Outcome) × IsOutcome plan n o
has_outcome plan n (Faulty f) e = (Static f, e)
has_outcome plan n (Sound ss loads) e = turn (first_bad plan (loaded plan n))
  where
    sound : tree_in (read_of plan n) ≡ Some ss
    sound = ap tree_in e

    turn : (((i m : ℕ) → slice_get (loaded plan n) i ≡ Some m → IsGood plan m) ⊎ ((i : ℕ) × IsFirstBad plan (loaded plan n) i)) → (o : Outcome) × IsOutcome plan n o
    turn (inl each) =
        let outcomes = good_files_have_outcomes plan (loaded plan n) each in
        (Ran (ran plan n outcomes.0), runs-over_loads plan n ss outcomes.0 sound outcomes.1)
    turn (inr (i, b)) = (Unloaded i, b)
