-- A file's outcome is the same in two plans that agree on all that it needs.
use Rattle.std.proofs.Common.{◌≡◌, ◌↔◌, ℕ, zero, suc, List, [], ◌∷◌, map, Option, Some, None, refl, ap, sym, subst, ◌∙◌, inl, inr}
use Rattle.std.specs.Prelude.{Contains, slice_get}
use Rattle.std.specs.Option.{option_and_then, option_map}
use Rattle.star_cache.specs.State.{Loads}
use Rattle.star_cache.specs.Walk.{LeadsTo, Walk}
use Rattle.star_store.specs.Store.{Published}
use Rattle.star_tree.specs.declared.tree.Statement.{Statement}
use Rattle.star_meaning.specs.Module.{Ended as RunEnd, Good, Local, Stopped, local_of}
use Rattle.star_meaning.specs.Run.{Done, Failed, Outcome as RunOutcome}
use Rattle.star_plan.specs.Causes.{Cause, Culprit, Cycle, FailsBy, HasFault, IsCause, Lead}
use Rattle.star_plan.specs.Plan.{Plan, loaded, loads_in, read_of, tree_in}
use Rattle.star_plan.specs.Report.{Ended, HadFault, HadLoad, HadStatic, IsEnded, WentWell}
use Rattle.star_plan.specs.Results.{AreGood, IsFirstBad, IsGood, IsOutcome, Outcome, Ran, Static, Unloaded, all_good, if_good, ran, result}
use Rattle.star_plan.specs.Runs.{given, run_by_names}
use Rattle.star_plan.specs.Shelves.{IsOwn}
use Rattle.star_plan.proofs.Causes.{here, there}
use Rattle.star_plan.proofs.Goodness.{well}
use Rattle.star_plan.proofs.Options.{chained, mapped}
use Rattle.star_plan.proofs.Seen.{contained, ran-is}
use Rattle.star_plan.proofs.Stay.{good_is}
use Rattle.star_needs.specs.Agree.{RunsAgree}

-- two plans give their files the same mode and the same prelude, and a file and all files to which its loads lead have
-- the same readings in both
pub record Agree (p q : Plan) (n : ℕ) : Type 0 where
  pub mode : p.mode ≡ q.mode
  pub prelude : p.prelude ≡ q.prelude
  pub reads : (k : ℕ) → LeadsTo (Loads (loaded p)) n k → read_of p k ≡ read_of q k

-- and all these files have the same runs
abbrev pub AllRunsAgree : Plan → Plan → ℕ → Type 0
AllRunsAgree p q n = (k : ℕ) → LeadsTo (Loads (loaded p)) n k → RunsAgree p q k

loaded-same : (p q : Plan) (n : ℕ) → read_of p n ≡ read_of q n → loaded p n ≡ loaded q n
loaded-same p q n e = ap (λ r. map (λ l. l.file) (loads_in r)) e

at_file : (p q : Plan) (n : ℕ) → Agree p q n → read_of p n ≡ read_of q n
at_file p q n a = a.reads n (0, refl)

on_loads : (p q : Plan) (n m : ℕ) → Agree p q n → Loads (loaded p) n m → Agree p q m
on_loads p q n m a step = record { mode = a.mode; prelude = a.prelude; reads = λ k way. a.reads k (suc way.0, (m, step, way.1)) }

runs_on : (p q : Plan) (n m : ℕ) → AllRunsAgree p q n → Loads (loaded p) n m → AllRunsAgree p q m
runs_on p q n m h step = λ k way. h k (suc way.0, (m, step, way.1))

step-back : (p q : Plan) (n m : ℕ) → Agree p q n → Loads (loaded q) n m → Loads (loaded p) n m
step-back p q n m a step = subst (λ xs. Contains xs m) (sym (loaded-same p q n (at_file p q n a))) step

walk-back : (p q : Plan) (j n k : ℕ) → Agree p q n → Walk (Loads (loaded q)) j n k → Walk (Loads (loaded p)) j n k
walk-back p q zero n k a w = w
walk-back p q (suc j) n k a w =
    let step : Loads (loaded p) n w.0 = step-back p q n w.0 a w.1 in
    (w.0, step, walk-back p q j w.0 k (on_loads p q n w.0 a step) w.2)

map-same : (f g : ℕ → Option Local) (ns : List ℕ) → ((k : ℕ) → Contains ns k → f k ≡ g k) → map f ns ≡ map g ns
map-same f g [] h = refl
map-same f g (n ∷ ns) h = ap (λ z. z ∷ map f ns) (h n (here n ns)) ∙ ap (λ zs. g n ∷ zs) (map-same f g ns (λ k c. h k (there n k ns c)))

run-same : (f g : List Local → Local) (o : Option (List Local)) → ((ms : List Local) → o ≡ Some ms → f ms ≡ g ms) → option_map f o ≡ option_map g o
run-same f g None h = refl
run-same f g (Some ms) h = ap Some (h ms refl)

then-same : {A B : Type 0} (o : Option A) (f g : A → Option B) → ((x : A) → o ≡ Some x → f x ≡ g x) → option_and_then f o ≡ option_and_then g o
then-same None f g h = refl
then-same (Some x) f g h = h x refl

pub are_good : (plan : Plan) (d : ℕ) (ns : List ℕ) (ms : List Local) → all_good (map (result plan d) ns) ≡ Some ms → AreGood plan ns ms
are_good plan d [] [] e = tt
are_good plan d [] (m ∷ ms) e = absurd (let no : ⊥ = cc in no)
are_good plan d (n ∷ ns) ms e =
    let first = chained (λ m. option_map (λ xs. m ∷ xs) (all_good (map (result plan d) ns))) (if_good (result plan d n)) ms e in
    let rest = mapped (λ xs. first.0 ∷ xs) (all_good (map (result plan d) ns)) ms first.2 in
    let is : result plan d n ≡ Some first.0 = good_is (result plan d n) first.0 first.1 in
    subst (λ z. AreGood plan (n ∷ ns) z) rest.2 ((d, is), well first.0 (ap if_good (sym is) ∙ first.1), are_good plan d ns rest.0 rest.1)

-- the results of two runs that are the same
local_same : (p q : Plan) (n : ℕ) (ms : List Local) (o : RunOutcome RunEnd) → local_of (given p n ms) o ≡ local_of (given q n ms) o
local_same p q n ms (Done e s) = refl
local_same p q n ms (Failed f lines) = refl

ran_same : (p q : Plan) (n : ℕ) → read_of p n ≡ read_of q n → RunsAgree p q n → (ss : List Statement) (ms : List Local) → tree_in (read_of p n) ≡ Some ss → AreGood p (loaded p n) ms → ran p n ms ≡ ran q n ms
ran_same p q n read h ss ms e g =
    sym (ran-is p n ss ms e)
    ∙ (ap (local_of (given p n ms)) (h ss ms e g)
    ∙ (local_same p q n ms (run_by_names q n ss ms)
    ∙ ran-is q n ss ms (ap tree_in (sym read) ∙ e)))

pub result_by_needs : (p q : Plan) (n : ℕ) → Agree p q n → AllRunsAgree p q n → (d : ℕ) → result p d n ≡ result q d n
unfolding result
result_by_needs p q n a h zero = refl
result_by_needs p q n a h (suc d) =
    let read : read_of p n ≡ read_of q n = at_file p q n a in
    let below : map (result p d) (loaded p n) ≡ map (result q d) (loaded p n) = map-same (result p d) (result q d) (loaded p n) (λ k step. result_by_needs p q k (on_loads p q n k a step) (runs_on p q n k h step) d) in
    let all : all_good (map (result p d) (loaded p n)) ≡ all_good (map (result q d) (loaded q n)) = ap all_good (below ∙ ap (map (result q d)) (loaded-same p q n read)) in
    let runs : (ss : List Statement) → tree_in (read_of p n) ≡ Some ss → option_map (ran p n) (all_good (map (result p d) (loaded p n))) ≡ option_map (ran q n) (all_good (map (result q d) (loaded q n))) = λ ss sound. run-same (ran p n) (ran q n) (all_good (map (result p d) (loaded p n))) (λ ms e. ran_same p q n read (h n (0, refl)) ss ms sound (are_good p d (loaded p n) ms e)) ∙ ap (option_map (ran q n)) all in
    then-same (tree_in (read_of p n)) _ _ runs ∙ ap (λ r. option_and_then (λ ss. option_map (ran q n) (all_good (map (result q d) (loaded q n)))) (tree_in r)) read

-- all results of a file and of the files that it needs are the same in two plans
record Same (p q : Plan) (n : ℕ) : Type 0 where
  reads : (k : ℕ) → LeadsTo (Loads (loaded p)) n k → read_of p k ≡ read_of q k
  results : (k : ℕ) → LeadsTo (Loads (loaded p)) n k → (d : ℕ) → result p d k ≡ result q d k

along : (p q : Plan) (j n k : ℕ) → Agree p q n → AllRunsAgree p q n → Walk (Loads (loaded p)) j n k → (d : ℕ) → result p d k ≡ result q d k
along p q zero n k a h w d = subst (λ z. result p d z ≡ result q d z) w (result_by_needs p q n a h d)
along p q (suc j) n k a h w d = along p q j w.0 k (on_loads p q n w.0 a w.1) (runs_on p q n w.0 h w.1) w.2 d

same : (p q : Plan) (n : ℕ) → Agree p q n → AllRunsAgree p q n → Same p q n
same p q n a h = record { reads = a.reads; results = λ k way d. along p q way.0 n k a h way.1 d }

same-back : (p q : Plan) (n : ℕ) → Agree p q n → Same p q n → Same q p n
same-back p q n a s = record {
  reads = λ k way. sym (s.reads k (way.0, walk-back p q way.0 n k a way.1));
  results = λ k way d. sym (s.results k (way.0, walk-back p q way.0 n k a way.1) d);
}

same-on : (p q : Plan) (n m : ℕ) → Same p q n → Loads (loaded p) n m → Same p q m
same-on p q n m s step = record { reads = λ k way. s.reads k (suc way.0, (m, step, way.1)); results = λ k way. s.results k (suc way.0, (m, step, way.1)) }

here-read : (p q : Plan) (n : ℕ) → Same p q n → read_of p n ≡ read_of q n
here-read p q n s = s.reads n (0, refl)

good-to : (p q : Plan) (n : ℕ) → Same p q n → IsGood p n → IsGood q n
good-to p q n s (d, (m, e)) = (d, (m, ap if_good (sym (s.results n (0, refl) d)) ∙ e))

good-from : (p q : Plan) (n : ℕ) → Same p q n → IsGood q n → IsGood p n
good-from p q n s (d, (m, e)) = (d, (m, ap if_good (s.results n (0, refl) d) ∙ e))

loads-at : (p : Plan) (n i m : ℕ) → slice_get (loaded p n) i ≡ Some m → Loads (loaded p) n m
loads-at p n i m at = contained (loaded p n) i m at

first-to : (p q : Plan) (n i : ℕ) → Same p q n → IsFirstBad p (loaded p n) i → IsFirstBad q (loaded q n) i
first-to p q n i s b =
    let files : loaded p n ≡ loaded q n = loaded-same p q n (here-read p q n s) in
    record {
      file = b.file;
      there = subst (λ xs. slice_get xs i ≡ Some b.file) files b.there;
      bad = λ g. b.bad (good-from p q b.file (same-on p q n b.file s (loads-at p n i b.file b.there)) g);
      before = λ j m less at. (let was : slice_get (loaded p n) j ≡ Some m = subst (λ xs. slice_get xs j ≡ Some m) (sym files) at in good-to p q m (same-on p q n m s (loads-at p n j m was)) (b.before j m less was));
    }

outcome-to : (p q : Plan) (n : ℕ) → Same p q n → (o : Outcome) → IsOutcome p n o → IsOutcome q n o
outcome-to p q n s (Static f) e = sym (here-read p q n s) ∙ e
outcome-to p q n s (Unloaded i) b = first-to p q n i s b
outcome-to p q n s (Ran m) (d, e) = (d, sym (s.results n (0, refl) d) ∙ e)

pub outcome_by_needs : (p q : Plan) (n : ℕ) → Agree p q n → AllRunsAgree p q n → (o : Outcome) → IsOutcome p n o ↔ IsOutcome q n o
outcome_by_needs p q n a h o = (outcome-to p q n (same p q n a h) o, outcome-to q p n (same-back p q n a (same p q n a h)) o)

own-to : (p q : Plan) (n : ℕ) → Same p q n → (m : Published) → IsOwn p n m → IsOwn q n m
own-to p q n s m o = record { depth = o.depth; shelf = o.shelf; globals = o.globals; texts = o.texts; lines = o.lines; ended = sym (s.results n (0, refl) o.depth) ∙ o.ended; there = o.there }

pub own_by_needs : (p q : Plan) (n : ℕ) → Agree p q n → AllRunsAgree p q n → (m : Published) → IsOwn p n m ↔ IsOwn q n m
own_by_needs p q n a h m = (own-to p q n (same p q n a h) m, own-to q p n (same-back p q n a (same p q n a h)) m)

fails-to : (p q : Plan) (n m : ℕ) → Same p q n → FailsBy p n m → FailsBy q n m
fails-to p q n m s (i, is, at) = (i, first-to p q n i s is, subst (λ xs. slice_get xs i ≡ Some m) (loaded-same p q n (here-read p q n s)) at)

fails-on : (p q : Plan) (n m : ℕ) → Same p q n → FailsBy p n m → Same p q m
fails-on p q n m s (i, is, at) = same-on p q n m s (loads-at p n i m at)

lead-to : (p q : Plan) (n : ℕ) (xs : List ℕ) (m : ℕ) → Same p q n → Lead p n xs m → Lead q n xs m
lead-to p q n [] m s e = e
lead-to p q n (x ∷ xs) m s (e, (k, f, l)) = (e, (k, fails-to p q n k s f, lead-to p q k xs m (fails-on p q n k s f) l))

lead-on : (p q : Plan) (n : ℕ) (xs : List ℕ) (m : ℕ) → Same p q n → Lead p n xs m → Same p q m
lead-on p q n [] m s e = subst (λ z. Same p q z) e s
lead-on p q n (x ∷ xs) m s (e, (k, f, l)) = lead-on p q k xs m (fails-on p q n k s f) l

fault-to : (p q : Plan) (n : ℕ) → Same p q n → HasFault p n → HasFault q n
fault-to p q n s (inl (f, is)) = inl (f, outcome-to p q n s (Static f) is)
fault-to p q n s (inr (f, lines, is)) = inr (f, lines, outcome-to p q n s (Ran (Stopped f lines)) is)

cause-to : (p q : Plan) (n : ℕ) → Same p q n → (c : Cause) → IsCause p n c → IsCause q n c
cause-to p q n s (Culprit m) (way, l, f) = (way, lead-to p q n way m s l, fault-to p q m (lead-on p q n way m s l) f)
cause-to p q n s (Cycle []) x = x
cause-to p q n s (Cycle (m ∷ ms)) (way, l, ring, differ) = (way, lead-to p q n way m s l, lead-to p q m (m ∷ ms) m (lead-on p q n way m s l) ring, differ)

ended-to : (p q : Plan) (n : ℕ) → Same p q n → (e : Ended) → IsEnded p n e → IsEnded q n e
ended-to p q n s (WentWell texts lines) (shelf, globals, is) = (shelf, globals, outcome-to p q n s (Ran (Good shelf globals texts lines)) is)
ended-to p q n s (HadFault f lines) is = outcome-to p q n s (Ran (Stopped f lines)) is
ended-to p q n s (HadStatic f) is = outcome-to p q n s (Static f) is
ended-to p q n s (HadLoad cause line) (c, (i, l, is, at, on)) = (cause-to p q n s cause c, (i, l, outcome-to p q n s (Unloaded i) is, subst (λ r. slice_get (loads_in r) i ≡ Some l) (here-read p q n s) at, on))

pub ended_by_needs : (p q : Plan) (n : ℕ) → Agree p q n → AllRunsAgree p q n → (e : Ended) → IsEnded p n e ↔ IsEnded q n e
ended_by_needs p q n a h e = (ended-to p q n (same p q n a h) e, ended-to q p n (same-back p q n a (same p q n a h)) e)
