-- Each place of a result's shelf has the file's own module.
use Rattle.std.proofs.Common.{arith, ◌≡◌, ◌+◌, ◌-◌, ◌<◌, ℕ, zero, suc, Bool, true, false, List, [], ◌∷◌, ◌++◌, map, length, Option, Some, None, refl, ap, sym, subst, ◌∙◌, ◌⊎◌, inl, inr}
use Rattle.std.specs.Prelude.{slice_get, slice_set, replicate, if◌then◌else◌}
use Rattle.std.specs.Option.{option_map}
use Rattle.std.proofs.lemmas.Bool.{cases_order}
use Rattle.star_store.specs.Store.{Published, Shelf, is_taken, widened}
use Rattle.star_meaning.specs.Program.{Setting}
use Rattle.star_meaning.specs.Run.{Outcome, Done, Failed}
use Rattle.star_meaning.specs.Local.{reached, setting, statements_of}
use Rattle.star_meaning.specs.Programs.{load_files}
use Rattle.star_meaning.specs.Variables.{by_names}
use Rattle.star_meaning.specs.Module.{Ended, Local, Good, Stopped, local_of, put_place, put_places, run_file, most_levels, start, union}
use Rattle.star_plan.specs.Plan.{Plan, loaded, loads_of, trees}
use Rattle.star_plan.specs.Results.{all_good, if_good, ran, result}
use Rattle.star_plan.specs.Shelves.{IsOwn}
use Rattle.star_plan.proofs.Options.{chained, mapped}
use Rattle.star_plan.proofs.Stay.{good_is, result-from, results-agree}

pub set_other : (xs : Shelf) (h k : ℕ) (x : Option Published) → (k ≡ h → ⊥) → slice_get (slice_set xs h x) k ≡ slice_get xs k
set_other [] h k x other = refl
set_other (y ∷ ys) zero zero x other = absurd (other refl)
set_other (y ∷ ys) zero (suc k) x other = refl
set_other (y ∷ ys) (suc h) zero x other = refl
set_other (y ∷ ys) (suc h) (suc k) x other = set_other ys h k x (λ e. other (ap suc e))

set_same : (xs : Shelf) (h : ℕ) (x y : Option Published) → slice_get (slice_set xs h x) h ≡ Some y → x ≡ y
set_same [] h x y e = absurd (let no : ⊥ = cc in no)
set_same (z ∷ zs) zero x y e = cc
set_same (z ∷ zs) (suc h) x y e = set_same zs h x y e

none_there : (m k : ℕ) (p : Published) → slice_get (let xs : Shelf = replicate m None in xs) k ≡ Some (Some p) → ⊥
none_there zero k p e = let no : ⊥ = cc in no
none_there (suc m) zero p e = let no : ⊥ = cc in no
none_there (suc m) (suc k) p e = none_there m k p e

not_added : (xs : Shelf) (m k : ℕ) (p : Published) → slice_get (xs ++ replicate m None) k ≡ Some (Some p) → slice_get xs k ≡ Some (Some p)
not_added [] m k p e = absurd (none_there m k p e)
not_added (x ∷ xs) m zero p e = e
not_added (x ∷ xs) m (suc k) p e = not_added xs m k p e

pub from_put : (b : Bool) (h : ℕ) (q : Published) (s : Shelf) (k : ℕ) (p : Published) → slice_get (if b then s else slice_set (widened (h + 1) s) h (Some q)) k ≡ Some (Some p) → (slice_get s k ≡ Some (Some p)) ⊎ ((k ≡ h) × (q ≡ p))
from_put true h q s k p e = inl e
from_put false h q s k p e = by_order (cases_order k h)
  where
    other : (k ≡ h → ⊥) → slice_get s k ≡ Some (Some p)
    other apart = not_added s ((h + 1) - length s) k p (sym (set_other (widened (h + 1) s) h k (Some q) apart) ∙ e)

    by_order : ((k ≡ h) ⊎ ((k < h) ⊎ (h < k))) → (slice_get s k ≡ Some (Some p)) ⊎ ((k ≡ h) × (q ≡ p))
    by_order (inl same) =
        let at : slice_get (slice_set (widened (h + 1) s) h (Some q)) h ≡ Some (Some p) = subst (λ z. slice_get (slice_set (widened (h + 1) s) h (Some q)) z ≡ Some (Some p)) same e in
        let both : Some q ≡ Some p = set_same (widened (h + 1) s) h (Some q) (Some p) at in
        inr (same, cc)
    by_order (inr (inl less)) = inl (other (λ same. let no : ⊥ = omega arith in no))
    by_order (inr (inr less)) = inl (other (λ same. let no : ⊥ = omega arith in no))

from_place : (i : ℕ) (o : Option Published) (t : Shelf) (k : ℕ) (p : Published) → slice_get (put_place i o t) k ≡ Some (Some p) → (slice_get t k ≡ Some (Some p)) ⊎ ((k ≡ i) × (o ≡ Some p))
from_place i None t k p e = inl e
from_place i (Some q) t k p e = turn (from_put (is_taken (slice_get t i)) i q t k p e)
  where
    turn : ((slice_get t k ≡ Some (Some p)) ⊎ ((k ≡ i) × (q ≡ p))) → (slice_get t k ≡ Some (Some p)) ⊎ ((k ≡ i) × (Some q ≡ Some p))
    turn (inl h) = inl h
    turn (inr (same, is)) = inr (same, ap Some is)

from_places : (i : ℕ) (s t : Shelf) (k : ℕ) (p : Published) → slice_get (put_places i s t) k ≡ Some (Some p) → (slice_get t k ≡ Some (Some p)) ⊎ ((j : ℕ) × (k ≡ i + j) × (slice_get s j ≡ Some (Some p)))
from_places i [] t k p e = inl e
from_places i (o ∷ s) t k p e = turn (from_places (i + 1) s (put_place i o t) k p e)
  where
    here : ((slice_get t k ≡ Some (Some p)) ⊎ ((k ≡ i) × (o ≡ Some p))) → (slice_get t k ≡ Some (Some p)) ⊎ ((j : ℕ) × (k ≡ i + j) × (slice_get (o ∷ s) j ≡ Some (Some p)))
    here (inl h) = inl h
    here (inr (same, is)) = inr (0, omega arith, ap Some is)

    turn : ((slice_get (put_place i o t) k ≡ Some (Some p)) ⊎ ((j : ℕ) × (k ≡ (i + 1) + j) × (slice_get s j ≡ Some (Some p)))) → (slice_get t k ≡ Some (Some p)) ⊎ ((j : ℕ) × (k ≡ i + j) × (slice_get (o ∷ s) j ≡ Some (Some p)))
    turn (inl h) = here (from_place i o t k p h)
    turn (inr (j, same, is)) = inr (suc j, omega arith, is)

-- each module on the union of the shelves of good results is on one of these
pub record StandsOn (f : ℕ → Option Local) (ns : List ℕ) (ms : List Local) (k : ℕ) (p : Published) : Type 0 where
  pub file : ℕ
  pub outcome : Local
  pub result : f file ≡ Some outcome
  pub there : slice_get (reached outcome) k ≡ Some (Some p)
  pub place : ℕ
  pub loads : slice_get ns place ≡ Some file
  pub among : slice_get ms place ≡ Some outcome

next_on : (f : ℕ → Option Local) (n : ℕ) (ns : List ℕ) (m : Local) (ms : List Local) (k : ℕ) (p : Published) → StandsOn f ns ms k p → StandsOn f (n ∷ ns) (m ∷ ms) k p
next_on f n ns m ms k p h = record { file = h.file; outcome = h.outcome; result = h.result; there = h.there; place = suc h.place; loads = h.loads; among = h.among }

pub from_loads : (f : ℕ → Option Local) (ns : List ℕ) (ms : List Local) → all_good (map f ns) ≡ Some ms → (k : ℕ) (p : Published) → slice_get (union (map reached ms)) k ≡ Some (Some p) → StandsOn f ns ms k p
from_loads f [] ms e k p at =
    let none : ms ≡ [] = cc in
    let nothing : slice_get [] k ≡ Some (Some p) = subst (λ z. slice_get (union (map reached z)) k ≡ Some (Some p)) none at in
    absurd (let no : ⊥ = cc in no)
from_loads f (n ∷ ns) ms e k p at =
    let first = chained (λ m. option_map (λ xs. m ∷ xs) (all_good (map f ns))) (if_good (f n)) ms e in
    let rest = mapped (λ xs. first.0 ∷ xs) (all_good (map f ns)) ms first.2 in
    let there : slice_get (put_places 0 (reached first.0) (union (map reached rest.0))) k ≡ Some (Some p) = subst (λ z. slice_get (union (map reached z)) k ≡ Some (Some p)) (sym rest.2) at in
    let found : StandsOn f (n ∷ ns) (first.0 ∷ rest.0) k p = turn first.0 rest.0 (λ h. next_on f n ns first.0 rest.0 k p (from_loads f ns rest.0 rest.1 k p h)) (good_is (f n) first.0 first.1) (from_places 0 (reached first.0) (union (map reached rest.0)) k p there) in
    subst (λ z. StandsOn f (n ∷ ns) z k p) rest.2 found
  where
    turn : {A : Type 0} (m : Local) (xs : List Local) → (A → StandsOn f (n ∷ ns) (m ∷ xs) k p) → f n ≡ Some m → (A ⊎ ((j : ℕ) × (k ≡ 0 + j) × (slice_get (reached m) j ≡ Some (Some p)))) → StandsOn f (n ∷ ns) (m ∷ xs) k p
    turn m xs others is (inl h) = others h
    turn m xs others is (inr (j, same, h)) = record { file = n; outcome = m; result = is; there = subst (λ z. slice_get (reached m) z ≡ Some (Some p)) (let back : j ≡ k = omega arith in back) h; place = 0; loads = refl; among = refl }

of_local : (w : Setting) (o : Outcome Ended) (m : Local) → local_of w o ≡ m → (k : ℕ) (p : Published) → slice_get (reached m) k ≡ Some (Some p) → (slice_get w.shelf k ≡ Some (Some p)) ⊎ (k ≡ w.home)
of_local w (Failed f lines) m e k p at =
    let nothing : slice_get [] k ≡ Some (Some p) = subst (λ z. slice_get (reached z) k ≡ Some (Some p)) (sym e) at in
    absurd (let no : ⊥ = cc in no)
of_local w (Done x s) m e k p at = turn (from_put (is_taken (slice_get w.shelf w.home)) w.home (record { cells = s.store.cells; globals = x.globals }) w.shelf k p (subst (λ z. slice_get (reached z) k ≡ Some (Some p)) (sym e) at))
  where
    turn : {A : Type 0} → ((slice_get w.shelf k ≡ Some (Some p)) ⊎ ((k ≡ w.home) × A)) → (slice_get w.shelf k ≡ Some (Some p)) ⊎ (k ≡ w.home)
    turn (inl h) = inl h
    turn (inr h) = inr h.0

pub of_ran : (plan : Plan) (n : ℕ) (ms : List Local) (m : Local) → ran plan n ms ≡ m → (k : ℕ) (p : Published) → slice_get (reached m) k ≡ Some (Some p) → (slice_get (union (map reached ms)) k ≡ Some (Some p)) ⊎ (k ≡ n)
unfolding ran
of_ran plan n ms m e k p at =
    let w : Setting = setting n (trees plan) (load_files (loads_of plan n)) plan.prelude plan.mode.language ms in
    of_local w (run_file (by_names w) w most_levels (statements_of (trees plan) n) (start w plan.mode.steps)) m e k p at

own : (plan : Plan) (d n : ℕ) (m : Local) → result plan d n ≡ Some m → (p : Published) → slice_get (reached m) n ≡ Some (Some p) → IsOwn plan n p
own plan d n (Stopped f lines) e p at = absurd (let no : ⊥ = cc in no)
own plan d n (Good shelf globals texts lines) e p at = record { depth = d; shelf = shelf; globals = globals; texts = texts; lines = lines; ended = e; there = at }

pub holds : (plan : Plan) (d n : ℕ) (m : Local) → result plan d n ≡ Some m → (k : ℕ) (p : Published) → slice_get (reached m) k ≡ Some (Some p) → IsOwn plan k p
unfolding result
holds plan zero n m e k p at = absurd (let no : ⊥ = cc in no)
holds plan (suc d) n m e k p at =
    let from = result-from plan d n m e in
    turn (λ h. let one = from_loads (result plan d) (loaded plan n) from.0 from.1 k p h in holds plan d one.file one.outcome one.result k p one.there) (of_ran plan n from.0 m from.2 k p at)
  where
    turn : {A : Type 0} → (A → IsOwn plan k p) → (A ⊎ (k ≡ n)) → IsOwn plan k p
    turn others (inl h) = others h
    turn others (inr same) = own plan (suc d) k m (subst (λ z. result plan (suc d) z ≡ Some m) (sym same) e) p at

pub one-own : (plan : Plan) (n : ℕ) (p q : Published) → IsOwn plan n p → IsOwn plan n q → p ≡ q
one-own plan n p q a b =
    let same : Good a.shelf a.globals a.texts a.lines ≡ Good b.shelf b.globals b.texts b.lines = results-agree plan a.depth b.depth n (Good a.shelf a.globals a.texts a.lines) (Good b.shelf b.globals b.texts b.lines) a.ended b.ended in
    let shelves : a.shelf ≡ b.shelf = ap (λ m. reached m) same in
    let at : slice_get b.shelf n ≡ Some (Some p) = subst (λ s. slice_get s n ≡ Some (Some p)) shelves a.there in
    let both : Some (Some p) ≡ Some (Some q) = sym at ∙ b.there in
    let one : Some p ≡ Some q = cc in
    cc
