-- The cause of a file follows from the cause of the file by which it fails.
use Rattle.std.proofs.Common.{arith, ◌≡◌, ◌<◌, ℕ, zero, suc, List, [], ◌∷◌, ◌++◌, length, refl, ap, sym, subst, ◌∙◌, ◌⊎◌, inl, inr}
use Rattle.std.specs.List.{Contains}
use Rattle.std.proofs.lemmas.List.Elements.{Contains-append_cases}
use Rattle.star_outline.specs.Definitions.{AllDiffer}
use Rattle.star_outline.proofs.Differ.{differ_pushed}
use Rattle.star_plan.specs.Causes.{Cycle, FailsBy, IsCause, Lead}
use Rattle.star_plan.specs.Laws.{CausesFollow, CycleIsCause, CyclesTurn, FaultIsCause}
use Rattle.star_plan.specs.Plan.{Plan}
use Rattle.star_plan.proofs.Causes.{here, one_next, one_way, there}

-- a number among numbers is the first or among the rest
pub first_or : (x n : ℕ) (xs : List ℕ) → Contains (x ∷ xs) n → (x ≡ n) ⊎ Contains xs n
first_or x n xs (zero, less, is) = inl is
first_or x n xs (suc i, less, is) = inr (i, omega (arith, less), is)

in_last : (m : ℕ) (xs ms : List ℕ) → Contains (xs ++ m ∷ ms) m
in_last m [] ms = here m ms
in_last m (x ∷ xs) ms = there x m (xs ++ m ∷ ms) (in_last m xs ms)

-- if all differ, a number that comes later is not in front
apart : (m : ℕ) (xs ms : List ℕ) → AllDiffer (xs ++ m ∷ ms) → Contains xs m → ⊥
apart m [] ms d h = let no : ⊥ = omega (arith, h.1) in no
apart m (x ∷ xs) ms d h = turn (λ rest. apart m xs ms d.1 rest) (first_or x m xs h)
  where
    turn : (Contains xs m → ⊥) → ((x ≡ m) ⊎ Contains xs m) → ⊥
    turn others (inl same) = d.0 (subst (λ z. Contains (xs ++ m ∷ ms) z) (sym same) (in_last m xs ms))
    turn others (inr rest) = others rest

-- the rest of a way from a file on it
record Rest (plan : Plan) (n : ℕ) (way : List ℕ) (m : ℕ) : Type 0 where
  rest : List ℕ
  lead : Lead plan n (n ∷ rest) m
  shorter : length rest < length way
  within : (x : ℕ) → Contains rest x → Contains way x

rest_of : (plan : Plan) (k n m : ℕ) (way : List ℕ) → Lead plan k way m → Contains way n → Rest plan n way m
rest_of plan k n m [] a h = absurd (let no : ⊥ = omega (arith, h.1) in no)
rest_of plan k n m (x ∷ xs) a h = turn (λ h. rest_of plan a.1.0 n m xs a.1.2 h) (first_or x n xs h)
  where
    turn : (Contains xs n → Rest plan n xs m) → ((x ≡ n) ⊎ Contains xs n) → Rest plan n (x ∷ xs) m
    turn others (inl same) = record { rest = xs; lead = (refl, (a.1.0, subst (λ z. FailsBy plan z a.1.0) (a.0 ∙ same) a.1.1, a.1.2)); shorter = omega arith; within = λ y. there x y xs }
    turn others (inr h) =
        let more = others h in
        let shorter : length more.rest < length xs = more.shorter in
        record { rest = more.rest; lead = more.lead; shorter = omega arith; within = λ y i. there x y xs (more.within y i) }

-- a file is not on the way from the file by which it fails to a cycle without it
off_way : (plan : Plan) (n k m : ℕ) (ms way : List ℕ) → FailsBy plan n k → Lead plan k way m → AllDiffer (way ++ m ∷ ms) → Contains way n → ⊥
off_way plan n k m ms way fails a differ h =
    let r = rest_of plan k n m way a h in
    let next : r.lead.1.0 ≡ k = one_next plan n r.lead.1.0 k r.lead.1.1 fails in
    let again : Lead plan k r.rest m = subst (λ z. Lead plan z r.rest m) next r.lead.1.2 in
    let same : way ≡ r.rest = one_way (FailsBy plan) (one_next plan) m k way r.rest a again (apart m way ms differ) (λ i. apart m way ms differ (r.within m i)) in
    let shorter : length r.rest < length way = r.shorter in
    let equal : length way ≡ length r.rest = ap length same in
    let no : ⊥ = omega arith in
    no

follow_cycle : (plan : Plan) (n k : ℕ) (ms : List ℕ) → FailsBy plan n k → IsCause plan k (Cycle ms) → (Contains ms n → ⊥) → IsCause plan n (Cycle ms)
follow_cycle plan n k [] fails x out = absurd x
follow_cycle plan n k (m ∷ ms) fails (way, a, ring, differ) out = (n ∷ way, (refl, (k, fails, a)), ring, (λ h. turn (Contains-append_cases way (m ∷ ms) n h), differ))
  where
    turn : (Contains way n ⊎ Contains (m ∷ ms) n) → ⊥
    turn (inl h) = off_way plan n k m ms way fails a differ h
    turn (inr h) = out h

pub causes_follow : CausesFollow
causes_follow plan n k fails = (λ m x. (n ∷ x.0, (refl, (k, fails, x.1)), x.2), λ ms x out. follow_cycle plan n k ms fails x out)

pub fault_is_cause : FaultIsCause
fault_is_cause plan n f = ([], refl, f)

pub cycle_is_cause : CycleIsCause
cycle_is_cause plan n ns ring differ = ([], refl, ring, differ)

-- ---- a cycle turned by one

-- two ways, one after the other
pub joined : (plan : Plan) (k m e : ℕ) (xs ys : List ℕ) → Lead plan k xs m → Lead plan m ys e → Lead plan k (xs ++ ys) e
joined plan k m e [] ys a b = subst (λ z. Lead plan z ys e) (sym a) b
joined plan k m e (x ∷ xs) ys a b = (a.0, (a.1.0, a.1.1, joined plan a.1.0 m e xs ys a.1.2 b))

turned : (plan : Plan) (n k : ℕ) (ns : List ℕ) → FailsBy plan n k → Lead plan k ns n → AllDiffer (n ∷ ns) → IsCause plan k (Cycle (ns ++ n ∷ []))
turned plan n k [] fails a differ = ([], a, (refl, (k, fails, a)), differ)
turned plan n k (x ∷ xs) fails a differ =
    let same : x ≡ k = sym a.0 in
    let whole : Lead plan k (x ∷ (xs ++ n ∷ [])) k = joined plan k n k (x ∷ xs) (n ∷ []) a (refl, (k, fails, refl)) in
    ([], a.0, subst (λ z. Lead plan z (x ∷ (xs ++ n ∷ [])) z) (sym same) whole, differ_pushed (x ∷ xs) n differ.1 differ.0)

pub cycles_turn : CyclesTurn
cycles_turn plan n k ns fails ([], a, ring, differ) =
    let next : ring.1.0 ≡ k = one_next plan n ring.1.0 k ring.1.1 fails in
    turned plan n k ns fails (subst (λ z. Lead plan z ns n) next ring.1.2) differ
cycles_turn plan n k ns fails (x ∷ way, a, ring, differ) = absurd (differ.0 (subst (λ z. Contains (way ++ n ∷ ns) z) a.0 (in_last n way ns)))
