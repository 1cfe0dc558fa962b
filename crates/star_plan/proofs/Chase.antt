-- Each file that fails by a load has a cause: the way goes on over files that it has not met, and these become fewer
-- each time.
use Rattle.std.proofs.Common.{arith, ◌≡◌, ◌<◌, ◌≤◌, ℕ, zero, suc, Bool, true, false, List, [], ◌∷◌, ◌++◌, length, Some, refl, ap, subst, ◌⊎◌, inl, inr}
use Rattle.std.specs.List.{Contains}
use Rattle.std.proofs.lemmas.Bool.{cases_eq}
use Rattle.std.proofs.lemmas.List.Elements.{Contains-append_left, Contains-push}
use Rattle.star_cache.specs.State.{Loads}
use Rattle.star_outline.specs.Definitions.{AllDiffer}
use Rattle.star_outline.proofs.Differ.{differ_pushed}
use Rattle.star_meaning.specs.Module.{Good, Stopped}
use Rattle.star_plan.specs.Causes.{Cause, Culprit, Cycle, IsCause, Lead}
use Rattle.star_plan.specs.Plan.{Plan, Reading, loaded, read_of}
use Rattle.star_plan.specs.Results.{IsFirstBad, IsGood, IsOutcome, Outcome, Ran, Static, Unloaded, if_good, result}
use Rattle.star_plan.proofs.Causes.{here, there}
use Rattle.star_plan.proofs.Counts.{count, count_grows, count_most}
use Rattle.star_plan.proofs.Follow.{first_or, joined}
use Rattle.star_plan.proofs.Outcomes.{no_bad}
use Rattle.star_plan.proofs.Seen.{contained}
use Rattle.star_plan.proofs.Settled.{has_outcome, within}
use Rattle.star_plan.proofs.Stay.{good_is}

-- ---- whether a number is among numbers

is_in : (x : ℕ) (xs : List ℕ) → Contains xs x ⊎ (Contains xs x → ⊥)
is_in x [] = inr (λ h. let no : ⊥ = omega (arith, h.1) in no)
is_in x (y ∷ ys) = turn (cases_eq y x) (is_in x ys)
  where
    neither : (y ≡ x → ⊥) → (Contains ys x → ⊥) → ((y ≡ x) ⊎ Contains ys x) → ⊥
    neither other off (inl same) = other same
    neither other off (inr h) = off h

    turn : ((y ≡ x) ⊎ (y ≡ x → ⊥)) → (Contains ys x ⊎ (Contains ys x → ⊥)) → Contains (y ∷ ys) x ⊎ (Contains (y ∷ ys) x → ⊥)
    turn (inl same) any = inl (subst (λ z. Contains (y ∷ ys) z) same (here y ys))
    turn (inr other) (inl h) = inl (there y x ys h)
    turn (inr other) (inr off) = inr (λ h. neither other off (first_or y x ys h))

abbrev out : (A : Type 0) → A ⊎ (A → ⊥) → Bool
out A (inl h) = false
out A (inr off) = true

out_true : (A : Type 0) (d : A ⊎ (A → ⊥)) → (A → ⊥) → out A d ≡ true
out_true A (inl h) off = absurd (off h)
out_true A (inr h) off = refl

out_false : (A : Type 0) (d : A ⊎ (A → ⊥)) → A → out A d ≡ false
out_false A (inl h) a = refl
out_false A (inr off) a = absurd (off a)

from_out : (A : Type 0) (d : A ⊎ (A → ⊥)) → out A d ≡ true → A → ⊥
from_out A (inl h) e = absurd (let no : ⊥ = cc in no)
from_out A (inr off) e = off

abbrev lacks : List ℕ → ℕ → Bool
lacks xs x = out (Contains xs x) (is_in x xs)

-- ---- a way that meets a file again

record Parts (xs : List ℕ) (x : ℕ) : Type 0 where
  front : List ℕ
  rest : List ℕ
  whole : xs ≡ front ++ x ∷ rest

split_at : (xs : List ℕ) (x : ℕ) → Contains xs x → Parts xs x
split_at [] x h = absurd (let no : ⊥ = omega (arith, h.1) in no)
split_at (y ∷ ys) x h = turn (λ i. split_at ys x i) (first_or y x ys h)
  where
    turn : (Contains ys x → Parts ys x) → ((y ≡ x) ⊎ Contains ys x) → Parts (y ∷ ys) x
    turn others (inl same) = record { front = []; rest = ys; whole = ap (λ z. z ∷ ys) same }
    turn others (inr i) = record { front = y ∷ (others i).front; rest = (others i).rest; whole = ap (λ zs. y ∷ zs) (others i).whole }

lead_split : (plan : Plan) (n k : ℕ) (front rest : List ℕ) → Lead plan n (front ++ k ∷ rest) k → Lead plan n front k × Lead plan k (k ∷ rest) k
lead_split plan n k [] rest a = (a.0, subst (λ z. Lead plan z (k ∷ rest) k) a.0 a)
lead_split plan n k (x ∷ front) rest a =
    let more = lead_split plan a.1.0 k front rest a.1.2 in
    ((a.0, (a.1.0, a.1.1, more.0)), more.1)

met_again : (plan : Plan) (n k : ℕ) (way : List ℕ) → Lead plan n way k → AllDiffer way → Contains way k → (c : Cause) × IsCause plan n c
met_again plan n k way lead differ h =
    let parts = split_at way k h in
    let two = lead_split plan n k parts.front parts.rest (subst (λ z. Lead plan n z k) parts.whole lead) in
    (Cycle (k ∷ parts.rest), (parts.front, two.0, two.1, subst AllDiffer parts.whole differ))

-- ---- the chase

abbrev pub WasRead : Plan → ℕ → Type 0
WasRead plan n = (r : Reading) × (read_of plan n ≡ Some r)

-- how the way goes on from the file that it has come to, or why it does not
step : (plan : Plan) (n : ℕ) (way : List ℕ) (k : ℕ) → Lead plan n way k → AllDiffer (way ++ k ∷ []) → (IsGood plan k → ⊥)
    → ((i : ℕ) (b : IsFirstBad plan (loaded plan k) i) → (Contains (way ++ k ∷ []) b.file → ⊥) → (c : Cause) × IsCause plan n c)
    → (o : Outcome) → IsOutcome plan k o → (c : Cause) × IsCause plan n c
step plan n way k lead differ bad more (Static f) is = (Culprit k, (way, lead, inl (f, is)))
step plan n way k lead differ bad more (Ran (Stopped f lines)) is = (Culprit k, (way, lead, inr (f, lines, is)))
step plan n way k lead differ bad more (Ran (Good shelf globals texts lines)) is = absurd (bad (is.0, (Good shelf globals texts lines, ap if_good is.1)))
step plan n way k lead differ bad more (Unloaded i) b = turn (is_in b.file (way ++ k ∷ []))
  where
    longer : Lead plan n (way ++ k ∷ []) b.file
    longer = joined plan n k b.file way (k ∷ []) lead (refl, (b.file, (i, b, b.there), refl))

    turn : (Contains (way ++ k ∷ []) b.file ⊎ (Contains (way ++ k ∷ []) b.file → ⊥)) → (c : Cause) × IsCause plan n c
    turn (inl h) = met_again plan n b.file (way ++ k ∷ []) longer differ h
    turn (inr off) = more i b off

lacks_less : (way : List ℕ) (k x : ℕ) → lacks (way ++ k ∷ []) x ≡ true → lacks way x ≡ true
lacks_less way k x e = out_true (Contains way x) (is_in x way) (λ h. from_out (Contains (way ++ k ∷ []) x) (is_in x (way ++ k ∷ [])) e (Contains-append_left way (k ∷ []) x h))

fewer : (way : List ℕ) (k count_of : ℕ) → k < count_of → (Contains way k → ⊥) → count (lacks (way ++ k ∷ [])) count_of < count (lacks way) count_of
fewer way k count_of less off =
    count_grows (lacks (way ++ k ∷ [])) (lacks way) count_of k (λ x i. lacks_less way k x) less
    (out_false (Contains (way ++ k ∷ []) k) (is_in k (way ++ k ∷ [])) (Contains-push way k)) (out_true (Contains way k) (is_in k way) off)

chase : (plan : Plan) → ((k m : ℕ) → WasRead plan k → Loads (loaded plan) k m → WasRead plan m) → (fuel n : ℕ) (way : List ℕ) (k : ℕ) → Lead plan n way k → AllDiffer way → (Contains way k → ⊥) → WasRead plan k → (IsGood plan k → ⊥)
    → count (lacks way) (length plan.reads) ≤ fuel → (c : Cause) × IsCause plan n c
chase plan closed zero n way k lead differ off read bad few =
    let less : count (lacks (way ++ k ∷ [])) (length plan.reads) < count (lacks way) (length plan.reads) = fewer way k (length plan.reads) (within plan k read.0 read.1) off in
    absurd (let no : ⊥ = omega (arith, less, few) in no)
chase plan closed (suc fuel) n way k lead differ off read bad few =
    let less : count (lacks (way ++ k ∷ [])) (length plan.reads) < count (lacks way) (length plan.reads) = fewer way k (length plan.reads) (within plan k read.0 read.1) off in
    let differ_too : AllDiffer (way ++ k ∷ []) = differ_pushed way k differ off in
    let outcome = has_outcome plan k read.0 read.1 in
    step plan n way k lead differ_too bad (λ i b away. chase plan closed fuel n (way ++ k ∷ []) b.file (joined plan n k b.file way (k ∷ []) lead (refl, (b.file, (i, b, b.there), refl))) differ_too away (closed k b.file read (contained (loaded plan k) i b.file b.there)) b.bad (omega (arith, less, few))) outcome.0 outcome.1

pub has_cause : (plan : Plan) → ((k m : ℕ) → WasRead plan k → Loads (loaded plan) k m → WasRead plan m) → (n i : ℕ) → WasRead plan n → IsOutcome plan n (Unloaded i) → (c : Cause) × IsCause plan n c
has_cause plan closed n i read is =
    chase plan closed (length plan.reads) n [] n refl tt (λ h. let no : ⊥ = omega (arith, h.1) in no) read (λ good. no_bad plan good.0 n good.1.0 i (good_is (result plan good.0 n) good.1.0 good.1.1) is) (count_most (lacks []) (length plan.reads))
