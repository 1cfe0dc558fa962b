-- The ends of ways are the causes of the files of a plan.
use Rattle.std.proofs.Common.{arith, ◌≡◌, ◌<◌, inl, inr, ℕ, List, [], ◌∷◌, length, get_or, Option, Some, None, ap, sym, subst, ◌∙◌}
use Rattle.std.specs.Prelude.{All}
use Rattle.std.proofs.lemmas.List.Elements.{All-cons, All-nil}
use Rattle.std.proofs.lemmas.Option.{slice_get_within}
use Rattle.star_label.specs.Files.{File}
use Rattle.star_meaning.specs.Module.{Good, Stopped}
use Rattle.star_plan.specs.Causes.{Cause, Culprit, Cycle, FailsBy, HasFault, IsCause, Lead}
use Rattle.star_plan.specs.Plan.{Plan, loaded}
use Rattle.star_plan.specs.Reached.{IsReached, load}
use Rattle.star_plan.specs.Reading.{IsPlanOf}
use Rattle.star_plan.specs.Results.{IsGood, IsOutcome, Outcome, Ran, Static, Unloaded, if_good}
use Rattle.star_plan.proofs.Causes.{lead_end}
use Rattle.star_plan.proofs.Seen.{contained}
use Rattle.star_plan.proofs.Settled.{has_outcome}
use Rattle.star_cause.specs.Causes.{AreNextsOf, IsBelow}
use Rattle.star_cause.specs.declared.ends.End.{End}
use Rattle.star_cause.specs.declared.ends.End.TheVariants.{Around}
use Rattle.star_cause.specs.Ends.{AreAllEnds, AreWithin, Ends, HasEnd}
use Rattle.star_cause.specs.Ways.{EndsIn, HasWay, IsTrail, Nexts, Way}
use Rattle.star_cause.proofs.Ways.{read_at, same_way}

lead_of : (plan : Plan) (nexts : Nexts) → AreNextsOf plan nexts → (n m : ℕ) (xs : List ℕ) → Way nexts n xs m → Lead plan n xs m
lead_of plan nexts are n m [] way = way
lead_of plan nexts are n m (x ∷ xs) way = (way.0, (way.1.0, (are n way.1.0).0 way.1.1, lead_of plan nexts are way.1.0 m xs way.1.2))

-- a file by which another fails is reached if that one is, and is not good
fails_reached : (plan : Plan) (n k : ℕ) → FailsBy plan n k → IsReached plan n → IsReached plan k
fails_reached plan n k (i, bad, at) reached = load reached (contained (loaded plan n) i k at)

fails_bad : (plan : Plan) (n k : ℕ) → FailsBy plan n k → IsGood plan k → ⊥
fails_bad plan n k (i, bad, at) good =
    let both : Some bad.file ≡ Some k = sym bad.there ∙ at in
    let same : bad.file ≡ k = cc in
    bad.bad (subst (IsGood plan) (sym same) good)

end_reached : (plan : Plan) (n m : ℕ) (xs : List ℕ) → Lead plan n xs m → IsReached plan n → IsReached plan m
end_reached plan = lead_end (FailsBy plan) (IsReached plan) (fails_reached plan)

end_bad : (plan : Plan) (n m : ℕ) (xs : List ℕ) → Lead plan n xs m → (IsGood plan n → ⊥) → IsGood plan m → ⊥
end_bad plan = lead_end (FailsBy plan) (λ x. IsGood plan x → ⊥) (λ j k fails bad. fails_bad plan j k fails)

-- a reached file that is not good and fails by no load has a fault of its own
own_fault : (plan : Plan) (m : ℕ) → (IsGood plan m → ⊥) → ((k : ℕ) → FailsBy plan m k → ⊥) → (o : Outcome) → IsOutcome plan m o → HasFault plan m
own_fault plan m bad none (Static f) is = inl (f, is)
own_fault plan m bad none (Unloaded i) is = absurd (none is.file (i, is, is.there))
own_fault plan m bad none (Ran (Stopped f lines)) is = inr (f, lines, is)
own_fault plan m bad none (Ran (Good shelf globals texts lines)) is = absurd (bad (is.0, (Good shelf globals texts lines, ap if_good is.1)))

pub cause_is : (nexts : Nexts) (n : ℕ) (cause : Cause) → EndsIn nexts n cause → (files : List File) (plan : Plan) → IsPlanOf files plan → AreNextsOf plan nexts → IsReached plan n → (IsGood plan n → ⊥) → IsCause plan n cause
cause_is nexts n (Culprit m) (way, leads, last) files plan planned are reached bad =
    let lead : Lead plan n way m = lead_of plan nexts are n m way leads in
    let read = (planned.reached m).0 (end_reached plan n m way lead reached) in
    let outcome = has_outcome plan m read.0 read.1 in
    (way, lead, own_fault plan m (end_bad plan n m way lead bad) (λ k fails. last k ((are m k).1 fails)) outcome.0 outcome.1)
cause_is nexts n (Cycle []) ends files plan planned are reached bad = absurd ends
cause_is nexts n (Cycle (m ∷ ms)) (way, leads, ring, differ) files plan planned are reached bad = (way, lead_of plan nexts are n m way leads, lead_of plan nexts are m m (m ∷ ms) ring, differ)

-- ---- the files of a cause

way_below : (nexts : Nexts) → AreWithin nexts → (n m : ℕ) (xs : List ℕ) → Way nexts n xs m → n < length nexts → m < length nexts
way_below nexts within n m [] way less = subst (λ z. z < length nexts) way less
way_below nexts within n m (x ∷ xs) way less = way_below nexts within way.1.0 m xs way.1.2 (within n way.1.0 way.1.1)

files_below : (nexts : Nexts) (n m : ℕ) (xs : List ℕ) → Way nexts n xs m → All (λ z. z < length nexts) xs
files_below nexts n m [] way = All-nil (λ z. z < length nexts)
files_below nexts n m (x ∷ xs) way = All-cons (λ z. z < length nexts) x xs (subst (λ z. z < length nexts) way.0 (slice_get_within nexts n (Some way.1.0) way.1.1)) (files_below nexts way.1.0 m xs way.1.2)

pub cause_below : (nexts : Nexts) → AreWithin nexts → (n : ℕ) (cause : Cause) → n < length nexts → EndsIn nexts n cause → IsBelow (length nexts) cause
cause_below nexts within n (Culprit m) less (way, leads, last) = way_below nexts within n m way leads less
cause_below nexts within n (Cycle []) less ends = absurd ends
cause_below nexts within n (Cycle (m ∷ ms)) less (way, leads, ring, differ) = files_below nexts m m (m ∷ ms) ring

-- ---- the result

pub end_read : (nexts : Nexts) (ends : Ends) (n : ℕ) (o : Option End) (e : End) → AreAllEnds nexts ends → n < length nexts → o ≡ get_or ends n o → o ≡ Some e → HasEnd nexts n e
end_read nexts ends n o e are less read is =
    let size : length ends ≡ length nexts = are.are.size in
    are.are.right n e (read_at ends n o (Some e) (omega (arith, less, size)) (sym read ∙ is))

pub end_known : (nexts : Nexts) (ends : Ends) (n : ℕ) (o : Option End) → AreAllEnds nexts ends → n < length nexts → o ≡ get_or ends n o → o ≡ None → ⊥
end_known nexts ends n o are less read is =
    let size : length ends ≡ length nexts = are.are.size in
    let known = are.all n less in
    let none = read_at ends n o None (omega (arith, less, size)) (sym read ∙ is) in
    let both : Some None ≡ Some (Some known.0) = sym none ∙ known.1 in
    let no : ⊥ = cc in
    no

-- the first files of the path from a cycle's first file, as many as the cycle has, are the files of the cycle
pub cycle_is : (nexts : Nexts) (n first count : ℕ) (ms files : List ℕ) → length (first ∷ ms) ≡ count → EndsIn nexts n (Cycle (first ∷ ms)) → IsTrail nexts first count files → EndsIn nexts n (Cycle files)
cycle_is nexts n first count ms files size ends (m, way, long) =
    let same : first ∷ ms ≡ files = same_way nexts first first m (first ∷ ms) files (size ∙ sym long) ends.2 way in
    subst (λ xs. EndsIn nexts n (Cycle xs)) same ends

-- a cycle has as many files as are counted
pub has_way : (nexts : Nexts) (n first count : ℕ) → HasEnd nexts n (Around first count) → HasWay nexts first count
has_way nexts n first count (ms, size, ends) = (first ∷ ms, (first, ends.2, size))

pub trail_ends : (nexts : Nexts) (n first count : ℕ) (files : List ℕ) → HasEnd nexts n (Around first count) → IsTrail nexts first count files → EndsIn nexts n (Cycle files)
trail_ends nexts n first count files (ms, size, ends) trail = cycle_is nexts n first count ms files size ends trail
