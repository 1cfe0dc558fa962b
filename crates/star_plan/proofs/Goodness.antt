-- The outcomes of good files, and the numbers of reached files.
use Rattle.std.proofs.Common.{◌≡◌, ◌<◌, ◌↔◌, ℕ, Bool, true, length, List, Option, Some, None, refl, ap, sym, subst, ◌∙◌}
use Rattle.std.specs.Prelude.{slice_get}
use Rattle.std.specs.Option.{option_flatten}
use Rattle.std.proofs.lemmas.Option.{slice_get_within}
use Rattle.star_label.specs.Files.{File}
use Rattle.star_meaning.specs.Module.{Local, Good, Stopped}
use Rattle.star_plan.specs.Plan.{Plan, Reading}
use Rattle.star_plan.specs.Reached.{IsReached}
use Rattle.star_plan.specs.Reading.{IsPlanOf}
use Rattle.star_plan.specs.Results.{IsGood, IsOutcome, Outcome, Static, Unloaded, Ran, if_good, result, went_well}
use Rattle.star_plan.proofs.Outcomes.{one-outcome}
use Rattle.star_plan.proofs.Stay.{good_is}

pub to_good : (plan : Plan) (n : ℕ) (e : Outcome) → IsOutcome plan n e → went_well e ≡ true → IsGood plan n
to_good plan n (Static f) is well = absurd (let no : ⊥ = cc in no)
to_good plan n (Unloaded i) is well = absurd (let no : ⊥ = cc in no)
to_good plan n (Ran (Stopped f lines)) is well = absurd (let no : ⊥ = cc in no)
to_good plan n (Ran (Good shelf globals texts lines)) is well = (is.0, (Good shelf globals texts lines, ap if_good is.1))

pub well : (m : Local) → if_good (Some m) ≡ Some m → went_well (Ran m) ≡ true
well (Good shelf globals texts lines) e = refl
well (Stopped f lines) e = absurd (let no : ⊥ = cc in no)

pub from_good : (plan : Plan) (n : ℕ) (e : Outcome) → IsOutcome plan n e → IsGood plan n → went_well e ≡ true
from_good plan n e is (d, (m, good)) =
    let there : result plan d n ≡ Some m = good_is (result plan d n) m good in
    let same : e ≡ Ran m = one-outcome plan n e (Ran m) is (d, there) in
    ap went_well same ∙ well m (ap if_good (sym there) ∙ good)

pub good : (plan : Plan) (n : ℕ) (e : Outcome) (b : Bool) → went_well e ≡ b → IsOutcome plan n e → (b ≡ true) ↔ IsGood plan n
good plan n e b is_b is = (λ yes. to_good plan n e is (is_b ∙ yes), λ g. sym is_b ∙ from_good plan n e is g)

pub flat_there : (xs : List (Option Reading)) (n : ℕ) (r : Reading) → option_flatten (slice_get xs n) ≡ Some r → (x : Option Reading) × (slice_get xs n ≡ Some x)
flat_there xs n r e = split (slice_get xs n) refl
  where
    split : (o : Option (Option Reading)) → slice_get xs n ≡ o → (x : Option Reading) × (slice_get xs n ≡ Some x)
    split (Some x) h = (x, h)
    split None h = absurd (let none : None ≡ Some r = ap option_flatten (sym h) ∙ e in let no : ⊥ = cc in no)

-- a reached file is one of the files
pub reached_is_file : (files : List File) (plan : Plan) → IsPlanOf files plan → (n : ℕ) → IsReached plan n → n < length files
reached_is_file files plan is n h =
    let read = (is.reached n).0 h in
    let there = flat_there plan.reads n read.0 read.1 in
    subst (λ k. n < k) is.size (slice_get_within plan.reads n there.0 there.1)
