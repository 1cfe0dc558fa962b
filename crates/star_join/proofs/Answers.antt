-- The answer for the roots of two reports.
use Rattle.std.proofs.Common.{◌≡◌, ◌⊎◌, ◌↔◌, ◌&&◌, ℕ, Bool, true, false, List, Some, refl, sym, inl, inr, get_or}
use Rattle.std.proofs.lemmas.List.Elements.{All-contains, Contains-get_or}
use Rattle.star_label.specs.Files.{File, IsOrdered}
use Rattle.star_plan.specs.Plan.{Plan}
use Rattle.star_plan.specs.Reached.{IsReached}
use Rattle.star_plan.specs.Reading.{IsPlanOf}
use Rattle.star_plan.specs.Results.{IsGood, went_well}
use Rattle.star_plan.proofs.Exists.{each_has_outcome}
use Rattle.star_plan.proofs.Goodness.{good}
use Rattle.star_needs.proofs.Among.{one_outcome_by_needs}
use Rattle.star_needs.proofs.Ends.{both as in_both}
use Rattle.star_outcome.specs.Kept.{AllGood, AreModules, KeptView}
use Rattle.star_outcome.specs.Views.{IsModule}
use Rattle.star_outcome.specs.declared.module.Module.{Module}
use Rattle.star_report.specs.Output.{IsAnswer}
use Rattle.star_reply.proofs.Goods.{end_good, good_there, number_there}
use Rattle.star_join.specs.Answers.{AnswersJoin}
use Rattle.star_join.specs.Laws.{HasRootsOf}
use Rattle.star_join.proofs.Reached.{agreed, every, from_either, in_agreed, left_reached, right_reached}

abbrev AllReachedGood : Plan → Type 0
AllReachedGood plan = (n : ℕ) → IsReached plan n → IsGood plan n

all_kept : (plan : Plan) (js : List KeptView) → AreModules plan js → AllReachedGood plan → AllGood js
all_kept plan js b all i d low =
    let k : KeptView = get_or js i d in
    let there = Contains-get_or js i d low in
    let module_is = All-contains (λ k. (m : Module) × (k.known ≡ Some m) × IsModule plan k.number m) js k b.each there in
    (module_is.0, module_is.1, (end_good plan k.number module_is.0.ended module_is.2.ended).1 (all k.number ((b.reached k.number).1 (number_there js k there))))

-- an answer is whether each reached file is good
tells : (plan : Plan) (ok : Bool) → IsAnswer plan ok → (ok ≡ true) ↔ AllReachedGood plan
tells plan ok (ks, are, well, ill) = (λ e. good_there plan ks are (well e), by ok refl)
  where
    by : (b : Bool) → ok ≡ b → AllReachedGood plan → ok ≡ true
    by true e all = e
    by false e all = absurd (ill e (all_kept plan ks are all))

both_are : (one other both : Bool) → (both ≡ true → (one ≡ true) × (other ≡ true)) → (one ≡ true → other ≡ true → both ≡ true) → both ≡ (one && other)
both_are true true both to from = from refl refl
both_are true false true to from = sym (to refl).1
both_are true false false to from = refl
both_are false other true to from = sym (to refl).0
both_are false other false to from = refl

-- a file that two plans of files reach is good in both or in none
good_to : (files : List File) (p r : Plan) → IsOrdered files → IsPlanOf files p → IsPlanOf files r → p.prelude ≡ r.prelude → p.mode ≡ r.mode → (n : ℕ) → IsReached p n → IsReached r n → IsGood p n ↔ IsGood r n
good_to files p r ordered is also prelude mode n x y =
    let it = each_has_outcome files p is n x in
    let same = one_outcome_by_needs files files p r is also (in_both every p r) (agreed files p r ordered is also prelude mode) n (in_agreed files p r ordered is also prelude mode n x y) it.0 in (
      λ h. (good r n it.0 (went_well it.0) refl (same.0 it.1)).0 ((good p n it.0 (went_well it.0) refl it.1).1 h),
      λ h. (good p n it.0 (went_well it.0) refl it.1).0 ((good r n it.0 (went_well it.0) refl (same.0 it.1)).1 h),
    )

module _ (files : List File) (p q r : Plan) (ordered : IsOrdered files) (is : IsPlanOf files p) (too : IsPlanOf files q) (also : IsPlanOf files r) (has : HasRootsOf p q r) where
  left_good : (n : ℕ) → IsReached p n → IsGood p n ↔ IsGood r n
  left_good n x = good_to files p r ordered is also has.preludes.0 has.modes.0 n x (left_reached files p q r ordered is too also has n x)

  right_good : (n : ℕ) → IsReached q n → IsGood q n ↔ IsGood r n
  right_good n x = good_to files q r ordered too also has.preludes.1 has.modes.1 n x (right_reached files p q r ordered is too also has n x)

  either_good : AllReachedGood p → AllReachedGood q → (n : ℕ) → (IsReached p n ⊎ IsReached q n) → IsGood r n
  either_good f g n (inl x) = (left_good n x).0 (f n x)
  either_good f g n (inr x) = (right_good n x).0 (g n x)

  pub joined : (one other all : Bool) → IsAnswer p one → IsAnswer q other → IsAnswer r all → all ≡ (one && other)
  joined one other all x y z =
      both_are one other all
      (λ e. (let good_all = (tells r all z).0 e in (
        (tells p one x).1 (λ n h. (left_good n h).1 (good_all n (left_reached files p q r ordered is too also has n h))),
        (tells q other y).1 (λ n h. (right_good n h).1 (good_all n (right_reached files p q r ordered is too also has n h))),
      )))
      (λ a b. (tells r all z).1 (λ n h. either_good ((tells p one x).0 a) ((tells q other y).0 b) n (from_either files p q r ordered is too also has n h)))

pub answers_join : AnswersJoin
answers_join files p q r ordered is too also has one other all x y z = joined files p q r ordered is too also has one other all x y z
