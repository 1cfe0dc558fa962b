-- The reached files below a number, file by file.
use Rattle.std.proofs.Common.{arith, ◌≡◌, ◌<◌, ◌+◌, ℕ, List, [], ◌∷◌, ◌++◌, sym, subst, ◌∙◌}
use Rattle.std.specs.Prelude.{All, Contains}
use Rattle.std.proofs.lemmas.List.Elements.{All-push, Contains-append_cases, Contains-append_left, Contains-append_right}
use Rattle.star_plan.specs.Plan.{Plan}
use Rattle.star_plan.specs.Reached.{IsReached}
use Rattle.star_plan.proofs.Rising.{rising_push}
use Rattle.star_reading.specs.Listed.{AreListed}
use Rattle.star_reading.proofs.Finds.{by_cases, contains_here, contains_one, same_or_not}

-- a file that is not reached is passed by
pub listed_on : (plan : Plan) (n : ℕ) (ns : List ℕ) → (IsReached plan n → ⊥) → AreListed plan n ns → AreListed plan (n + 1) ns
listed_on plan n ns never is = record {
  in_order = is.in_order;
  below = λ k d lt. let b = is.below k d lt in omega (arith, b);
  reached = is.reached;
  all = λ m r h. by_cases (same_or_not m n) (λ e. absurd (never (subst (IsReached plan) e r))) (λ ne. is.all m r (omega (arith, h, ne)));
}

-- a reached file is listed
pub listed_more : (plan : Plan) (n : ℕ) (ns : List ℕ) (m : ℕ) → m ≡ n → IsReached plan n → AreListed plan n ns → AreListed plan (n + 1) (ns ++ m ∷ [])
listed_more plan n ns m at reached is = record {
  in_order = rising_push ns m is.in_order (subst (λ k. All (λ x. x < k) ns) (sym at) is.below);
  below = All-push (λ k. k < n + 1) ns m (λ i d lt. let b = is.below i d lt in omega (arith, b)) (omega (arith, at));
  reached = λ k c. by_cases (Contains-append_cases ns (m ∷ []) k c) (λ old. is.reached k old) (λ new. subst (IsReached plan) (sym at ∙ contains_one m k new) reached);
  all = λ k r h. by_cases (same_or_not k n)
      (λ e. Contains-append_right ns (m ∷ []) k (subst (Contains (m ∷ [])) (at ∙ sym e) (contains_here m)))
      (λ ne. Contains-append_left ns (m ∷ []) k (is.all k r (omega (arith, h, ne))));
}
