use Rattle.std.proofs.Common.{◌≡◌, ◌<◌, ◌≤◌, ◌+◌, ◌⊎◌, inl, inr, ℕ, ◌∙◌, subst, arith}
use Rattle.std.proofs.lemmas.Bool.{cases_lt}
use Rattle.star_cause.specs.Ends.{IsKnown}
use Rattle.star_cause.proofs.ends.ends_of.Goals as goal

pub loop-n-preserved : goal.loop-n-preserved
loop-n-preserved c = record {
  are = c.in_ok-learn.ensures.ends;
  places = c.in_ok-learn.ensures.places ∙ c.loop-n.invariant.places;
  known = known_so;
}
  where
    known_at : (k : ℕ) → k < c.loop-n.n + 1 → ((k < c.loop-n.n) ⊎ (c.loop-n.n ≤ k)) → IsKnown c.learn.new.ends.items k
    known_at k less (inl low) = c.in_ok-learn.ensures.kept k (c.loop-n.invariant.known k low)
    known_at k less (inr high) =
        let same : c.loop-n.n ≡ k = omega (arith, less, high) in
        subst (IsKnown c.learn.new.ends.items) same c.in_ok-learn.ensures.known

    known_so : (k : ℕ) → k < c.loop-n.n + 1 → IsKnown c.learn.new.ends.items k
    known_so k less = known_at k less (cases_lt k c.loop-n.n)
