-- A lawful book has the headline.
use Rattle.std.proofs.Common.{◌≡◌, ℕ, List, refl}
use Rattle.star_cache.specs.declared.entry.Entry.TheVariants.{Running}
use Rattle.star_cache.specs.Walk.{EndsBefore, IsAcyclic, IsOnCycle}
use Rattle.star_cache.specs.State.{BookState, IsLawful, Links, entry_at}
use Rattle.star_cache.specs.Headline.{Headline, Runs}
use Rattle.star_cache.proofs.Walks.{cycle-not_good}
use Rattle.star_cache.proofs.Meets.{below_member}

-- if all walks end, no step lies on a cycle
acyclic_no_ring : (R : ℕ → ℕ → Type 0) → IsAcyclic R → (s t : ℕ) → IsOnCycle R s t → ⊥
acyclic_no_ring R ends s t on =
    let last = ends s in
    cycle-not_good R (EndsBefore R) (λ n e. e n refl) (λ d n m e step k w. e k (m, step, w)) last.0 s t on.0 on.1 last.1

pub headline : {P : Type 0} (loads : ℕ → List ℕ) (Reached : ℕ → Type 0) (Right : ℕ → P → Type 0) (b : BookState P) → IsLawful loads Reached Right b → Headline Reached Right b
headline {P} loads Reached Right b is = record {
  no_ring = acyclic_no_ring (Links b) is.acyclic;
  one_loader = one;
  right = is.right;
  reached = is.reached;
  counted = is.counted;
}
  where
    one : (e : ℕ) → entry_at b e ≡ Running → (s : ℕ) × Runs b s e × ((t : ℕ) → Runs b t e → t ≡ s)
    one e runs =
        let it = is.stacked e runs in
        (it.0, (below_member b it.0 e it.1, it.1), λ t other. is.one_loader t it.0 e other.1 it.1)
