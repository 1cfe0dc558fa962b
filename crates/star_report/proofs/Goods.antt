-- Whether all modules that are kept are good.
use Rattle.std.proofs.Common.{◌≡◌, ◌<◌, ◌+◌, ◌∙◌, ◌⊎◌, inl, inr, subst, arith, ℕ, List, Some, None, true, false, ap, sym, length}
use Rattle.std.specs.Prelude.{slice_index_or}
use Rattle.std.proofs.lemmas.Bool.{cases_order, true≢false}
use Rattle.std.proofs.lemmas.List.Elements.{All-get_or}
use Rattle.star_outcome.specs.Kept.{KeptView, IsGoodKept, AllGood}
use Rattle.star_outcome.specs.Views.{ended_well}
use Rattle.star_outcome.specs.declared.module.Module.{Module}

no_note : KeptView
no_note = record { number = 0; cell = 0; known = None }

pub not_all : (ks : List KeptView) (i : ℕ) (m : Module) → i < length ks → ((d : KeptView) → (slice_index_or ks i d).known ≡ Some m) → ended_well m.ended ≡ false → AllGood ks → ⊥
not_all ks i m less known bad all =
    let there = All-get_or IsGoodKept ks i no_note less all in
    let same : Some there.0 ≡ Some m = sym there.1 ∙ known no_note in
    let one : there.0 ≡ m = cc in
    true≢false (sym there.2 ∙ ap (λ x. ended_well x.ended) one ∙ bad)

pub one_more : (ks : List KeptView) (i : ℕ) (m : Module) → ((k : ℕ) (d : KeptView) → k < i → IsGoodKept (slice_index_or ks k d)) → ((d : KeptView) → (slice_index_or ks i d).known ≡ Some m) → ended_well m.ended ≡ true → (k : ℕ) (d : KeptView) → k < i + 1 → IsGoodKept (slice_index_or ks k d)
one_more ks i m before known good k d less = split (cases_order k i)
  where
    split : ((k ≡ i) ⊎ ((k < i) ⊎ (i < k))) → IsGoodKept (slice_index_or ks k d)
    split (inl e) = subst (λ n. IsGoodKept (slice_index_or ks n d)) (sym e) (m, known d, good)
    split (inr (inl below)) = before k d below
    split (inr (inr above)) = absurd (omega (arith, less, above))
