use Rattle.std.proofs.Common.{◌≡◌, ◌+◌, ℕ, List, [], ◌∷◌, ◌++◌, get_or, arith, sym, ap, ◌∙◌, below_more, length-append}
use Rattle.std.proofs.lemmas.List.{get_or_append_left}
use Rattle.std.proofs.Math.Seq.{get_or-append_seam}
use Rattle.star_cache.specs.Seats.{SeatState, AreNew}

-- one more seat, under the next number
pub AreNew-push : (n : ℕ) (xs : List SeatState) (s : SeatState) → AreNew n xs → s.number ≡ n → s.begun ≡ 0 → AreNew (n + 1) (xs ++ s ∷ [])
AreNew-push n xs s row number begun =
    let At : ℕ → Type 0 = λ i. (d : SeatState) → ((get_or (xs ++ s ∷ []) i d).number ≡ i) × ((get_or (xs ++ s ∷ []) i d).begun ≡ 0) in (
      omega (arith, length-append xs (s ∷ []), row.0),
      (λ i d h.
          below_more At n
          (λ k below d.
          let e = get_or_append_left xs (s ∷ []) d k (omega (arith, row.0)) in (ap (λ (t : SeatState). t.number) e ∙ (row.1 k d below).0, ap (λ (t : SeatState). t.begun) e ∙ (row.1 k d below).1))
          (λ d.
          let e = ap (λ k. get_or (xs ++ s ∷ []) k d) (sym row.0) ∙ get_or-append_seam xs s [] d in (ap (λ (t : SeatState). t.number) e ∙ number, ap (λ (t : SeatState). t.begun) e ∙ begun))
          i h d),
    )
