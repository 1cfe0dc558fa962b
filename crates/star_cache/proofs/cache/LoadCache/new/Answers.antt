use Rattle.std.proofs.Common.{arith, refl, subst, sym, List, ℕ, ◌+◌, ◌≡◌}
use Rattle.star_cache.specs.Seats.{SeatState, AreNew}
use Rattle.star_cache.proofs.SeatRows.{AreNew-push}
use Rattle.star_cache.proofs.cache.LoadCache.new.Goals as goal

pub loop-number-preserved : goal.loop-number-preserved
loop-number-preserved g c =
    let i = c.loop-number.invariant in
    let P : List SeatState → Type 0 = λ xs. AreNew (c.loop-number.number + 1) xs in (
      omega (arith, i.0, c.split_off-begun.ensures.parts_left),
      omega (arith, i.1, c.split_off-begun.ensures.amount_left),
      i.2,
      subst P (sym c.in_ok-push.ensures.items) (AreNew-push _ _ _ i.3 refl c.split_off-begun.ensures.amount),
    )

pub returns : goal.returns
returns g c = let e : c.loop-number.number ≡ c.args.loaders = omega arith in let P : ℕ → Type 0 = λ n. AreNew n c.loop-number.seats.items in subst P e c.loop-number.invariant.3
