use Rattle.std.proofs.Common.{◌∙◌, ℕ, List, refl, sym, subst}
use Rattle.std.proofs.lemmas.Bool.{false≢true}
use Rattle.star_cache.specs.Seats.{SeatState, AreAll}
use Rattle.star_cache.proofs.cache.LoadCache.close.Goals as goal

pub returns-then-not-are_all-clause-closing : goal.returns-then-not-are_all-clause-closing
returns-then-not-are_all-clause-closing g c =
    let Many : ℕ → Type 0 = λ n. AreAll n c.args.seats.items in
    let Those : List SeatState → Type 0 = λ xs. AreAll c.loaders-loaders.result xs in
    ((λ all. let met = c.are_all.ensures.1 (subst Those (sym c.deref.ensures.value) (subst Many (sym c.loaders-loaders.ensures) all)) in false≢true (sym c.if-not-are_all.true ∙ met)), refl)

pub returns-clause-closing : goal.returns-clause-closing
returns-clause-closing g c =
    let Many : ℕ → Type 0 = λ n. AreAll n c.args.seats.items in
    let Those : List SeatState → Type 0 = λ xs. AreAll c.loaders-loaders.result xs in
    (subst Many c.loaders-loaders.ensures (subst Those c.deref.ensures.value (c.are_all.ensures.0 c.if-not-are_all.false)), c.closed.ensures.closing)
