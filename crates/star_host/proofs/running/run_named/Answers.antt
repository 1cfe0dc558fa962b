use Rattle.std.proofs.Common.{◌≡◌, ◌∙◌, ℕ, length, arith, IfOk, ap, map, sym, subst}
use Rattle.star_cache.specs.Seats.{AreAll, SeatState}
use Rattle.star_host.specs.Counts.{AreCounts}
use Rattle.star_host.specs.declared.running.Loader.{Loader}
use Rattle.star_host.proofs.SeatsBack.{written_back}
use Rattle.star_host.proofs.Settled.{numbers_of, seats_all}
use Rattle.star_host.proofs.running.run_named.Goals as goal

pub closed-requires-clause-seats : goal.closed-requires-clause-seats
closed-requires-clause-seats g c =
    let Q : ℕ → Type 0 = λ n. AreAll n c.in_ok-seats.seats.items in
    let number : Loader g.row.J.Denot → ℕ = λ w. w.seat.number in
    let begun = ap (map number) c.as_mut_slice-each.ensures.value ∙ (sym (numbers_of _ (λ w. w.seat)) ∙ ap (map (λ (s : SeatState). s.number)) c.in_ok-loaders.ensures) in
    let len : length c.start_apart.new.loaders ≡ c.in_ok-loaders.loaders.len = omega (arith, c.start_apart.auto.loaders, c.as_mut_slice-each.ensures.len) in
    let back = ap (map number) (written_back _ _ _ len) ∙ (c.start_apart.ensures ∙ begun) in
    subst Q (sym c.requires.parts.1 ∙ c.requires.parts.0)
    (seats_all c.args.common.now.loaders c.in_ok-cache.seats.items c.in_ok-seats.seats.items _ (λ w. w.seat) c.in_ok-cache.ensures c.in_ok-seats.ensures back)

pub returns-clause-kept : goal.returns-clause-kept
returns-clause-kept g c = rw c.requires.world.cells_are c.closed_of.ensures.kept

pub returns-clause-counts : goal.returns-clause-counts
returns-clause-counts g c = subst (λ n. IfOk c.closed_of.result (λ x. AreCounts n x.begun x.per_loader)) (sym c.requires.parts.0 ∙ c.requires.parts.1) c.closed_of.ensures.counts
