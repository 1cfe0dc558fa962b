use Rattle.std.proofs.Common.{◌≡◌, ◌<◌, [], arith}
use Rattle.star_repo.proofs.Turns.{is_turn, length_none, some_left}
use Rattle.star_repo.proofs.reach.next_turn.Goals as goal

pub returns-in-Ok-turned-clause-turns : goal.returns-in-Ok-turned-clause-turns
returns-in-Ok-turned-clause-turns g c = λ words d way all fresh.
    let before = c.args.round.found in
    let after = c.in-Ok.found in
    let more : (after.fresh.items ≡ [] → ⊥) → before.count < after.count = λ h.
    let some = some_left after.fresh.items h in
    let none = length_none before.fresh.items fresh in
    omega (arith, some, none, c.in-Ok.ensures.counted, after.fresh.ok.0, before.fresh.ok.0) in
    is_turn (g.F.Repo.says c.args.folder.now) words d before.count after c.in-Ok-turned.turn (c.in-Ok.ensures.on_way words d way) (c.in-Ok.ensures.read all) more (c.in-Ok-turned.ensures (c.in-Ok.ensures.read all))
