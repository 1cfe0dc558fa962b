use Rattle.std.proofs.Common.{sym, ◌∙◌}
use Rattle.star_store.specs.Store.{look}
use Rattle.star_store.proofs.Walks.{scalar_found}
use Rattle.star_store.proofs.key.place_of.Goals as goal

pub returns-in-Some : goal.returns-in-Some
returns-in-Some c =
    let told = rw c.in-Some.is at c.scalar_key.ensures in
    c.place_of_scalar.ensures ∙ scalar_found (look c.args.arena.now c.args.homes.now) c.in-Some.scalar.scalar c.args.key c.args.entries.now (sym told)
