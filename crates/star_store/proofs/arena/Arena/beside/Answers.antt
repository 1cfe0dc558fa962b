use Rattle.star_store.specs.Store.{look}
use Rattle.star_store.proofs.Indexes.{beside_told}
use Rattle.star_store.proofs.arena.Arena.beside.Goals as goal

pub returns-in-Some : goal.returns-in-Some
returns-in-Some c =
    let seen = look c.args.self.now c.args.homes.now in
    beside_told seen (seen c.args.dict) (seen c.args.other) c.args.at (c.in_ok-key.key, c.in_ok-key.value) c.in-Some.place c.entry_value.result c.in_ok-key.ensures c.in-Some.ensures c.entry_value.ensures
