use Rattle.std.proofs.Common.{◌<◌, ◌/◌, length, rules}
use Rattle.star_outcome.specs.Numbers.{HasRoom}
use Rattle.star_outcome.proofs.Bits.{has_inserted}
use Rattle.star_outcome.proofs.numbers.Numbers.insert.Goals as goal

pub index_mut-requires : goal.index_mut-requires
unfolding HasRoom
index_mut-requires c =
    let room : c.args.number / 64 < length c.self.inside.words.items = rw c.self.view_is c.requires in
    search rules

pub returns : goal.returns
unfolding HasRoom
returns c =
    let room : c.args.number / 64 < length c.self.inside.words.items = rw c.self.view_is c.requires in
    rw (← c.self.view_is) (has_inserted c.self.inside.words.items c.index_mut.result.now c.args.number c.index_mut.ensures.value room)
