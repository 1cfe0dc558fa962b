use Rattle.std.proofs.Common.{◌<◌, length, rules}
use Rattle.star_reading.proofs.PlacesRead.{set_read}
use Rattle.star_reading.proofs.reading.Found.add_read.Goals as goal

pub returns : goal.returns
returns c =
    let inside : c.args.n < length c.args.self.now.reads.items = search rules in
    λ files outside is all. rw c.in_ok-add.ensures.reads (set_read files outside c.args.self.now.reads.items c.args.n c.args.read inside is all)
