use Rattle.star_scope.specs.Resolve.{outside_seen}
use Rattle.star_reading.proofs.PlacesRead.{none_read}
use Rattle.star_reading.proofs.reading.Reader.read_ahead.Goals as goal

pub returns : goal.returns
returns g c =
    let r = c.args.self.now in
    c.in_ok-add_shares.ensures r.files.now (outside_seen r.prelude r.language) c.in_ok-shares.ensures (none_read r.files.now (outside_seen r.prelude r.language) c.in_ok-ahead.ahead.reads.items c.in_ok-ahead.ensures.none)
