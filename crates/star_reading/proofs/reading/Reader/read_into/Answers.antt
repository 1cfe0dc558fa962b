use Rattle.star_scope.specs.Resolve.{outside_seen}
use Rattle.star_reading.specs.Readings.{IsReadAs}
use Rattle.star_reading.proofs.PlacesRead.{all_push}
use Rattle.star_reading.proofs.reading.Reader.read_into.Goals as goal

pub returns : goal.returns
returns g c = λ all. rw c.in_ok-push.ensures.items (all_push (λ p. IsReadAs c.args.self.now.files.now (outside_seen c.args.self.now.prelude c.args.self.now.language) p.0 p.1) c.args.reads.now.items _ all c.in_ok-read.ensures)
