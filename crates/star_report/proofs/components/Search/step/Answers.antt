use Rattle.std.proofs.Common.{arith, ◌≡◌, ◌<◌, get_or, length, subst}
use Rattle.star_reading.specs.Readings.{loads_at}
use Rattle.star_report.proofs.ComponentSteps.{load_within}
use Rattle.star_report.proofs.components.Search.step.Goals as goal

pub follow-requires-clause-to : goal.follow-requires-clause-to
follow-requires-clause-to c =
    let row = c.args.reads.now.all.items in
    let n = c.args.frame.file in
    let j = c.args.frame.next in
    let load = c.in-Some.load.now in
    let there = c.in-Some.ensures.lookup in
    let at : (j < length (loads_at row n)) × (load ≡ get_or (loads_at row n) j load) = subst (λ loads. (j < length loads) × (load ≡ get_or loads j load)) c.loads.ensures (there.3.0, there.1) in
    let less = load_within row n j load c.requires.loads at.0 at.1 in
    let size = c.requires.search.sized in
    omega (arith, less, size)
