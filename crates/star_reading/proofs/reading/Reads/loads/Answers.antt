use Rattle.std.proofs.Common.{◌∙◌, ap}
use Rattle.star_reading.specs.Readings.{loads_at}
use Rattle.star_reading.proofs.reading.Reads.loads.Goals as goal

pub returns : goal.returns
returns c = c.loads_in.ensures ∙ ap (λ row. loads_at row c.args.n) c.as_slice.ensures.value
