use Rattle.std.proofs.Common.{◌≡◌, drop}
use Rattle.star_enter.specs.Positional.{positional}
use Rattle.star_enter.specs.Entering.{bind_all}
use Rattle.star_enter.proofs.calls.bind_positional.Given as goal

abbrev pub invariant-loop-parameter : goal.invariant-loop-parameter
invariant-loop-parameter l = bind_all l.world l.site (positional (drop l.parameter-index l.parameters) l.rest) l.machine ≡ bind_all l.world l.site (positional l.parameters l.values) l.fn.machine
