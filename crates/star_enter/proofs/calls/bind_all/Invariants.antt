use Rattle.std.proofs.Common.{◌≡◌, drop, map}
use Rattle.star_call.specs.BoundArguments.{bound_value}
use Rattle.star_enter.specs.Entering.{bind_all}
use Rattle.star_enter.proofs.calls.bind_all.Given as goal

abbrev pub invariant-loop-name : goal.invariant-loop-name
invariant-loop-name l = bind_all l.world l.site (map bound_value (drop l.name-index l.values)) l.machine ≡ bind_all l.world l.site (map bound_value l.values) l.fn.machine
