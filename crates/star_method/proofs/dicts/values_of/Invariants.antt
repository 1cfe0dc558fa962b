use Rattle.std.proofs.Common.{◌≡◌, map, take}
use Rattle.star_method.proofs.dicts.values_of.Given as goal

abbrev pub invariant-loop-entry : goal.invariant-loop-entry
invariant-loop-entry l = l.values.items ≡ map (λ e. e.1) (take l.entry-index l.entries)
