use Rattle.std.proofs.Common.{◌≡◌, map, take}
use Rattle.star_method.proofs.dicts.keys_of.Given as goal

abbrev pub invariant-loop-entry : goal.invariant-loop-entry
invariant-loop-entry l = l.keys.items ≡ map (λ e. e.0) (take l.entry-index l.entries)
