use Rattle.std.proofs.Common.{length, map, string_bytes}
use Rattle.star_store.specs.Store.{ascend}
use Rattle.star_store.proofs.globals.ascend.Given as goal

abbrev pub invariant-loop-rest : goal.invariant-loop-rest
invariant-loop-rest l = ascend (map (λ g. string_bytes g.0) l.rest) → ascend (map (λ g. string_bytes g.0) l.globals)

abbrev pub decreases-loop-rest : goal.decreases-loop-rest
decreases-loop-rest l = length l.rest
