use Rattle.std.proofs.Common.{◌≡◌, length, map}
use Rattle.star_outline.specs.Names.{has_name}
use Rattle.star_scope.proofs.chain.is_among.Given as goal

abbrev pub invariant-loop-names : goal.invariant-loop-names
invariant-loop-names l = has_name (map (λ n. n.now) l.names) l.name ≡ has_name (map (λ n. n.now) l.initial.names) l.name

abbrev pub decreases-loop-names : goal.decreases-loop-names
decreases-loop-names l = length l.names
