use Rattle.std.proofs.Common.{◌≡◌, ◌+◌, ◌≤◌, length}
use Rattle.star_scope.specs.Chains.{numbers, outer_shown}
use Rattle.star_scope.specs.Places.{chain_length, spot_in, spot_of}
use Rattle.star_scope.proofs.chain.Chain.spot_of.Given as goal

abbrev pub invariant-loop-link : goal.invariant-loop-link
invariant-loop-link l = record {
  same : spot_in l.scope.blocks.now (outer_shown l.scope.prelude l.scope.language) l.name l.up (numbers l.link) ≡ spot_of l.scope.blocks.now (outer_shown l.scope.prelude l.scope.language) l.name l.fn.self;
  short : l.up + length (numbers l.link) ≤ chain_length;
}
