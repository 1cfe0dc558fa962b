use Rattle.std.proofs.Common.{◌≡◌, ◌<◌, ◌^◌, drop, length}
use Rattle.star_dialect.specs.Words.{index_from}
use Rattle.star_dialect.proofs.Recorded.index.Given as goal

abbrev pub invariant-loop-known : goal.invariant-loop-known
invariant-loop-known l = record {
  place : l.at ≡ l.known-index;
  few : length l.self < 2 ^ 32;
  rest : index_from l.at l.name (drop l.known-index l.self) ≡ index_from 0 l.name l.self;
}
