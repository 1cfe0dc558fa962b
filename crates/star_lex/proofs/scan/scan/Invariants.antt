use Rattle.std.proofs.Common.{◌≡◌, ◌+◌, ◌-◌, ◌≤◌, ◌++◌, length, drop}
use Rattle.star_lex.specs.Pieces.{pieces, pieces_from, joined, Tiles}
use Rattle.star_lex.proofs.scan.scan.Given as goal

abbrev pub invariant-loop-at : goal.invariant-loop-at
invariant-loop-at l = record {
  whole : pieces l.text ≡ l.found.items ++ pieces_from 0 l.line l.at (drop l.at l.text);
  joined : joined l.text l.found.items ++ drop l.at l.text ≡ l.text;
  tiles : Tiles 0 l.found.items l.at;
  within : l.at ≤ length l.text;
  line : l.line ≤ l.at + 1;
}

abbrev pub decreases-loop-at : goal.decreases-loop-at
decreases-loop-at l = length l.text - l.at
