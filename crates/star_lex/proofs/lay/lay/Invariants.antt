use Rattle.std.proofs.Common.{◌≡◌, ◌+◌, ◌-◌, ◌≤◌, ◌∷◌, [], length, drop}
use Rattle.star_lex.specs.Lines.{onto, lay, lines}
use Rattle.star_lex.specs.Pieces.{Tiles, pieces, pieces_from}
use Rattle.star_lex.specs.Places.{depth_of, rest_of}
use Rattle.star_lex.proofs.lay.lay.Given as goal

abbrev pub invariant-loop-at : goal.invariant-loop-at
invariant-loop-at l = record {
  whole : lay l.last (length l.text) (0 ∷ []) 0 (lines 0 (pieces l.text)) ≡ onto l.out.items (rest_of l.last (length l.text) l.place l.opened.items (pieces_from 0 l.line l.at (drop l.at l.text)));
  tiles : Tiles l.at (pieces_from 0 l.line l.at (drop l.at l.text)) (length l.text) → Tiles 0 (pieces l.text) (length l.text);
  within : l.at ≤ length l.text;
  line : l.line ≤ l.at + 1;
  depth : depth_of l.place ≤ l.at;
}

abbrev pub decreases-loop-at : goal.decreases-loop-at
decreases-loop-at l = length l.text - l.at
