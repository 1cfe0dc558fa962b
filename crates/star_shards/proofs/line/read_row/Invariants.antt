use Rattle.std.proofs.Common.{length}
use Rattle.std.specs.Prelude.{All}
use Rattle.star_shards.specs.Read.{IsRead, texts}
use Rattle.star_shards.proofs.Rows.{Goes}
use Rattle.star_shards.proofs.line.read_row.Given as goal

abbrev pub invariant-loop-entry : goal.invariant-loop-entry
invariant-loop-entry l = record {
  goes : Goes l.fn.content (texts l.entries.items) l.rest;
  read : All IsRead l.entries.items;
}

abbrev pub decreases-loop-entry : goal.decreases-loop-entry
decreases-loop-entry l = length l.rest
