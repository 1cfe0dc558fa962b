use Rattle.std.proofs.Common.{length}
use Rattle.star_lex.specs.Pieces.{pieces}
use Rattle.star_lex.proofs.Order.{in_order}
use Rattle.star_lex.proofs.lex.Goals as goal

pub returns-clause-order : goal.returns-clause-order
returns-clause-order c =
    rw (← c.as_bytes-bytes.ensures.len) (in_order _ (length c.as_bytes-bytes.result.now) (pieces c.as_bytes-bytes.result.now) c.lay.result c.lay.ensures.tiles c.lay.ensures.value)
