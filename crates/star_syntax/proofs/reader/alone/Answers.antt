use Rattle.std.proofs.Common.{arith}
use Rattle.star_syntax.proofs.Alone.{read_alone}
use Rattle.star_syntax.proofs.reader.alone.Goals as goal

pub returns-in-len2-up : goal.returns-in-len2-up
returns-in-len2-up c =
    read_alone c.args.leaves.now c.next-item.result c.atom.result (omega (arith, c.in-len2-up.len_at_least)) c.next-item.is (c.ends.ensures c.if-ends.true) c.atom.ensures
