use Rattle.std.proofs.lemmas.Result.{err_from_is_err_and}
use Rattle.star_builtin.proofs.Pairs.{left_at}
use Rattle.star_eval.proofs.Fresh.{fresh_ends}
use Rattle.star_eval.proofs.parts.fresh_entries.Goals as goal

pub returns-in_err-put_fresh : goal.returns-in_err-put_fresh
returns-in_err-put_fresh c =
    let q = err_from_is_err_and c.from_residual-in_err-put_fresh.result c.from_residual-in_err-put_fresh.ensures.1 in
    let next = left_at c.args.found.now c.as_slice-entry-items.result.now c.loop-entry.entry-index _ c.loop-entry-test.true c.as_slice-entry-items.ensures in
    rw (q.1, q.2) (fresh_ends _ _ _ _ _ _ _ _ _ _ _ next c.loop-entry.invariant.told c.in_err-put_fresh.ensures.put)
