use Rattle.std.proofs.lemmas.List.{drop_more}
use Rattle.std.proofs.lemmas.Result.{err_from_is_err_and}
use Rattle.star_builtin.proofs.Pairs.{pair_ends}
use Rattle.star_builtin.proofs.dicts.with_pairs.Goals as goal

pub returns-in_err-put_pair-clause-answer : goal.returns-in_err-put_pair-clause-answer
returns-in_err-put_pair-clause-answer c =
    let q = err_from_is_err_and c.from_residual.result c.from_residual.ensures.1 in
    let next = drop_more c.args.pairs.now c.loop-pair.pair-index _ c.loop-pair-test.true in
    rw (q.1, q.2) (pair_ends _ _ _ _ _ _ _ _ _ _ _ _ next c.loop-pair.invariant.told c.in_err-put_pair.ensures.put)
