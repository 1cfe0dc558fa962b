use Rattle.star_eval.proofs.Fresh.{fresh_put, fresh_there}
use Rattle.star_eval.proofs.parts.put_fresh.Goals as goal

pub returns-then-new-clause-put : goal.returns-then-new-clause-put
returns-then-new-clause-put c =
    fresh_put _ _ _ _ _ _ _ _ c.check_key.new.self c.in_ok-new.new c.setting-setting.ensures c.in_ok-check_key.ensures.answer c.in_ok-new.ensures.new c.if-new.true c.in_ok-new.ensures.put

pub returns-else-new-clause-put : goal.returns-else-new-clause-put
returns-else-new-clause-put c =
    fresh_there _ _ _ _ _ _ _ c.check_key.new.self c.in_ok-new.new _ c.setting-setting.ensures c.in_ok-check_key.ensures.answer c.in_ok-new.ensures.new c.if-new.false c.fault_at.ensures
