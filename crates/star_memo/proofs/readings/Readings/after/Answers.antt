use Rattle.std.proofs.Common.{rules}
use Rattle.star_memo.proofs.ReadingsStay.{readings_stay}
use Rattle.star_memo.proofs.readings.Readings.after.Goals as goal

pub returns-clause-readings : goal.returns-clause-readings
returns-clause-readings c =
    readings_stay c.args.compared.now.before c.args.compared.now.files c.args.prelude c.args.self c.forget_changed.new.self (c.has_same_labels.ensures.labels c.if-not-has_same_labels.false) (c.has_prelude.ensures.text c.if-not-has_prelude.false) (search rules)
    c.forget_changed.ensures.prelude c.forget_changed.ensures.language c.forget_changed.ensures.left c.requires
