use Rattle.std.proofs.Common.{◌∙◌}
use Rattle.star_call.proofs.Kept.{names_kept, star_kept}
use Rattle.star_call.proofs.passed.given.Goals as goal

pub returns-clause-kept : goal.returns-clause-kept
returns-clause-kept c =
    names_kept c.args.line c.in_ok-names.names.items c.take_star.new.machine c.in_ok-names-2.names.items c.take_names.new.machine c.in_ok-names-2.ensures
    ∙ star_kept c.args.setting.now c.args.line c.star_of-star.result c.in_ok-count.count c.args.machine.now c.in_ok-items.items c.take_star.new.machine c.in_ok-items.ensures
