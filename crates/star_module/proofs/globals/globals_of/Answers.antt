use Rattle.std.proofs.Common.{ap, ◌∙◌}
use Rattle.star_module.specs.Globals.{owned}
use Rattle.star_module.proofs.InSlots.{no_globals}
use Rattle.star_module.proofs.globals.globals_of.Goals as goal

pub returns-in-None : goal.returns-in-None
returns-in-None c = ap owned c.new.ensures.items ∙ no_globals c.args.world.now.setting c.args.machine.now c.args.frame c.in-None.ensures
