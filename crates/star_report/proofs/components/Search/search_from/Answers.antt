use Rattle.std.proofs.Common.{sym}
use Rattle.star_report.proofs.ComponentSteps.{begun, ended, popped}
use Rattle.star_report.proofs.components.Search.search_from.Goals as goal

pub loop-frame-init : goal.loop-frame-init
loop-frame-init c =
    let it = begun c.args.reads.now.all.items c.args.n c.args.self.now c.enter.new.self c.requires.search c.requires.stack c.requires.path c.requires.new c.requires.inside c.in_ok-enter.ensures in
    record { search = it.0; stay = it.1; found = it.2 }
