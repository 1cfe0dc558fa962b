use Rattle.star_machine.proofs.Gathering.{replaced_in}
use Rattle.star_machine.proofs.gathered.DictBuilder.put.Goals as goal

pub returns-clause-gathered : goal.returns-clause-gathered
returns-clause-gathered c =
    replaced_in c.args.setting.now c.args.machine.now.store c.args.self.now c.self.inside.entries c.set.new.self c.self.inside.contents c.in-Some.at (c.in-Some-get.there, c.in-Some-get._old) c.args.entry.1
    c.self.view_is c.in-Some-get.ensures c.set.ensures c.requires
