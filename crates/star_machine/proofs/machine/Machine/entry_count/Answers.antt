use Rattle.star_machine.proofs.Dicts.{count_told}
use Rattle.star_machine.proofs.machine.Machine.entry_count.Goals as goal

pub returns : goal.returns
returns c = count_told c.args.setting.now _ c.args.self.now c.homes.result.now c.args.dict c.dict_len.result c.self.view_is c.homes.ensures c.dict_len.ensures
