use Rattle.star_machine.proofs.Dicts.{value_told}
use Rattle.star_machine.proofs.machine.Machine.value_in.Goals as goal

pub returns : goal.returns
returns c = value_told c.args.setting.now _ c.args.self.now c.homes.result.now c.args.key c.args.dict c.key_value.result c.self.view_is c.homes.ensures c.key_value.ensures
