use Rattle.star_machine.proofs.Dicts.{text_told}
use Rattle.star_machine.proofs.machine.Machine.text_value.Goals as goal

pub returns : goal.returns
returns c = text_told c.args.setting.now _ c.args.self.now c.homes.result.now c.args.text.now c.args.dict c.text_value.result c.self.view_is c.homes.ensures c.text_value.ensures
