use Rattle.star_machine.proofs.Dicts.{place_told}
use Rattle.star_machine.proofs.machine.Machine.place_in.Goals as goal

pub returns : goal.returns
returns c = place_told c.args.setting.now _ c.args.self.now c.homes.result.now c.args.key c.args.dict c.key_place.result c.self.view_is c.homes.ensures c.key_place.ensures
