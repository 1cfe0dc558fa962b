use Rattle.std.proofs.Common.{◌∙◌}
use Rattle.star_store.specs.Store.{look}
use Rattle.star_store.proofs.Texts.{text_walked}
use Rattle.star_store.proofs.arena.Arena.text_place.Goals as goal

pub returns-in-None : goal.returns-in-None
returns-in-None c = c.place_of_scalar.ensures ∙ text_walked (look c.args.self.now c.args.homes.now) c.args.text c.args.entries.now
