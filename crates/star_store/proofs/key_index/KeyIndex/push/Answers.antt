use Rattle.star_store.proofs.Far.{covers_more, covers_push}
use Rattle.star_store.proofs.key_index.KeyIndex.push.Goals as goal

pub invariant_of-self : goal.invariant_of-self
invariant_of-self c = covers_more c.self.inside.homes.items c.cover.new.homes.items c.self.inside.keys c.cover.ensures.kept c.self.invariant

pub invariant_of-self-2 : goal.invariant_of-self-2
invariant_of-self-2 c = covers_push c.self.inside.homes.items c.cover.new.homes.items c.self.inside.keys c.push.new.self c.args.content c.far_home.result c.push.result c.self.invariant c.cover.ensures.kept c.far_home.ensures c.if-not-cover.ensures.covered c.push.ensures
