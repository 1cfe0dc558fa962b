use Rattle.std.proofs.Common.{ap, ◌∙◌}
use Rattle.std.specs.List.{list_all}
use Rattle.star_shards.specs.declared.entry.Entry.{Entry}
use Rattle.star_shards.proofs.Writing.{goods_are}
use Rattle.star_shards.proofs.joined.Joined.is_good.Goals as goal

pub returns : goal.returns
returns c = λ all. c.all_good.ensures ∙ ap (list_all (λ (e : Entry). e.is_good)) c.as_slice.ensures.value ∙ goods_are c.args.self.now.entries.items all
