use Rattle.star_store.proofs.Fronts.{added_last, buried}
use Rattle.star_store.proofs.index.bury.Goals as goal

pub returns-in-Ok-true-clause-same : goal.returns-in-Ok-true-clause-same
returns-in-Ok-true-clause-same c =
    buried c.args.gone c.in-Some.at c.args.contents.now.keys c.insert.new.self.keys c.swap_remove_index-content.new.self.keys _ c.swap_remove_index-content.result
    c.requires c.if-at-gone.false
    (added_last _ c.in-Ok-true.field-0 _ _ _ c.in-Ok-true.ensures.added c.in-Ok-true.field-0-test c.in-Ok-true.ensures.keys)
    c.swap_remove_index-content.ensures.key c.swap_remove_index-content.ensures.keys
