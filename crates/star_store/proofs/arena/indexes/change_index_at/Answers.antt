use Rattle.star_store.proofs.Indexes.{row_changed, row_unchanged}
use Rattle.star_store.proofs.arena.indexes.change_index_at.Goals as goal

pub returns-then-at-indexes : goal.returns-then-at-indexes
returns-then-at-indexes c = row_changed _ _ _ _ _ _ _ c.if-at-indexes.true c.change_index.ensures

pub returns-else-at-indexes : goal.returns-else-at-indexes
returns-else-at-indexes c = row_unchanged _ _ _ _ _ c.if-at-indexes.false
