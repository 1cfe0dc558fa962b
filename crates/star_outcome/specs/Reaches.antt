-- The stores that the module of a file reaches.
use Rattle.std.specs.Prelude.{ℕ, List, [], ◌∷◌, ◌++◌}
use Rattle.std.specs.Arc.{arc_value}
use Rattle.std.specs.declared.sync.Arc.{Arc}
use Rattle.star_store.specs.Store.{Published}

-- the store of a file
pub record ReachView : Type 0 where
  pub number : ℕ
  pub store : Published

-- stores in blocks that other rows share, and those after them
pub record StoreRowView : Type 0 where
  pub base : List ReachView
  pub more : List ReachView

-- all stores of a row
abbrev pub row_of : StoreRowView → List ReachView
row_of s = s.base ++ s.more

-- the stores in these blocks
abbrev pub shared_of : {Z : Type 0} → List (Arc (List ReachView) Z) → List ReachView
shared_of [] = []
shared_of (block ∷ blocks) = arc_value block ++ shared_of blocks
