-- The values of a function's defaults.
use Rattle.std.specs.Prelude.{List, [], Option, Some, None}
use Rattle.std.specs.Arc.{arc_slice_items}
use Rattle.std.specs.declared.sync.ArcSlice.{ArcSlice}
use Rattle.star_store.specs.declared.values.Value.{Value}

-- the values of a row that may be shared; none without a row
abbrev pub shared_row : {Z : Type 0} → Option (ArcSlice Value Z) → List Value
shared_row None = []
shared_row (Some row) = arc_slice_items row
