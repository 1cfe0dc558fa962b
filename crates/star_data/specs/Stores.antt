-- The cells that values lead to in the stores that a value is written from.
use Rattle.std.specs.Prelude.{Option}
use Rattle.star_store.specs.Store.{look}
use Rattle.star_store.specs.declared.values.Value.{Value}
use Rattle.star_store.specs.declared.values.Cell.{Cell}
use Rattle.star_data.specs.declared.data.Stores.{Stores}

-- the cell that a value leads to, as in a run's own store and the published ones
abbrev pub look_in : Stores → Value → Option Cell
look_in stores = look stores.arena.now stores.homes.now
