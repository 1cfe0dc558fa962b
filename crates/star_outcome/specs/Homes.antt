-- Published stores: each at the number of its file.
use Rattle.std.specs.Prelude.{[], fold}
use Rattle.star_store.specs.Store.{Shelf, put_up}
use Rattle.star_outcome.specs.Reaches.{ReachView, StoreRowView, row_of}

-- a store is put at the number of its file, unless there is one already
abbrev pub seated : Shelf → ReachView → Shelf
seated shelf r = put_up r.number r.store shelf

-- all stores of a row as a shelf
abbrev pub shelf_of : StoreRowView → Shelf
shelf_of s = fold seated [] (row_of s)
