-- The sheets that JSON is written on, and the way down to what is written.
use Rattle.std.specs.Prelude.{◌≡◌, List, Option, Some, Result}
use Rattle.star_store.specs.declared.values.Value.{Value}
use Rattle.star_store.specs.declared.values.Cell.{Cell}
use Rattle.star_store.specs.declared.values.Cell.TheVariants as cell
use Rattle.star_store.specs.declared.fault.StoreFault.{StoreFault}
use Rattle.star_store.specs.Fields.{Fields}
use Rattle.star_store.specs.Json.{members}
use Rattle.star_store.specs.Store.{look}
use Rattle.star_store.specs.Text.{Say, Says}
use Rattle.star_visit.specs.declared.encode.Sheet.{Sheet}
use Rattle.star_visit.specs.declared.encode.Source.{Source}
use Rattle.star_visit.specs.declared.encode.Way.{Way, Outside, Inside'}

-- the cell that a value leads to
abbrev pub look_in : Source → Value → Option Cell
look_in s = look s.arena.now s.homes.now

-- A function that is to put a text on a sheet: how the sheet was, its answer, and how it left the sheet.
abbrev pub Writes : Say → Sheet → Result (Unit {0}) StoreFault → Sheet → Type 0
Writes f old r new = Says (f old.out old.steps) r new.out new.steps

-- these are the members of a dictionary
abbrev pub AreMembers : (Value → Option Cell) → Value → Fields → Type 0
AreMembers look v fs = (es : List (Value × Value)) → look v ≡ Some (cell.Dict es) → members look es ≡ Some fs

-- each dictionary on the way has its members there
abbrev pub AreWithin : (Value → Option Cell) → Way → Type 0
AreWithin look Outside = Unit {0}
AreWithin look (Inside' v ms p outer) = AreMembers look v ms.now × AreWithin look outer
