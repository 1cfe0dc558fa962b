-- The globals of roots as they are found among the stores of their modules.
use Rattle.std.specs.Arc.{arc_value}
use Rattle.std.specs.Prelude.{◌≡◌, ℕ, List, [], Result, Ok, Err, Vec, Contains, length, slice_get}
use Rattle.std.specs.Option.{option_flatten}
use Rattle.serde_json.specs.Data.{Data}
use Rattle.serde_json.specs.Written.{compact_text}
use Rattle.star_label.specs.Files.{File}
use Rattle.star_store.specs.Store.{Shelf, Store, look}
use Rattle.star_plan.specs.Plan.{Plan}
use Rattle.star_plan.specs.Reading.{IsPlanOf}
use Rattle.star_outcome.specs.declared.module.Body.{Body}
use Rattle.star_outcome.specs.declared.module.Ended.{Ended}
use Rattle.star_outcome.specs.declared.module.Ended.TheVariants.{Good}
use Rattle.star_report.specs.Got.{AreGot, HasGot, IsFirstLack, data_got, got_text, public_global}
use Rattle.star_report.specs.Shelf.{globals_in, shelf_in}
use Rattle.star_report.specs.Table.{IsTable, Table}
use Rattle.star_report.specs.declared.got.Got.{Got}
use Rattle.star_report.specs.declared.got.Got.TheVariants.{Lack as Lacking, Lines}
use Rattle.star_report.specs.declared.got.Lack.{Lack}
use Rattle.star_report.specs.declared.got.Lack.TheVariants.{NotOk}

-- the text of data, or why there is none
abbrev pub IsJsonFor : {Z : Type 0} → Result Data Lack → Result (Vec ℕ Z) Lack → Type 0
IsJsonFor (Ok d) (Ok t) = t.items ≡ compact_text d
IsJsonFor (Ok d) (Err why) = ⊥
IsJsonFor (Err lack) (Ok t) = ⊥
IsJsonFor (Err lack) (Err why) = lack ≡ why

-- the answer of the file n for a name, if its store is on a shelf
abbrev pub got_among : Store → Shelf → ℕ → List ℕ → Result Data Lack
got_among s shelf n name =
    data_got (look s shelf) (public_global (globals_in (option_flatten (slice_get shelf n))) name)

-- the same by the stores of a module. The home is the number of all files, which no file has
abbrev pub got_stored : ℕ → ℕ → Body → List ℕ → Result Data Lack
got_stored files n b name = got_among (record { home = files; cells = [] }) (shelf_in b) n name

abbrev pub got_in : ℕ → ℕ → Ended → List ℕ → Result Data Lack
got_in files n (Good b) name = got_stored files n (arc_value b) name
got_in files n e name = Err NotOk

-- this holds in each plan of as many files as the table has places, whose modules these are
abbrev pub InPlans : Table → (Plan → Type 0) → Type 0
InPlans table P =
    (files : List File) (plan : Plan) → IsPlanOf files plan → length files ≡ length table → IsTable plan table → P plan

-- a root has data whose text this is, or none for this reason
abbrev pub HasJson : {Z : Type 0} → Plan → List ℕ → ℕ → Result (Vec ℕ Z) Lack → Type 0
HasJson plan name n r = (g : Result Data Lack) × HasGot plan name n g × IsJsonFor g r

-- the lines of the roots of a plan, or the first that has none
abbrev pub GotFor : Plan → List ℕ → Got → Type 0
GotFor plan name (Lines text) = (ds : List Data) × AreGot plan name plan.roots ds × (text.items ≡ got_text ds)
GotFor plan name (Lacking root why) = IsFirstLack plan name plan.roots root why

-- a file without data is one of these
abbrev pub IsLackAmong : List ℕ → Got → Type 0
IsLackAmong roots (Lines text) = Unit {0}
IsLackAmong roots (Lacking root why) = Contains roots root
