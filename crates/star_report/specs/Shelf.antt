-- The globals of a module, found in its stores.
use Rattle.std.specs.Arc.{arc_value}
use Rattle.std.specs.Prelude.{ℕ, ◌<◌, Bool, List, [], ◌∷◌, All, Option, Some, None, String, codes, fold, length, map, slice_get, string_bytes, if◌then◌else◌}
use Rattle.std.specs.Option.{option_flatten}
use Rattle.serde_json.specs.Data.{Data, Members, member, no_members, number, unsigned}
use Rattle.star_label.specs.Files.{File}
use Rattle.star_scope.specs.declared.loads.Load.{Load}
use Rattle.star_reading.specs.Readings.{Row, loads_at}
use Rattle.star_report.specs.Wanted.{followed, loads_member}
use Rattle.star_store.specs.declared.values.Value.{Value}
use Rattle.star_store.specs.Store.{Published, Shelf, Store, look}
use Rattle.star_outcome.specs.Homes.{seated}
use Rattle.star_outcome.specs.Reaches.{row_of}
use Rattle.star_outcome.specs.declared.module.Body.{Body}
use Rattle.star_report.specs.Values.{global_data, is_opaque, value_members_by}
use Rattle.star_outcome.specs.declared.module.Ended.{Ended}
use Rattle.star_outcome.specs.declared.module.Ended.TheVariants.{Good}
use Rattle.star_outcome.specs.declared.module.Module.{Module}
use Rattle.star_report.specs.declared.wanted.Wanted.{Wanted}

-- the globals of a published module
abbrev pub globals_in : Option Published → List (List ℕ × Value)
globals_in None = []
globals_in (Some p) = p.globals

-- a name, if it is one of those sought
abbrev pub name_if : Bool → List ℕ → List (List ℕ)
name_if b name = if b then name ∷ [] else []

-- the stores of a module as a shelf
abbrev pub shelf_in : Body → Shelf
shelf_in b = fold seated [] (row_of b.stores)

-- the names of globals
abbrev pub names_in : {Z X : Type 0} → List (String Z × X) → List (List ℕ)
names_in shown = map (λ g. string_bytes g.0) shown

-- the names of the globals of a module
abbrev pub names_of : Body → List (List ℕ)
names_of b = map (λ g. g.0) (arc_value b.shown)

-- the name of a global that is not data
abbrev pub opaque_name : (List ℕ → Option Data) → List ℕ → List (List ℕ)
opaque_name f name = name_if (is_opaque f name) name

-- a global of a published module as data, by its name
abbrev pub own_data : Store → Shelf → Option Published → List ℕ → Option Data
own_data s shelf own = global_data (look s shelf) (globals_in own)

-- a global of the file n as data, by its name, if the file's store is on a shelf
abbrev pub among_data : Store → Shelf → ℕ → List ℕ → Option Data
among_data s shelf n = own_data s shelf (option_flatten (slice_get shelf n))

-- the same by the stores of a module. The home is the number of all files, which no file has
abbrev pub stored_data : ℕ → ℕ → Body → List ℕ → Option Data
stored_data files n b = among_data (record { home = files; cells = [] }) (shelf_in b) n

-- the members of a module's values
abbrev pub stored_members : ℕ → ℕ → Body → Members
stored_members files n b = value_members_by (stored_data files n b) (names_of b)

abbrev pub values_in : ℕ → ℕ → Ended → Members
values_in files n (Good b) = stored_members files n (arc_value b)
values_in files n e = no_members

abbrev pub steps_in : Ended → Members
steps_in (Good b) = member (codes "steps") (number (unsigned (arc_value b).paid)) no_members
steps_in e = no_members

abbrev pub loads_part : Wanted → List File → List Load → Members
loads_part wanted files loads = if wanted.loads then loads_member files loads else no_members

abbrev pub steps_part : Wanted → Ended → Members
steps_part wanted e = if wanted.steps then steps_in e else no_members

abbrev pub values_part : Wanted → ℕ → ℕ → Ended → Members
values_part wanted files n e = if wanted.values then values_in files n e else no_members

-- the further members that are wanted of a module, by its loads and by its stores
abbrev pub more_of : Wanted → List File → List Load → Module → Members
more_of wanted files loads m =
    followed (loads_part wanted files loads)
    (followed (steps_part wanted m.ended) (values_part wanted (length files) m.number m.ended))

-- the loads of all read files lead to files
abbrev pub LeadToFiles : List File → Row → Type 0
LeadToFiles files row = (n : ℕ) → All (λ l. l.file < length files) (loads_at row n)
