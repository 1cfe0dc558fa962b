-- The components of the graph of loads: two files are of one component if each leads to the other.
use Rattle.std.specs.Prelude.{◌≡◌, ◌<◌, ◌↔◌, ℕ, List, get_or, length, map}
use Rattle.star_cache.specs.State.{Loads}
use Rattle.star_cache.specs.Walk.{LeadsTo}
use Rattle.star_reading.specs.Readings.{Row, loads_at}
use Rattle.star_report.specs.declared.components.Mark.{Mark}
use Rattle.star_report.specs.declared.components.Mark.TheVariants.{New, Closed}

-- the files that a file loads, by what was read
abbrev pub loaded_at : Row → ℕ → List ℕ
loaded_at row n = map (λ l. l.file) (loads_at row n)

-- a file leads to another by zero or more loads
abbrev pub LoadsLead : Row → ℕ → ℕ → Type 0
LoadsLead row n m = LeadsTo (Loads (loaded_at row)) n m

-- the mark of a file
abbrev pub mark_at : List Mark → ℕ → Mark
mark_at marks n = get_or marks n New

-- two files are marked with one component
abbrev pub AreOne : List Mark → ℕ → ℕ → Type 0
AreOne marks n m = (k : ℕ) × (mark_at marks n ≡ Closed k) × (mark_at marks m ≡ Closed k)

-- marks of all files: two files have one component exactly if each leads to the other
abbrev pub AreComponents : Row → List Mark → Type 0
AreComponents row marks =
    (n m : ℕ) → n < length row → m < length row → AreOne marks n m ↔ (LoadsLead row n m × LoadsLead row m n)
