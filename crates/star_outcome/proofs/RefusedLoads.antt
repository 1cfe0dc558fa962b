-- Loads that were refused lie on cycles.
use Rattle.std.proofs.Common.{◌≡◌, ◌<◌, ℕ, List, [], ◌∷◌, ◌++◌, Option, None, Some, All, length, take, map, refl}
use Rattle.std.specs.Prelude.{slice_get}
use Rattle.std.proofs.lemmas.List.Elements.{All-append, All-take, All-weaker}
use Rattle.star_dialect.specs.declared.Mode.{Mode}
use Rattle.star_label.specs.Files.{File}
use Rattle.star_scope.specs.declared.loads.Load.{Load}
use Rattle.star_plan.specs.Plan.{Plan, Reading, loads_in, read_of}
use Rattle.star_plan.specs.Reached.{IsReached, load}
use Rattle.star_plan.specs.Reading.{IsPlanOf}
use Rattle.star_plan.proofs.Goodness.{reached_is_file}
use Rattle.star_outcome.specs.Refusals.{AreRefusals, AreRefusalsOf, IsRefusal}
use Rattle.star_outcome.specs.declared.trace.CyclicLoad.{CyclicLoad}
use Rattle.star_reading.proofs.Finds.{all_one}

-- one refusal more
pub one_refused : (plan : Plan) (rs : List CyclicLoad) (r : CyclicLoad) → AreRefusals plan rs → IsRefusal plan r → AreRefusals plan (rs ++ r ∷ [])
one_refused plan rs r all one = All-append (IsRefusal plan) rs (r ∷ []) all (all_one (IsRefusal plan) r one)

-- a file with a load was read
has_read : (o : Option Reading) (i m : ℕ) → slice_get (map (λ (l : Load). l.file) (loads_in o)) i ≡ Some m → (r : Reading) × (o ≡ Some r)
has_read None i m h = absurd (let none : None ≡ Some m = h in let no : ⊥ = cc in no)
has_read (Some r) i m h = (r, refl)

abbrev AreFiles : List File → CyclicLoad → Type 0
AreFiles files r = (r.file < length files) × (r.loaded < length files)

-- the file of a refused load and the one that it loads are files
refused_files : (files : List File) (plan : Plan) → IsPlanOf files plan → (r : CyclicLoad) → IsRefusal plan r → AreFiles files r
refused_files files plan of r is =
    let reached : IsReached plan r.file = (of.reached r.file).1 (has_read (read_of plan r.file) r.index r.loaded is.there) in
    (reached_is_file files plan of r.file reached, reached_is_file files plan of r.loaded (load reached is.cycle.0))

pub all_files : (files : List File) (roots : List ℕ) (prelude : Option ℕ) (mode : Mode) (rs : List CyclicLoad) → AreRefusalsOf files roots prelude mode rs
    → All (λ r. (r.file < length files) × (r.loaded < length files)) rs
all_files files roots prelude mode rs of =
    All-weaker (IsRefusal of.0) (AreFiles files) (refused_files files of.0 of.1) rs of.5

-- the first few of refused loads are refused loads
pub first_refused : (files : List File) (roots : List ℕ) (prelude : Option ℕ) (mode : Mode) (rs : List CyclicLoad) (count : ℕ)
    → AreRefusalsOf files roots prelude mode rs → AreRefusalsOf files roots prelude mode (take count rs)
first_refused files roots prelude mode rs count of =
    (of.0, of.1, of.2, of.3, of.4, All-take (IsRefusal of.0) count rs of.5)
