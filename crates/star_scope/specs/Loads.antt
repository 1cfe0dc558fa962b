-- The loads of a file: the target of each module string, and the faults of load statements.
use Rattle.std.specs.Prelude.{◌≡◌, ◌<◌, ◌==◌, ℕ, Bool, false, List, [], ◌∷◌, ◌++◌, map, length, Option, Some, None, if◌then◌else◌}
use Rattle.std.specs.List.{flat_map}
use Rattle.star_label.specs.Files.{File, label_at}
use Rattle.star_label.specs.Label.{Reads, label_text, package_of}
use Rattle.star_tree.specs.declared.tree.Form.{Form, out-Form}
use Rattle.star_tree.specs.declared.tree.Arm.{Arm}
use Rattle.star_tree.specs.declared.tree.Statement.{Statement, out-Statement}
use Rattle.star_tree.specs.declared.tree.Form.TheOpen as form
use Rattle.star_tree.specs.declared.tree.Position.{Position}
use Rattle.star_tree.specs.declared.tree.Literal.{Literal}
use Rattle.star_tree.specs.declared.tree.LoadedName.{LoadedName}
use Rattle.star_scope.specs.declared.error.ScopeFault.TheVariants as fault
use Rattle.star_scope.specs.declared.error.LocatedFault.{LocatedFault}
use Rattle.star_scope.specs.declared.loads.LoadTarget.{LoadTarget}
use Rattle.star_scope.specs.declared.loads.LoadTarget.TheVariants as lead
use Rattle.star_scope.specs.declared.loads.Load.{Load}
use Rattle.star_scope.specs.declared.loads.Loads.{Loads}
use Rattle.star_scope.specs.Faults.{at, first_from}

-- in the package `here`, a module string is the label of the file n, or a label that no file has, or not a label
abbrev pub LeadsTo : List File → List ℕ → List ℕ → LoadTarget → Type 0
LeadsTo files here text (lead.File n) =
    (p : List ℕ) × (m : List ℕ) × Reads here text p m × (n < length files) × (label_at files n ≡ label_text p m)
LeadsTo files here text lead.NoFile =
    (p : List ℕ) × (m : List ℕ) × Reads here text p m
    × ((n : ℕ) → n < length files → label_at files n ≡ label_text p m → ⊥)
LeadsTo files here text lead.BadLabel = (p m : List ℕ) → Reads here text p m → ⊥

-- a load statement: its position, its module string, and the names that it loads
pub record Written : Type 0 where
  pub position : Position
  pub module_string : Literal
  pub names : List LoadedName

abbrev pub load_in : Position → form.Form-F Form Arm Statement → List Written
load_in p (form.Load l ns) = record { position = p; module_string = l; names = ns } ∷ []
load_in p _ = []

-- the load statements of the file itself, in source order
abbrev pub written_in : Statement → List Written
written_in s = load_in (out-Statement s).position (out-Form (out-Statement s).form)

abbrev pub written : List Statement → List Written
written ss = flat_map written_in ss

-- a load statement beside the target of its module string
abbrev pub Read : Type 0
Read = Written × LoadTarget

abbrev pub AllLead : List File → List ℕ → List Read → Type 0
AllLead files here [] = Unit {0}
AllLead files here (r ∷ rs) = LeadsTo files here r.0.module_string.text r.1 × AllLead files here rs

-- these are the load statements, each beside its target
abbrev pub AreRead : List File → List ℕ → List Written → List Read → Type 0
AreRead files here ws reads = (map (λ r. r.0) reads ≡ ws) × AllLead files here reads

-- a loaded name that begins with `_` is private
abbrev pub is_private : List ℕ → Bool
is_private [] = false
is_private (b ∷ bs) = b == 95

abbrev pub private_fault : LoadedName → List LocatedFault
private_fault n = if is_private n.loaded.text then at n.loaded.position (λ line. fault.Private line) ∷ [] else []

abbrev pub module_fault : Position → LoadTarget → List LocatedFault
module_fault p (lead.File n) = []
module_fault p lead.NoFile = at p (λ line. fault.NoFile line) ∷ []
module_fault p lead.BadLabel = at p (λ line. fault.BadLabel line) ∷ []

-- the faults of a load statement are at its module string and at the strings of its names
abbrev pub faults_of : Read → List LocatedFault
faults_of r = module_fault r.0.module_string.position r.1 ++ flat_map private_fault r.0.names

-- the load of a statement whose module string leads to a file, with the place of the statement
abbrev pub load_at : Position → LoadTarget → List Load
load_at p (lead.File n) = record { file = n; line = p.line; token = Some p.token } ∷ []
load_at p lead.NoFile = []
load_at p lead.BadLabel = []

abbrev pub load_of : Read → List Load
load_of r = load_at r.0.position r.1

-- the loads of load statements are added to those before; and the first fault, in these and before
pub record Adds (files : List File) (here : List ℕ) (ws : List Written) (before after : List Load)
    (found more : Option LocatedFault) : Type 0 where
  pub reads : List Read
  pub are : AreRead files here ws reads
  pub loads : after ≡ before ++ flat_map load_of reads
  pub faults : more ≡ first_from found (flat_map faults_of reads)

-- they are added to the loads of a file and to their first fault
abbrev pub AddsTo : List File → List ℕ → List Written → Loads → Loads → Type 0
AddsTo files here ws old new = Adds files here ws old.loads.items new.loads.items old.first new.first

-- the load of the prelude has no token, and line 1
abbrev pub prelude_loads : Option ℕ → List Load
prelude_loads None = []
prelude_loads (Some n) = record { file = n; line = 1; token = None } ∷ []

-- the loads of the file n: the prelude's, then its statements'; and the first fault of its load statements
abbrev pub IsLoads : List File → ℕ → Option ℕ → List Statement → List Load → Option LocatedFault → Type 0
IsLoads files n prelude ss loads found =
    Adds files (package_of (label_at files n)) (written ss) (prelude_loads prelude) loads None found
