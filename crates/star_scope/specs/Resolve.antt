-- All static faults of a file, and the program of a file that has none.
use Rattle.std.specs.Prelude.{◌≡◌, ◌⊎◌, ℕ, nat_eq, List, [], ◌++◌, map, Option, Some, None, Result, Ok, Err, if◌then◌else◌}
use Rattle.std.specs.List.{flat_map}
use Rattle.std.specs.Option.{option_copied, option_map}
use denote.Ref.{Bor}
use Rattle.star_dialect.specs.declared.Language.{Language}
use Rattle.star_label.specs.Files.{File, label_at}
use Rattle.star_label.specs.Label.{package_of}
use Rattle.star_tree.specs.declared.tree.Statement.{Statement}
use Rattle.star_scope.specs.declared.error.LocatedFault.{LocatedFault}
use Rattle.star_scope.specs.declared.error.ScopeFault.{ScopeFault}
use Rattle.star_scope.specs.declared.error.ScopeFault.TheVariants as fault
use Rattle.star_scope.specs.declared.placement.StatementContext.{StatementContext}
use Rattle.star_scope.specs.declared.program.Prelude.{Prelude}
use Rattle.star_scope.specs.declared.program.Program.{Program}
use Rattle.star_scope.specs.Conflicts.{block_conflicts, repeated_parameters}
use Rattle.star_outline.specs.Definitions.{AllDiffer}
use Rattle.star_scope.specs.Faults.{first, first_of}
use Rattle.star_scope.specs.Loads.{AreRead, Read, faults_of, load_of, prelude_loads, written}
use Rattle.star_outline.specs.Names.{Names, once}
use Rattle.star_outline.specs.Outlines.{file_names, outline}
use Rattle.star_outline.specs.Definitions.{Definition}
use Rattle.star_scope.specs.Placement.{in_statements, of_file, of_prelude}
use Rattle.star_scope.specs.Places.{AllPlaced, Outer, undefined}
use Rattle.star_scope.specs.Spots.{spot_at}
use Rattle.star_scope.specs.Uses.{uses}

-- the names of the prelude's block: the names that its file's block binds; no names if its text does not parse
abbrev pub prelude_names : Option (List Statement) → Names
prelude_names None = []
prelude_names (Some ss) = file_names ss

-- the prelude that a file sees: every file but the prelude itself sees it
abbrev pub seen_by : ℕ → Option Prelude → Option Prelude
seen_by n None = None
seen_by n (Some p) = if nat_eq p.file n then None else Some p

-- the surroundings of the statements of a file itself: in the prelude's own file a load is misplaced
abbrev pub standing_in : ℕ → Option Prelude → StatementContext
standing_in n None = of_file
standing_in n (Some p) = if nat_eq p.file n then of_prelude else of_file

-- the parameters of definitions that have the name of an earlier parameter of the same definition
abbrev pub repeated : List Definition → List LocatedFault
repeated ds = flat_map (λ d. repeated_parameters d.parameters) ds

-- the first static fault, given the first one of the load statements and the first undefined name
abbrev pub first_fault : StatementContext → List Statement → Option LocatedFault → List Definition → Option LocatedFault
    → Option LocatedFault
first_fault here ss load ds unknown =
    first_of (first_of (first_of (first_of (first (in_statements ss here)) load) (first (block_conflicts ss)))
    (first (repeated ds))) unknown

-- what files see: a prelude, if there is one, and the names of a language
pub record Outside : Type 0 where
  pub prelude : Option Prelude
  pub language : Language

abbrev pub outside : Option Prelude → Language → Outside
outside prelude language = record { prelude = prelude; language = language }

abbrev pub outside_seen : Option (Bor Prelude) → Bor Language → Outside
outside_seen prelude language = outside (option_copied prelude) language.now

-- what is outside of a file: the names of the prelude that it sees, and the language
abbrev pub outer_for : ℕ → Outside → Outer
outer_for n o = record { names = option_map (λ q. q.names) (seen_by n o.prelude); language = o.language }

-- all static faults of a file, by the surroundings of its statements, what is outside of it, and its load statements,
-- each beside its target
abbrev pub static_faults : StatementContext → Outer → List Statement → List Read → List LocatedFault
static_faults here outer ss reads =
    in_statements ss here ++ (flat_map faults_of reads
    ++ (block_conflicts ss ++ (repeated (outline ss).definitions ++ undefined (outline ss).blocks outer (uses ss))))

-- a program is the program of a file. Its loads are the prelude's and its statements'. It has the file's definitions,
-- no two with one number, its blocks, the names that the file loads, and the spot of each name
pub record IsProgram (n : ℕ) (outside : Outside) (ss : List Statement) (reads : List Read) (p : Program) : Type
    0 where
  pub loads : p.loads.items
      ≡ prelude_loads (option_map (λ q. q.file) (seen_by n outside.prelude)) ++ flat_map load_of reads
  pub statements : p.statements.now ≡ ss
  pub numbers : AllDiffer (map (λ d. d.number) p.definitions)
  pub definitions : p.definitions ≡ (outline ss).definitions
  pub blocks : p.blocks ≡ (outline ss).blocks
  pub loaded : p.loaded ≡ once (outline ss).loaded
  pub spots : AllPlaced (spot_at p.spots) (outline ss).blocks (outer_for n outside) (uses ss)

-- the static faults of a file that sees a prelude or is it
abbrev pub faults_in : ℕ → Outside → List Statement → List Read → List LocatedFault
faults_in n outside ss reads = static_faults (standing_in n outside.prelude) (outer_for n outside) ss reads

-- these are the load statements of the file n, each beside its target
abbrev pub AreReadIn : List File → ℕ → List Statement → List Read → Type 0
AreReadIn files n ss reads = AreRead files (package_of (label_at files n)) (written ss) reads

-- the answer on a file: its program if it has no static fault, else the first of them; or `Memory`
abbrev pub Resolves : List File → ℕ → Outside → List Statement → Result Program ScopeFault → Type 0
Resolves files n outside ss (Ok p) =
    (reads : List Read) × AreReadIn files n ss reads × (first (faults_in n outside ss reads) ≡ None)
    × IsProgram n outside ss reads p
Resolves files n outside ss (Err e) =
    (e ≡ fault.Memory) ⊎ ((reads : List Read) × AreReadIn files n ss reads
    × ((r : LocatedFault) × (first (faults_in n outside ss reads) ≡ Some r) × (e ≡ r.fault)))
