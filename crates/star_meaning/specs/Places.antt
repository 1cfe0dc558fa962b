-- Variables by their spots: how many frames up, and which slot; and when this means the same as their names.
use Rattle.std.specs.Prelude.{◌≡◌, ℕ, zero, suc, nat_eq, List, [], ◌∷◌, length, map, replicate, Option, Some, None, slice_get, if◌then◌else◌}
use Rattle.std.specs.List.{Contains}
use Rattle.std.specs.Option.{option_and_then}
use Rattle.star_store.specs.declared.values.Value.{Value}
use Rattle.star_store.specs.declared.values.Cell.TheVariants as cell
use Rattle.star_store.specs.declared.values.Frame.{Frame}
use Rattle.star_store.specs.declared.values.Function.{Function}
use Rattle.star_store.specs.Store.{Published, global_of}
use Rattle.star_tree.specs.declared.tree.Name.{Name}
use Rattle.star_tree.specs.declared.tree.Statement.{Statement}
use Rattle.star_meaning.specs.declared.fault.FaultCode.TheVariants as code
use Rattle.star_meaning.specs.declared.site.Site.{Site}
use Rattle.star_meaning.specs.Run.{State, Outcome, Done, Failed, Action, found, seeing, make}
use Rattle.star_scope.specs.declared.spot.Spot.{Spot}
use Rattle.star_scope.specs.declared.spot.Spot.TheVariants as spot
use Rattle.star_outline.specs.Names.{Names}
use Rattle.star_outline.specs.Definitions.{AllDiffer}
use Rattle.star_scope.specs.Places.{Outer, Spots, AllPlaced, IsPlaced}
use Rattle.star_meaning.specs.Program.{Setting, Variables, names_of, blocks_of, published_of, seen}
use Rattle.star_meaning.specs.Variables.{frame_of, bind_at, bind_name, by_names, outermost, read_name}
use Rattle.star_meaning.specs.Module.{Ended, run_file, most_levels, start}
use Rattle.star_outline.specs.Outlines.{outline}
use Rattle.star_scope.specs.Uses.{Named, Defined, uses}
use Rattle.star_meaning.specs.Local.{Trees, outlines}

-- the tables of a program: the spot of the name at a token of a file, and the number of slots of a block of a file
pub record Tables : Type 0 where
  pub spots : ℕ → Spots
  pub slots : ℕ → ℕ → ℕ

-- the frame that is `up` frames above a frame
abbrev pub frame_above : Setting → State → ℕ → Option Value → Option Value
frame_above w s zero frame = frame
frame_above w s (suc up) frame =
    frame_above w s up (option_and_then (λ f. f.parent) (option_and_then (λ v. frame_of (seen w s v)) frame))

-- the state of a slot of a frame
abbrev pub slot_in : Setting → State → ℕ → Option Value → Option (Option Value)
slot_in w s slot frame =
    option_and_then (λ f. slice_get f.slots slot) (option_and_then (λ v. frame_of (seen w s v)) frame)

abbrev pub joined : Option (Option Value) → Option Value
joined None = None
joined (Some v) = v

-- the value at a spot, or `unbound`
abbrev pub at_spot : Setting → State → Site → List ℕ → Option Spot → Option Value
at_spot w s p name (Some (spot.Frame up slot)) = joined (slot_in w s slot (frame_above w s up (Some p.frame)))
at_spot w s p name (Some spot.Prelude) =
    option_and_then (λ q. global_of name q.globals) (option_and_then (published_of w) w.prelude)
at_spot w s p name (Some spot.Outermost) = global_of name (outermost w.language)
at_spot w s p name None = None

unfoldable pub read_spot : Tables → Setting → Site → Name → Action Value
read_spot tables w p n =
    seeing (λ s. found code.Unbound p.line (at_spot w s p n.text (tables.spots p.file n.position.token)))

-- a name is bound in the innermost frame, at its slot
abbrev pub own_spot : Option Spot → Option ℕ
own_spot (Some (spot.Frame zero slot)) = Some slot
own_spot _ = None

unfoldable pub bind_spot : Tables → Site → Name → Value → Action (Unit {0})
bind_spot tables p n v = bind_at p.frame v (own_spot (tables.spots p.file n.position.token))

-- a new frame has the slots of its block, all of them unbound
unfoldable pub new_slots : Tables → ℕ → ℕ → Option Value → Action Value
new_slots tables file number parent =
    make (cell.Frame (record {
      file = file;
      block = number;
      parent = parent;
      slots = replicate (tables.slots file number) None;
    }))

-- variables by their places
abbrev pub by_places : Tables → Setting → Variables
by_places tables w = record { read = read_spot tables w; bind = bind_spot tables; frame = new_slots tables }

-- the names of the prelude's block, for a file that is not the prelude itself
abbrev pub outer_names : Setting → ℕ → Option ℕ → Option Names
outer_names w file None = None
outer_names w file (Some prelude) = if nat_eq prelude file then None else Some (names_of w prelude 0)

-- .. with the language
abbrev pub outer_at : Setting → ℕ → Outer
outer_at w file = record { names = outer_names w file w.prelude; language = w.language }

-- the tables are right for a file: no two of its definitions have one number, each name that its statements use has the
-- right spot, and each block as many slots as names
pub record IsResolved (tables : Tables) (w : Setting) (file : ℕ) (statements : List Statement) : Type 0 where
  pub numbers : AllDiffer (map (λ d. d.number) (outline statements).definitions)
  pub names : AllPlaced (tables.spots file) (blocks_of w file) (outer_at w file) (uses statements)
  pub blocks : (number : ℕ) → tables.slots file number ≡ length (names_of w file number)

-- a frame fits a block: it is that block's, and has a slot for each of its names
pub record FitsBlock (w : Setting) (file number : ℕ) (f : Frame) : Type 0 where
  pub file_is : f.file ≡ file
  pub block_is : f.block ≡ number
  pub slots_are : length f.slots ≡ length (names_of w file number)

-- a chain of frames fits a chain of blocks of a file, the innermost first: each frame fits its block, and the file's
-- own has no frame around it
abbrev pub FitsChain : Setting → State → ℕ → List ℕ → Option Value → Type 0
FitsChain w s file [] frame = frame ≡ None
FitsChain w s file (b ∷ bs) frame =
    (v : Value) × (f : Frame) × (frame ≡ Some v) × (seen w s v ≡ Some (cell.Frame f)) × FitsBlock w file b f
    × FitsChain w s file bs f.parent

-- The law: in every chain of frames that fits the blocks around a name, the name is read and bound by its place as it
-- is by its name.
abbrev pub SpotsMeanNames : Type 0
SpotsMeanNames = (tables : Tables) (w : Setting) (p : Site) (n : Name) (chain : List ℕ) (s : State)
    → IsPlaced (tables.spots p.file) (blocks_of w p.file) (outer_at w p.file) (Named n chain)
    → FitsChain w s p.file chain (Some p.frame)
    → (read_spot tables w p n s ≡ read_name w p n s) × ((v : Value) → bind_spot tables p n v s ≡ bind_name w p n v s)

-- these are the statements of a file
abbrev pub Stands : Trees → ℕ → List Statement → Type 0
Stands trees file ss = slice_get trees file ≡ Some (Some ss)

-- a function is one of its file's definitions, and its defining frame begins a chain that fits the blocks around it
pub record FitsFunction (trees : Trees) (w : Setting) (s : State) (f : Function) : Type 0 where
  pub statements : List Statement
  pub chain : List ℕ
  pub stands : Stands trees f.file statements
  pub is_there : Contains (uses statements) (Defined f.definition chain)
  pub fits : FitsChain w s f.file chain (Some f.frame)

-- each function of a store fits
abbrev pub AllFit : Trees → Setting → State → Type 0
AllFit trees w s = (v : Value) (f : Function) → seen w s v ≡ Some (cell.Func f) → FitsFunction trees w s f

-- all functions fit after a run that ends well
abbrev pub FitAfter : Trees → Setting → Outcome Ended → Type 0
FitAfter trees w (Done e t) = AllFit trees w t
FitAfter trees w (Failed f lines) = Unit {0}

-- The law: if the tables are right for all files, and the functions of the published modules fit, the run of a file by
-- places is its run by names, and after it all functions fit.
abbrev pub PlacesMeanNames : Type 0
PlacesMeanNames = (tables : Tables) (trees : Trees) (w : Setting) (statements : List Statement) (steps : ℕ)
    → w.outlines ≡ outlines trees
    → Stands trees w.home statements
    → ((file : ℕ) (ss : List Statement) → Stands trees file ss → IsResolved tables w file ss)
    → AllFit trees w (start w steps)
    → (run_file (by_places tables w) w most_levels statements (start w steps)
    ≡ run_file (by_names w) w most_levels statements (start w steps))
    × FitAfter trees w (run_file (by_names w) w most_levels statements (start w steps))

-- a module whose run ended so, seen by another one before its run: its cells are on the shelf under its file, and so
-- are all modules that it saw; it is another module, and did not see that one
pub record Loaded (u : Setting) (t : State) (w : Setting) : Type 0 where
  pub outlines : u.outlines ≡ w.outlines
  pub home : t.store.home ≡ u.home
  pub own : (p : Published) × (published_of w u.home ≡ Some p) × (p.cells ≡ t.store.cells)
  pub others : (file : ℕ) (p : Published) → published_of u file ≡ Some p → published_of w file ≡ Some p
  pub apart : w.home ≡ u.home → ⊥
  pub unseen : published_of u w.home ≡ None

-- The law: all functions fit before the run of a module, if each that it sees then was seen by a module that it loaded,
-- and all functions fit after the run of that one.
abbrev pub LoadsFit : Type 0
LoadsFit = (trees : Trees) (w : Setting) (steps : ℕ)
    → ((v : Value) (f : Function) → seen w (start w steps) v ≡ Some (cell.Func f) → (u : Setting) × (t : State)
    × Loaded u t w × AllFit trees u t × (seen u t v ≡ Some (cell.Func f)))
    → AllFit trees w (start w steps)
