-- The environment of a file's run: the stores of its loads, and the programs of all files.
use Rattle.std.specs.Prelude.{◌≡◌, ℕ, List, Option, Some, Ok}
use Rattle.star_label.specs.Files.{File}
use Rattle.star_store.specs.declared.values.Value.{Value}
use Rattle.star_store.specs.Store.{Published, Shelf, put_up}
use Rattle.star_tree.specs.declared.tree.Statement.{Statement}
use Rattle.star_scope.specs.declared.program.Prelude.{Prelude}
use Rattle.star_scope.specs.declared.program.Program.{Program}
use Rattle.star_scope.specs.Resolve.{Resolves, outside}
use Rattle.star_meaning.specs.declared.said.Said.{Said}
use Rattle.star_meaning.specs.Local.{outlines, setting}
use Rattle.star_meaning.specs.Module.{Ended, Good, Local, local, most_levels, run_file, start}
use Rattle.star_meaning.specs.Places.{AllFit, Stands, by_places}
use Rattle.star_meaning.specs.Program.{Setting, Variables}
use Rattle.star_meaning.specs.Programs.{ArePrograms, Files, PlacedFile, file_in, load_files, placed_file, tables_of, trees_of}
use Rattle.star_meaning.specs.Run.{Outcome}
use Rattle.star_meaning.specs.Variables.{by_names}
use Rattle.star_plan.specs.Plan.{Plan, loads_of, read_of, tree_in, trees}
use Rattle.star_plan.specs.Reading.{IsPrelude}
use Rattle.star_plan.specs.Results.{IsOutcome, Ran}
use Rattle.star_plan.specs.Shelves.{IsOwn}

-- the prelude, if there is one, has no static fault
abbrev pub PreludeIsSound : Plan → Type 0
PreludeIsSound plan = (q : ℕ) → plan.prelude ≡ Some q → (ss : List Statement) × (tree_in (read_of plan q) ≡ Some ss)

-- a row of programs is the row of a plan of these files. It has the statements that were read. Each program is the
-- answer of `resolve` for the file of its number, which sees the plan's prelude or is it, in the plan's language
pub record ArePlaced (files : List File) (plan : Plan) (placed : Files) : Type 0 where
  pub prelude : Option Prelude
  pub prelude_is : IsPrelude files plan.prelude prelude
  pub statements : trees_of placed ≡ trees plan
  pub right : (n : ℕ) (f : PlacedFile) → file_in placed n ≡ Some f → (p : Program) × (placed_file p ≡ f)
      × Resolves files n (outside prelude plan.mode.language) f.statements (Ok p)

-- the environment of a file's run over the outcomes of its loads
abbrev pub given : Plan → ℕ → List Local → Setting
given plan n outcomes = setting n (trees plan) (load_files (loads_of plan n)) plan.prelude plan.mode.language outcomes

-- the run of a file over the outcomes of its loads
abbrev pub run_with : (Setting → Variables) → Plan → ℕ → List Statement → List Local → Outcome Ended
run_with variables plan n ss outcomes =
    run_file (variables (given plan n outcomes)) (given plan n outcomes) most_levels ss
    (start (given plan n outcomes) plan.mode.steps)

-- .. with variables by their names
abbrev pub run_by_names : Plan → ℕ → List Statement → List Local → Outcome Ended
run_by_names = run_with by_names

-- .. and by their places
abbrev pub run_by_places : Files → Plan → ℕ → List Statement → List Local → Outcome Ended
run_by_places placed = run_with (by_places (tables_of placed))

-- the environment of a file's run over a shelf, by a row of programs
abbrev pub given_over : Files → Plan → ℕ → Shelf → Setting
given_over placed plan n shelf =
    record {
      home = n;
      outlines = outlines (trees_of placed);
      shelf = shelf;
      loads = load_files (loads_of plan n);
      prelude = plan.prelude;
      language = plan.mode.language;
    }

-- a file may run over a shelf: its statements are among those of the programs, the programs are right for the run, and
-- each function that it sees fits. Then its local meaning is its outcome, and the module that a good run puts up is the
-- file's own
pub record MayRun (plan : Plan) (placed : Files) (n : ℕ) (ss : List Statement) (shelf : Shelf) : Type 0 where
  pub stands : Stands (trees_of placed) n ss
  pub programs : ArePrograms placed (given_over placed plan n shelf).prelude plan.mode.language
  pub functions : AllFit (trees_of placed) (given_over placed plan n shelf)
      (start (given_over placed plan n shelf) plan.mode.steps)
  pub outcome : IsOutcome plan n (Ran (local (given_over placed plan n shelf) plan.mode.steps ss))
  pub own : (p : Published) (globals : List (List ℕ × Value)) (texts : List (List ℕ × List ℕ)) (lines : List Said)
      → local (given_over placed plan n shelf) plan.mode.steps ss ≡ Good (put_up n p shelf) globals texts lines
      → IsOwn plan n p
