-- A plan: the roots, the prelude, the mode, and the result of reading each file.
use Rattle.std.specs.Prelude.{ℕ, List, [], map, Option, Some, None, slice_get}
use Rattle.std.specs.Option.{option_flatten}
use Rattle.star_dialect.specs.declared.Mode.{Mode}
use Rattle.star_lex.specs.declared.token.SyntaxFault.{SyntaxFault}
use Rattle.star_tree.specs.declared.tree.Statement.{Statement}
use Rattle.star_scope.specs.declared.error.ScopeFault.{ScopeFault}
use Rattle.star_scope.specs.declared.loads.Load.{Load}
use Rattle.star_meaning.specs.Local.{Trees}

-- a static fault: of a text, or of its names and loads
pub data StaticFault : Type 0 where
  OfText : SyntaxFault → StaticFault
  OfNames : ScopeFault → StaticFault

-- a read file: its statements and its loads, or its static fault
pub data Reading : Type 0 where
  Sound : List Statement → List Load → Reading
  Faulty : StaticFault → Reading

-- a plan: the roots, the prelude's file, the mode in which each file runs, and the read files, by number. It has nothing
-- for a file that is not reached
pub record Plan : Type 0 where
  pub roots : List ℕ
  pub prelude : Option ℕ
  pub mode : Mode
  pub reads : List (Option Reading)

-- the read file of a number
abbrev pub read_of : Plan → ℕ → Option Reading
read_of plan n = option_flatten (slice_get plan.reads n)

-- the loads of a file. A file with a static fault has none
abbrev pub loads_in : Option Reading → List Load
loads_in None = []
loads_in (Some (Faulty f)) = []
loads_in (Some (Sound ss loads)) = loads

abbrev pub loads_of : Plan → ℕ → List Load
loads_of plan n = loads_in (read_of plan n)

-- the files that a file loads, in order
abbrev pub loaded : Plan → ℕ → List ℕ
loaded plan n = map (λ l. l.file) (loads_of plan n)

-- the statements of a file without a static fault
abbrev pub tree_in : Option Reading → Option (List Statement)
tree_in None = None
tree_in (Some (Faulty f)) = None
tree_in (Some (Sound ss loads)) = Some ss

-- the statements of all files
abbrev pub trees : Plan → Trees
trees plan = map tree_in plan.reads
