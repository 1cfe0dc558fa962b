-- The environment of a run: the files with their definitions and blocks, and the published modules.
use Rattle.std.specs.Prelude.{ℕ, nat_eq, List, [], Option, Some, None, slice_get}
use Rattle.std.specs.List.{find}
use Rattle.std.specs.Option.{option_and_then, option_map, option_flatten}
use Rattle.star_store.specs.declared.values.Value.{Value}
use Rattle.star_store.specs.declared.values.Cell.{Cell}
use Rattle.star_store.specs.Store.{Shelf, Published, look}
use Rattle.star_dialect.specs.declared.Language.{Language}
use Rattle.star_tree.specs.declared.tree.Name.{Name}
use Rattle.star_outline.specs.Names.{Names}
use Rattle.star_outline.specs.declared.blocks.Block.{Block}
use Rattle.star_outline.specs.Definitions.{Definition, definition_in}
use Rattle.star_outline.specs.Outlines.{Outline, names_in}
use Rattle.star_meaning.specs.declared.site.Site.{Site}
use Rattle.star_meaning.specs.Run.{State, Action}

-- the environment of a run: the running file, the outlines of all files by their numbers, the published modules, the
-- file of each load statement by the statement's token, the prelude's file, and the language
pub record Setting : Type 0 where
  pub home : ℕ
  pub outlines : List (Option Outline)
  pub shelf : Shelf
  pub loads : List (ℕ × ℕ)
  pub prelude : Option ℕ
  pub language : Language

-- the outline of a file
abbrev pub outline_of : Setting → ℕ → Option Outline
outline_of w file = option_flatten (slice_get w.outlines file)

-- the definition of this number in a file
abbrev pub definition_of : Setting → ℕ → ℕ → Option Definition
definition_of w file number = option_and_then (λ o. definition_in o.definitions number) (outline_of w file)

-- the blocks of a file
abbrev pub blocks_in : Option Outline → List Block
blocks_in None = []
blocks_in (Some o) = o.blocks

abbrev pub blocks_of : Setting → ℕ → List Block
blocks_of w file = blocks_in (outline_of w file)

-- the names of a block of a file
abbrev pub names_of : Setting → ℕ → ℕ → Names
names_of w file number = names_in (blocks_of w file) number

-- the file of a load statement
abbrev pub file_of : Setting → ℕ → Option ℕ
file_of w token = option_map (λ l. l.1) (find (λ l. nat_eq l.0 token) w.loads)

-- the published module of a file
abbrev pub published_of : Setting → ℕ → Option Published
published_of w file = option_flatten (slice_get w.shelf file)

-- the cell that a value leads to
abbrev pub seen : Setting → State → Value → Option Cell
seen w s v = look s.store w.shelf v

-- the three actions that touch variables: reading a name, binding one in the innermost frame, and making the frame of a
-- block (its file, its number, and the frame around it)
pub record Variables : Type 0 where
  pub read : Site → Name → Action Value
  pub bind : Site → Name → Value → Action (Unit {0})
  pub frame : ℕ → ℕ → Option Value → Action Value
