-- Two shelves for a run, and two rows of outlines, that are the same but for what is hidden.
use Rattle.std.specs.Prelude.{◌≡◌, false, ℕ, List, [], Option, Some, slice_get}
use Rattle.std.specs.Option.{option_and_then}
use Rattle.star_store.specs.declared.values.Cell.{Cell}
use Rattle.star_store.specs.Write.{cell_at}
use Rattle.star_store.specs.declared.values.Value.{Value}
use Rattle.star_store.specs.Store.{Shelf, global_of, published_cells}
use Rattle.star_outline.specs.Definitions.{Body, Statements, Answer, Definition}
use Rattle.star_outline.specs.Outlines.{Outline}
use Rattle.star_outline.specs.Syntax.{StatementForm, form_of, position_of}
use Rattle.star_tree.specs.declared.tree.Form.TheOpen as form
use Rattle.star_tree.specs.declared.tree.Statement.{Statement}
use Rattle.star_scope.specs.Placement.{in_statements, of_function}
use Rattle.star_meaning.specs.Program.{Setting, definition_of, file_of, outline_of, published_of}
use Rattle.star_unseen.specs.Veil.{CellIsVisible, Every, FileIsVisible, Hides, VisibleIfThere}

-- another shelf and other outlines for a run
pub record Other : Type 0 where
  pub shelf : Shelf
  pub outlines : List (Option Outline)

-- a setting with these in place of its own
abbrev pub with_other : Other → Setting → Setting
with_other other w = record w { shelf = other.shelf; outlines = other.outlines }

-- the value of a global of a file's published module
abbrev pub global_in : Setting → Option ℕ → List ℕ → Option Value
global_in w file name = option_and_then (λ p. global_of name p.globals) (option_and_then (published_of w) file)

-- nothing in the body of a function is misplaced, so it loads nothing
abbrev pub BodyIsPlaced : Body → Type 0
BodyIsPlaced (Statements ss) = in_statements ss of_function ≡ []
BodyIsPlaced (Answer e) = Unit {0}

-- a global of a file is the same over both shelves, and visible
abbrev pub IsSharedBy : Hides → Other → Setting → Option ℕ → List ℕ → Type 0
IsSharedBy hides other w file name = (global_in w file name ≡ global_in (with_other other w) file name)
    × VisibleIfThere hides (global_in w file name)

-- Another shelf and other outlines for the run in this setting, which differ only in what is hidden. The run's own cells,
-- its file and the prelude's are not hidden. Cells that are not hidden are the same on both shelves, and lead to nothing
-- hidden; nor do the globals of the prelude, which are the same. Files that are not hidden have the same outline, and
-- nothing is misplaced in the bodies of their functions.
pub record Veil (w : Setting) : Type 0 where
  pub hides : Hides
  pub other : Other
  pub own : (at : ℕ) → hides.cell w.home at ≡ false
  pub own_file : FileIsVisible hides w.home
  pub cells : (home at : ℕ) → hides.cell home at ≡ false
      → cell_at (published_cells (slice_get w.shelf home)) at
      ≡ cell_at (published_cells (slice_get other.shelf home)) at
  pub contents : (home at : ℕ) (c : Cell) → hides.cell home at ≡ false
      → cell_at (published_cells (slice_get w.shelf home)) at ≡ Some c → CellIsVisible hides c
  pub prelude_file : (q : ℕ) → w.prelude ≡ Some q → FileIsVisible hides q
  pub prelude : (name : List ℕ) → IsSharedBy hides other w w.prelude name
  pub outline : (file : ℕ) → FileIsVisible hides file → outline_of w file ≡ outline_of (with_other other w) file
  pub bodies : (file number : ℕ) (d : Definition) → FileIsVisible hides file → definition_of w file number ≡ Some d
      → BodyIsPlaced d.body

abbrev pub IsShared : {w : Setting} → Veil w → Option ℕ → List ℕ → Type 0
IsShared {w = w} k file name = IsSharedBy k.hides k.other w file name

-- each name that a load statement at this token loads is shared
abbrev pub FormIsShared : {w : Setting} → Veil w → ℕ → StatementForm → Type 0
FormIsShared {w = w} k token (form.Load l names) = Every (λ n. IsShared k (file_of w token) n.loaded.text) names
FormIsShared k token _ = Unit {0}

-- so it is if this statement is a load
abbrev pub LoadsAreShared : {w : Setting} → Veil w → Statement → Type 0
LoadsAreShared k x = FormIsShared k (position_of x).token (form_of x)
