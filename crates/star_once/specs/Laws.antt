-- Laws of keys that occur only once.
use Rattle.std.specs.Prelude.{◌≡◌, ℕ, List, Some, None}
use Rattle.star_store.specs.declared.values.Value.{Value}
use Rattle.star_store.specs.declared.values.Cell.TheVariants as cell
use Rattle.star_store.specs.Store.{Shelf}
use Rattle.star_tree.specs.declared.tree.Expression.{Expression}
use Rattle.star_tree.specs.declared.tree.Statement.{Statement}
use Rattle.star_meaning.specs.declared.site.Site.{Site}
use Rattle.star_meaning.specs.declared.site.Flow.{Flow}
use Rattle.star_meaning.specs.declared.said.Said.{Said}
use Rattle.star_meaning.specs.Run.{State, Done}
use Rattle.star_meaning.specs.Program.{Setting, published_of, seen}
use Rattle.star_meaning.specs.Variables.{by_names}
use Rattle.star_meaning.specs.Module.{Ended, Good, local, meaning, most_levels, run_file, start}
use Rattle.star_meaning.specs.Places.{Loaded}
use Rattle.star_data.specs.Data.{on_shelf}
use Rattle.star_data.specs.Laws.{KeysStandOnce}
use Rattle.star_once.specs.Keys.{KeysDiffer}

-- The law: if keys differ before an expression or a statement that ends well, they differ after it.
abbrev pub RunsKeepKeys : Type 0
RunsKeepKeys = (w : Setting) (levels : ℕ) (p : Site) (s t : State) → KeysDiffer w s
    → ((e : Expression) (v : Value) → (meaning (by_names w) w levels).expr p e s ≡ Done v t → KeysDiffer w t)
    × ((x : Statement) (f : Flow) → (meaning (by_names w) w levels).stmt p x s ≡ Done f t → KeysDiffer w t)

-- The law: the same holds for the run of a file.
abbrev pub FilesKeepKeys : Type 0
FilesKeepKeys = (w : Setting) (steps : ℕ) (statements : List Statement) (e : Ended) (t : State)
    → KeysDiffer w (start w steps) → run_file (by_names w) w most_levels statements (start w steps) ≡ Done e t
    → KeysDiffer w t

-- The law: if keys differ, no dictionary has a string twice as a key.
abbrev pub DifferentKeysStandOnce : Type 0
DifferentKeysStandOnce = (w : Setting) (s : State) → KeysDiffer w s → KeysStandOnce (seen w s)

-- The law: if each dictionary that a module sees before its run was seen by a module that it loaded, and keys differ
-- after the run of that module, they differ before the run of this one.
abbrev pub LoadsKeepKeys : Type 0
LoadsKeepKeys = (w : Setting) (steps : ℕ)
    → ((v : Value) (es : List (Value × Value)) → seen w (start w steps) v ≡ Some (cell.Dict es) → (u : Setting)
    × (t : State) × Loaded u t w × KeysDiffer u t × (seen u t v ≡ Some (cell.Dict es)))
    → KeysDiffer w (start w steps)

-- The law: on the shelf of a module that ended well no dictionary has a string twice as a key, if keys differed before
-- its run, and the module was not on its own shelf.
abbrev pub FrozenKeysStandOnce : Type 0
FrozenKeysStandOnce = (w : Setting) (steps : ℕ) (statements : List Statement) (shelf : Shelf)
    (globals : List (List ℕ × Value)) (texts : List (List ℕ × List ℕ)) (lines : List Said)
    → KeysDiffer w (start w steps) → published_of w w.home ≡ None
    → local w steps statements ≡ Good shelf globals texts lines → KeysStandOnce (on_shelf shelf)
