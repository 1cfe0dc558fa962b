-- The local meaning of a file: its meaning by the outcomes of its loads.
use Rattle.std.specs.Prelude.{ℕ, List, [], map, Option, Some, None, slice_get}
use Rattle.std.specs.Option.{option_map, option_flatten}
use Rattle.star_store.specs.Store.{Shelf}
use Rattle.star_tree.specs.declared.tree.Statement.{Statement}
use Rattle.star_outline.specs.Outlines.{Outline}
use Rattle.star_dialect.specs.declared.Language.{Language}
use Rattle.star_dialect.specs.declared.Mode.{Mode}
use Rattle.star_meaning.specs.Program.{Setting}
use Rattle.star_outline.specs.Outlines.{outline}
use Rattle.star_meaning.specs.Module.{Local, Good, Stopped, local, union}

-- the statements of files, by their numbers
abbrev pub Trees : Type 0
Trees = List (Option (List Statement))

abbrev pub outlines : Trees → List (Option Outline)
outlines trees = map (option_map outline) trees

-- the statements of a file; one without a tree has none
abbrev pub statements_or_none : Option (List Statement) → List Statement
statements_or_none None = []
statements_or_none (Some ss) = ss

abbrev pub statements_of : Trees → ℕ → List Statement
statements_of trees file = statements_or_none (option_flatten (slice_get trees file))

-- the modules that a good outcome reaches, itself among them
abbrev pub reached : Local → Shelf
reached (Good shelf globals texts lines) = shelf
reached (Stopped f lines) = []

-- the environment of a file's run: the trees of all files, the file of each of its load statements, the prelude's file,
-- the language, and the outcomes of its loads
abbrev pub setting : ℕ → Trees → List (ℕ × ℕ) → Option ℕ → Language → List Local → Setting
setting file trees loads prelude language outcomes =
    record {
      home = file;
      outlines = outlines trees;
      shelf = union (map reached outcomes);
      loads = loads;
      prelude = prelude;
      language = language;
    }

-- the local meaning of a file in a mode: the run of its statements, in the language and with the steps that it has, over
-- all that its loads reach, and the texts of its globals
abbrev pub local_meaning : ℕ → Trees → List (ℕ × ℕ) → Option ℕ → List Local → Mode → Local
local_meaning file trees loads prelude outcomes mode =
    local (setting file trees loads prelude mode.language outcomes) mode.steps (statements_of trees file)
