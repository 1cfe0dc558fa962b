-- The environment of a run: its setting, and the programs of all files.
use Rattle.std.specs.Prelude.{◌≡◌, ℕ, List, Option}
use Rattle.star_dialect.specs.declared.Language.{Language}
use Rattle.star_scope.specs.declared.loads.Load.{Load}
use Rattle.star_store.specs.Store.{Shelf}
use Rattle.star_meaning.specs.Local.{outlines}
use Rattle.star_meaning.specs.Semantics.{Semantics}
use Rattle.star_meaning.specs.Module.{meaning}
use Rattle.star_meaning.specs.Places.{by_places}
use Rattle.star_meaning.specs.Program.{Setting, Variables}
use Rattle.star_meaning.specs.Programs.{Files, load_files, tables_of, trees_of}

pub record World : Type 0 where
  pub setting : Setting
  pub files : Files

-- the outlines that the setting has are the outlines of the files
abbrev pub AreOutlined : Setting → Files → Type 0
AreOutlined w files = w.outlines ≡ outlines (trees_of files)

-- the environment of a file's run: the file, the stores that it reaches, the programs of all files, its own loads, the
-- prelude's file, and the language
abbrev pub world_of : ℕ → Shelf → Files → List Load → Option ℕ → Language → World
world_of home shelf files loads prelude language = record {
  setting = record {
    home = home;
    outlines = outlines (trees_of files);
    shelf = shelf;
    loads = load_files loads;
    prelude = prelude;
    language = language;
  };
  files = files;
}

-- variables by their places
abbrev pub variables : World → Variables
variables w = by_places (tables_of w.files) w.setting

-- the meaning of each part of a program, if this many levels may be opened
abbrev pub semantics : World → ℕ → Semantics
semantics w levels = meaning (variables w) w.setting levels
