-- The setting of a file among others.
use denote.Ref.{Bor}
use Rattle.std.specs.Prelude.{ℕ, List, map, Option}
use Rattle.std.specs.Option.{option_map}
use Rattle.star_dialect.specs.declared.Language.{Language}
use Rattle.star_tree.specs.declared.tree.Statement.{Statement}
use Rattle.star_store.specs.Store.{Shelf}
use Rattle.star_scope.specs.declared.loads.Load.{Load}
use Rattle.star_meaning.specs.Local.{outlines}
use Rattle.star_meaning.specs.Program.{Setting}
use Rattle.star_meaning.specs.Programs.{load_files}

-- by the stores that it reaches, the statements of all files, its own loads, the prelude's file, and the language
abbrev pub setting_over : ℕ → Shelf → List (Option (Bor (List Statement))) → List Load → Option ℕ → Language → Setting
setting_over home shelf files loads prelude language = record {
  home = home;
  outlines = outlines (map (option_map (λ ss. ss.now)) files);
  shelf = shelf;
  loads = load_files loads;
  prelude = prelude;
  language = language;
}
