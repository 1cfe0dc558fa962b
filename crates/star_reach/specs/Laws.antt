-- The files that a plan of all files of a folder reaches, and those that the roots reach in the folder.
use Rattle.std.specs.Prelude.{◌≡◌, ◌<◌, ℕ, length, List, Some, Contains, map, option_map}
use Rattle.star_label.specs.Files.{File, label_at}
use Rattle.star_tree.specs.declared.tree.Statement.{Statement}
use Rattle.star_scope.specs.declared.loads.Load.{Load}
use Rattle.star_plan.specs.Plan.{Plan, Sound, read_of}
use Rattle.star_plan.specs.Reached.{IsReached}
use Rattle.star_plan.specs.Reading.{IsPlanOf}
use Rattle.star_repo.specs.Held.{Held}
use Rattle.star_repo.specs.Reach.{IsReachedOf, Words}
use Rattle.star_repo.specs.Laws.{AreAllFiles}

-- the labels of a plan's roots and of its prelude
abbrev pub words_of : List File → Plan → Words
words_of files plan =
    record { roots = map (label_at files) plan.roots; prelude = option_map (label_at files) plan.prelude }

-- the files that a plan of all files reaches are reached in the folder
abbrev pub PlansReachNoMore : Type 0
PlansReachNoMore =
    (held : Held) (files : List File) (plan : Plan) → AreAllFiles held files → IsPlanOf files plan
    → (n : ℕ) → IsReached plan n → IsReachedOf held (words_of files plan) (label_at files n)

-- no file that a plan reaches has a static fault
abbrev pub AllSound : Plan → Type 0
AllSound plan =
    (n : ℕ) → IsReached plan n → (ss : List Statement) × (loads : List Load) × (read_of plan n ≡ Some (Sound ss loads))

-- then a plan of all files, with a root, reaches each file at a label that is reached in the folder
abbrev pub PlansReachAll : Type 0
PlansReachAll =
    (held : Held) (files : List File) (plan : Plan) → AreAllFiles held files → IsPlanOf files plan → AllSound plan
    → (r : ℕ) → Contains plan.roots r → (l text : List ℕ) → IsReachedOf held (words_of files plan) l
    → held l ≡ Some text → (n : ℕ) × (n < length files) × (label_at files n ≡ l) × IsReached plan n
