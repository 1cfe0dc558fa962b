-- Laws of what is hidden from a run.
use Rattle.std.specs.Prelude.{◌≡◌, ℕ, List, []}
use Rattle.star_store.specs.declared.values.Value.{Value}
use Rattle.star_tree.specs.declared.tree.Statement.{Statement}
use Rattle.star_scope.specs.Placement.{in_statements, misplaced, of_prelude}
use Rattle.star_meaning.specs.Run.{Done, Failed, Outcome, State}
use Rattle.star_meaning.specs.Program.{Setting, seen}
use Rattle.star_meaning.specs.Variables.{by_names}
use Rattle.star_meaning.specs.Module.{Ended, most_levels, run_file, start}
use Rattle.star_unseen.specs.Veil.{Every, Hides, IsVisible, StateIsVisible}
use Rattle.star_unseen.specs.Shelves.{LoadsAreShared, Veil, with_other}

-- The law: a visible value leads to the same cell over both shelves.
abbrev pub VisibleValuesAreSeen : Type 0
VisibleValuesAreSeen = (w : Setting) (k : Veil w) (s : State) (v : Value) → IsVisible k.hides v
    → seen w s v ≡ seen (with_other k.other w) s v

-- after a run that ended well neither a global nor a cell of the module's own leads to anything hidden
abbrev pub EndIsVisible : Hides → ℕ → Outcome Ended → Type 0
EndIsVisible hides home (Done e t) = Every (λ g. IsVisible hides g.1) e.globals × StateIsVisible hides home t
EndIsVisible hides home (Failed f lines) = Unit {0}

-- the run of a file with this many steps has the same outcome over both shelves and outlines, and a good end leads to
-- nothing hidden
abbrev pub RunsTheSame : (w : Setting) → Veil w → ℕ → List Statement → Type 0
RunsTheSame w k steps ss =
    (run_file (by_names w) w most_levels ss (start w steps)
    ≡ run_file (by_names (with_other k.other w)) (with_other k.other w) most_levels ss
    (start (with_other k.other w) steps))
    × EndIsVisible k.hides w.home (run_file (by_names w) w most_levels ss (start w steps))

-- The law: so it is for a file in which nothing is misplaced, if the globals that its own statements load are shared.
abbrev pub FilesRunTheSame : Type 0
FilesRunTheSame = (w : Setting) (k : Veil w) (steps : ℕ) (ss : List Statement) → misplaced ss ≡ []
    → Every (LoadsAreShared k) ss → RunsTheSame w k steps ss

-- The law: so it is for a file that may load nothing, as the prelude's may not.
abbrev pub FilesWithoutLoadsRunTheSame : Type 0
FilesWithoutLoadsRunTheSame = (w : Setting) (k : Veil w) (steps : ℕ) (ss : List Statement)
    → in_statements ss of_prelude ≡ [] → RunsTheSame w k steps ss
