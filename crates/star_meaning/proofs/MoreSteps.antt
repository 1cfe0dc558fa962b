-- A file that does not end for want of steps means the same with more steps, by induction on the levels that may still
-- be opened.
use Rattle.std.proofs.Common.{◌≡◌, ℕ, ◌+◌, List, refl, false}
use Rattle.star_store.specs.declared.values.Value.{Value}
use Rattle.star_tree.specs.declared.tree.Statement.{Statement}
use Rattle.star_meaning.specs.Run.{Outcome, Done, Failed}
use Rattle.star_meaning.specs.Program.{Setting, Variables}
use Rattle.star_meaning.specs.Variables.{by_names}
use Rattle.star_meaning.specs.Module.{meaning, end, Ended, run_file, local, local_of, start, most_levels}
use Rattle.star_meaning.specs.Laws.{IsNotForSteps}
use Rattle.star_meaning.proofs.Extends.{NotForSteps, later}
use Rattle.star_meaning.proofs.Keeps.{keeps, Keeps, AllKeep, VariablesKeep}
use Rattle.star_meaning.proofs.Runs.{meaning_keeps, names_keep}
use Rattle.star_meaning.proofs.KeepsModule.{keeps-global_text}

keeps-end : (w : Setting) (levels line : ℕ) (frame : Value) → Keeps false (end w levels line frame)
keeps-end w levels line frame = search (keeps, keeps-global_text) depth 14

keeps-run_file : (vs : Variables) (w : Setting) (levels : ℕ) (ss : List Statement) → VariablesKeep vs → AllKeep (meaning vs w levels) → Keeps false (run_file vs w levels ss)
keeps-run_file vs w levels ss k h = search (keeps, keeps-end) depth 14

local_later : (w : Setting) (k : ℕ) (o o' : Outcome Ended) → (NotForSteps o → o' ≡ later k o) → IsNotForSteps (local_of w o) → local_of w o' ≡ local_of w o
local_later w k (Done x t) o' h n = rw (h tt) refl
local_later w k (Failed f lines) o' h n = rw (h n) refl

pub local_more : (w : Setting) (steps more : ℕ) (ss : List Statement) → IsNotForSteps (local w steps ss) → local w (steps + more) ss ≡ local w steps ss
local_more w steps more ss n = local_later w more (run_file (by_names w) w most_levels ss (start w steps)) (run_file (by_names w) w most_levels ss (start w (steps + more)))
    ((keeps-run_file (by_names w) w most_levels ss (names_keep w) (meaning_keeps (by_names w) w most_levels (names_keep w))).extends.holds more (start w steps)) n
