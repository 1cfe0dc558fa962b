-- The run of a file keeps its module.
use Rattle.std.proofs.Common.{◌≡◌, ℕ, List, false, subst}
use Rattle.star_store.specs.declared.values.Value.{Value}
use Rattle.star_tree.specs.declared.tree.Statement.{Statement}
use Rattle.star_meaning.specs.Run.{Done, State}
use Rattle.star_meaning.specs.Program.{Setting, Variables}
use Rattle.star_meaning.specs.Variables.{by_names}
use Rattle.star_meaning.specs.Laws.{Grown}
use Rattle.star_meaning.specs.Module.{Ended, end, meaning, most_levels, run_file, start}
use Rattle.star_meaning.proofs.Keeps.{AllKeep, Keeps, VariablesKeep, keeps}
use Rattle.star_meaning.proofs.KeepsModule.{keeps-global_text}
use Rattle.star_meaning.proofs.Runs.{meaning_keeps, names_keep}

keeps-end : (w : Setting) (levels line : ℕ) (frame : Value) → Keeps false (end w levels line frame)
keeps-end w levels line frame = search (keeps, keeps-global_text) depth 14

keeps-run_file : (vs : Variables) (w : Setting) (levels : ℕ) (ss : List Statement) → VariablesKeep vs → AllKeep (meaning vs w levels) → Keeps false (run_file vs w levels ss)
keeps-run_file vs w levels ss k h = search (keeps, keeps-end) depth 14

-- after a run that ends well the module is the same
pub ends_at_home : (w : Setting) (ss : List Statement) (steps : ℕ) (e : Ended) (t : State) → run_file (by_names w) w most_levels ss (start w steps) ≡ Done e t → t.store.home ≡ w.home
ends_at_home w ss steps e t is = (subst (Grown (start w steps)) is ((keeps-run_file (by_names w) w most_levels ss (names_keep w) (meaning_keeps (by_names w) w most_levels (names_keep w))).grows.holds (start w steps))).home
