use Rattle.std.proofs.Common.{◌≡◌, ◌<◌, ℕ, List, Some}
use Rattle.std.specs.Prelude.{slice_get}
use Rattle.star_tree.specs.declared.tree.Statement.{Statement}
use Rattle.star_memo.specs.Lasting.{IsShared, LoadsIt}
use Rattle.star_memo.proofs.lasting.shares_loads.Given as goal

abbrev pub invariant-loop-statement : goal.invariant-loop-statement
invariant-loop-statement l =
    (k : ℕ) (x : Statement) (name : List ℕ) → k < l.statement-index → slice_get l.program.statements.now k ≡ Some x → LoadsIt l.program.loads.items l.stores.file x name → IsShared l.stores name
