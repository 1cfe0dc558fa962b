use Rattle.std.proofs.Common.{◌≡◌, ◌<◌, ℕ, Some}
use Rattle.std.specs.Prelude.{slice_get}
use Rattle.star_tree.specs.declared.tree.LoadedName.{LoadedName}
use Rattle.star_memo.specs.Lasting.{IsShared}
use Rattle.star_memo.proofs.lasting.share_names.Given as goal

abbrev pub invariant-loop-name : goal.invariant-loop-name
invariant-loop-name l = (k : ℕ) (name : LoadedName) → k < l.name-index → slice_get l.names k ≡ Some name → IsShared l.stores name.loaded.text
