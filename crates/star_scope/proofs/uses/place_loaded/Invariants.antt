use Rattle.std.proofs.Common.{take}
use Rattle.star_scope.specs.ResolvedNames.{Places}
use Rattle.star_scope.specs.Uses.{all_uses, loaded_use}
use Rattle.star_scope.proofs.uses.place_loaded.Given as goal

abbrev pub invariant-loop-name : goal.invariant-loop-name
invariant-loop-name l = Places l.scope (all_uses loaded_use (take l.name-index l.names) l.chain) l.fn.placed l.placed
