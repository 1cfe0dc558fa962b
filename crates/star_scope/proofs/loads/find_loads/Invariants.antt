use Rattle.std.proofs.Common.{None, take}
use Rattle.star_label.specs.Label.{package_of}
use Rattle.star_label.specs.Files.{label_at}
use Rattle.star_scope.specs.Loads.{Adds, prelude_loads, written}
use Rattle.star_scope.proofs.loads.find_loads.Given as goal

abbrev pub invariant-loop-statement : goal.invariant-loop-statement
invariant-loop-statement l = Adds l.files (package_of (label_at l.files l.n)) (written (take l.statement-index l.statements)) (prelude_loads l.fn.prelude) l.loads.loads.items None l.loads.first
