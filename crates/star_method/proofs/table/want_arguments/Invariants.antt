use Rattle.std.proofs.Common.{◌≡◌, length}
use Rattle.star_machine.specs.Refines.{with_front}
use Rattle.star_meaning.specs.TableMethods.{want_arguments}
use Rattle.star_method.proofs.table.want_arguments.Given as goal

abbrev pub invariant-loop-values : goal.invariant-loop-values
invariant-loop-values l =
    with_front l.given (want_arguments l.setting l.line l.kinds l.values l.machine) ≡ want_arguments l.setting l.line l.fn.kinds l.fn.values l.machine

abbrev pub decreases-loop-values : goal.decreases-loop-values
decreases-loop-values l = length l.values
