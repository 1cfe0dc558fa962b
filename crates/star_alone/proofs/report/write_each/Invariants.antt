use Rattle.star_alone.proofs.Pages.{AreSoFar}
use Rattle.star_alone.proofs.report.write_each.Given as goal

abbrev pub invariant-loop-i : goal.invariant-loop-i
invariant-loop-i l = AreSoFar l.wanted l.files l.causes l.initial.pages l.i l.pages
