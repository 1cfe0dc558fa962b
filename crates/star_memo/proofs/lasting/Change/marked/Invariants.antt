use Rattle.star_memo.specs.Lasting.{AllLastOver}
use Rattle.star_memo.proofs.lasting.Change.marked.Given as goal

abbrev pub invariant-loop : goal.invariant-loop
invariant-loop g l = AllLastOver l.self l.marks.items
