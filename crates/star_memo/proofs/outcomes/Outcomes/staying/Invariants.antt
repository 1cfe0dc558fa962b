use Rattle.star_memo.specs.Outcomes.{AreStaying}
use Rattle.star_memo.proofs.outcomes.Outcomes.staying.Given as goal

abbrev pub invariant-loop : goal.invariant-loop
invariant-loop g l = AreStaying l.compared.before l.compared.files l.self.all.items l.marks.items
