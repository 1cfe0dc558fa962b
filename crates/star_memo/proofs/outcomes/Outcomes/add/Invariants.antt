use Rattle.std.proofs.Common.{◌≡◌}
use Rattle.std.specs.Prelude.{vec_len}
use Rattle.star_memo.specs.Outcomes.{AreAmong}
use Rattle.star_memo.proofs.EndsLast.{AreOrAmong}
use Rattle.star_memo.proofs.outcomes.Outcomes.add.Given as goal

abbrev pub invariant-loop-n : goal.invariant-loop-n
invariant-loop-n l = record {
  sized : vec_len l.rest ≡ vec_len l.fn.ends;
  terms : l.self.terms ≡ l.initial.self.terms;
  rest : AreAmong l.fn.ends.items l.rest.items;
  all : AreOrAmong l.fn.ends.items l.initial.self.all.items l.self.all.items;
}
