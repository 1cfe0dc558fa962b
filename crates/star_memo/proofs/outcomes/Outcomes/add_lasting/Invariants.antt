use Rattle.std.proofs.Common.{◌≡◌}
use Rattle.std.specs.Prelude.{vec_len}
use Rattle.star_memo.specs.Outcomes.{AreAmong}
use Rattle.star_memo.proofs.EndsLast.{AreOrStale}
use Rattle.star_memo.proofs.outcomes.Outcomes.add_lasting.Given as goal

abbrev pub invariant-loop-n : goal.invariant-loop-n
invariant-loop-n l = record {
  sized : vec_len l.former ≡ vec_len l.initial.former;
  terms : l.self.terms ≡ l.initial.self.terms;
  rest : AreAmong l.initial.former.items l.former.items;
  all : AreOrStale l.marks l.initial.former.items l.initial.self.all.items l.self.all.items;
}
