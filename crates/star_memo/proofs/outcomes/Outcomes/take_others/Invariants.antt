use Rattle.std.proofs.Common.{◌≡◌, ◌<◌, ℕ, Some, slice_get}
use Rattle.std.specs.Prelude.{vec_len}
use Rattle.star_outcome.specs.declared.good_end.GoodEnd.{GoodEnd}
use Rattle.star_reading.specs.Found.{IsMarked}
use Rattle.star_memo.specs.Outcomes.{AreAmong}
use Rattle.star_memo.proofs.outcomes.Outcomes.take_others.Given as goal

abbrev pub invariant-loop-n : goal.invariant-loop-n
invariant-loop-n l = record {
  sized : vec_len l.self.all ≡ vec_len l.initial.self.all;
  terms : l.self.terms ≡ l.initial.self.terms;
  before : AreAmong l.initial.self.all.items l.self.all.items;
  marked : (k : ℕ) (e : GoodEnd) → slice_get l.self.all.items k ≡ Some (Some e) → k < l.n → IsMarked l.marks k;
  count : vec_len l.taken ≡ l.n;
  taken : AreAmong l.initial.self.all.items l.taken.items;
}
