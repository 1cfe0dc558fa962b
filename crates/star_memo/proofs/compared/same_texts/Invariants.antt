use Rattle.std.proofs.Common.{◌≡◌, ◌<◌, ℕ, true, length}
use Rattle.std.specs.Prelude.{vec_len}
use Rattle.star_label.specs.Files.{text_at}
use Rattle.star_memo.specs.Outcomes.{is_marked}
use Rattle.star_memo.proofs.compared.same_texts.Given as goal

abbrev pub invariant-loop-n : goal.invariant-loop-n
invariant-loop-n l = record {
  count : vec_len l.same ≡ l.n;
  texts : (k : ℕ) → is_marked l.same.items k ≡ true → text_at l.before k ≡ text_at l.files k;
  each : (k : ℕ) → k < l.n → k < length l.before → text_at l.before k ≡ text_at l.files k → is_marked l.same.items k ≡ true;
}
