use Rattle.std.proofs.Common.{◌≡◌, ℕ, ◌<◌}
use Rattle.star_label.specs.Files.{text_at}
use Rattle.star_memo.proofs.outcomes.have_texts.Given as goal

abbrev pub invariant-loop-n : goal.invariant-loop-n
invariant-loop-n l = (k : ℕ) → k < l.n → text_at l.compared.before k ≡ text_at l.compared.files k
