use Rattle.std.proofs.Common.{◌≡◌, ℕ, ◌<◌}
use Rattle.star_label.specs.Files.{label_at}
use Rattle.star_memo.proofs.compared.have_labels.Given as goal

abbrev pub invariant-loop-n : goal.invariant-loop-n
invariant-loop-n l = (k : ℕ) → k < l.n → label_at l.before k ≡ label_at l.files k
