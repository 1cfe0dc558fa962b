use Rattle.std.proofs.Common.{◌≡◌, ◌<◌, ℕ}
use Rattle.std.specs.Prelude.{slice_index_or}
use Rattle.star_cache.specs.State.{HasEnded}
use Rattle.star_cache.proofs.book.Book.have_ended.Given as goal

abbrev pub invariant-loop-n : goal.invariant-loop-n
invariant-loop-n g l = (k d : ℕ) → k < l.n-index → HasEnded l.self (slice_index_or l.files k d)
