use Rattle.std.proofs.Common.{◌≡◌, ◌<◌, length, vec_len}
use Rattle.std.specs.Prelude.{All}
use Rattle.serve_tests.proofs.runs.all_roots.Given as goal

abbrev pub invariant-loop-n : goal.invariant-loop-n
invariant-loop-n l = (vec_len l.roots ≡ l.n) × All (λ n. n < length l.files) l.roots.items
