use Rattle.std.proofs.Common.{◌+◌, ◌≤◌, drop}
use Rattle.star_memo.specs.Parses.{kept_bytes}
use Rattle.star_memo.proofs.parses.Parses.bytes.Given as goal

abbrev pub invariant-loop-n : goal.invariant-loop-n
invariant-loop-n l = l.bytes + kept_bytes (drop l.n l.files) (drop l.n l.self.all.items) ≤ kept_bytes l.files l.self.all.items
