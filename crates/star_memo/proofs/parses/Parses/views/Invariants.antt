use Rattle.std.proofs.Common.{◌≡◌, ◌<◌, ℕ, None, get_or}
use Rattle.std.specs.Prelude.{IsSome, vec_len}
use Rattle.star_reading.specs.Parsed.{AreParsesOf}
use Rattle.star_memo.specs.Parses.{Has}
use Rattle.star_memo.proofs.parses.Parses.views.Given as goal

abbrev pub invariant-loop-n : goal.invariant-loop-n
invariant-loop-n l = record {
  views : AreParsesOf l.files l.views.items;
  count : vec_len l.views ≡ l.n;
  all : (k : ℕ) → k < l.n → Has l.self.all.items k → IsSome (get_or l.views.items k None);
}
