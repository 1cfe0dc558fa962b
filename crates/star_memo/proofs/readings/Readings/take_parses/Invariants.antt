use Rattle.std.proofs.Common.{◌≡◌, ◌<◌, ◌≤◌, ℕ, None, get_or}
use Rattle.std.specs.Prelude.{IsSome, vec_len}
use Rattle.star_reading.specs.Parsed.{AreParsesOf}
use Rattle.star_memo.specs.Parses.{Has}
use Rattle.star_memo.proofs.readings.Readings.take_parses.Given as goal

abbrev pub invariant-loop-n : goal.invariant-loop-n
invariant-loop-n g l = record {
  reads : l.self.reads ≡ l.initial.self.reads;
  prelude : l.self.prelude ≡ l.initial.self.prelude;
  language : l.self.language ≡ l.initial.self.language;
  parses : AreParsesOf l.files l.self.parses.items;
  size : vec_len l.parses.all ≤ vec_len l.self.parses;
  all : (k : ℕ) → k < l.n → Has l.parses.all.items k → IsSome (get_or l.self.parses.items k None);
}
