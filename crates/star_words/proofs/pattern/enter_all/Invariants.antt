use Rattle.std.proofs.Common.{◌≡◌, ◌+◌, ◌≤◌, List, ℕ, length, vec_len}
use Rattle.star_words.specs.Below.{IsThere, IsWalked, left_out}
use Rattle.star_words.proofs.pattern.enter_all.Given as goal

abbrev pub invariant-loop-name : goal.invariant-loop-name
invariant-loop-name l = record {
  walked : (top : List ℕ) → IsThere (left_out l.filter) top l.path → IsWalked top l.filter l.initial.walk → IsWalked top l.filter l.walk;
  listed : l.walk.listed ≡ l.initial.walk.listed;
  places : vec_len l.walk.places + length l.entries.entries ≤ vec_len l.initial.walk.places + length l.initial.entries.entries;
}

abbrev pub decreases-loop-name : goal.decreases-loop-name
decreases-loop-name l = length l.entries.entries
