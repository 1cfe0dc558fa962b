-- Sets of file numbers: a bit for each number, 64 in a word.
use Rattle.std.specs.Prelude.{◌≡◌, ◌<◌, ◌↔◌, ◌/◌, ◌%◌, ℕ, List, Contains, length, map, slice_index}
use Rattle.std.specs.Int.{bit_at}
use Rattle.star_outcome.specs.Reaches.{ReachView}
use Rattle.star_outcome.specs.declared.numbers.NumberWord.{NumberWord}

-- the set of these words has the number k: bit k mod 64 of word k / 64 is 1
unfoldable pub Has : List ℕ → ℕ → Type 0
Has words k = bit_at (slice_index words (k / 64)) (k % 64) ≡ 1

-- the set has a word for the number k
unfoldable pub HasRoom : List ℕ → ℕ → Type 0
HasRoom words k = k / 64 < length words

-- this word is the one for the number k, and has it
unfoldable pub IsIn : NumberWord → ℕ → Type 0
IsIn w k = (w.index ≡ k / 64) × (bit_at w.bits (k % 64) ≡ 1)

-- one of these words has the number k. Words without a number may be left out of them
abbrev pub HasAmong : List NumberWord → ℕ → Type 0
HasAmong ws k = (w : NumberWord) × Contains ws w × IsIn w k

-- these words have the numbers of these stores' files, and no others
abbrev pub AreNumbersOf : List NumberWord → List ReachView → Type 0
AreNumbersOf ws rs = (k : ℕ) → HasAmong ws k ↔ Contains (map (λ r. r.number) rs) k
