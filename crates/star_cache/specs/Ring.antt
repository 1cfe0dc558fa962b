-- Sixty-four files, each of which loads the next and the first, for tests.
use Rattle.std.specs.Prelude.{ℕ, ◌+◌, ◌%◌, List, [], ◌∷◌}

abbrev pub ring : ℕ → List ℕ
ring n = ((n + 1) % 64) ∷ 0 ∷ []
