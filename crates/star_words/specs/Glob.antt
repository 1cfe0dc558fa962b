-- Patterns with `*` and `?`, and the names that they match.
use Rattle.std.specs.Prelude.{◌≡◌, ◌≢◌, ◌⊎◌, ℕ, List, [], ◌∷◌, ◌++◌}

-- the first byte of a pattern matches the front of the name, and the rest of the pattern the rest of it: `*`, 42,
-- matches any bytes, `?`, 63, one byte, and any other itself
abbrev pub MatchesFrom : ℕ → (List ℕ → Type 0) → List ℕ → Type 0
MatchesFrom first more name =
    ((first ≡ 42) × (front : List ℕ) × (rest : List ℕ) × (name ≡ front ++ rest) × more rest)
    ⊎ ((first ≢ 42) × (byte : ℕ) × (rest : List ℕ) × (name ≡ byte ∷ rest) × ((first ≡ 63) ⊎ (first ≡ byte)) × more rest)

unfoldable pub Matches : List ℕ → List ℕ → Type 0
Matches [] name = name ≡ []
Matches (first ∷ more) name = MatchesFrom first (Matches more) name

-- the pattern matches neither the name nor any end of it
abbrev pub MatchesNoEnd : List ℕ → List ℕ → Type 0
MatchesNoEnd pattern name = (front rest : List ℕ) → name ≡ front ++ rest → Matches pattern rest → ⊥
