-- A test of a grammar: each round takes a leaf, and a part comes back to itself only after a leaf or at a lower rank.
use Rattle.std.proofs.Common.{◌≡◌, ℕ, zero, suc, ◌+◌, ◌<◌, ◌≤◌, min, Bool, true, ◌&&◌}
use Rattle.std.specs.Prelude.{nat_le, nat_lt}
use Rattle.star_syntax.specs.Sorts.{Sort}
use Rattle.star_syntax.specs.Grammar.{Rule, sort, Part, terminal, empty, seq, alt, fold, act, when, placed, nonterminal}

-- the least number of leaves of a part
abbrev pub cost : {s : Sort} → Part s → ℕ
cost (terminal p) = 1
cost empty = 0
cost (seq g h) = cost g + cost h
cost (alt g h) = min (cost g) (cost h)
cost (fold f g h) = cost g
cost (act f g) = cost g
cost (when f g) = cost g
cost (placed g) = cost g
cost (nonterminal r) = 1

-- the rank that a part must stay below after a part of a cost
abbrev pub rank_after : ℕ → ℕ → ℕ → ℕ
rank_after ranks zero m = m
rank_after ranks (suc c) m = ranks

abbrev pub safe : (Rule → ℕ) → ℕ → ℕ → {s : Sort} → Part s → Bool
safe rank ranks m (terminal p) = true
safe rank ranks m empty = true
safe rank ranks m (seq g h) = safe rank ranks m g && safe rank ranks (rank_after ranks (cost g) m) h
safe rank ranks m (alt g h) = safe rank ranks m g && safe rank ranks m h
safe rank ranks m (fold f g h) = safe rank ranks m g && (safe rank ranks (rank_after ranks (cost g) m) h && nat_le 1 (cost h))
safe rank ranks m (act f g) = safe rank ranks m g
safe rank ranks m (when f g) = safe rank ranks m g
safe rank ranks m (placed g) = safe rank ranks m g && nat_le 1 (cost g)
safe rank ranks m (nonterminal r) = nat_lt (rank r) m

pub record Sound (rule : (r : Rule) → Part (sort r)) (rank : Rule → ℕ) (ranks : ℕ) : Type 0 where
  pub below : (r : Rule) → rank r < ranks
  pub costs : (r : Rule) → 1 ≤ cost (rule r)
  pub safe' : (r : Rule) → safe rank ranks (rank r) (rule r) ≡ true
