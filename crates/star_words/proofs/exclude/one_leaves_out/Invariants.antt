use Rattle.std.proofs.Common.{◌≡◌, ◌∷◌, ℕ, List, take}
use Rattle.star_words.specs.Excluded.{OneLeavesOut}
use Rattle.star_words.specs.Named.{texts_of}
use Rattle.star_words.proofs.exclude.one_leaves_out.Given as goal

abbrev pub invariant-loop-pattern : goal.invariant-loop-pattern
invariant-loop-pattern l = (path : List ℕ) → l.rooted ≡ 47 ∷ path → OneLeavesOut (texts_of (take l.pattern-index l.patterns)) l.kind path l.name → ⊥
