-- The first cut of a string.
use denote.Ref.{Bor}
use Rattle.std.specs.Prelude.{◌≡◌, ◌<◌, ℕ, List, [], ◌∷◌, Option, MatchOption, length}
use Rattle.star_meaning.specs.Texts.{one_less, parts}

-- a string is cut into the part before its first cut and a shorter text after it; or it is not cut
abbrev pub IsFirstCut : List ℕ → List ℕ → Option ℕ → Option (Bor (List ℕ) × Bor (List ℕ)) → Type 0
IsFirstCut t by left r = MatchOption r (parts t by left ≡ t ∷ [])
    (λ x. (parts t by left ≡ x.0.now ∷ parts x.1.now by (one_less left)) × (length x.1.now < length t))
