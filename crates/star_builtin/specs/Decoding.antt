-- The names of an object that is decoded.
use Rattle.std.specs.Prelude.{◌≡◌, ℕ, List, map, reverse}
use denote.Ref.{Bor}
use Rattle.std.specs.List.{list_any}
use Rattle.std.specs.BTreeMap.{BTreeMap}
use Rattle.star_outline.specs.Names.{same_name}
use Rattle.star_method.specs.Sets.{has}

-- names as their bytes, the last first
abbrev pub back : List (Bor (List ℕ)) → List (List ℕ)
back names = reverse (map (λ n. n.now) names)

-- just these names are in a map
abbrev pub HaveNames : BTreeMap (Bor (List ℕ)) (Unit {0}) → List (List ℕ) → Type 0
HaveNames found names = (name : List ℕ) → has found name ≡ list_any (same_name name) names
