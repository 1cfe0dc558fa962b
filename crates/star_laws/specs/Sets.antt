-- Sets: what merged sets hold.
use Rattle.std.specs.Prelude.{◌≡◌, Bool, false, not, ◌&&◌, ◌||◌, List, [], ◌∷◌, Option, map}
use Rattle.std.specs.List.{list_all, list_any}
use Rattle.star_store.specs.declared.values.Value.{Value}
use Rattle.star_store.specs.declared.values.Cell.{Cell}
use Rattle.star_store.specs.Key.{key_levels, same_key}
use Rattle.star_meaning.specs.declared.merge.Merge.{Merge}
use Rattle.star_meaning.specs.declared.merge.Merge.TheVariants as merge
use Rattle.star_meaning.specs.Program.{Setting, seen}
use Rattle.star_meaning.specs.Run.{State}
use Rattle.star_meaning.specs.Sets.{has_element, merged}

-- whether a value is the same key as one of some items
abbrev pub is_among : (Value → Option Cell) → List Value → Value → Bool
is_among look ys x = list_any (same_key look key_levels x) ys

-- whether a value is in a merged set, by whether it is in the set itself, and in each of the others
abbrev pub holds : Merge → Bool → List Bool → Bool
holds merge.Union own others = own || list_any (λ b. b) others
holds merge.Intersection own others = own && list_all (λ b. b) others
holds merge.Difference own others = own && not (list_any (λ b. b) others)
holds merge.SymmetricDifference own others =
    (own && not (list_any (λ b. b) others)) || (not own && list_any (λ b. b) others)

-- The law: what a merged set holds follows from what the set and each of the others hold.
abbrev pub MergedSetsHold : Type 0
MergedSetsHold = (w : Setting) (s : State) (m : Merge) (es : List (Value × Value)) (xss : List (List Value)) (x : Value)
    → has_element w s (merged w s m es xss) x
    ≡ holds m (has_element w s es x) (map (λ xs. is_among (seen w s) xs x) xss)

-- no element is the same key as a later one
abbrev pub ElementsDiffer : Setting → State → List (Value × Value) → Type 0
ElementsDiffer w s [] = Unit {0}
ElementsDiffer w s (e ∷ es) = (has_element w s es e.0 ≡ false) × ElementsDiffer w s es

-- The law: if the elements of a set differ, those of the merged set do.
abbrev pub MergedSetsDiffer : Type 0
MergedSetsDiffer = (w : Setting) (s : State) (m : Merge) (es : List (Value × Value)) (xss : List (List Value))
    → ElementsDiffer w s es → ElementsDiffer w s (merged w s m es xss)
