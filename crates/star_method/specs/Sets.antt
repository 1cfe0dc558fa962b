-- Sets of characters.
use Rattle.std.specs.Prelude.{◌≡◌, ℕ, Bool, List, Option, Some, None}
use denote.Ref.{Bor}
use Rattle.std.specs.Option.{is_some}
use Rattle.std.specs.Ordering.{nat_cmp}
use Rattle.std.specs.Cmp.Lexicographic.{slice_cmp}
use Rattle.std.specs.BTreeMap.{BTreeMap, get_by}
use Rattle.star_meaning.specs.Texts.{is_blank, is_in}
use Rattle.star_method.specs.declared.characters.Set.{Set}
use Rattle.star_method.specs.declared.characters.Set.TheVariants as set

-- whether a character is in a set
abbrev pub test_of : Set → List ℕ → Bool
test_of set.Blanks = is_blank
test_of (set.Of t) = is_in t

-- whether a character is in a map
abbrev pub has : BTreeMap (Bor (List ℕ)) (Unit {0}) → List ℕ → Bool
has found character = is_some (get_by (λ k. slice_cmp nat_cmp character k.now) found)

-- whether a character is in a set: by the map of its characters, if there is one
abbrev pub found_in : Set → Option (BTreeMap (Bor (List ℕ)) (Unit {0})) → List ℕ → Bool
found_in s None character = test_of s character
found_in s (Some found) character = has found character

-- the characters of a set are found
abbrev pub AreFound : Set → Option (BTreeMap (Bor (List ℕ)) (Unit {0})) → Type 0
AreFound s found = (character : List ℕ) → found_in s found character ≡ test_of s character
