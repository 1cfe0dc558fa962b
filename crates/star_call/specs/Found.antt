-- Keyword arguments that are found by their names, and the keywords of parameters.
use Rattle.std.specs.Prelude.{◌≡◌, ℕ, Bool, List, Option, Some, None}
use Rattle.std.specs.List.{list_any}
use denote.Ref.{Bor}
use Rattle.std.specs.Ordering.{nat_cmp}
use Rattle.std.specs.Cmp.Lexicographic.{slice_cmp}
use Rattle.std.specs.BTreeMap.{BTreeMap, get_by}
use Rattle.star_store.specs.declared.values.Value.{Value}
use Rattle.star_meaning.specs.declared.given.KeywordArgument.{KeywordArgument}
use Rattle.star_outline.specs.Names.{same_name}
use Rattle.star_meaning.specs.Binding.{value_named}
use Rattle.star_call.specs.Seen.{has}

-- the value that a map has for a name
abbrev pub value_in : BTreeMap (Bor (List ℕ)) Value → List ℕ → Option Value
value_in first name = get_by (λ k. slice_cmp nat_cmp name k.now) first

-- the value of a name among these: by the map, if there is one
abbrev pub found_in : List KeywordArgument → Option (BTreeMap (Bor (List ℕ)) Value) → List ℕ → Option Value
found_in ns None name = value_named name ns
found_in ns (Some first) name = value_in first name

-- each name is found with the first of its values
abbrev pub AreFound : List KeywordArgument → Option (BTreeMap (Bor (List ℕ)) Value) → Type 0
AreFound ns first = (name : List ℕ) → found_in ns first name ≡ value_named name ns

-- whether a name is one of these keywords: by the map of them, if there is one
abbrev pub own_in : List (List ℕ) → Option (BTreeMap (Bor (List ℕ)) (Unit {0})) → List ℕ → Bool
own_in own None name = list_any (same_name name) own
own_in own (Some names) name = has names name

-- each keyword is found, and no other name
abbrev pub AreOwn : List (List ℕ) → Option (BTreeMap (Bor (List ℕ)) (Unit {0})) → Type 0
AreOwn own names = (name : List ℕ) → own_in own names name ≡ list_any (same_name name) own
