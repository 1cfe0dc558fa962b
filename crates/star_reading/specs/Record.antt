-- Which names a host may have whose calls are recorded.
use Rattle.std.specs.Prelude.{ℕ, nat_le, Bool, false, not, ◌&&◌, ◌||◌, nat_eq, List, [], ◌∷◌}
use Rattle.std.specs.List.{list_all}
use Rattle.std.specs.Prelude.{is_some}
use Rattle.star_dialect.specs.declared.Dialect.TheVariants.{Extended}
use Rattle.star_lex.specs.Tokens.{keyword}
use Rattle.star_outline.specs.Names.{has_name}
use Rattle.star_scope.specs.Places.{own_names}

-- a letter or `_`
abbrev pub begins_word : ℕ → Bool
begins_word b = (nat_le 65 b && nat_le b 90) || ((nat_le 97 b && nat_le b 122) || nat_eq b 95)

-- or a digit
abbrev pub goes_on : ℕ → Bool
goes_on b = begins_word b || (nat_le 48 b && nat_le b 57)

-- a word: letters, digits and `_`, and no digit first
abbrev pub is_word : List ℕ → Bool
is_word [] = false
is_word (b ∷ bs) = begins_word b && list_all goes_on bs

-- a word that is no keyword, reserved ones included, and none of the extended language's outermost block
abbrev pub is_recordable : List ℕ → Bool
is_recordable name = is_word name && (not (is_some (keyword name)) && not (has_name (own_names Extended) name))

abbrev pub are_recordable : List (List ℕ) → Bool
are_recordable names = list_all is_recordable names
