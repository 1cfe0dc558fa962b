-- Prefixes and suffixes of strings, strings found in others, and letters in another case.
use Rattle.std.specs.Prelude.{ℕ, nat_eq, Bool, List, [], ◌∷◌, ◌++◌, length, map, Option, ℤ, pos}
use Rattle.std.specs.List.{ends_with, list_any, starts_with}
use Rattle.star_store.specs.declared.values.Value.{Value}
use Rattle.star_meaning.specs.declared.fault.FaultCode.TheVariants as code
use Rattle.star_meaning.specs.Run.{State, Action, and_then, found, give}
use Rattle.star_meaning.specs.Program.{Setting}
use Rattle.star_machine.specs.Kinds.{bytes_of}
use Rattle.star_meaning.specs.Operators.{place_between}
use Rattle.star_meaning.specs.TextMethods.{end_of, place_or_none, texts_of}
use Rattle.star_meaning.specs.Texts.{lower, upper, joined}
use Rattle.star_meaning.specs.Values.{content}
use Rattle.star_method.specs.declared.texts.Case.{Case}
use Rattle.star_method.specs.declared.texts.Case.TheVariants as case
use Rattle.star_method.specs.declared.texts.Edge.{Edge}
use Rattle.star_method.specs.declared.texts.Edge.TheVariants as edge

-- a byte whose letter is in this case
abbrev pub in_case : Case → ℕ → ℕ
in_case case.Lower = lower
in_case case.Upper = upper

-- whether a string begins or ends with a part
abbrev pub at_edge : Edge → List ℕ → List ℕ → Bool
at_edge edge.Front = starts_with nat_eq
at_edge edge.End = ends_with nat_eq

-- whether a string begins or ends with one of the texts that a choice means, `type` if it means none
abbrev pub any_at_edge : Setting → ℕ → Edge → Value → (State → Option (List (List ℕ))) → Action Bool
any_at_edge w line edge text choice = λ s.
    and_then (found code.BadType line (choice s) s)
    (λ us. give (list_any (at_edge edge (bytes_of (content w s text))) us))

-- the strings that values are, with another one between them, `type` if one is not a string
abbrev pub joined_by : Setting → ℕ → List ℕ → List Value → Action (List ℕ)
joined_by w line by xs = λ s. and_then (found code.BadType line (texts_of w s xs) s) (λ us. give (joined by us))

-- the answer of `find`: the least place between two ends, else -1
abbrev pub found_between : List ℕ → List ℕ → Option ℤ → Option ℤ → ℤ
found_between t u a b =
    place_or_none (place_between t u (end_of (length t) (pos 0) a) (end_of (length t) (pos (length t)) b))

-- the bytes of each of some strings
abbrev pub bytes_each : Setting → State → List Value → List (List ℕ)
bytes_each w s xs = map (λ x. bytes_of (content w s x)) xs

-- strings, each after another one
abbrev pub each_after : List ℕ → List (List ℕ) → List ℕ
each_after by [] = []
each_after by (u ∷ us) = by ++ u ++ each_after by us
