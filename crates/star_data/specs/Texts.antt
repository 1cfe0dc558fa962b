-- The JSON of values, as it is written.
use Rattle.std.specs.Prelude.{◌≡◌, ℕ, List, [], ◌∷◌, ◌++◌, Bool, true, false, Option, Some, None}
use Rattle.std.specs.Option.{option_and_then, option_map}
use denote.Ref.{Bor}
use Rattle.json.specs.Token.{Token}
use Rattle.json.specs.Tree.{json_tokens}
use Rattle.serde_json.specs.Data.{Data, Members, member, no_members}
use Rattle.serde_json.specs.Written.{compact_text, outline}
use Rattle.star_store.specs.declared.values.Value.{Value}

-- the JSON of data comes after a text. If there is no data, the text is as it was
abbrev pub IsJson : Option Data → List ℕ → Bool → List ℕ → Type 0
IsJson None old is_data new = (is_data ≡ false) × (new ≡ old)
IsJson (Some d) old is_data new = (is_data ≡ true) × (new ≡ old ++ compact_text d)

-- the tokens of data were written, or the answer is that there is no data
abbrev pub Sends : Option Data → Bool → List Token → List Token → Type 0
Sends None is_data old new = is_data ≡ false
Sends (Some d) is_data old new = (is_data ≡ true) × (new ≡ old ++ json_tokens (outline d))

-- whether there is data
abbrev pub Says : Option Data → Bool → Type 0
Says None is_data = is_data ≡ false
Says (Some d) is_data = is_data ≡ true

-- a row of names with values, all of which are data
abbrev pub row_data : (Value → Option Data) → List (Bor (List ℕ) × Value) → Option Members
row_data f [] = Some no_members
row_data f (e ∷ es) = option_and_then (λ d. option_map (member e.0.now d) (row_data f es)) (f e.1)
