-- Reading the JSON of values.
use Rattle.std.specs.Prelude.{ℕ, List, Option, option_and_then}
use Rattle.json.specs.Json.{if_last, value as json_value}
use Rattle.json.specs.Lex.{tokens}
use Rattle.serde_json.specs.Data.{Data}
use Rattle.serde_json.specs.Read.{of_json}

-- the data that a text is, for a reader that opens at most this many arrays and objects within each other. serde_json's
-- own reader (`read`) opens 127
abbrev pub read_within : ℕ → List ℕ → Option Data
read_within levels text =
    option_and_then of_json (option_and_then (λ p. if_last p.0 p.1) (json_value levels (tokens text)))
