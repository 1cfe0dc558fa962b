-- `%` on a string: the text that a letter puts, and the values that are left then.
use denote.Ref.{Bor}
use Rattle.std.specs.Prelude.{◌≡◌, ℕ, nat_eq, List, [], ◌∷◌, ◌++◌, Result, Ok, Err, if◌then◌else◌}
use Rattle.star_store.specs.declared.values.Value.{Value}
use Rattle.star_machine.specs.declared.fault.EvalError.{EvalError}
use Rattle.star_meaning.specs.Run.{State, Outcome, Done, Action, ◌>>=◌, give}
use Rattle.star_meaning.specs.Program.{Setting}
use Rattle.star_meaning.specs.Percent.{Between, character_in, filled, next_text, percent, value_for}
use Rattle.star_meaning.specs.Values.{content, with_content}
use Rattle.star_machine.specs.Refines.{Ends}
use Rattle.star_machine.specs.Kinds.{bytes_of}

-- the values that are left after a letter, and the text made then
abbrev pub letter_put : Setting → ℕ → ℕ → ℕ → List Value → List ℕ → Action (List Value × List ℕ)
letter_put w levels line b xs out =
    if nat_eq b 37 then give (xs, out ++ b ∷ []) else (next_text w levels line b xs >>= λ r. give (r.1, out ++ r.0))

-- A function that answers the values that are left has the result of its definition.
abbrev pub Fills : Outcome (List Value × List ℕ) → Result (Bor (List Value)) EvalError → List ℕ → State → Type 0
Fills o (Ok left) out new = o ≡ Done (left.now, out) new
Fills o (Err e) out new = Ends o e new

-- A function that puts the text of a value under a name, and answers the rest of the format, leaves the text that reading
-- on makes, with no value left; or the fault is the one of its definition.
abbrev pub FillsOn : Setting → ℕ → ℕ → Value → Outcome (List ℕ) → Result (Bor (List ℕ)) EvalError → List ℕ → State
    → Type 0
FillsOn w levels line y read (Ok rest) out new = read ≡ filled w levels line y Between rest.now [] out new
FillsOn w levels line y read (Err e) out new = Ends read e new

-- the same with the values that are left
abbrev pub FillsPast : Setting → ℕ → ℕ → Value → Outcome (List ℕ) → Result (Bor (List ℕ) × Bor (List Value)) EvalError
    → List ℕ → State → Type 0
FillsPast w levels line y read (Ok r) out new = read ≡ filled w levels line y Between r.0.now r.1.now out new
FillsPast w levels line y read (Err e) out new = Ends read e new

-- the character that a value is, and the value that a dictionary has for a string
abbrev pub character_put : Setting → ℕ → Value → Action (List ℕ)
character_put w line x = with_content w x (character_in line)

abbrev pub value_under : Setting → ℕ → Value → List ℕ → Action Value
value_under w line y k = with_content w y (value_for w line k)

-- `text % value`, as the two are in the state before it
abbrev pub percent_of : Setting → ℕ → ℕ → Value → Value → Action Value
percent_of w levels line text value =
    λ s. percent w levels line (bytes_of (content w s text)) (content w s value) value s
