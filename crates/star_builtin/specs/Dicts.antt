-- Entries into which pairs and named values are put.
use Rattle.std.specs.Prelude.{◌≡◌, ℕ, List, Result, Ok, Err}
use Rattle.star_store.specs.declared.values.Value.{Value}
use Rattle.star_machine.specs.declared.fault.EvalError.{EvalError}
use Rattle.star_meaning.specs.Arguments.{key_for}
use Rattle.star_meaning.specs.Entries.{with_entry}
use Rattle.star_meaning.specs.Program.{Setting}
use Rattle.star_meaning.specs.declared.given.KeywordArgument.{KeywordArgument}
use Rattle.star_meaning.specs.Run.{State, Action, Outcome, Done, ◌>>=◌, give, seeing}
use Rattle.star_machine.specs.Refines.{Ends}

-- A function that puts something into entries leaves the entries that its definition says.
abbrev pub Puts : Outcome (List (Value × Value)) → Result (Unit {0}) EvalError → List (Value × Value) → State → Type 0
Puts o (Ok x) entries new = o ≡ Done entries new
Puts o (Err e) entries new = Ends o e new

-- the entries with a named value put in, under its name as a key
abbrev pub put_named : Setting → ℕ → List (Value × Value) → KeywordArgument → Action (List (Value × Value))
put_named w line es n = key_for line n >>= λ k. seeing (λ s. give (with_entry w s es (k, n.value)))
