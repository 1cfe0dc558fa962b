-- The answer for the bytes of a bundle.
use Rattle.std.specs.Prelude.{◌≡◌, ◌⊎◌, ℕ, List, Bool, Option, Result, Ok, Err, String, if◌then◌else◌, length, map, nat_lt, option_map, string_bytes}
use denote.Ref.{Bor}
use Rattle.star_dialect.specs.declared.Mode.{Mode}
use Rattle.star_bundle.specs.Bundle.{Asked, asked_of}
use Rattle.star_bundle.specs.Refusal.{Fails, if_so}
use Rattle.star_bundle.specs.declared.error.ServeError.{ServeError}
use Rattle.star_bundle.specs.declared.error.ServeError.TheVariants.{BadRecord, TooBig, Unpublished}
use Rattle.star_reading.specs.Record.{are_recordable}
use Rattle.star_report.specs.Output.{InPlanOf, IsOutput}
use Rattle.star_report.specs.declared.wanted.Output.TheVariants.{Report}
use Rattle.star_report.specs.declared.wanted.Wanted.{Wanted}

-- the most bytes that a bundle may have, as of one that is read from a stream
abbrev pub bytes_limit : ℕ
bytes_limit = 268435456

-- the input that a bundle with these bytes is for these words, or its refusal. The refusal of too many bytes comes
-- first.
unfoldable pub asked_within : List (List ℕ) → Option (List ℕ) → List ℕ → Result Asked ServeError
asked_within roots prelude input =
    if nat_lt bytes_limit (length input) then Err TooBig else asked_of roots prelude input

-- the same for the roots and the prelude as the code has them
abbrev pub asked_by : {Z : Type 0} → List (String Z) → Option (Bor (String Z)) → List ℕ → Result Asked ServeError
asked_by roots prelude input =
    asked_within (map string_bytes roots) (option_map (λ p. string_bytes p.now) prelude) input

-- the input, unless it is refused for the names whose calls are to be recorded: this refusal comes last
abbrev pub recording : Mode → Result Asked ServeError → Result Asked ServeError
recording mode given = if_so (are_recordable mode.language.recorded) BadRecord given

-- a text is the report of an input, with the further members that are wanted, and the answer is whether each module of
-- it is ok
abbrev pub IsAnswered : Wanted → Asked → Mode → List ℕ → Bool → Type 0
IsAnswered wanted asked mode text all_ok =
    InPlanOf asked.files asked.roots asked.prelude mode
    (λ plan. IsOutput (Report wanted) asked.files plan text all_ok)

-- this is so of an input that is not refused
abbrev pub IsAnswerTo : Result Asked ServeError → Wanted → Mode → List ℕ → Bool → Type 0
IsAnswerTo given wanted mode text all_ok =
    (asked : Asked) × (given ≡ Ok asked) × IsAnswered wanted asked mode text all_ok

-- a refusal of this input: the one that the rules give, or a failed allocation, or a module of it that was not
-- published
abbrev pub IsRefusedBy : Result Asked ServeError → ServeError → Type 0
IsRefusedBy given e = Fails e given ⊎ ((e ≡ Unpublished) × ((asked : Asked) × (given ≡ Ok asked)))
