-- The options that the arguments of a command line give.
use Rattle.std.specs.Prelude.{◌≡◌, ℕ, ◌≤◌, ◌==◌, nat_eq, Bool, true, false, not, ◌||◌, ◌&&◌, List, [], ◌∷◌, Option, Some, None, codes, is_some, string_bytes, if◌then◌else◌}
use Rattle.std.specs.Cmp.Lexicographic.{pointwise}
use Rattle.std.specs.Option.{option_map_or}
use Rattle.std.specs.Str.Parse.{IsNumeral, digits_value, without_leading_plus}
use Rattle.clap.specs.Matches.{first_value, found_of, matched_of, one_text, raw_values}
use Rattle.star_dialect.specs.Words.{with_name}
use Rattle.star_dialect.specs.declared.Dialect.{Dialect}
use Rattle.star_dialect.specs.declared.Dialect.TheVariants.{Core, Extended}
use Rattle.star_dialect.specs.declared.Language.{Language}
use Rattle.star_report.specs.declared.wanted.Output.{Output}
use Rattle.star_report.specs.declared.wanted.Output.TheVariants.{Calls, Check, Global, Graph, Report}
use Rattle.star_report.specs.declared.wanted.Wanted.{Wanted}
use Rattle.clap.specs.declared.parser.matches.ArgMatches.{ArgMatches}
use Rattle.starload.specs.declared.command.Errors.{Errors}

-- the values of an argument, in their order
abbrev pub values_of : ArgMatches → List ℕ → List (List ℕ)
values_of matches id = option_map_or raw_values (matched_of (found_of matches) id) []

-- whether a word is one of these
abbrev pub has_word : List ℕ → List (List ℕ) → Bool
has_word word [] = false
has_word word (w ∷ ws) = if pointwise nat_eq w word then true else has_word word ws

-- whether an argument has this value among its own
abbrev pub is_named : ArgMatches → List ℕ → List ℕ → Bool
is_named matches id value = has_word value (values_of matches id)

-- a flag is given
abbrev pub HasFlag : ArgMatches → List ℕ → Type 0
HasFlag matches id = one_text (found_of matches) id ≡ Some (codes "true")

-- .. or it is not
abbrev pub LacksFlag : ArgMatches → List ℕ → Type 0
LacksFlag matches id = one_text (found_of matches) id ≡ Some (codes "false")

-- the exit status if it only says whether there is a report: 0 in place of 1
abbrev pub report_status : ℕ → ℕ
report_status status = if status == 1 then 0 else status

-- a word writes a number in decimal digits and nothing more, except that a plus may come before them
abbrev pub Writes : List ℕ → ℕ → Type 0
Writes word n = IsNumeral 10 (without_leading_plus word) × (digits_value 10 (without_leading_plus word) ≡ n)

-- if the value of an option writes a number within the bounds, n is this number, and if the option has no value, n is
-- the other number
abbrev pub IsNumberOf : Option (List ℕ) → ℕ → ℕ → ℕ → ℕ → Type 0
IsNumberOf None low high other n = n ≡ other
IsNumberOf (Some word) low high other n = (m : ℕ) → Writes word m → low ≤ m → m ≤ high → n ≡ m

-- the dialect by the word after `--language`: the core language, unless it is the other one
abbrev pub dialect_of : ArgMatches → Dialect
dialect_of matches = if is_named matches (codes "language") (codes "extended") then Extended else Core

-- whether calls are recorded, by `--record`
abbrev pub is_recorded : ArgMatches → Bool
is_recorded matches = is_some (first_value (found_of matches) (codes "record"))

-- names, and further ones, each once
abbrev pub each_once : List (List ℕ) → List (List ℕ) → List (List ℕ)
each_once names [] = names
each_once names (w ∷ ws) = each_once (with_name names w) ws

-- the names after `--record`
abbrev pub recorded_of : ArgMatches → List (List ℕ)
recorded_of matches = each_once [] (values_of matches (codes "record"))

-- the language: its dialect, and the names whose calls are recorded
abbrev pub language_of : ArgMatches → Language
language_of matches = record { dialect = dialect_of matches; recorded = recorded_of matches }

-- more is wanted of each module by the words after `--with`, the calls by `--record`, and of the roots alone by its flag
pub record IsWanted (matches : ArgMatches) (wanted : Wanted) : Type 0 where
  pub values : wanted.values ≡ is_named matches (codes "with") (codes "values")
  pub loads : wanted.loads ≡ is_named matches (codes "with") (codes "loads")
  pub steps : wanted.steps ≡ is_named matches (codes "with") (codes "steps")
  pub calls : wanted.calls ≡ is_recorded matches
  pub only_roots : HasFlag matches (codes "only-roots") → wanted.only_roots ≡ true
  pub all : LacksFlag matches (codes "only-roots") → wanted.only_roots ≡ false

-- the graph of loads is wanted as DOT
abbrev pub is_drawn : ArgMatches → Bool
is_drawn matches = is_named matches (codes "graph") (codes "dot")

-- the check: of the files with nothing against them it shows the roots alone if their flag is there, and each module has
-- an empty row of calls if calls are recorded
abbrev pub IsCheckFor : ArgMatches → Output → Type 0
IsCheckFor matches output =
    (HasFlag matches (codes "only-roots") → output ≡ Check true (is_recorded matches))
    × (LacksFlag matches (codes "only-roots") → output ≡ Check false (is_recorded matches))

-- the globals of a name, where there is one, and else the report
abbrev pub IsReportOrGlobal : ArgMatches → Option (List ℕ) → Output → Type 0
IsReportOrGlobal matches (Some name) (Global s) = string_bytes s ≡ name
IsReportOrGlobal matches None (Report wanted) = IsWanted matches wanted
IsReportOrGlobal matches name output = ⊥

-- the calls of a name, where there is one, and else the globals of the name after `--get`, and else the report
abbrev pub IsCallsOrOther : ArgMatches → Option (List ℕ) → Output → Type 0
IsCallsOrOther matches (Some name) (Calls s) = string_bytes s ≡ name
IsCallsOrOther matches (Some name) output = ⊥
IsCallsOrOther matches None output =
    IsReportOrGlobal matches (first_value (found_of matches) (codes "get")) output

-- where neither the graph nor the check is wanted: the calls of the name after `--get-calls`, and else the globals of
-- the name after `--get`, and else the report
abbrev pub IsOtherOutput : ArgMatches → Output → Type 0
IsOtherOutput matches output =
    IsCallsOrOther matches (first_value (found_of matches) (codes "get-calls")) output

-- whether the text on faults is for tools
abbrev pub is_for_tools : ArgMatches → Bool
is_for_tools matches =
    is_named matches (codes "explain") (codes "github") || is_named matches (codes "explain") (codes "sarif")

-- whether all that is at fault is told: where that is asked for, or for tools
abbrev pub is_whole : ArgMatches → Bool
is_whole matches = is_named matches (codes "explain") (codes "all") || is_for_tools matches

-- whether a text on faults is wanted: where that is asked for, or by itself on a terminal
abbrev pub is_told : ArgMatches → Errors → Bool
is_told matches errors =
    is_whole matches
    || (is_named matches (codes "explain") (codes "always")
    || (errors.is_terminal && is_named matches (codes "explain") (codes "auto")))

-- whether there are colours: where they are asked for, or by themselves on a terminal where the environment has nothing
-- against it
abbrev pub is_colored : ArgMatches → Errors → Bool
is_colored matches errors =
    is_named matches (codes "color") (codes "always")
    || (is_named matches (codes "color") (codes "auto") && (errors.is_terminal && not errors.is_plain))

-- whether a person is shown how far the run is: where that is asked for, or by itself on a terminal that can write one
-- line over another
abbrev pub is_shown : ArgMatches → Errors → Bool
is_shown matches errors =
    is_named matches (codes "progress") (codes "always")
    || (is_named matches (codes "progress") (codes "auto") && (errors.is_terminal && not errors.is_dumb))
