-- The answer of a call of the library.
use Rattle.std.specs.Prelude.{false, ◌≡◌, ◌≢◌, ◌<◌, ◌≤◌, ◌⊎◌, ◌++◌, ℕ, List, [], All, Bool, IfSome, Option, Some, None, Result, drop, length, map, if◌then◌else◌}
use Rattle.std.specs.Prelude.{Ok}
use Rattle.std.specs.Str.{IsUtf8}
use Rattle.star_bundle.specs.Bundle as bundle
use Rattle.star_bundle.specs.declared.error.ServeError.{ServeError}
use Rattle.star_bundle.specs.declared.error.ServeError.TheVariants.{Read, TooBig, BadDir, BadFile, NotText, BadBundle, BadKey, TooMany, TooLong, BadRoot, NoRoot, BadPrelude, NoPrelude, BadRecord, Memory, Write, Unpublished}
use Rattle.star_dialect.specs.declared.Dialect.TheVariants.{Core}
use Rattle.star_dialect.specs.declared.Mode.{Mode}
use Rattle.star_report.specs.declared.wanted.Wanted.{Wanted}
use Rattle.star_alone.specs.Alone.{IsAnswered, IsRefusedBy, asked_within, recording}
use Rattle.starload_c.specs.declared.asked.Asked.{Asked}
use Rattle.starload_c.specs.declared.asked.Answer.{Answer}

-- the labels of the roots, and the label of the prelude if there is one: each word as its bytes
abbrev pub words_of : Asked → List (List ℕ)
words_of a = map (λ w. w.now) a.roots.now

abbrev pub prelude_of : Asked → Option (List ℕ)
prelude_of a = if a.has_prelude then Some a.prelude.now else None

abbrev pub wanted_of : Asked → Wanted
wanted_of a =
    record {
      values = a.with_values;
      loads = a.with_loads;
      steps = a.with_steps;
      calls = false;
      only_roots = a.only_roots;
    }

-- the mode in which files run: the core language, with these steps
abbrev pub mode_of : Asked → Mode
mode_of a = record { steps = a.steps; language = record { dialect = Core; recorded = [] } }

-- the input that the bundle is for these words, or the refusal of it
abbrev pub asked_by : Asked → Result bundle.Asked ServeError
asked_by a = recording (mode_of a) (asked_within (words_of a) (prelude_of a) a.bundle.now)

-- the steps that a file may take
abbrev pub StepsFit : Asked → Type 0
StepsFit a = (1 ≤ a.steps) × (a.steps ≤ 100000000)

-- there is a root, and each word is a text
abbrev pub WordsFit : Asked → Type 0
WordsFit a = (a.roots.now ≢ []) × All (λ w. IsUtf8 w.now) a.roots.now × IfSome (prelude_of a) IsUtf8

abbrev pub Fits : Asked → Type 0
Fits a = StepsFit a × WordsFit a

-- a text is the report that is asked for, and the answer is whether each module of it is ok
pub record IsReport (a : Asked) (text : List ℕ) (all_ok : Bool) : Type 0 where
  pub fits : Fits a
  pub input : bundle.Asked
  pub is_asked : asked_by a ≡ Ok input
  pub is_answered : IsAnswered (wanted_of a) input (mode_of a) text all_ok

-- the number of a refusal
abbrev pub refusal_of : ServeError → ℕ
refusal_of Read = 1
refusal_of TooBig = 2
refusal_of BadBundle = 3
refusal_of BadKey = 4
refusal_of TooMany = 5
refusal_of TooLong = 6
refusal_of BadRoot = 7
refusal_of NoRoot = 8
refusal_of BadPrelude = 9
refusal_of NoPrelude = 10
refusal_of Memory = 11
refusal_of Write = 12
refusal_of Unpublished = 13
refusal_of BadDir = 14
refusal_of BadFile = 15
refusal_of NotText = 16
refusal_of BadRecord = 19

-- the number of a refusal of the request: 17 if the steps do not fit, or else 18 if the words do not
abbrev pub IsRefusal : Asked → ℕ → Type 0
IsRefusal a r =
    ((r ≡ 17) × (StepsFit a → ⊥)) ⊎ ((r ≡ 18) × StepsFit a × (WordsFit a → ⊥))
    ⊎ (Fits a × (e : ServeError) × (r ≡ refusal_of e) × IsRefusedBy (asked_by a) e)

-- bytes are at the front of a buffer, and after them all is as it was
abbrev pub IsPut : List ℕ → List ℕ → List ℕ → Type 0
IsPut bytes old new = new ≡ bytes ++ drop (length bytes) old

-- the report was written to the front of the buffer, and no byte after it
abbrev pub IsWritten : Asked → Bool → List ℕ → List ℕ → Answer → Type 0
IsWritten a all_ok old new r =
    (text : List ℕ) × IsReport a text all_ok × (length text ≤ length old) × IsPut text old new
    × (r.length ≡ length text) × (r.refusal ≡ 0)

-- there is no report, and the buffer is as it was
abbrev pub IsRefused : Asked → List ℕ → List ℕ → Answer → Type 0
IsRefused a old new r = IsRefusal a r.refusal × (new ≡ old) × (r.length ≡ 0)

-- there is a report, but the buffer has no room for it and is as it was
abbrev pub IsTooLong : Asked → List ℕ → List ℕ → Answer → Type 0
IsTooLong a old new r =
    (text : List ℕ) × (all_ok : Bool) × IsReport a text all_ok × (length old < length text) × (new ≡ old)
    × (r.length ≡ length text) × (r.refusal ≡ 0)
