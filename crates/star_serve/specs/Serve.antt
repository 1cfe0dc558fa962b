-- The answer of the program for a bundle, or for the files of a folder by its walk.
use Rattle.std.specs.Prelude.{◌≡◌, ⊤, ℕ, ◌<◌, ◌≤◌, List, length, map, Bool, true, ◌&&◌, is_some, Option, None, option_map, Result, Ok, Err, string_bytes}
use Rattle.star_dialect.specs.Words.{index_of}
use Rattle.star_dialect.specs.declared.Mode.{Mode}
use Rattle.star_label.specs.Files.{File}
use Rattle.star_folder.specs.Folder.{Contents}
use Rattle.star_folder.specs.Walk.{AreFilesOf}
use Rattle.star_serve.specs.Stream.{Adds, GaveFirst, Gives, GivesAll, Said}
use Rattle.star_serve.specs.Trace.{Traces}
use Rattle.star_serve.specs.declared.serve.Job.{Job}
use Rattle.star_serve.specs.declared.serve.Options.{Options}
use Rattle.star_bundle.specs.Bundle.{Asked, asked_among, asked_of}
use Rattle.star_bundle.specs.Refusal.{if_so}
use Rattle.star_bundle.specs.View.{asked_view}
use Rattle.star_reading.specs.Record.{are_recordable}
use Rattle.star_report.specs.Output.{InPlanOf, IsOutput}
use Rattle.star_report.specs.declared.wanted.Output.{Output}
use Rattle.star_report.specs.declared.wanted.Output.TheVariants.{Calls}
use Rattle.star_bundle.specs.declared.error.ServeError.{ServeError}
use Rattle.star_bundle.specs.declared.error.ServeError.TheVariants.{Read, TooBig, BadBundle, BadKey, TooMany, TooLong, BadRoot, NoRoot, BadPrelude, NoPrelude, BadRecord, Memory, Write, Unpublished}

-- the most bytes that are read
abbrev pub input_limit : ℕ
input_limit = 268435456

-- the input was read up to its end
abbrev pub ReadsAll : Said → Said → List ℕ → Type 0
ReadsAll old new input = GivesAll old new input × (length input ≤ input_limit)

-- a read failed, and no more than the limit was read
abbrev pub BreaksOff : Said → Said → Type 0
BreaksOff old new = (input : List ℕ) × GaveFirst old new input × (length input ≤ input_limit)

-- more than the limit was read
abbrev pub Overruns : Said → Said → Type 0
Overruns old new = (input : List ℕ) × Gives old new input × (input_limit < length input)

-- the input of a job
abbrev pub asked_in : Job → Asked
asked_in job = asked_view job.asked.now

-- the words of the roots
abbrev pub root_words : Options → List (List ℕ)
root_words options = map string_bytes options.roots.items

-- the word of the prelude
abbrev pub prelude_word : Options → Option (List ℕ)
prelude_word options = option_map string_bytes options.prelude

-- whether the calls that are asked for are recorded
abbrev pub has_calls : Output → List (List ℕ) → Bool
has_calls (Calls name) names = is_some (index_of (string_bytes name) names)
has_calls output names = true

-- whether the names whose calls are to be recorded may have that, and the calls that are asked for are among them
abbrev pub may_record : Options → Bool
may_record options =
    let names = options.mode.language.recorded in are_recordable names && has_calls options.output names

-- the input, unless it is refused for the names whose calls are to be recorded: this refusal comes last
abbrev pub recording : Options → Result Asked ServeError → Result Asked ServeError
recording options given = if_so (may_record options) BadRecord given

-- this is the input that the options ask for, of bytes that were read up to their end, or its refusal
abbrev pub Asks : Said → Said → Options → Result Asked ServeError → Type 0
Asks old new options given =
    (input : List ℕ) × ReadsAll old new input
    × (recording options (asked_of (root_words options) (prelude_word options) input) ≡ given)

-- .. of these files
abbrev pub AsksAmong : List File → Options → Result Asked ServeError → Type 0
AsksAmong files options given =
    recording options (asked_among (root_words options) (prelude_word options) files) ≡ given

-- .. of the files of a folder, by a walk that came to its end
abbrev pub AsksForDir : Contents → Options → Result Asked ServeError → Type 0
AsksForDir held options given = (files : List File) × AreFilesOf held files × AsksAmong files options given

-- the text and the answer are the wanted output for the input that is asked for
abbrev pub IsOutputFor : Output → Asked → Mode → List ℕ → Bool → Type 0
IsOutputFor output asked mode text all_ok =
    InPlanOf asked.files asked.roots asked.prelude mode (λ plan. IsOutput output asked.files plan text all_ok)

-- Between old and new the wanted output for the input that is asked for was written, and nothing else, and this is the
-- answer (`IsOutput`).
abbrev pub Reports : Output → Asked → Mode → Option (List ℕ) → Option (List ℕ) → Bool → Type 0
Reports output asked mode old new all_ok =
    (text : List ℕ) × Adds old new text × IsOutputFor output asked mode text all_ok

-- If no message to a person is wanted and no write failed, nothing but the trace was written between the two states of
-- a writer (`Traces`). `taken` says what a writer has taken, `failed` how many of its writes have failed.
abbrev pub IsTraced : {E : Type 0} → (E → Option (List ℕ)) → (E → ℕ) → Options → Asked → Bool → E → E → Type 0
IsTraced taken failed options asked all_ok old new =
    options.explain ≡ None → failed new ≡ failed old
    → Traces options.output asked options.mode all_ok options.trace (taken old) (taken new)

-- By the options some input is asked for. Its report was written, and nothing else, and this is the answer. Nothing but
-- the trace was written to the other writer, if no message to a person is wanted and no write failed.
abbrev pub IsServed : {W E : Type 0} → (W → Option (List ℕ)) → (E → Option (List ℕ)) → (E → ℕ) → Options
    → (Options → Result Asked ServeError → Type 0) → W → W → E → E → Bool → Type 0
IsServed taken traced failed options asks old new errors errors' all_ok =
    (asked : Asked) × asks options (Ok asked)
    × Reports options.output asked options.mode (taken old) (taken new) all_ok
    × IsTraced traced failed options asked all_ok errors errors'

-- the meaning of a refusal of a run or of its report: nothing was written, unless the write failed
abbrev pub IsRefusedRun : Type 0 → ServeError → Type 0
IsRefusedRun unwritten Memory = unwritten
IsRefusedRun unwritten Unpublished = unwritten
IsRefusedRun unwritten Write = ⊤
IsRefusedRun unwritten e = ⊥

-- The meaning of a refusal. `answers r` says that all was read, and r is the input that is asked for, or its refusal.
-- `within` says that no more than the limit was read, `longer` that more was read, and `unwritten` that the writer is
-- as it was.
abbrev pub IsRefused : (Result Asked ServeError → Type 0) → Type 0 → Type 0 → Type 0 → ServeError → Type 0
IsRefused answers within longer unwritten Read = within × unwritten
IsRefused answers within longer unwritten TooBig = longer × unwritten
IsRefused answers within longer unwritten Memory = unwritten
IsRefused answers within longer unwritten Unpublished = ((asked : Asked) × answers (Ok asked)) × unwritten
IsRefused answers within longer unwritten Write = (asked : Asked) × answers (Ok asked)
IsRefused answers within longer unwritten e = answers (Err e) × unwritten

-- .. if an input is read
abbrev pub IsRefusedInput : Said → Said → Options → Type 0 → ServeError → Type 0
IsRefusedInput old new options unwritten e =
    IsRefused (Asks old new options) (BreaksOff old new) (Overruns old new) unwritten e

-- The meaning of a refusal if the files are those of a folder. `stopped e` says that the walk through the folder
-- stopped with this error. `answers r` says that the walk came to its end, and r is the input that is asked for among
-- its files, or the refusal of it. `unwritten` says that the writer is as it was.
abbrev pub IsRefusedDir : (ServeError → Type 0) → (Result Asked ServeError → Type 0) → Type 0 → ServeError → Type 0
IsRefusedDir stopped answers unwritten BadRoot = answers (Err BadRoot) × unwritten
IsRefusedDir stopped answers unwritten NoRoot = answers (Err NoRoot) × unwritten
IsRefusedDir stopped answers unwritten BadPrelude = answers (Err BadPrelude) × unwritten
IsRefusedDir stopped answers unwritten NoPrelude = answers (Err NoPrelude) × unwritten
IsRefusedDir stopped answers unwritten BadRecord = answers (Err BadRecord) × unwritten
IsRefusedDir stopped answers unwritten Memory = unwritten
IsRefusedDir stopped answers unwritten Unpublished = ((asked : Asked) × answers (Ok asked)) × unwritten
IsRefusedDir stopped answers unwritten Write = (asked : Asked) × answers (Ok asked)
IsRefusedDir stopped answers unwritten e = stopped e × unwritten
