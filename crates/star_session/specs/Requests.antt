-- The request that a line is: a JSON object.
use Rattle.std.specs.Prelude.{◌≡◌, ◌≤◌, ◌⊎◌, ℕ, ◌&&◌, ◌||◌, List, [], ◌∷◌, ◌++◌, Bool, true, false, length, nat_le, nat_lt, Option, Some, None, Result, Ok, Err, codes, if◌then◌else◌, map, option_map, string_bytes, unwrap_or}
use Rattle.std.specs.Str.{bytes_eq}
use Rattle.serde_json.specs.Data.{Data, null, boolean, number, string, array, object, Items, no_items, item, Members, no_members, member}
use Rattle.serde_json.specs.Written.{IsInOrder, compact_text, has_float}
use Rattle.serde_json.specs.Find.{as_array, as_number, as_object, as_str, as_u64, get}
use Rattle.star_bundle.specs.Bundle.{is_label, json_of}
use Rattle.star_dialect.specs.Words.{dialect_named, with_name}
use Rattle.star_dialect.specs.declared.Dialect.{Dialect}
use Rattle.star_dialect.specs.declared.Dialect.TheVariants.{Core, Extended}
use Rattle.star_dialect.specs.declared.Language.{Language}
use Rattle.star_dialect.specs.declared.Mode.{Mode}
use Rattle.star_report.specs.declared.wanted.Wanted.{Wanted}
use Rattle.star_words.specs.Words.{label_of_path}
use Rattle.star_session.specs.Changes.{Change, change_of}
use Rattle.star_session.specs.Lines.{line_limit}
use Rattle.star_session.specs.declared.question.Question.{Question}
use Rattle.star_session.specs.declared.request.Defaults.{Defaults}
use Rattle.star_session.specs.declared.request.Origin.{Origin}
use Rattle.star_session.specs.declared.request.Origin.TheVariants.{Folder, Sent}
use Rattle.star_session.specs.declared.request.Request.{Request}
use Rattle.star_session.specs.declared.request.RequestError.{RequestError}
use Rattle.star_session.specs.declared.request.RequestError.TheVariants.{NotObject, NoRoots, BadRoots, NoMember, BadFiles, NoFiles, BadChanged, BadLabel, BadPrelude, BadSteps, BadLanguage, BadNames, NoRecord, BadWith, Memory}

-- A request: changes of the files, and the report of the files after them. The report is for these roots, with this
-- prelude, with files in this mode, and these wanted members.
pub record Asking : Type 0 where
  pub changes : List Change
  pub roots : List (List ℕ)
  pub prelude : Option (List ℕ)
  pub mode : Mode
  pub wanted : Wanted

-- how many steps a file may take
abbrev pub AreSteps : ℕ → Type 0
AreSteps n = (1 ≤ n) × (n ≤ 100000000)

-- one thing after another, up to the first that is refused
infixl 10 ◌>>=◌
abbrev pub ◌>>=◌ : {A B : Type 0} → Result A (List ℕ) → (A → Result B (List ℕ)) → Result B (List ℕ)
(Ok x) >>= f = f x
(Err why) >>= f = Err why

-- the value that is there, or else this refusal
abbrev pub there_or : {A : Type 0} → List ℕ → Option A → Result A (List ℕ)
there_or why None = Err why
there_or why (Some x) = Ok x

-- a text, or none for null
abbrev pub text_or_null : Data → Option (Option (List ℕ))
text_or_null null = Some None
text_or_null (boolean b) = None
text_or_null (number n) = None
text_or_null (string s) = Some (Some s)
text_or_null (array ds) = None
text_or_null (object ms) = None

-- the texts of refusals: this one ends with the label that is refused
abbrev pub bad_label : List ℕ → List ℕ
bad_label label = codes "bad label in `files`: " ++ label

-- a name that is a label in normal form
abbrev pub label_in : List ℕ → Result (List ℕ) (List ℕ)
label_in name = if is_label name then Ok name else Err (bad_label name)

abbrev pub bad_files : List ℕ
bad_files = codes "`files` must be an object from labels to texts or nulls"

-- members whose names are labels in normal form, each with a text or null: the changes, in their order
unfoldable pub changes_of : Members → Result (List Change) (List ℕ)
changes_of no_members = Ok []
changes_of (member k d ms) = do
  text ← there_or bad_files (text_or_null d)
  label ← label_in k
  changes ← changes_of ms
  Ok ((label, text) ∷ changes)

abbrev pub no_files : List ℕ
no_files = codes "`files` does not go with `--repo`"

-- the files that a request sends, unless a folder has the files
abbrev pub files_in : Origin → Data → Result (List Change) (List ℕ)
files_in Sent d = there_or bad_files (as_object d) >>= changes_of
files_in Folder d = Err no_files

-- the file at a label is taken away, if there is one
abbrev pub gone_at : Option (List ℕ) → List Change
gone_at None = []
gone_at (Some label) = (label, None) ∷ []

abbrev pub bad_changed : List ℕ
bad_changed = codes "`changed` must be an array of paths"

-- items that are all paths: the files that they lead to, below the top, are taken away
unfoldable pub gone_in : Items → Result (List Change) (List ℕ)
gone_in no_items = Ok []
gone_in (item d ds) = do
  path ← there_or bad_changed (as_str d)
  changes ← gone_in ds
  Ok (gone_at (label_of_path [] path) ++ changes)

abbrev pub no_member : List ℕ → List ℕ
no_member name = codes "no such member: " ++ name

-- the files that have changed, if a folder has the files
abbrev pub changed_in : Origin → Data → Result (List Change) (List ℕ)
changed_in Sent d = Err (no_member (codes "changed"))
changed_in Folder d = there_or bad_changed (as_array d) >>= gone_in

abbrev pub bad_roots : List ℕ
bad_roots = codes "`roots` must be an array of labels"

-- items that are all texts
unfoldable pub texts_in : Items → Result (List (List ℕ)) (List ℕ)
texts_in no_items = Ok []
texts_in (item d ds) = do
  text ← there_or bad_roots (as_str d)
  texts ← texts_in ds
  Ok (text ∷ texts)

abbrev pub no_roots : List ℕ
no_roots = codes "`roots` is missing"

-- the roots that a value names
abbrev pub roots_in : Data → Result (List (List ℕ)) (List ℕ)
roots_in d = do
  roots ← there_or no_roots (get (codes "roots") d)
  items ← there_or bad_roots (as_array roots)
  texts_in items

abbrev pub bad_prelude : List ℕ
bad_prelude = codes "`prelude` must be a label or null"

-- the prelude that a value names
abbrev pub prelude_in : Data → Result (Option (List ℕ)) (List ℕ)
prelude_in d = there_or bad_prelude (text_or_null d)

abbrev pub bad_steps : List ℕ
bad_steps = codes "`steps` must be a number from 1 to 100000000"

-- a number of steps
abbrev pub steps_in : Data → Result ℕ (List ℕ)
steps_in d = do
  value ← there_or bad_steps (as_number d)
  n ← there_or bad_steps (as_u64 value)
  if nat_le 1 n && nat_le n 100000000 then Ok n else Err bad_steps

abbrev pub bad_language : List ℕ
bad_language = codes "`language` must be core or extended"

-- a language
abbrev pub language_in : Data → Result Dialect (List ℕ)
language_in d = do
  word ← there_or bad_language (as_str d)
  there_or bad_language (dialect_named word)

abbrev pub bad_names : List ℕ
bad_names = codes "`record` must be an array of names"

-- names, and those that further items are, each once
unfoldable pub names_in : List (List ℕ) → Items → Result (List (List ℕ)) (List ℕ)
names_in names no_items = Ok names
names_in names (item d ds) = do
  name ← there_or bad_names (as_str d)
  names_in (with_name names name) ds

-- the names whose calls are to be recorded
abbrev pub recorded_in : Data → Result (List (List ℕ)) (List ℕ)
recorded_in d = there_or bad_names (as_array d) >>= names_in []

abbrev pub bad_with : List ℕ
bad_with = codes "`with` must be an array of some of values, loads, steps, only-roots"

-- the wanted members, with the one that a word names
unfoldable pub with_word : Wanted → List ℕ → Result Wanted (List ℕ)
with_word w word =
    if bytes_eq word (codes "values")
    then Ok (record { values = true; loads = w.loads; steps = w.steps; calls = w.calls; only_roots = w.only_roots })
    else (if bytes_eq word (codes "loads")
    then Ok (record { values = w.values; loads = true; steps = w.steps; calls = w.calls; only_roots = w.only_roots })
    else (if bytes_eq word (codes "steps")
    then Ok (record { values = w.values; loads = w.loads; steps = true; calls = w.calls; only_roots = w.only_roots })
    else (if bytes_eq word (codes "only-roots")
    then Ok (record { values = w.values; loads = w.loads; steps = w.steps; calls = w.calls; only_roots = true })
    else Err bad_with)))

-- .. and with those that further words name
unfoldable pub with_words : Wanted → Items → Result Wanted (List ℕ)
with_words w no_items = Ok w
with_words w (item d ds) = do
  word ← there_or bad_with (as_str d)
  more ← with_word w word
  with_words more ds

-- nothing more, of all modules
abbrev pub nothing_more : Wanted
nothing_more = record { values = false; loads = false; steps = false; calls = false; only_roots = false }

-- the wanted members that a value names
abbrev pub wanted_in : Data → Result Wanted (List ℕ)
wanted_in d = there_or bad_with (as_array d) >>= with_words nothing_more

-- a request with another mode
abbrev pub with_mode : Asking → Mode → Asking
with_mode a mode =
    record { changes = a.changes; roots = a.roots; prelude = a.prelude; mode = mode; wanted = a.wanted }

-- a language with another dialect, or with other names whose calls are recorded
abbrev pub with_dialect : Language → Dialect → Language
with_dialect l dialect = record { dialect = dialect; recorded = l.recorded }

abbrev pub with_recorded : Language → List (List ℕ) → Language
with_recorded l names = record { dialect = l.dialect; recorded = names }

-- A request with a further member taken into it. The members `id` and `roots` are looked up separately.
unfoldable pub with_member : Origin → Asking → List ℕ → Data → Result Asking (List ℕ)
with_member origin a name d =
    if bytes_eq name (codes "id") || bytes_eq name (codes "roots") then Ok a
    else (if bytes_eq name (codes "files")
    then files_in origin d >>= (λ cs.
    Ok (record { changes = cs; roots = a.roots; prelude = a.prelude; mode = a.mode; wanted = a.wanted }))
    else (if bytes_eq name (codes "changed")
    then changed_in origin d >>= (λ cs.
    Ok (record { changes = cs; roots = a.roots; prelude = a.prelude; mode = a.mode; wanted = a.wanted }))
    else (if bytes_eq name (codes "prelude")
    then prelude_in d >>= (λ p.
    Ok (record { changes = a.changes; roots = a.roots; prelude = p; mode = a.mode; wanted = a.wanted }))
    else (if bytes_eq name (codes "steps")
    then steps_in d >>= (λ n.
    Ok (with_mode a (record { steps = n; language = a.mode.language })))
    else (if bytes_eq name (codes "language")
    then language_in d >>= (λ l.
    Ok (with_mode a (record { steps = a.mode.steps; language = with_dialect a.mode.language l })))
    else (if bytes_eq name (codes "record")
    then recorded_in d >>= (λ names.
    Ok (with_mode a (record { steps = a.mode.steps; language = with_recorded a.mode.language names })))
    else (if bytes_eq name (codes "with")
    then wanted_in d >>= (λ w.
    Ok (record { changes = a.changes; roots = a.roots; prelude = a.prelude; mode = a.mode; wanted = w }))
    else Err (no_member name))))))))

-- .. with further members
unfoldable pub with_members : Origin → Asking → Members → Result Asking (List ℕ)
with_members origin a no_members = Ok a
with_members origin a (member k d ms) = with_member origin a k d >>= λ more. with_members origin more ms

-- the request that has these roots and no further member
abbrev pub plain : Defaults → List (List ℕ) → Asking
plain defaults roots = record {
  changes = [];
  roots = roots;
  prelude = option_map string_bytes defaults.prelude;
  mode = defaults.mode;
  wanted = defaults.wanted;
}

abbrev pub no_record : List ℕ
no_record = codes "`record` needs the extended language"

abbrev pub has_names : List (List ℕ) → Bool
has_names [] = false
has_names (n ∷ ns) = true

-- whether calls are to be recorded in the core language, which has none
abbrev pub needs_extended : Dialect → List (List ℕ) → Bool
needs_extended Core names = has_names names
needs_extended Extended names = false

-- a request that wants the calls of each module, if any are recorded
abbrev pub with_calls : Asking → Result Asking (List ℕ)
with_calls a =
    if needs_extended a.mode.language.dialect a.mode.language.recorded then Err no_record
    else Ok (record {
      changes = a.changes;
      roots = a.roots;
      prelude = a.prelude;
      mode = a.mode;
      wanted = record {
        values = a.wanted.values;
        loads = a.wanted.loads;
        steps = a.wanted.steps;
        calls = has_names a.mode.language.recorded;
        only_roots = a.wanted.only_roots;
      };
    })

abbrev pub not_object : List ℕ
not_object = codes "not a JSON object"

-- the request that a value is, or why it is not one
unfoldable pub asking_in : Defaults → Data → Result Asking (List ℕ)
asking_in defaults d = do
  members ← there_or not_object (as_object d)
  roots ← roots_in d
  a ← with_members defaults.origin (plain defaults roots) members
  with_calls a

abbrev pub line_too_long : List ℕ
line_too_long = codes "line too long"

-- the value that a line is
unfoldable pub value_of : List ℕ → Result Data (List ℕ)
value_of line =
    if nat_lt line_limit (length line) then Err line_too_long else there_or not_object (json_of line)

-- the request that a line is, or why it is not one
abbrev pub asking_of : Defaults → List ℕ → Result Asking (List ℕ)
asking_of defaults line = value_of line >>= asking_in defaults

-- the `id` of a value
abbrev pub id_in : Data → Data
id_in d = unwrap_or (get (codes "id") d) null

-- .. of the value of a line: null where the line is not a value
abbrev pub id_within : Result Data (List ℕ) → Data
id_within (Ok d) = id_in d
id_within (Err why) = null

-- the `id` of a line
abbrev pub id_of : List ℕ → Data
id_of line = id_within (value_of line)

-- A text is the JSON of an id. If the id has a float, no more than `IsInOrder` is certain.
abbrev pub IsIdText : Data → List ℕ → Type 0
IsIdText id text = (has_float id ≡ false → text ≡ compact_text id) × IsInOrder text id

-- a question as a request in which no file changes
abbrev pub question_of : Question → Asking
question_of q = record {
  changes = [];
  roots = map string_bytes q.roots.items;
  prelude = option_map string_bytes q.prelude;
  mode = q.mode;
  wanted = q.wanted;
}

-- a request, with its labels and texts as bytes
abbrev pub asked_by : Request → Asking
asked_by r = record {
  changes = map change_of r.changes.items;
  roots = map string_bytes r.question.roots.items;
  prelude = option_map string_bytes r.question.prelude;
  mode = r.question.mode;
  wanted = r.question.wanted;
}

-- the text of a reason
abbrev pub text_of : RequestError → List ℕ
text_of NotObject = not_object
text_of NoRoots = no_roots
text_of BadRoots = bad_roots
text_of (NoMember name) = no_member (string_bytes name)
text_of BadFiles = bad_files
text_of NoFiles = no_files
text_of BadChanged = bad_changed
text_of (BadLabel label) = bad_label (string_bytes label)
text_of BadPrelude = bad_prelude
text_of BadSteps = bad_steps
text_of BadLanguage = bad_language
text_of BadNames = bad_names
text_of NoRecord = no_record
text_of BadWith = bad_with
text_of Memory = codes "out of memory"

-- the error is the reason of the refusal, or memory ran out
abbrev pub IsWhy : {A : Type 0} → RequestError → Result A (List ℕ) → Type 0
IsWhy e given = (e ≡ Memory) ⊎ (given ≡ Err (text_of e))
