-- The answer to a line.
use Rattle.std.specs.Prelude.{◌≡◌, ◌⊎◌, ◌++◌, ◌∷◌, [], ℕ, List, Bool, Result, Ok, Err, codes}
use Rattle.serde_json.specs.Data.{Data, string}
use Rattle.serde_json.specs.Written.{compact_text}
use Rattle.star_dialect.specs.declared.Mode.{Mode}
use Rattle.star_bundle.specs.Bundle.{Asked, asked_among, within_limits, ◌>>=◌}
use Rattle.star_bundle.specs.Refusal.{if_so, text_of}
use Rattle.star_bundle.specs.declared.error.ServeError.{ServeError}
use Rattle.star_bundle.specs.declared.error.ServeError.TheVariants.{BadRecord, Memory, Unpublished}
use Rattle.star_label.specs.Files.{File, limit_passed}
use Rattle.star_reading.specs.Record.{are_recordable}
use Rattle.star_report.specs.Output.{InPlanOf, IsOutput}
use Rattle.star_report.specs.declared.wanted.Output.TheVariants.{Report}
use Rattle.star_report.specs.declared.wanted.Wanted.{Wanted}
use Rattle.star_session.specs.Changes.{files_after}
use Rattle.star_session.specs.Lines.{IsPiece}
use Rattle.star_session.specs.Requests.{Asking, IsIdText, asking_in, asking_of, id_in, id_of, value_of}
use Rattle.star_session.specs.declared.lines.Line.{Line}
use Rattle.star_session.specs.declared.request.Defaults.{Defaults}

-- the line of an answer: the id of its request, and a member with this JSON
abbrev pub answer_line : List ℕ → List ℕ → List ℕ → List ℕ
answer_line id name json = codes "{\"id\":" ++ (id ++ (codes ",\"" ++ (name ++ (codes "\":" ++ (json ++ codes "}\n")))))

-- the answer where there is no memory for another one
abbrev pub no_memory_line : List ℕ
no_memory_line = codes "{\"id\":null,\"refused\":\"out of memory\"}\n"

-- the input, unless it is refused for the names whose calls are to be recorded: this refusal comes last
abbrev pub recording : Asking → Result Asked ServeError → Result Asked ServeError
recording a given = if_so (are_recordable a.mode.language.recorded) BadRecord given

-- the input that a request asks for among these files, or its refusal: by the limits of files, by the roots, by the
-- prelude, by the names whose calls are to be recorded
abbrev pub asks_among : List File → Asking → Result Asked ServeError
asks_among files a =
    recording a (within_limits files (limit_passed files) >>= λ fs. asked_among a.roots a.prelude fs)

-- .. among the files after the changes
abbrev pub asked_after : List File → Asking → Result Asked ServeError
asked_after before a = asks_among (files_after before a.changes) a

-- this is the text of the report of the input, with the further members that are wanted, without its line end
abbrev pub IsReportText : Wanted → Asked → Mode → List ℕ → Type 0
IsReportText wanted asked mode report = (ok : Bool) × InPlanOf asked.files asked.roots asked.prelude mode
    (λ plan. IsOutput (Report wanted) asked.files plan (report ++ 10 ∷ []) ok)

-- This is exactly a report of these files for the roots, the prelude, the mode and the wanted members: its text
-- without its line end.
pub record IsReportOf (files : List File) (a : Asking) (report : List ℕ) : Type 0 where
  pub asked : Asked
  pub asks : asks_among files a ≡ Ok asked
  pub ok : Bool
  pub reports : InPlanOf files asked.roots asked.prelude a.mode
      (λ plan. IsOutput (Report a.wanted) files plan (report ++ 10 ∷ []) ok)

-- The answer is the line with the request's id and a report of the files after its changes.
pub record IsReported (before : List File) (id : Data) (a : Asking) (after : List File) (answer : List ℕ) : Type 0
  where
    pub after_is : after ≡ files_after before a.changes
    pub id_text : List ℕ
    pub id_is : IsIdText id id_text
    pub report : List ℕ
    pub reports : IsReportOf after a report
    pub answer_is : answer ≡ answer_line id_text (codes "report") report

-- the answer is a refusal with this text
abbrev pub IsRefusal : Data → List ℕ → List ℕ → Type 0
IsRefusal id text answer =
    (id_text : List ℕ) × IsIdText id id_text
    × (answer ≡ answer_line id_text (codes "refused") (compact_text (string text)))

-- a request is refused so: for its files, its roots, its prelude or the names whose calls are to be recorded, or for
-- want of memory, or since a module was not published
abbrev pub IsRefusalOf : List File → Asking → ServeError → Type 0
IsRefusalOf before a e = (asked_after before a ≡ Err e) ⊎ ((e ≡ Memory) ⊎ (e ≡ Unpublished))

-- The answer refuses a line. Memory ran out, which may come at any time. Or the line is not a request, and the answer
-- says why. Or its request is refused (`IsRefusalOf`).
abbrev pub IsRefused : Defaults → List File → List ℕ → List ℕ → Type 0
IsRefused defaults before line answer =
    (answer ≡ no_memory_line)
    ⊎ (((why : List ℕ) × (asking_of defaults line ≡ Err why) × IsRefusal (id_of line) why answer)
    ⊎ ((a : Asking) × (asking_of defaults line ≡ Ok a)
    × (e : ServeError) × IsRefusalOf before a e × IsRefusal (id_of line) (text_of e) answer))

-- A line is answered: by a report of the files as its changes leave them, or by a refusal, and then the files stay.
abbrev pub IsAnswered : Defaults → List File → List ℕ → List File → List ℕ → Type 0
IsAnswered defaults before line after answer =
    ((a : Asking) × (asking_of defaults line ≡ Ok a) × IsReported before (id_of line) a after answer)
    ⊎ ((after ≡ before) × IsRefused defaults before line answer)

-- how a line is answered: a relation of the files before it, the line, the files after it, and the answer
abbrev pub Answering : Type 1
Answering = List File → List ℕ → List File → List ℕ → Type 0

-- Lines are answered one after another, each by one line. The files after one line are the files before the next.
abbrev pub AreAnswered : Answering → List File → List (List ℕ) → List File → List (List ℕ) → Type 0
AreAnswered answering before [] after [] = after ≡ before
AreAnswered answering before [] after (x ∷ xs) = ⊥
AreAnswered answering before (l ∷ ls) after [] = ⊥
AreAnswered answering before (l ∷ ls) after (x ∷ xs) =
    (between : List File) × answering before l between x × AreAnswered answering between ls after xs

-- each line with a request that asks for this, whose id has this text, is answered so
abbrev pub AnswersRequest : Answering → Defaults → List ℕ → Asking → List File → List File → List ℕ → Type 0
AnswersRequest answering defaults id a before after answer =
    (line : List ℕ) (v : Data) → IsIdText (id_in v) id → asking_in defaults v ≡ Ok a → value_of line ≡ Ok v
    → answering before line after answer

-- each line with this value is answered so
abbrev pub AnswersValue : Answering → Data → List File → List File → List ℕ → Type 0
AnswersValue answering v before after answer =
    (line : List ℕ) → value_of line ≡ Ok v → answering before line after answer

-- each line that was read as these bytes is answered so
abbrev pub AnswersPiece : Answering → Line → List ℕ → List File → List File → List ℕ → Type 0
AnswersPiece answering kind bytes before after answer =
    (line : List ℕ) → IsPiece kind bytes line → answering before line after answer
