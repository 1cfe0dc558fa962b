-- Requests about the files of a folder: the known files, and the answers.
use Rattle.std.specs.Prelude.{◌≡◌, ◌⊎◌, ℕ, List, [], ◌∷◌, ◌++◌, Bool, false, ◌||◌, Option, None, Some, Err, Ok, codes, if◌then◌else◌}
use Rattle.std.specs.Str.{bytes_eq}
use Rattle.serde_json.specs.Data.{Data}
use Rattle.star_bundle.specs.Refusal.{text_of}
use Rattle.star_bundle.specs.declared.error.ServeError.{ServeError}
use Rattle.star_label.specs.Files.{File}
use Rattle.star_label.specs.View as view
use Rattle.star_repo.specs.Asked.{AreFilesFor, IsUnread}
use Rattle.star_repo.specs.Held.{Said}
use Rattle.star_repo.specs.declared.error.RepoError.{RepoError}
use Rattle.star_repo.specs.declared.error.RepoError.TheVariants as why
use Rattle.star_session.specs.Answers.{Answering, AnswersRequest, IsAnswered, IsRefusal, IsRefusalOf, IsReported, no_memory_line}
use Rattle.star_session.specs.Changes.{Change}
use Rattle.star_session.specs.Requests.{Asking, IsIdText, asked_by, asking_in, asking_of, id_of, value_of}
use Rattle.star_session.specs.declared.request.Defaults.{Defaults}
use Rattle.star_session.specs.declared.request.Origin.{Origin}
use Rattle.star_session.specs.declared.request.Origin.TheVariants.{Folder, Sent}
use Rattle.star_session.specs.declared.request.Request.{Request}
use Rattle.star_session.specs.declared.session.Settings.{Settings}

-- the text of the file at a label
abbrev pub text_named : List ℕ → List File → Option (List ℕ)
text_named l [] = None
text_named l (f ∷ fs) = if bytes_eq f.0 l then Some f.1 else text_named l fs

-- a file has changed
abbrev pub is_changed : List ℕ → List Change → Bool
is_changed l [] = false
is_changed l (c ∷ cs) = bytes_eq c.0 l || is_changed l cs

-- a text that is known, or else the one that a folder tells
abbrev pub told_or : Option (Option (List ℕ)) → Option (List ℕ) → Option (Option (List ℕ))
told_or said None = said
told_or said (Some text) = Some (Some text)

-- the text of a file that is known and has not changed
abbrev pub known_at : List File → List Change → List ℕ → Option (List ℕ)
known_at known changes l = if is_changed l changes then None else text_named l known

-- the files of a folder for a request: those that are known and have not changed, and the others as the folder tells
-- them
abbrev pub told : Said → List File → List Change → Said
told said known changes l = told_or (said l) (known_at known changes l)

-- these are the files that the roots and the prelude reach: each as it is known, or else as it was found now
abbrev pub AreLookedAt : Said → List File → Asking → List File → Type 0
AreLookedAt said known a files = AreFilesFor (told said known a.changes) a.roots a.prelude files

-- .. or a file of them is refused, or a root or the prelude is not a label
abbrev pub IsUnseen : Said → List File → Asking → RepoError → Type 0
IsUnseen said known a e = IsUnread (told said known a.changes) a.roots a.prelude e

-- the same question, where no file changes
abbrev pub again : Asking → Asking
again a = record { changes = []; roots = a.roots; prelude = a.prelude; mode = a.mode; wanted = a.wanted }

-- the text of a reason
abbrev pub text_for : RepoError → List ℕ
text_for (why.File label e) = text_of e ++ (codes ": " ++ view.text_of label)
text_for (why.Run e) = text_of e

-- the files that are known after a request: those that it looked at, or none, or those that were known before
abbrev pub IsKnown : Said → List File → Asking → List File → Type 0
IsKnown said before a after = AreLookedAt said before a after ⊎ ((after ≡ []) ⊎ (after ≡ before))

-- a question about these files is answered by their report, or by a refusal of the question
abbrev pub IsReportedOrRefused : Data → Asking → List File → List ℕ → Type 0
IsReportedOrRefused id a files answer =
    IsReported files id a files answer
    ⊎ ((e : ServeError) × IsRefusalOf files a e × IsRefusal id (text_of e) answer)

-- for each id with this text, the question of a request about these files is answered so, and the files stay
abbrev pub AnswersSeen : List ℕ → Asking → List File → List File → List ℕ → Type 0
AnswersSeen id a before after answer =
    (d : Data) → IsIdText d id → (after ≡ before) × IsReportedOrRefused d a before answer

-- A request is answered by the report of the files that it looked at, or by a refusal of its question about these
-- files. Or the files are not read: the answer says why, and no file is known any more.
abbrev pub IsAnsweredBy : Said → List File → Data → Asking → List File → List ℕ → Type 0
IsAnsweredBy said before id a after answer =
    (AreLookedAt said before a after × IsReportedOrRefused id (again a) after answer)
    ⊎ ((after ≡ []) × (e : RepoError) × IsUnseen said before a e × IsRefusal id (text_for e) answer)

-- A line is answered about a folder that tells this. The answer is the answer to its request. Or the line is not a
-- request, and the known files stay. Or memory ran out, which may come at any time.
abbrev pub IsAnsweredFrom : Said → Defaults → Answering
IsAnsweredFrom said defaults before line after answer =
    ((a : Asking) × (asking_of defaults line ≡ Ok a) × IsAnsweredBy said before (id_of line) a after answer)
    ⊎ (((after ≡ before) × (why : List ℕ) × (asking_of defaults line ≡ Err why) × IsRefusal (id_of line) why answer)
    ⊎ ((answer ≡ no_memory_line)
    × ((after ≡ before) ⊎ ((a : Asking) × (asking_of defaults line ≡ Ok a) × IsKnown said before a after))))

-- .. or about files that requests send
abbrev pub IsAnsweredAs : Origin → Said → Defaults → Answering
IsAnsweredAs Sent said defaults = IsAnswered defaults
IsAnsweredAs Folder said defaults = IsAnsweredFrom said defaults

abbrev pub IsAnsweredIn : Said → Defaults → Answering
IsAnsweredIn said defaults = IsAnsweredAs defaults.origin said defaults

-- .. by these settings
abbrev pub AnswersIn : Said → Settings → Answering
AnswersIn said settings = IsAnsweredIn said settings.defaults

-- each line with this request, whose id has this text and which sends its files, is answered so
abbrev pub AnswersSent : Defaults → List ℕ → Request → List File → List File → List ℕ → Type 0
AnswersSent defaults id request before after answer =
    AnswersRequest (IsAnswered defaults) defaults id (asked_by request) before after answer

-- .. wherever the files come from
abbrev pub AnswersRequestIn : Said → Defaults → List ℕ → Request → List File → List File → List ℕ → Type 0
AnswersRequestIn said defaults id request before after answer =
    AnswersRequest (IsAnsweredIn said defaults) defaults id (asked_by request) before after answer

-- .. or by the line for want of memory
abbrev pub LosesRequestIn : Said → Defaults → Request → List File → List File → Type 0
LosesRequestIn said defaults request before after =
    (line : List ℕ) (v : Data) → asking_in defaults v ≡ Ok (asked_by request) → value_of line ≡ Ok v
    → IsAnsweredIn said defaults before line after no_memory_line

-- for each id with this text, a request is answered so
abbrev pub AnswersBy : Said → List ℕ → Asking → List File → List File → List ℕ → Type 0
AnswersBy said id a before after answer = (d : Data) → IsIdText d id → IsAnsweredBy said before d a after answer
