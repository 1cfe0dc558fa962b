-- Laws of the reports of a session: each is what a process writes that is given all files at once.
use Rattle.std.specs.Prelude.{◌≡◌, ◌⊎◌, ◌++◌, ◌∷◌, [], ℕ, List, Bool, Option, Some, Ok, codes, true}
use Rattle.star_label.specs.Files.{File, IsOrdered}
use Rattle.std.specs.List.{AllByRecursion, list_all}
use Rattle.star_alike.specs.Bundles.{IsText, bundle_text}
use Rattle.star_bundle.specs.Bundle.{files_of, is_label}
use Rattle.star_report.specs.declared.wanted.Output.TheVariants.{Report}
use Rattle.star_serve.specs.Serve.{AsksAmong, Asks, IsServed, prelude_word, root_words}
use Rattle.star_serve.specs.Stream.{Said}
use Rattle.star_serve.specs.declared.serve.Options.{Options}
use Rattle.star_session.specs.Answers.{AreAnswered, IsAnswered, IsRefused, IsReportOf, answer_line}
use Rattle.star_session.specs.Changes.{Change, files_after}
use Rattle.star_session.specs.Requests.{Asking, IsIdText, asking_of, id_of}
use Rattle.star_session.specs.declared.request.Defaults.{Defaults}
use Rattle.star_reply.specs.Laws.{Answers, Replies}

-- the text that a process writes for a report: with a line end
abbrev pub written : List ℕ → List ℕ
written report = report ++ 10 ∷ []

-- A process that is given a bundle of these files, with the roots, the prelude, the mode and the wanted members of a
-- request, writes this report with a line end, and nothing else: there is such a reply, and each reply is that one.
pub record IsWritten (files : List File) (a : Asking) (report : List ℕ) : Type 0 where
  pub ok : Bool
  pub is_reply : (input before : List ℕ) → files_of input ≡ Ok files
      → Replies (Report a.wanted) a.roots a.prelude a.mode input before (Some (before ++ written report)) ok
  pub each_reply : (input before : List ℕ) (after : Option (List ℕ)) (well : Bool) → files_of input ≡ Ok files
      → Replies (Report a.wanted) a.roots a.prelude a.mode input before after well
      → (after ≡ Some (before ++ written report)) × (well ≡ ok)

-- a report of a session is written by a process
abbrev pub SessionsReply : Type 0
SessionsReply = (files : List File) (a : Asking) (report : List ℕ) → IsReportOf files a report → IsWritten files a report

-- and by one that has the files from a folder
abbrev pub SessionsAnswer : Type 0
SessionsAnswer =
    (files : List File) (a : Asking) (report before : List ℕ) → IsReportOf files a report → (ok : Bool)
    × Answers (Report a.wanted) files a.roots a.prelude a.mode before (Some (before ++ written report)) ok

-- the options of a process are those of a request
pub record AreOptionsOf (options : Options) (a : Asking) : Type 0 where
  pub output : options.output ≡ Report a.wanted
  pub roots : root_words options ≡ a.roots
  pub prelude : prelude_word options ≡ a.prelude
  pub mode : options.mode ≡ a.mode

-- The promise of `serve`, of a process that read a bundle of these files up to its end: it wrote the session's report
-- with a line end, and nothing else.
abbrev pub SessionsServe : Type 0 → Type 0 → Type 0
SessionsServe W E =
    (taken : W → Option (List ℕ)) (traced : E → Option (List ℕ)) (failed : E → ℕ)
    → (files : List File) (a : Asking) (report input before : List ℕ) (options : Options) (old new : Said) (writer writer' : W)
    → (errors errors' : E) (ok : Bool) → IsReportOf files a report → AreOptionsOf options a → files_of input ≡ Ok files
    → old.left ≡ Some input → taken writer ≡ Some before
    → IsServed taken traced failed options (Asks old new) writer writer' errors errors' ok
    → taken writer' ≡ Some (before ++ written report)

-- .. of a process that has the files from a folder, by a walk
abbrev pub SessionsServeAmong : Type 0 → Type 0 → Type 0
SessionsServeAmong W E =
    (taken : W → Option (List ℕ)) (traced : E → Option (List ℕ)) (failed : E → ℕ)
    → (files : List File) (a : Asking) (report before : List ℕ) (options : Options) (writer writer' : W) (errors errors' : E) (ok : Bool)
    → IsOrdered files → IsReportOf files a report → AreOptionsOf options a → taken writer ≡ Some before
    → IsServed taken traced failed options (AsksAmong files) writer writer' errors errors' ok
    → taken writer' ≡ Some (before ++ written report)

-- A line is answered by the report that a process writes for all files as they are after its changes, or by a refusal,
-- and then the files stay.
abbrev pub IsAnsweredAsWritten : Defaults → List File → List ℕ → List File → List ℕ → Type 0
IsAnsweredAsWritten defaults before line after answer =
    ((a : Asking) × (asking_of defaults line ≡ Ok a) × (after ≡ files_after before a.changes)
    × (id report : List ℕ) × IsIdText (id_of line) id × IsWritten after a report
    × (answer ≡ answer_line id (codes "report") report))
    ⊎ ((after ≡ before) × IsRefused defaults before line answer)

-- all lines of a session are answered so
abbrev pub SessionsAreProcesses : Type 0
SessionsAreProcesses =
    (defaults : Defaults) (before after : List File) (lines answers : List (List ℕ))
    → AreAnswered (IsAnswered defaults) before lines after answers
    → AreAnswered (IsAnsweredAsWritten defaults) before lines after answers

-- the files after changes and then others are those after all of them
abbrev pub ChangesFollow : Type 0
ChangesFollow =
    (files : List File) (cs ds : List Change) → files_after files (cs ++ ds) ≡ files_after (files_after files cs) ds

-- the files of a session stay in order: those of one that begins with none are in order
abbrev pub FilesInOrder : Type 0
FilesInOrder =
    (defaults : Defaults) (before after : List File) (lines answers : List (List ℕ)) → IsOrdered before
    → AreAnswered (IsAnswered defaults) before lines after answers → IsOrdered after

-- The report of a session for files in order, with labels in normal form, all of UTF-8, is the reply of `serve` for their
-- bundle, to a writer that had taken nothing.
abbrev pub BundlesReply : Type 0
BundlesReply =
    (files : List File) (a : Asking) (report : List ℕ) → IsReportOf files a report → IsOrdered files
    → list_all (λ f. is_label f.0) files ≡ true → AllByRecursion IsText files → (ok : Bool)
    × Replies (Report a.wanted) a.roots a.prelude a.mode (bundle_text files) [] (Some (written report)) ok
