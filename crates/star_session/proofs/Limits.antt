-- The question about the files after changes, and its refusals.
use Rattle.std.proofs.Common.{◌≡◌, ℕ, List, [], ◌∷◌, ◌++◌, Bool, true, false, subst, Option, None, Some, Result, Ok, Err, String, Bor, Global, string_bytes, inl, inr, refl, ap, sym, ◌∙◌}
use Rattle.std.specs.Prelude.{◌⊎◌, if◌then◌else◌}
use Rattle.std.specs.Option.{option_copied, option_map}
use Rattle.star_label.specs.Files.{File, limit_passed}
use Rattle.star_bundle.specs.Bundle.{Asked, asked_among, prelude_of, roots_of, within_limits, ◌>>=◌}
use Rattle.star_bundle.specs.Refusal.{Fails}
use Rattle.star_bundle.specs.declared.error.ServeError.{ServeError}
use Rattle.star_bundle.specs.declared.error.ServeError.TheVariants.{BadRecord, Memory}
use Rattle.star_reading.specs.Record.{are_recordable}
use Rattle.star_report.specs.Output.{InPlanOf, IsOutput}
use Rattle.star_report.specs.declared.wanted.Output.TheVariants.{Report}
use Rattle.star_session.specs.Answers.{IsRefusalOf, IsReportOf, asked_after, asks_among, recording}
use Rattle.star_session.specs.Changes.{files_after}
use Rattle.star_session.specs.Requests.{Asking, asked_by, question_of}
use Rattle.star_session.specs.declared.question.Question.{Question}
use Rattle.star_session.specs.declared.request.Request.{Request}
use Rattle.star_session.specs.declared.standing.Last.{Last}

-- a word that is borrowed
same_words : (o : Option (Bor (String Global))) → option_map string_bytes (option_copied o) ≡ option_map (λ p. string_bytes p.now) o
same_words None = refl
same_words (Some p) = refl

pub words_of : (o : Option (Bor (String Global))) (p : Option (String Global)) → option_copied o ≡ p → option_map (λ x. string_bytes x.now) o ≡ option_map string_bytes p
words_of o p e = sym (same_words o) ∙ ap (option_map string_bytes) e

fails_or_memory : {Y : Type 0} (e : ServeError) (given : Result Y ServeError) → Fails e given → (given ≡ Err e) ⊎ (e ≡ Memory)
fails_or_memory Memory given h = inr refl
fails_or_memory e given h = inl h

if_true : {A : Type 0} (b : Bool) (x y : A) → b ≡ true → (if b then x else y) ≡ x
if_true true x y h = refl
if_true false x y h = absurd (let no : ⊥ = cc in no)

if_false : {A : Type 0} (b : Bool) (x y : A) → b ≡ false → (if b then x else y) ≡ y
if_false true x y h = absurd (let no : ⊥ = cc in no)
if_false false x y h = refl

-- the names whose calls are to be recorded may have that
abbrev pub MayRecord : Asking → Bool → Type 0
MayRecord a may = are_recordable a.mode.language.recorded ≡ may

recorded_ok : (a : Asking) (given : Result Asked ServeError) (asked : Asked) → MayRecord a true → given ≡ Ok asked → recording a given ≡ Ok asked
recorded_ok a given asked may is = ap (recording a) is ∙ if_true (are_recordable a.mode.language.recorded) (Ok asked) (Err BadRecord) may

recorded_not : (a : Asking) (given : Result Asked ServeError) (asked : Asked) → MayRecord a false → given ≡ Ok asked → recording a given ≡ Err BadRecord
recorded_not a given asked may is = ap (recording a) is ∙ if_false (are_recordable a.mode.language.recorded) (Ok asked) (Err BadRecord) may

-- the limits of the files
abbrev limited : List File → Asking → Result (List File) ServeError
limited before a = within_limits (files_after before a.changes) (limit_passed (files_after before a.changes))

-- files over a limit
pub limit_refused : (before : List File) (a : Asking) (e : ServeError) → Fails e (limited before a) → IsRefusalOf before a e
limit_refused before a e h = by (fails_or_memory e (limited before a) h)
  where
    by : (limited before a ≡ Err e) ⊎ (e ≡ Memory) → IsRefusalOf before a e
    by (inl is) = inl (ap (λ r. recording a (r >>= λ files. asked_among a.roots a.prelude files)) is)
    by (inr is) = inr (inl is)

-- words that are not labels of these files
pub words_refused : (before files : List File) (a : Asking) (roots : List (List ℕ)) (prelude : Option (List ℕ)) (e : ServeError) → limited before a ≡ Ok files → roots ≡ a.roots → prelude ≡ a.prelude → Fails e (asked_among roots prelude files) → IsRefusalOf before a e
words_refused before files a roots prelude e ok rs p h = by (fails_or_memory e (asked_among roots prelude files) h)
  where
    same : asked_among roots prelude files ≡ asked_among a.roots a.prelude files
    same = ap (λ r. asked_among r prelude files) rs ∙ ap (λ q. asked_among a.roots q files) p

    by : (asked_among roots prelude files ≡ Err e) ⊎ (e ≡ Memory) → IsRefusalOf before a e
    by (inl is) = inl (ap (recording a) (ap (λ r. r >>= λ fs. asked_among a.roots a.prelude fs) ok ∙ sym same ∙ is))
    by (inr is) = inr (inl is)

found : (before files : List File) (a : Asking) (roots : List (List ℕ)) (prelude : Option (List ℕ)) (asked : Asked) → limited before a ≡ Ok files → roots ≡ a.roots → prelude ≡ a.prelude → asked_among roots prelude files ≡ Ok asked
    → (limited before a >>= λ fs. asked_among a.roots a.prelude fs) ≡ Ok asked
found before files a roots prelude asked ok rs p h =
    ap (λ r. r >>= λ fs. asked_among a.roots a.prelude fs) ok
    ∙ sym (ap (λ r. asked_among r prelude files) rs ∙ ap (λ q. asked_among a.roots q files) p) ∙ h

pub asks : (before files : List File) (a : Asking) (roots : List (List ℕ)) (prelude : Option (List ℕ)) (asked : Asked) → MayRecord a true → limited before a ≡ Ok files → roots ≡ a.roots → prelude ≡ a.prelude → asked_among roots prelude files ≡ Ok asked → asked_after before a ≡ Ok asked
asks before files a roots prelude asked may ok rs p h =
    recorded_ok a (limited before a >>= λ fs. asked_among a.roots a.prelude fs) asked may (found before files a roots prelude asked ok rs p h)

-- names that may not be recorded
pub record_refused : (before files : List File) (a : Asking) (roots : List (List ℕ)) (prelude : Option (List ℕ)) (asked : Asked) → MayRecord a false → limited before a ≡ Ok files → roots ≡ a.roots → prelude ≡ a.prelude → asked_among roots prelude files ≡ Ok asked → IsRefusalOf before a BadRecord
record_refused before files a roots prelude asked may ok rs p h =
    inl (recorded_not a (limited before a >>= λ fs. asked_among a.roots a.prelude fs) asked may (found before files a roots prelude asked ok rs p h))

with_files : (files : List File) (r : Result (List ℕ) ServeError) (p : Result (Option ℕ) ServeError) (a : Asked) → (r >>= λ ns. p >>= λ q. Ok (record { files = files; roots = ns; prelude = q })) ≡ Ok a → a.files ≡ files
with_files files (Ok ns) (Ok q) a e = let same : record { files = files; roots = ns; prelude = q } ≡ a = cc in sym (ap (λ (x : Asked). x.files) same)
with_files files (Ok ns) (Err x) a e = absurd (let no : ⊥ = cc in no)
with_files files (Err x) p a e = absurd (let no : ⊥ = cc in no)

-- the files of an input are those that its words are looked up in
pub asked_files : (roots : List (List ℕ)) (p : Option (List ℕ)) (files : List File) (a : Asked) → asked_among roots p files ≡ Ok a → a.files ≡ files
unfolding asked_among
asked_files roots p files a e = with_files files (roots_of files roots) (prelude_of files p) a e

-- files within all limits
pub limits_kept : (made entries files : List File) → entries ≡ files → limit_passed entries ≡ None → made ≡ entries → within_limits files (limit_passed files) ≡ Ok made
limits_kept made entries files e none is =
    let free : limit_passed files ≡ None = ap limit_passed (sym e) ∙ none in
    ap (within_limits files) free ∙ ap Ok (sym (is ∙ e))

-- a report for the words that are looked up among files within all limits
pub report_of_asked : (before files : List File) (a : Asking) (roots : List (List ℕ)) (prelude : Option (List ℕ)) (asked : Asked) (report : List ℕ) (ok : Bool)
    → MayRecord a true → limited before a ≡ Ok files → files ≡ files_after before a.changes → roots ≡ a.roots → prelude ≡ a.prelude → asked_among roots prelude files ≡ Ok asked
    → InPlanOf asked.files asked.roots asked.prelude a.mode (λ plan. IsOutput (Report a.wanted) asked.files plan (report ++ 10 ∷ []) ok)
    → IsReportOf asked.files a report
report_of_asked before files a roots prelude asked report ok may limits same rs p h is =
    let these : asked.files ≡ files_after before a.changes = asked_files roots prelude files asked h ∙ same in
    record {
      asked = asked;
      asks = ap (λ fs. asks_among fs a) these ∙ asks before files a roots prelude asked may limits rs p h;
      ok = ok;
      reports = is;
    }

-- a report that answers a question answers a request with that question, whatever its changes
pub of_request : (r : Request) (files : List File) (report : List ℕ) → IsReportOf files (question_of r.question) report → IsReportOf files (asked_by r) report
of_request r files report h = record {
  asked = h.asked;
  asks = h.asks;
  ok = h.ok;
  reports = h.reports;
}

pub of_asked : (r : Request) (files : List File) (report : List ℕ) → IsReportOf files (asked_by r) report → IsReportOf files (question_of r.question) report
of_asked r files report h = record {
  asked = h.asked;
  asks = h.asks;
  ok = h.ok;
  reports = h.reports;
}

-- a request that asks the last question again has the last report
pub asked_again : (r : Request) (l : Last) (files : List File) (report : List ℕ) → question_of l.question ≡ question_of r.question → IsReportOf files (question_of l.question) l.report.items → report ≡ l.report.items
    → IsReportOf files (asked_by r) report
asked_again r l files report same h is = of_request r files report (subst (λ b. IsReportOf files b report) same (subst (IsReportOf files (question_of l.question)) (sym is) h))

-- the report is the last one from now on
pub of_last : (r : Request) (q : Question) (files : List File) (report : List ℕ) → q ≡ r.question → IsReportOf files (question_of q) report → IsReportOf files (asked_by r) report
of_last r q files report same h = of_request r files report (subst (λ p. IsReportOf files (question_of p) report) same h)
