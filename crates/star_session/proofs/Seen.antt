-- The answers about files that were looked at.
use Rattle.std.proofs.Common.{◌≡◌, ℕ, List, [], Result, Ok, Err, codes, inl, inr, map, refl, ap, sym, ◌∙◌, subst}
use Rattle.std.specs.Prelude.{IfOk}
use Rattle.serde_json.specs.Data.{Data, string}
use Rattle.serde_json.specs.Written.{compact_text}
use Rattle.star_label.specs.Files.{File}
use Rattle.star_repo.specs.Held.{Said}
use Rattle.star_repo.specs.declared.error.RepoError.{RepoError}
use Rattle.star_bundle.specs.Refusal.{text_of}
use Rattle.star_bundle.specs.declared.error.ServeError.{ServeError}
use Rattle.star_session.specs.Answers.{IsRefusal, IsRefusalOf, IsReported, answer_line}
use Rattle.star_session.specs.Changes.{Change, change_of, files_after}
use Rattle.star_session.specs.Folders.{AnswersSeen, AreLookedAt, IsAnsweredBy, IsReportedOrRefused, IsUnseen, again, text_for}
use Rattle.star_session.specs.Requests.{Asking, IsIdText, asked_by, question_of}
use Rattle.star_session.specs.declared.request.Request.{Request}

-- a request without changes
with_changes : Request → List Change → Asking
with_changes v cs = record { changes = cs; roots = (asked_by v).roots; prelude = (asked_by v).prelude; mode = (asked_by v).mode; wanted = (asked_by v).wanted }

unchanged : (v : Request) → v.changes.items ≡ [] → asked_by v ≡ question_of v.question
unfolding with_changes
unchanged v none = ap (λ xs. with_changes v (map change_of xs)) none

same_files : (before : List File) (v : Request) → files_after before (question_of v.question).changes ≡ before
unfolding files_after
same_files before v = refl

pub seen_reported : (before after : List File) (d : Data) (v : Request) (line : List ℕ) → v.changes.items ≡ [] → IsReported before d (asked_by v) after line
    → (after ≡ before) × IsReportedOrRefused d (question_of v.question) before line
seen_reported before after d v line none r =
    let q = question_of v.question in
    let is = subst (λ a. IsReported before d a after line) (unchanged v none) r in
    let same : after ≡ before = is.after_is ∙ same_files before v in
    (same, inl (subst (λ f. IsReported before d q f line) same is))

pub seen_refused : {V E : Type 0} (r : Result V E) (items : V → List ℕ) (before after : List File) (v : Request) (id : List ℕ) (e : ServeError) (text : List ℕ) → after ≡ before → IsRefusalOf before (asked_by v) e → v.changes.items ≡ [] → text ≡ text_of e
    → IfOk r (λ l. items l ≡ answer_line id (codes "refused") (compact_text (string text)))
    → IfOk r (λ l. AnswersSeen id (question_of v.question) before after (items l))
seen_refused (Err x) items before after v id e text same un none at h = tt
seen_refused (Ok l) items before after v id e text same un none at h = λ d is.
    let line = h ∙ ap (λ t. answer_line id (codes "refused") (compact_text (string t))) at in
    (same, inr (e, subst (λ a. IsRefusalOf before a e) (unchanged v none) un, (id, is, line)))

pub by_seen : {V E : Type 0} (r : Result V E) (items : V → List ℕ) (said : Said) (before looked after : List File) (a : Asking) (id : List ℕ) → AreLookedAt said before a looked
    → IfOk r (λ l. (d : Data) → IsIdText d id → (after ≡ looked) × IsReportedOrRefused d (again a) looked (items l))
    → IfOk r (λ l. (d : Data) → IsIdText d id → IsAnsweredBy said before d a after (items l))
by_seen (Err x) items said before looked after a id are h = tt
by_seen (Ok l) items said before looked after a id are h = λ d is.
    let both = h d is in
    inl (subst (AreLookedAt said before a) (sym both.0) are, subst (λ f. IsReportedOrRefused d (again a) f (items l)) (sym both.0) both.1)

pub by_unseen : {V E : Type 0} (r : Result V E) (items : V → List ℕ) (said : Said) (before after : List File) (a : Asking) (id : List ℕ) (e : RepoError) → after ≡ [] → IsUnseen said before a e
    → IfOk r (λ l. (d : Data) → IsIdText d id → IsRefusal d (text_for e) (items l))
    → IfOk r (λ l. (d : Data) → IsIdText d id → IsAnsweredBy said before d a after (items l))
by_unseen (Err x) items said before after a id e none un h = tt
by_unseen (Ok l) items said before after a id e none un h = λ d is. inr (none, e, un, h d is)
