-- A report of a session is what a process writes.
use Rattle.std.proofs.Common.{◌≡◌, ◌++◌, ℕ, Bool, true, false, List, [], ◌∷◌, Option, Some, Result, Ok, Err, refl, ap, sym, subst, ◌∙◌, inl, inr}
use Rattle.star_label.specs.Files.{File, limit_passed}
use Rattle.star_bundle.specs.Bundle.{Asked, asked_among, asked_of, files_of, within_limits, ◌>>=◌}
use Rattle.star_bundle.specs.Refusal.{if_so}
use Rattle.star_bundle.specs.declared.error.ServeError.{ServeError}
use Rattle.star_report.specs.Output.{InPlanOf, IsOutput}
use Rattle.star_report.specs.declared.wanted.Output.TheVariants.{Report}
use Rattle.star_serve.specs.Serve.{Reports, prelude_word, root_words}
use Rattle.star_serve.specs.declared.serve.Options.{Options}
use Rattle.star_session.specs.Answers.{IsAnswered, IsReportOf, asks_among}
use Rattle.star_session.specs.Changes.{Change, changed, files_after}
use Rattle.star_session.specs.Requests.{Asking}
use Rattle.star_reply.specs.Laws.{Answers, Replies}
use Rattle.star_reply.proofs.Ordered.{asked_files, before as parts, kept_within}
use Rattle.star_reply.proofs.Replies.{all_read, one_answer, one_reply}
use Rattle.star_alike.specs.Laws.{AreOptionsOf, ChangesFollow, IsAnsweredAsWritten, SessionsAnswer, SessionsAreProcesses, SessionsReply, SessionsServe, SessionsServeAmong, written}

-- an input that is not refused for the names whose calls are to be recorded is the input
pub not_refused : (test : Bool) (e : ServeError) (given : Result Asked ServeError) (asked : Asked) → if_so test e given ≡ Ok asked → given ≡ Ok asked
not_refused true e (Ok x) asked h = h
not_refused false e (Ok x) asked h = absurd (let no : ⊥ = cc in no)
not_refused test e (Err f) asked h = absurd (let no : ⊥ = cc in no)

-- what is asked among files that pass no limit
asked_there : (files : List File) (a : Asking) (asked : Asked) → asks_among files a ≡ Ok asked → asked_among a.roots a.prelude files ≡ Ok asked
asked_there files a asked e =
    let both = parts (within_limits files (limit_passed files)) (λ fs. asked_among a.roots a.prelude fs) asked (not_refused _ _ _ asked e) in
    let same : files ≡ both.0 = kept_within files both.0 (limit_passed files) both.1 in
    subst (λ fs. asked_among a.roots a.prelude fs ≡ Ok asked) (sym same) both.2

pub among : (files : List File) (a : Asking) (report before : List ℕ) (h : IsReportOf files a report) → Answers (Report a.wanted) files a.roots a.prelude a.mode before (Some (before ++ written report)) h.ok
among files a report before h =
    let there = asked_there files a h.asked h.asks in
    let same : h.asked.files ≡ files = asked_files a.roots a.prelude files h.asked there in
    (h.asked, there, (written report, refl, subst (λ fs. InPlanOf fs h.asked.roots h.asked.prelude a.mode (λ plan. IsOutput (Report a.wanted) fs plan (written report) h.ok)) (sym same) h.reports))

pub sessions_answer : SessionsAnswer
sessions_answer files a report before h = (h.ok, among files a report before h)

-- what is asked among the files of a bundle is asked for by the bundle
asked_in_bundle : (roots : List (List ℕ)) (prelude : Option (List ℕ)) (files : List File) (input : List ℕ) (asked : Asked) → files_of input ≡ Ok files → asked_among roots prelude files ≡ Ok asked → asked_of roots prelude input ≡ Ok asked
unfolding asked_of
asked_in_bundle roots prelude files input asked e h = ap (λ r. r >>= λ fs. asked_among roots prelude fs) e ∙ h

in_bundle : (files : List File) (a : Asking) (report : List ℕ) (h : IsReportOf files a report) (input before : List ℕ) → files_of input ≡ Ok files → Replies (Report a.wanted) a.roots a.prelude a.mode input before (Some (before ++ written report)) h.ok
in_bundle files a report h input before e =
    let it = among files a report before h in
    (it.0, asked_in_bundle a.roots a.prelude files input it.0 e it.1, it.2)

pub sessions_reply : SessionsReply
sessions_reply files a report h = record {
  ok = h.ok;
  is_reply = λ input before e. in_bundle files a report h input before e;
  each_reply = λ input before after well e r. one_reply (Report a.wanted) a.roots a.prelude a.mode input before after (Some (before ++ written report)) well h.ok r (in_bundle files a report h input before e);
}

-- ---- the promise of `serve`

-- what a process wrote, with the options of a request
with_options : (options : Options) (a : Asking) → AreOptionsOf options a → (input before : List ℕ) (after : Option (List ℕ)) (ok : Bool) → Replies options.output (root_words options) (prelude_word options) options.mode input before after ok → Replies (Report a.wanted) a.roots a.prelude a.mode input before after ok
with_options options a are input before after ok r =
    subst (λ n. Replies (Report a.wanted) a.roots a.prelude n input before after ok) are.mode
    (subst (λ o. Replies (Report a.wanted) a.roots o options.mode input before after ok) are.prelude
    (subst (λ rs. Replies (Report a.wanted) rs (prelude_word options) options.mode input before after ok) are.roots
    (subst (λ o. Replies o (root_words options) (prelude_word options) options.mode input before after ok) are.output r)))

pub sessions_serve : (W E : Type 0) → SessionsServe W E
sessions_serve W E taken traced failed files a report input before options old new writer writer' errors errors' ok h are e left took s =
    let same = all_read old.left new.left input s.1.0 left s.1.1.0.0.1 s.1.1.0.1 in
    let asks = subst (λ i. asked_of (root_words options) (prelude_word options) i ≡ Ok s.0) same (not_refused _ _ _ s.0 s.1.2) in
    let wrote = subst (λ w. Reports options.output s.0 options.mode w (taken writer') ok) took s.2 in
    ((sessions_reply files a report h).each_reply input before (taken writer') ok e (with_options options a are input before (taken writer') ok (s.0, asks, wrote))).0

with_options_among : (options : Options) (a : Asking) → AreOptionsOf options a → (files : List File) (before : List ℕ) (after : Option (List ℕ)) (ok : Bool) → Answers options.output files (root_words options) (prelude_word options) options.mode before after ok → Answers (Report a.wanted) files a.roots a.prelude a.mode before after ok
with_options_among options a are files before after ok r =
    subst (λ n. Answers (Report a.wanted) files a.roots a.prelude n before after ok) are.mode
    (subst (λ o. Answers (Report a.wanted) files a.roots o options.mode before after ok) are.prelude
    (subst (λ rs. Answers (Report a.wanted) files rs (prelude_word options) options.mode before after ok) are.roots
    (subst (λ o. Answers o files (root_words options) (prelude_word options) options.mode before after ok) are.output r)))

pub sessions_serve_among : (W E : Type 0) → SessionsServeAmong W E
sessions_serve_among W E taken traced failed files a report before options writer writer' errors errors' ok ordered h are took s =
    let wrote = subst (λ w. Reports options.output s.0 options.mode w (taken writer') ok) took s.2 in
    (one_answer files ordered (Report a.wanted) a.roots a.prelude a.mode before (taken writer') (Some (before ++ written report)) ok h.ok (with_options_among options a are files before (taken writer') ok (s.0, not_refused _ _ _ s.0 s.1, wrote)) (among files a report before h)).0

pub sessions_are_processes : SessionsAreProcesses
sessions_are_processes defaults before after [] [] h = h
sessions_are_processes defaults before after [] (x ∷ xs) h = absurd h
sessions_are_processes defaults before after (l ∷ ls) [] h = absurd h
sessions_are_processes defaults before after (l ∷ ls) (x ∷ xs) (between, one, rest) = (between, by one, sessions_are_processes defaults between after ls xs rest)
  where
    by : IsAnswered defaults before l between x → IsAnsweredAsWritten defaults before l between x
    by (inl (a, asks, r)) = inl (a, asks, r.after_is, r.id_text, r.report, r.id_is, sessions_reply between a r.report r.reports, r.answer_is)
    by (inr refused) = inr refused

follow : (cs ds : List Change) (files : List File) → files_after files (cs ++ ds) ≡ files_after (files_after files cs) ds
unfolding files_after
follow [] ds files = refl
follow (c ∷ cs) ds files = follow cs ds (changed files c.0 c.1)

pub changes_follow : ChangesFollow
changes_follow files cs ds = follow cs ds files
