use Rattle.std.proofs.Common.{◌≡◌, false, true, refl, ap, sym, ◌∙◌, arith, map, string_bytes}
use Rattle.std.specs.Option.{option_map}
use Rattle.std.proofs.lemmas.Result.{IfOk-weaker}
use Rattle.star_bundle.specs.Bundle.{asked_among}
use Rattle.star_bundle.specs.View.{asked_view}
use Rattle.star_folder.specs.Refusal.{IsStopped}
use Rattle.star_folder.proofs.StopKinds.{of_walk}
use Rattle.star_serve.specs.Serve.{AsksForDir, may_record, recording}
use Rattle.star_serve.proofs.Recording.{recorded_not, recorded_ok}
use Rattle.star_serve.proofs.Traced.{if_ok_both}
use Rattle.star_serve.proofs.Refusals.{IsOfWords, if_err, words_kind}
use Rattle.star_serve.proofs.FolderRefusals.{run_counts, run_refused, stopped_refused, stopped_writes, words_among, words_refused}
use Rattle.star_serve.proofs.Spoken.{same_by_words}
use Rattle.star_serve.proofs.dir.serve_dir.Goals as goal

pub returns-in-Err-clause-refused : goal.returns-in-Err-clause-refused
returns-in-Err-clause-refused g c =
    let held = g.F.Folder.holds c.args.folder.now in
    stopped_refused (IsStopped held)
    (AsksForDir held c.args.options.now)
    (c.args.writer.now ≡ c.args.writer.now)
    c.in-Err.error (of_walk held c.in-Err.error c.in-Err.ensures.stopped) c.in-Err.ensures.stopped refl

pub returns-in-Err-clause-writes : goal.returns-in-Err-clause-writes
returns-in-Err-clause-writes g c =
    omega (arith, stopped_writes c.in-Err.error (of_walk (g.F.Folder.holds c.args.folder.now) c.in-Err.error c.in-Err.ensures.stopped))

pub returns-in-Err-asked_in-clause-refused : goal.returns-in-Err-asked_in-clause-refused
returns-in-Err-asked_in-clause-refused g c =
    let held = g.F.Folder.holds c.args.folder.now in
    let roots = map string_bytes c.as_slice.result.now in
    let prelude = option_map (λ p. string_bytes p.now) c.as_ref.result in
    let given = asked_among roots prelude c.in-Ok.files in
    let same = same_by_words (λ rs p. asked_among rs p c.in-Ok.files) c.args.options.now c.as_slice.result.now c.as_ref.result c.as_slice.ensures.value c.as_ref.ensures.value in
    words_refused (IsStopped held)
    (AsksForDir held c.args.options.now)
    (c.args.writer.now ≡ c.args.writer.now)
    c.in-Err-asked_in.error given c.in-Err-asked_in.ensures.asked (words_kind IsOfWords roots prelude c.in-Ok.files tt tt tt tt)
    (λ e is. (c.in-Ok.files, c.in-Ok.ensures.files, ap (recording c.args.options.now) (same ∙ is))) refl

pub returns-in-Err-asked_in-clause-listings : goal.returns-in-Err-asked_in-clause-listings
returns-in-Err-asked_in-clause-listings g c =
    omega (arith, (words_among (map string_bytes c.as_slice.result.now) (option_map (λ p. string_bytes p.now) c.as_ref.result) c.in-Ok.files c.in-Err-asked_in.error c.in-Err-asked_in.ensures.asked).0, c.in-Ok.ensures.listings)

pub returns-in-Err-asked_in-clause-reads : goal.returns-in-Err-asked_in-clause-reads
returns-in-Err-asked_in-clause-reads g c =
    omega (arith, (words_among (map string_bytes c.as_slice.result.now) (option_map (λ p. string_bytes p.now) c.as_ref.result) c.in-Ok.files c.in-Err-asked_in.error c.in-Err-asked_in.ensures.asked).1, c.in-Ok.ensures.reads)

pub returns-in-Err-asked_in-clause-writes : goal.returns-in-Err-asked_in-clause-writes
returns-in-Err-asked_in-clause-writes g c =
    omega (arith, (words_among (map string_bytes c.as_slice.result.now) (option_map (λ p. string_bytes p.now) c.as_ref.result) c.in-Ok.files c.in-Err-asked_in.error c.in-Err-asked_in.ensures.asked).2)

pub returns-clause-refused : goal.returns-clause-refused
returns-clause-refused g c =
    let held = g.F.Folder.holds c.args.folder.now in
    let same = same_by_words (λ rs p. asked_among rs p c.in-Ok.files) c.args.options.now c.as_slice.result.now c.as_ref.result c.as_slice.ensures.value c.as_ref.ensures.value in
    let may : may_record c.args.options.now ≡ true = sym c.may_record.ensures ∙ c.if-not-may_record.false in
    let found = recorded_ok c.args.options.now _ (asked_view c.in-Ok-asked_in.asked) may (same ∙ c.in-Ok-asked_in.ensures.asked) in
    if_err c.reported.result _ _
    (λ e h. run_refused (IsStopped held)
    (AsksForDir held c.args.options.now)
    (c.reported.new.writer ≡ c.args.writer.now)
    e (asked_view c.in-Ok-asked_in.asked) h (c.in-Ok.files, c.in-Ok.ensures.files, found))
    c.reported.ensures.refused

pub returns-clause-listings : goal.returns-clause-listings
returns-clause-listings g c = omega (arith, (run_counts _ c.reported.result c.reported.ensures.refused).0, c.in-Ok.ensures.listings)

pub returns-clause-reads : goal.returns-clause-reads
returns-clause-reads g c = omega (arith, (run_counts _ c.reported.result c.reported.ensures.refused).1, c.in-Ok.ensures.reads)

pub returns-clause-ok : goal.returns-clause-ok
returns-clause-ok g c =
    let same = same_by_words (λ rs p. asked_among rs p c.in-Ok.files) c.args.options.now c.as_slice.result.now c.as_ref.result c.as_slice.ensures.value c.as_ref.ensures.value in
    let may : may_record c.args.options.now ≡ true = sym c.may_record.ensures ∙ c.if-not-may_record.false in
    let found = recorded_ok c.args.options.now _ (asked_view c.in-Ok-asked_in.asked) may (same ∙ c.in-Ok-asked_in.ensures.asked) in
    IfOk-weaker c.reported.result _ _ (λ all_ok h. (asked_view c.in-Ok-asked_in.asked, (c.in-Ok.files, c.in-Ok.ensures.files, found), h.0, h.1))
    (if_ok_both c.reported.result _ _ c.reported.ensures.ok c.reported.ensures.traced)

pub returns-then-not-may_record-clause-refused : goal.returns-then-not-may_record-clause-refused
returns-then-not-may_record-clause-refused g c =
    let same = same_by_words (λ rs p. asked_among rs p c.in-Ok.files) c.args.options.now c.as_slice.result.now c.as_ref.result c.as_slice.ensures.value c.as_ref.ensures.value in
    let may : may_record c.args.options.now ≡ false = sym c.may_record.ensures ∙ c.if-not-may_record.true in
    ((c.in-Ok.files, c.in-Ok.ensures.files, recorded_not c.args.options.now _ (asked_view c.in-Ok-asked_in.asked) may (same ∙ c.in-Ok-asked_in.ensures.asked)), refl)
