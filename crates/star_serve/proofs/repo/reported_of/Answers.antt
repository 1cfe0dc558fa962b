use Rattle.std.proofs.Common.{◌≡◌, Ok, refl, subst, sym, ◌∙◌, arith, map, string_bytes}
use Rattle.std.specs.Option.{option_map}
use Rattle.std.proofs.lemmas.Result.{IfOk-weaker}
use Rattle.star_bundle.specs.Bundle.{asked_among}
use Rattle.star_bundle.specs.View.{asked_view}
use Rattle.star_reading.specs.Parsed.{AreParsesOf}
use Rattle.star_serve.proofs.Traced.{if_ok_both}
use Rattle.star_serve.proofs.Refusals.{IsOfWords, if_err, words_kind}
use Rattle.star_serve.proofs.RepoRefusals.{asked_files, asked_refused, asked_writes, run_refused}
use Rattle.star_serve.proofs.Recording.{recorded_ok}
use Rattle.star_serve.proofs.Spoken.{same_by_words}
use Rattle.star_serve.proofs.repo.reported_of.Goals as goal

pub returns-in-Err-clause-refused : goal.returns-in-Err-clause-refused
returns-in-Err-clause-refused g c =
    let files = c.args.reached.files in
    let roots = map string_bytes c.as_slice.result.now in
    let prelude = option_map (λ p. string_bytes p.now) c.as_ref.result in
    let same = same_by_words (λ rs p. asked_among rs p files) c.args.options.now c.as_slice.result.now c.as_ref.result c.as_slice.ensures.value c.as_ref.ensures.value in
    rw same (asked_refused (asked_among roots prelude files) _ c.in-Err.error c.in-Err.ensures.asked (words_kind IsOfWords roots prelude files tt tt tt tt) refl)

pub returns-in-Err-clause-writes : goal.returns-in-Err-clause-writes
returns-in-Err-clause-writes g c =
    let roots = map string_bytes c.as_slice.result.now in
    let prelude = option_map (λ p. string_bytes p.now) c.as_ref.result in
    let files = c.args.reached.files in
    omega (arith, asked_writes (asked_among roots prelude files) c.in-Err.error c.in-Err.ensures.asked (words_kind IsOfWords roots prelude files tt tt tt tt))

pub returns-clause-refused : goal.returns-clause-refused
returns-clause-refused g c =
    let files = c.args.reached.files in
    let same = same_by_words (λ rs p. asked_among rs p files) c.args.options.now c.as_slice.result.now c.as_ref.result c.as_slice.ensures.value c.as_ref.ensures.value in
    if_err c.reported_over-outcome.result _ _ (λ e h. run_refused _ _ e (asked_view c.in-Ok.asked) h (same ∙ c.in-Ok.ensures.asked)) c.reported_over-outcome.ensures.refused

pub returns-clause-ok : goal.returns-clause-ok
returns-clause-ok g c =
    let files = c.args.reached.files in
    let same = same_by_words (λ rs p. asked_among rs p files) c.args.options.now c.as_slice.result.now c.as_ref.result c.as_slice.ensures.value c.as_ref.ensures.value in
    IfOk-weaker c.reported_over-outcome.result _ _ (λ all_ok h. (asked_view c.in-Ok.asked, recorded_ok c.args.options.now _ (asked_view c.in-Ok.asked) c.requires.recorded (same ∙ c.in-Ok.ensures.asked), h.0, h.1))
    (if_ok_both c.reported_over-outcome.result _ _ c.reported_over-outcome.ensures.ok c.reported_over-outcome.ensures.traced)

pub reported_over-outcome-requires-clause-parses : goal.reported_over-outcome-requires-clause-parses
reported_over-outcome-requires-clause-parses g c κs within =
    let files = c.args.reached.files in
    let roots = map string_bytes c.as_slice.result.now in
    let prelude = option_map (λ p. string_bytes p.now) c.as_ref.result in
    let same = asked_files roots prelude files (asked_view c.in-Ok.asked) c.in-Ok.ensures.asked in
    subst (AreParsesOf c.in-Ok.asked.files) (sym c.as_slice-2.ensures.value) (subst (λ fs. AreParsesOf fs c.args.reached.parses.items) (sym same) c.requires.parsed)
