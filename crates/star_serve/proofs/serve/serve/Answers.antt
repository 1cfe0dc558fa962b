use Rattle.std.proofs.Common.{◌≡◌, false, true, refl, ap, sym, ◌∙◌, arith, map, string_bytes}
use Rattle.std.specs.Option.{option_map}
use Rattle.std.proofs.lemmas.Result.{IfOk-weaker}
use Rattle.star_bundle.specs.Bundle.{asked_of}
use Rattle.star_serve.specs.Serve.{Asks, BreaksOff, Overruns, may_record, recording}
use Rattle.star_serve.proofs.Recording.{recorded_not, recorded_ok}
use Rattle.star_bundle.specs.View.{asked_view}
use Rattle.star_serve.proofs.Traced.{if_ok_both}
use Rattle.star_serve.proofs.Refusals.{asked_kind, refused_by, run_refused, run_reads, if_err, no_read_failed, no_write_failed}
use Rattle.star_serve.proofs.Spoken.{same_by_words}
use Rattle.star_serve.proofs.serve.serve.Goals as goal

pub returns-in-Err-asked_for-clause-refused : goal.returns-in-Err-asked_for-clause-refused
returns-in-Err-asked_for-clause-refused g c =
    let options = c.args.options.now in
    let old = g.R.Source.said c.args.reader.now in
    let new = g.R.Source.said c.read_all.new.reader in
    let roots = map string_bytes c.as_slice-2.result.now in
    let prelude = option_map (λ p. string_bytes p.now) c.as_ref.result in
    let given = asked_of roots prelude c.as_slice.result.now in
    let same = same_by_words (λ rs p. asked_of rs p c.in-Ok.bytes.items) options c.as_slice-2.result.now c.as_ref.result c.as_slice-2.ensures.value c.as_ref.ensures.value in
    let read = ap (asked_of roots prelude) c.as_slice.ensures.value in
    refused_by (Asks old new options) (BreaksOff old new) (Overruns old new) (c.args.writer.now ≡ c.args.writer.now)
    c.in-Err-asked_for.error given c.in-Err-asked_for.ensures.asked (asked_kind roots prelude c.as_slice.result.now)
    (λ e is. (c.in-Ok.bytes.items, (c.in-Ok.ensures.ok, c.in-Ok.ensures.within), ap (recording options) (same ∙ sym read ∙ is))) refl

pub returns-in-Err-asked_for-clause-reads : goal.returns-in-Err-asked_for-clause-reads
returns-in-Err-asked_for-clause-reads g c =
    let roots = map string_bytes c.as_slice-2.result.now in
    let prelude = option_map (λ p. string_bytes p.now) c.as_ref.result in
    let none = no_read_failed c.in-Err-asked_for.error (asked_of roots prelude c.as_slice.result.now) c.in-Err-asked_for.ensures.asked (asked_kind roots prelude c.as_slice.result.now) in
    omega (arith, none, c.in-Ok.ensures.counts)

pub returns-in-Err-asked_for-clause-writes : goal.returns-in-Err-asked_for-clause-writes
returns-in-Err-asked_for-clause-writes g c =
    let roots = map string_bytes c.as_slice-2.result.now in
    let prelude = option_map (λ p. string_bytes p.now) c.as_ref.result in
    let none = no_write_failed c.in-Err-asked_for.error (asked_of roots prelude c.as_slice.result.now) c.in-Err-asked_for.ensures.asked (asked_kind roots prelude c.as_slice.result.now) in
    omega (arith, none)

pub returns-clause-refused : goal.returns-clause-refused
returns-clause-refused g c =
    let options = c.args.options.now in
    let old = g.R.Source.said c.args.reader.now in
    let new = g.R.Source.said c.read_all.new.reader in
    let same = same_by_words (λ rs p. asked_of rs p c.in-Ok.bytes.items) options c.as_slice-2.result.now c.as_ref.result c.as_slice-2.ensures.value c.as_ref.ensures.value in
    let read = ap (asked_of (map string_bytes c.as_slice-2.result.now) (option_map (λ p. string_bytes p.now) c.as_ref.result)) c.as_slice.ensures.value in
    let asked = asked_view c.in-Ok-asked_for.asked in
    let may : may_record options ≡ true = sym c.may_record.ensures ∙ c.if-not-may_record.false in
    let found = recorded_ok options _ asked may (same ∙ sym read ∙ c.in-Ok-asked_for.ensures.asked) in
    if_err c.reported.result _ _
    (λ e h. run_refused (Asks old new options) (BreaksOff old new) (Overruns old new) (c.reported.new.writer ≡ c.args.writer.now)
    e asked h (c.in-Ok.bytes.items, (c.in-Ok.ensures.ok, c.in-Ok.ensures.within), found))
    c.reported.ensures.refused

pub returns-clause-reads : goal.returns-clause-reads
returns-clause-reads g c = omega (arith, run_reads _ c.reported.result c.reported.ensures.refused, c.in-Ok.ensures.counts)

pub returns-clause-ok : goal.returns-clause-ok
returns-clause-ok g c =
    let options = c.args.options.now in
    let same = same_by_words (λ rs p. asked_of rs p c.in-Ok.bytes.items) options c.as_slice-2.result.now c.as_ref.result c.as_slice-2.ensures.value c.as_ref.ensures.value in
    let read = ap (asked_of (map string_bytes c.as_slice-2.result.now) (option_map (λ p. string_bytes p.now) c.as_ref.result)) c.as_slice.ensures.value in
    let asked = asked_view c.in-Ok-asked_for.asked in
    let may : may_record options ≡ true = sym c.may_record.ensures ∙ c.if-not-may_record.false in
    let found = recorded_ok options _ asked may (same ∙ sym read ∙ c.in-Ok-asked_for.ensures.asked) in
    IfOk-weaker c.reported.result _ _
    (λ all_ok h. (asked, (c.in-Ok.bytes.items, (c.in-Ok.ensures.ok, c.in-Ok.ensures.within), found), h.0, h.1))
    (if_ok_both c.reported.result _ _ c.reported.ensures.ok c.reported.ensures.traced)

pub returns-then-not-may_record-clause-refused : goal.returns-then-not-may_record-clause-refused
returns-then-not-may_record-clause-refused g c =
    let options = c.args.options.now in
    let same = same_by_words (λ rs p. asked_of rs p c.in-Ok.bytes.items) options c.as_slice-2.result.now c.as_ref.result c.as_slice-2.ensures.value c.as_ref.ensures.value in
    let read = ap (asked_of (map string_bytes c.as_slice-2.result.now) (option_map (λ p. string_bytes p.now) c.as_ref.result)) c.as_slice.ensures.value in
    let may : may_record options ≡ false = sym c.may_record.ensures ∙ c.if-not-may_record.true in
    let found = recorded_not options _ (asked_view c.in-Ok-asked_for.asked) may (same ∙ sym read ∙ c.in-Ok-asked_for.ensures.asked) in
    ((c.in-Ok.bytes.items, (c.in-Ok.ensures.ok, c.in-Ok.ensures.within), found), refl)
