use Rattle.std.proofs.Common.{◌∙◌, subst, sym}
use Rattle.star_bundle.specs.View.{asked_view}
use Rattle.star_reading.proofs.Known.{none_known}
use Rattle.star_report.specs.declared.wanted.Output.TheVariants.{Check}
use Rattle.star_serve.specs.Serve.{IsOutputFor}
use Rattle.star_serve.proofs.Streams.{went_well}
use Rattle.star_serve.proofs.serve.checked_over.Goals as goal

pub returns-clause-ok : goal.returns-clause-ok
returns-clause-ok g c =
    let asked = asked_view c.args.job.now.asked.now in
    let mode = c.args.options.now.mode in
    let it = c.in-Ok.it in
    (c.as_slice.result.now, went_well c.write_some.result (sym c.is_err.ensures.value ∙ c.if-is_err.false) c.write_some.ensures.takes, subst (λ text. IsOutputFor (Check c.args.only_roots c.args.calls) asked mode text it.all_ok) (sym c.as_slice.ensures.value) c.in-Ok.ensures.text)

pub checked-requires-clause-reads : goal.checked-requires-clause-reads
checked-requires-clause-reads g c =
    let asked = c.args.job.now.asked.now in
    λ lives within. none_known asked.files asked.prelude c.args.options.now.mode.language c.new-reads.result.all.items c.new-reads.ensures
