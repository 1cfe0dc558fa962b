use Rattle.std.proofs.Common.{◌≡◌, ◌∙◌, ap, length, sym, subst}
use Rattle.star_outcome.specs.GoodEnds.{AreGoodEndsOf}
use Rattle.star_outcome.specs.Kept.{AreModulesOf}
use Rattle.star_outcome.specs.Refusals.{AreRefusalsOf}
use Rattle.star_reading.specs.Found.{IsReadOf}
use Rattle.star_serve.proofs.WrittenTexts.{in_plan_of_same, lead_within, row_size}
use Rattle.star_serve.proofs.serve.answered.Goals as goal

pub written_of-requires-clause-reads : goal.written_of-requires-clause-reads
written_of-requires-clause-reads g c =
    let asked = c.args.job.now.asked.now in
    λ lives within. row_size asked.files c.as_slice-roots.result.now asked.prelude c.args.options.now.mode.language c.run_in-outcome.new.reads.all.items c.in-Ok.ensures.read

pub written_of-requires-clause-loads : goal.written_of-requires-clause-loads
written_of-requires-clause-loads g c =
    let asked = c.args.job.now.asked.now in
    λ lives within. lead_within asked.files c.as_slice-roots.result.now asked.prelude c.args.options.now.mode.language c.run_in-outcome.new.reads.all.items c.in-Ok.ensures.read

pub returns-clause-text : goal.returns-clause-text
returns-clause-text g c =
    let asked = c.args.job.now.asked.now in
    in_plan_of_same asked.files asked.roots.items c.as_slice-roots.result.now asked.prelude c.args.options.now.mode c.run_in-outcome.new.reads.all.items c.in-Ok.run' _ c.as_slice-roots.ensures.value c.in-Ok.ensures.begun c.in-Ok.ensures.modules c.in-Ok.ensures.read c.in_ok-written.ensures.text

pub returns-clause-said : goal.returns-clause-said
returns-clause-said g c =
    let asked = c.args.job.now.asked.now in
    in_plan_of_same asked.files asked.roots.items c.as_slice-roots.result.now asked.prelude c.args.options.now.mode c.run_in-outcome.new.reads.all.items c.in-Ok.run' _ c.as_slice-roots.ensures.value c.in-Ok.ensures.begun c.in-Ok.ensures.modules c.in-Ok.ensures.read c.in_ok-written.ensures.said

pub returns-clause-refused : goal.returns-clause-refused
returns-clause-refused g c =
    let asked = c.args.job.now.asked.now in
    subst (λ r. AreRefusalsOf asked.files asked.roots.items asked.prelude c.args.options.now.mode r.refused) (sym c.in_ok-written.ensures.same)
    (subst (λ roots. AreRefusalsOf asked.files roots asked.prelude c.args.options.now.mode c.in-Ok.run'.refused) c.as_slice-roots.ensures.value c.in-Ok.ensures.refused)

pub run_in-outcome-requires-clause-ends : goal.run_in-outcome-requires-clause-ends
run_in-outcome-requires-clause-ends g c =
    let asked = c.args.job.now.asked.now in
    λ lives within. subst (λ roots. AreGoodEndsOf asked.files roots asked.prelude c.args.options.now.mode c.args.ends.now) (sym c.as_slice-roots.ensures.value) c.requires.ends

pub returns-clause-cells : goal.returns-clause-cells
returns-clause-cells g c = ap (λ r. length r.cells) c.in_ok-written.ensures.same ∙ c.in-Ok.ensures.files

pub returns-clause-modules : goal.returns-clause-modules
returns-clause-modules g c =
    let asked = c.args.job.now.asked.now in
    subst (λ r. AreModulesOf asked.files asked.roots.items asked.prelude c.args.options.now.mode r.kept) (sym c.in_ok-written.ensures.same)
    (subst (λ roots. AreModulesOf asked.files roots asked.prelude c.args.options.now.mode c.in-Ok.run'.kept) c.as_slice-roots.ensures.value c.in-Ok.ensures.modules)

pub returns-clause-read : goal.returns-clause-read
returns-clause-read g c =
    let asked = c.args.job.now.asked.now in
    subst (λ roots. IsReadOf asked.files roots asked.prelude c.args.options.now.mode.language c.run_in-outcome.new.reads.all.items) c.as_slice-roots.ensures.value c.in-Ok.ensures.read
