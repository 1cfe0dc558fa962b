use Rattle.std.proofs.Common.{subst, sym}
use Rattle.star_plan.specs.Reading.{IsPlanOf}
use Rattle.star_outcome.specs.Kept.{AllKept}
use Rattle.star_reading.specs.Found.{AreKnown}
use Rattle.star_reading.specs.declared.reading.Reads.{Reads}
use Rattle.star_host.specs.Counts.{AreCounts}
use Rattle.star_host.specs.Worlds.{plan_in}
use Rattle.star_host.proofs.Fewer.{counts_of_more}
use Rattle.star_host.proofs.running.run_in.Goals as goal

pub read_parsed-requires-clause-known : goal.read_parsed-requires-clause-known
read_parsed-requires-clause-known g c =
    λ lives within. subst (λ (r : Reads). AreKnown c.args.files.now c.args.options.prelude c.args.options.mode.now.language r.all.items) (sym c.replace-before.ensures.value) c.requires.reads

pub returns-clause-modules : goal.returns-clause-modules
returns-clause-modules g c =
    let plan = plan_in c.new-common.result in
    rw c.new-3.ensures (plan, subst (λ fs. IsPlanOf fs plan) c.new-common.ensures.files c.new-common.ensures.world.planned, c.new-common.ensures.roots, c.new-common.ensures.prelude, c.new-common.ensures.mode, c.in_ok-kept.ensures.modules)

pub returns-clause-refused : goal.returns-clause-refused
returns-clause-refused g c =
    let plan = plan_in c.new-common.result in
    rw c.new-3.ensures (plan, subst (λ fs. IsPlanOf fs plan) c.new-common.ensures.files c.new-common.ensures.world.planned, c.new-common.ensures.roots, c.new-common.ensures.prelude, c.new-common.ensures.mode, c.in_ok-kept.ensures.refused)

pub returns-clause-counts : goal.returns-clause-counts
returns-clause-counts g c = rw c.new-3.ensures (counts_of_more _ _ _ _ c.enough.ensures.given c.requires.loaders.1
    (subst (λ n. AreCounts n c.in_ok-kept.field-0.begun c.in_ok-kept.field-0.per_loader) c.new-common.ensures.loaders c.in_ok-kept.ensures.counts))

pub new-requires-3 : goal.new-requires-3
new-requires-3 g c = subst (λ ms. AllKept ms c.in_ok-kept.field-0.kept.items) c.new-common.ensures.modules c.in_ok-kept.ensures.kept
