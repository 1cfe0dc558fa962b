use denote.Ref.{Bor}
use Rattle.std.proofs.Common.{sym, ◌∙◌, subst, arith}
use Rattle.std.proofs.lemmas.List.{length-map}
use Rattle.std.proofs.lemmas.Option.{slice_get_within}
use Rattle.star_cache.specs.State.{Loads}
use Rattle.star_plan.specs.Plan.{loaded, loads_of}
use Rattle.star_scope.specs.declared.loads.Load.{Load}
use Rattle.star_outcome.specs.declared.module.Module.{Module}
use Rattle.star_outcome.specs.Gathered.{AreNeeded, IsListed}
use Rattle.star_outcome.specs.Reaches.{row_of}
use Rattle.star_outcome.proofs.Stores.{load_good, load_is, more_loads, needs_listed}
use Rattle.star_outcome.proofs.reachable.gathered.Goals as goal

pub add_load-requires-clause-load : goal.add_load-requires-clause-load
add_load-requires-clause-load g c =
    subst (λ n. Loads (loaded g.J.RunId.plan) n c.it-item.result.now.number) (sym c.loop-it.invariant.file)
    (load_is g.J.RunId.plan c.args.n c.loop-it.it-index c.args.modules.now c.it-item.result c.requires c.loop-it-test.true c.it-item.is)

pub add_load-requires-clause-good : goal.add_load-requires-clause-good
add_load-requires-clause-good g c = load_good g.J.RunId.plan c.args.n c.loop-it.it-index c.args.modules.now c.it-item.result c.requires c.loop-it-test.true c.it-item.is

pub loop-it-preserved : goal.loop-it-preserved
loop-it-preserved g c = record {
  file = c.in_ok-add_load.ensures.file ∙ c.loop-it.invariant.file;
  there = more_loads g.J.RunId.plan c.args.n c.loop-it.it-index c.args.modules.now c.it-item.result c.loop-it.given.reaches c.add_load.new.self.reaches c.requires c.loop-it-test.true c.it-item.is c.in_ok-add_load.ensures.stays c.in_ok-add_load.ensures.there c.loop-it.invariant.there;
}

pub returns-clause-needed : goal.returns-clause-needed
returns-clause-needed g c = subst (λ n. AreNeeded g.J.RunId.plan n (row_of c.into_row.result)) c.loop-it.invariant.file c.into_row.ensures.needed

pub returns-clause-all : goal.returns-clause-all
returns-clause-all g c = λ k needs. subst (λ rs. IsListed rs k) (sym c.into_row.ensures.row) (needs_listed g.J.RunId.plan c.args.n c.loop-it.given.reaches (λ i m at.
    let within = slice_get_within (loaded g.J.RunId.plan c.args.n) i m at in
    let long = length-map (loads_of g.J.RunId.plan c.args.n) (λ (l : Load). l.file) in
    let width = length-map c.args.modules.now (λ (x : Bor Module). x.now) in
    let count = c.requires.count in
    let last = c.loop-it-test.false in
    c.loop-it.invariant.there i m (omega (arith, within, long, width, count, last)) at) k needs)
