use denote.Ref.{Bor}
use Rattle.std.proofs.Common.{ℕ, List, Ok, map, sym, ◌∙◌, subst}
use Rattle.star_store.specs.Store.{Shelf}
use Rattle.star_plan.specs.Shelves.{HoldsNeeds, Needs}
use Rattle.star_outcome.specs.Gathered.{AreNeeded, IsListed}
use Rattle.star_outcome.specs.Homes.{shelf_of}
use Rattle.star_outcome.proofs.Seats.{IsShelfFor, holds_needs, needed_shelf}
use Rattle.star_host.specs.Bodies.{IsRan}
use Rattle.star_outcome.specs.Reaches.{row_of}
use Rattle.star_outcome.specs.declared.module.Module.{Module}
use Rattle.star_host.proofs.Bodies.{body_may_run, body_pays, loads_in_row, ran_so}
use Rattle.star_host.proofs.work.run.Goals as goal

pub ended_of-requires-clause-ran : goal.ended_of-requires-clause-ran
ended_of-requires-clause-ran g c =
    let plan = g.J.RunId.plan in
    let common = c.args.common.now in
    let program = c.args.program.now in
    let world = c.requires.world in
    let reaches = c.in_ok-reaches.reaches in
    let shelf : Shelf = shelf_of reaches in
    let at = c.file_number-home.ensures in
    let mine : IsShelfFor plan c.args.n shelf = needed_shelf plan c.args.n (row_of reaches) c.in_ok-reaches.ensures.needed in
    let holds : HoldsNeeds plan c.args.n shelf = holds_needs plan c.args.n (row_of reaches) c.in_ok-reaches.ensures.needed c.in_ok-reaches.ensures.all in
    let may = body_may_run g.J.RunId.files plan common.programs.now common.reads.now c.args.n program shelf (map (λ (m : Bor Module). m.now) c.args.modules.now) world.planned world.placed world.row_is c.requires.read c.requires.loads mine.tight holds in
    let pays = body_pays g.J.RunId.files plan common.programs.now common.reads.now c.args.n program shelf (map (λ (m : Bor Module). m.now) c.args.modules.now) world.placed world.row_is c.requires.read c.requires.loads mine.tight holds in
    let ran : IsRan plan c.args.n c.in_ok-outcome.outcome = ran_so plan common.programs.now c.args.n c.file_number-home.result program.statements.now shelf program.loads.items c.prelude_file-prelude.result common.mode.now (Ok c.in_ok-outcome.outcome) may pays at
    (loads_in_row plan common.reads.now c.args.n program world.row_is c.requires.read) (c.prelude_file-prelude.ensures ∙ world.prelude_is) world.mode_is c.in_ok-outcome.ensures.names c.in_ok-outcome.ensures.named in
    subst (λ k. IsRan plan k c.in_ok-outcome.outcome) (sym at) ran

pub ended_of-requires-clause-needed : goal.ended_of-requires-clause-needed
ended_of-requires-clause-needed g c = subst (λ k. AreNeeded g.J.RunId.plan k (row_of c.in_ok-reaches.reaches)) (sym c.file_number-home.ensures) c.in_ok-reaches.ensures.needed

pub ended_of-requires-clause-all : goal.ended_of-requires-clause-all
ended_of-requires-clause-all g c = subst (λ m. (k : ℕ) → Needs g.J.RunId.plan m k → IsListed (row_of c.in_ok-reaches.reaches) k) (sym c.file_number-home.ensures) c.in_ok-reaches.ensures.all
