use Rattle.std.proofs.Common.{◌≢◌, ◌∙◌}
use Rattle.star_cache.specs.declared.entry.Entry.{Entry}
use Rattle.star_cache.specs.declared.entry.Entry.TheVariants.{Fresh}
use Rattle.star_outcome.specs.Kept.{IsKept}
use Rattle.star_outcome.specs.Views.{IsTold, ToldView}
use Rattle.star_reading.proofs.PlacesRead.{all_push}
use Rattle.star_host.proofs.Settled.{kept_more, told_kept}
use Rattle.star_host.proofs.settle.keep.Goals as goal

pub returns-clause-cells : goal.returns-clause-cells
returns-clause-cells g c = λ all. rw c.in_ok-push.ensures.items (all_push (IsKept g.J.RunId.shelf) c.args.kept.now.items _ all c.kept-one.ensures.kept)

pub returns-clause-modules : goal.returns-clause-modules
returns-clause-modules g c =
    let told : IsTold g.J.RunId.files g.J.RunId.plan c.args.n c.in-Done.told = c.requires.told c.in-Done.told c.in-Done.is in
    let fresh : c.args.entry.now ≢ Fresh = λ e. let is = c.in-Done.is in let no : ⊥ = cc in no in
    λ all. rw c.in_ok-push.ensures.items
    (kept_more g.J.RunId.plan c.args.n c.args.kept.now.items c.kept-one.result (c.kept-one.ensures.number ∙ told.number)
    (told_kept g.J.RunId.files g.J.RunId.plan c.args.n c.in-Done.told c.kept-one.result (c.requires.begun fresh) told c.kept-one.ensures.number c.kept-one.ensures.known) all)
