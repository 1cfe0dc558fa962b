use Rattle.std.proofs.Common.{◌<◌, ap, length, slice_index_or, subst, sym, ◌∙◌}
use Rattle.star_outcome.specs.Fits.{asked_below}
use Rattle.serve_tests.proofs.library.load_first.Goals as goal

pub seen-requires-clause-number : goal.seen-requires-clause-number
seen-requires-clause-number g c =
    subst (λ n. slice_index_or c.args.roots.now 0 0 < n) (sym (ap length c.requires.world.cells_are ∙ c.requires.world.cells_fit))
    (asked_below _ _ _ (c.requires.roots 0 0 c.requires.some))
