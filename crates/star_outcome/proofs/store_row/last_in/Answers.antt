use Rattle.std.proofs.Common.{◌≡◌, ◌-◌, length, ap, sym, ◌∙◌}
use Rattle.std.specs.Prelude.{slice_get}
use Rattle.star_outcome.proofs.Blocks.{block_stores, last_listed}
use Rattle.star_outcome.proofs.store_row.last_in.Goals as goal

pub returns-in-Some : goal.returns-in-Some
returns-in-Some c =
    let bs = c.args.blocks.now in
    let b = c.in-Some.block.now in
    let same : c.stores.result.now ≡ block_stores b = c.stores.ensures ∙ c.deref.ensures in
    last_listed bs (length bs - 1) (length (block_stores b) - 1) b c.last-in-Some.result (sym c.in-Some.ensures.value) (c.last-in-Some.ensures.value ∙ ap (λ xs. slice_get xs (length xs - 1)) same)
