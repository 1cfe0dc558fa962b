use Rattle.std.proofs.Common.{◌≡◌, ◌+◌, ◌*◌, drop}
use Rattle.star_store.specs.Content.{after, content, content_each, content_row}
use Rattle.star_store.specs.Store.{look}
use Rattle.star_store.proofs.content.+put_content.Given as goal

abbrev pub decreases-put_content : goal.decreases-put_content
decreases-put_content l = 2 * l.levels

abbrev pub decreases-put_row : goal.decreases-put_row
decreases-put_row l = 2 * l.levels + 1

abbrev pub invariant-put_row-loop-item : goal.invariant-put_row-loop-item
invariant-put_row-loop-item l =
    let f = content (look l.arena l.homes) l.levels in
    after l.atoms.items (content_each f (drop l.item-index l.items)) ≡ after l.fn.atoms.items (content_row f l.items)
