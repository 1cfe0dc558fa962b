use Rattle.std.proofs.Common.{List, slice_get, ap, sym, ◌∙◌}
use Rattle.star_store.specs.declared.content.Atom.{Atom}
use Rattle.star_store.specs.Index.{place_by}
use Rattle.star_store.specs.Store.{look}
use Rattle.star_store.proofs.Far.{beside_found}
use Rattle.star_store.proofs.arena.Arena.indexed_beside.Goals as goal

pub returns : goal.returns
returns c = λ e p es q.
    let seen = look c.args.self.now c.args.homes.now in
    c.place.ensures
    ∙ ap (place_by c.in_ok-get.field-0.now) c.keys.ensures
    ∙ beside_found seen (seen c.args.dict) (seen c.args.other) c.in_ok-left.left.now c.in_ok-right.right.now c.args.at c.in_ok-get.field-0.now c.in_ok-left.ensures c.if-not-is_near.ensures c.in_ok-right.ensures c.if-not-is_near-2.ensures
    (ap (λ (keys : List (List Atom)). slice_get keys c.args.at) (sym c.keys-2.ensures) ∙ sym c.in_ok-get.ensures) e p es q
