use Rattle.std.proofs.Common.{◌≡◌, drop}
use Rattle.star_meaning.specs.ListMethods.{add_item}
use Rattle.star_meaning.specs.Run.{all_of}
use Rattle.star_method.proofs.lists.add_items.Given as goal

abbrev pub invariant-loop-item : goal.invariant-loop-item
invariant-loop-item l =
    let f = add_item l.setting l.line l.list in
    all_of f (drop l.item-index l.items) l.machine ≡ all_of f l.items l.fn.machine
