use Rattle.std.proofs.Common.{◌≡◌, ◌+◌, ◌*◌, [], drop}
use Rattle.json.specs.Value.{items_view, members_view}
use Rattle.star_machine.specs.Refines.{with_front}
use Rattle.star_meaning.specs.Json.{decoded, decoded_items, decoded_members}
use Rattle.star_builtin.proofs.decoding.+decode.Given as goal

abbrev pub decreases-decoded : goal.decreases-decoded
decreases-decoded l = 4 * l.levels

abbrev pub decreases-built : goal.decreases-built
decreases-built l = 4 * l.levels + 3

abbrev pub decreases-items_of : goal.decreases-items_of
decreases-items_of l = 4 * l.levels + 2

abbrev pub decreases-entries_of : goal.decreases-entries_of
decreases-entries_of l = 4 * l.levels + 2

abbrev pub invariant-items_of-loop-item : goal.invariant-items_of-loop-item
invariant-items_of-loop-item l = let f = decoded l.line l.levels in with_front l.values.items (decoded_items f (items_view (drop l.item-index l.items)) l.machine) ≡ decoded_items f (items_view l.items) l.fn.machine

abbrev pub invariant-entries_of-loop-member : goal.invariant-entries_of-loop-member
invariant-entries_of-loop-member l = let f = decoded l.line l.levels in with_front l.entries (decoded_members l.line f l.before (members_view (drop l.member-index l.members)) l.machine) ≡ decoded_members l.line f [] (members_view l.members) l.fn.machine
