use Rattle.std.proofs.Common.{◌≡◌, ◌+◌, ◌*◌, drop}
use Rattle.star_needs.specs.Changed.{same_entries, same_items}
use Rattle.star_memo.specs.Lasting.{is_data}
use Rattle.star_memo.proofs.same.+same.Given as goal

abbrev pub decreases-is_data : goal.decreases-is_data
decreases-is_data l = 6 * l.levels + 1

abbrev pub decreases-is_same : goal.decreases-is_same
decreases-is_same l = 6 * l.levels

abbrev pub decreases-are_one : goal.decreases-are_one
decreases-are_one l = 6 * l.levels + 5

abbrev pub decreases-are_fields : goal.decreases-are_fields
decreases-are_fields l = 6 * l.levels + 4

abbrev pub decreases-are_same : goal.decreases-are_same
decreases-are_same l = 6 * l.levels + 3

abbrev pub decreases-is_same_entry : goal.decreases-is_same_entry
decreases-is_same_entry l = 6 * l.levels + 2

abbrev pub decreases-have_same : goal.decreases-have_same
decreases-have_same l = 6 * l.levels + 3

abbrev pub invariant-are_same-loop-i : goal.invariant-are_same-loop-i
invariant-are_same-loop-i l =
    same_items (is_data l.stores l.levels) (drop l.i l.xs) (drop l.i l.ys) ≡ same_items (is_data l.stores l.levels) l.xs l.ys

abbrev pub invariant-have_same-loop-i : goal.invariant-have_same-loop-i
invariant-have_same-loop-i l =
    same_entries (is_data l.stores l.levels) (drop l.i l.xs) (drop l.i l.ys) ≡ same_entries (is_data l.stores l.levels) l.xs l.ys
