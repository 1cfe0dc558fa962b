use Rattle.std.proofs.Common.{◌≡◌, ◌≤◌, ◌+◌, ◌*◌, ◌-◌}
use Rattle.star_store.specs.Equal.{same, same_entry, same_place}
use Rattle.star_store.specs.Index.{entries_of}
use Rattle.star_store.specs.Spend.{all_places}
use Rattle.star_store.specs.Store.{look}
use Rattle.star_visit.proofs.equal.+same.Given as goal

abbrev pub decreases-same : goal.decreases-same
decreases-same l = 6 * l.levels

abbrev pub decreases-same_values : goal.decreases-same_values
decreases-same_values l = 6 * l.levels + 5

abbrev pub decreases-same_cells : goal.decreases-same_cells
decreases-same_cells l = 6 * l.levels + 4

abbrev pub decreases-same_fields : goal.decreases-same_fields
decreases-same_fields l = 6 * l.levels + 3

abbrev pub decreases-same_items : goal.decreases-same_items
decreases-same_items l = 6 * l.levels + 2

abbrev pub decreases-same_place : goal.decreases-same_place
decreases-same_place l = 6 * l.levels + 1

abbrev pub decreases-same_entries : goal.decreases-same_entries
decreases-same_entries l = 6 * l.levels + 2

abbrev pub decreases-same_entry : goal.decreases-same_entry
decreases-same_entry l = 6 * l.levels + 1

abbrev pub invariant-same_items-loop-i : goal.invariant-same_items-loop-i
invariant-same_items-loop-i l =
    let f = same_place (same (look l.arena l.homes) l.levels) l.xs l.ys in
    record {
      rest : all_places f (l.count - l.i) l.i l.steps ≡ all_places f l.count 0 l.fn.steps;
      less : l.steps ≤ l.fn.steps;
    }

abbrev pub invariant-same_entries-loop-i : goal.invariant-same_entries-loop-i
invariant-same_entries-loop-i l =
    let f = same_entry (look l.arena l.homes) (same (look l.arena l.homes) l.levels) (entries_of (look l.arena l.homes l.x)) (entries_of (look l.arena l.homes l.y)) in
    record {
      rest : all_places f (l.count - l.i) l.i l.steps ≡ all_places f l.count 0 l.fn.steps;
      less : l.steps ≤ l.fn.steps;
    }
