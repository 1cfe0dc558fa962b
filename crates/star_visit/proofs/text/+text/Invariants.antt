use Rattle.std.proofs.Common.{◌≡◌, ◌≤◌, ◌+◌, ◌*◌, ◌-◌}
use Rattle.star_store.specs.Text.{all_said, say_entry, say_field, say_nth, say_place, text}
use Rattle.star_store.specs.Store.{look}
use Rattle.star_visit.proofs.text.+text.Given as goal

abbrev pub decreases-put_text : goal.decreases-put_text
decreases-put_text l = 12 * l.levels

abbrev pub decreases-put_value : goal.decreases-put_value
decreases-put_value l = 12 * l.levels + 9

abbrev pub decreases-put_cell : goal.decreases-put_cell
decreases-put_cell l = 12 * l.levels + 8

abbrev pub decreases-put_tuple : goal.decreases-put_tuple
decreases-put_tuple l = 12 * l.levels + 7

abbrev pub decreases-put_struct : goal.decreases-put_struct
decreases-put_struct l = 12 * l.levels + 7

abbrev pub decreases-put_fields : goal.decreases-put_fields
decreases-put_fields l = 12 * l.levels + 4

abbrev pub decreases-put_field : goal.decreases-put_field
decreases-put_field l = 12 * l.levels + 3

abbrev pub decreases-put_set : goal.decreases-put_set
decreases-put_set l = 12 * l.levels + 7

abbrev pub decreases-put_elements : goal.decreases-put_elements
decreases-put_elements l = 12 * l.levels + 4

abbrev pub decreases-put_nth : goal.decreases-put_nth
decreases-put_nth l = 12 * l.levels + 3

abbrev pub decreases-put_list : goal.decreases-put_list
decreases-put_list l = 12 * l.levels + 7

abbrev pub decreases-put_dict : goal.decreases-put_dict
decreases-put_dict l = 12 * l.levels + 7

abbrev pub decreases-put_items : goal.decreases-put_items
decreases-put_items l = 12 * l.levels + 4

abbrev pub decreases-put_place : goal.decreases-put_place
decreases-put_place l = 12 * l.levels + 3

abbrev pub decreases-put_entries : goal.decreases-put_entries
decreases-put_entries l = 12 * l.levels + 4

abbrev pub decreases-put_entry : goal.decreases-put_entry
decreases-put_entry l = 12 * l.levels + 3

abbrev pub decreases-put_inner_items : goal.decreases-put_inner_items
decreases-put_inner_items l = 12 * l.levels + 5

abbrev pub decreases-put_inner_entries : goal.decreases-put_inner_entries
decreases-put_inner_entries l = 12 * l.levels + 5

abbrev pub decreases-put_new_list : goal.decreases-put_new_list
decreases-put_new_list l = 12 * l.levels + 6

abbrev pub decreases-put_new_dict : goal.decreases-put_new_dict
decreases-put_new_dict l = 12 * l.levels + 6

abbrev pub invariant-put_items-loop-i : goal.invariant-put_items-loop-i
invariant-put_items-loop-i l =
    let f = say_place (text l.names (look l.arena l.homes) l.levels l.fn.page.path.items) l.items in
    record { rest : all_said f (l.count - l.i) l.i l.page.out l.page.steps ≡ all_said f l.count 0 l.fn.page.out l.fn.page.steps; less : l.page.steps ≤ l.fn.page.steps; path : l.page.path.items ≡ l.fn.page.path.items }

abbrev pub invariant-put_entries-loop-i : goal.invariant-put_entries-loop-i
invariant-put_entries-loop-i l =
    let f = say_entry (text l.names (look l.arena l.homes) l.levels l.fn.page.path.items) l.entries in
    record { rest : all_said f (l.count - l.i) l.i l.page.out l.page.steps ≡ all_said f l.count 0 l.fn.page.out l.fn.page.steps; less : l.page.steps ≤ l.fn.page.steps; path : l.page.path.items ≡ l.fn.page.path.items }

abbrev pub invariant-put_fields-loop-i : goal.invariant-put_fields-loop-i
invariant-put_fields-loop-i l =
    let f = say_field (text l.names (look l.arena l.homes) l.levels l.fn.page.path.items) l.fields in
    record { rest : all_said f (l.count - l.i) l.i l.page.out l.page.steps ≡ all_said f l.count 0 l.fn.page.out l.fn.page.steps; less : l.page.steps ≤ l.fn.page.steps; path : l.page.path.items ≡ l.fn.page.path.items }

abbrev pub invariant-put_elements-loop-i : goal.invariant-put_elements-loop-i
invariant-put_elements-loop-i l =
    let f = say_nth (text l.names (look l.arena l.homes) l.levels l.fn.page.path.items) l.elements in
    record { rest : all_said f (l.count - l.i) l.i l.page.out l.page.steps ≡ all_said f l.count 0 l.fn.page.out l.fn.page.steps; less : l.page.steps ≤ l.fn.page.steps; path : l.page.path.items ≡ l.fn.page.path.items }
