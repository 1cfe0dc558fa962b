use Rattle.std.proofs.Common.{◌≡◌, ◌≤◌, ◌+◌, ◌*◌, ◌-◌}
use Rattle.star_store.specs.Json.{json, put_member, put_nth, put_place}
use Rattle.star_store.specs.Text.{all_said}
use Rattle.star_visit.specs.Sheets.{look_in}
use Rattle.star_visit.proofs.encode.+json.Given as goal

abbrev pub decreases-put_json : goal.decreases-put_json
decreases-put_json l = 12 * l.levels

abbrev pub decreases-put_value : goal.decreases-put_value
decreases-put_value l = 12 * l.levels + 9

abbrev pub decreases-put_cell : goal.decreases-put_cell
decreases-put_cell l = 12 * l.levels + 8

abbrev pub decreases-put_array : goal.decreases-put_array
decreases-put_array l = 12 * l.levels + 7

abbrev pub decreases-put_set : goal.decreases-put_set
decreases-put_set l = 12 * l.levels + 7

abbrev pub decreases-put_elements : goal.decreases-put_elements
decreases-put_elements l = 12 * l.levels + 4

abbrev pub decreases-put_nth : goal.decreases-put_nth
decreases-put_nth l = 12 * l.levels + 3

abbrev pub decreases-put_struct : goal.decreases-put_struct
decreases-put_struct l = 12 * l.levels + 7

abbrev pub decreases-put_dict : goal.decreases-put_dict
decreases-put_dict l = 12 * l.levels + 7

abbrev pub decreases-put_object : goal.decreases-put_object
decreases-put_object l = 12 * l.levels + 6

abbrev pub decreases-put_items : goal.decreases-put_items
decreases-put_items l = 12 * l.levels + 4

abbrev pub decreases-put_fields : goal.decreases-put_fields
decreases-put_fields l = 12 * l.levels + 4

abbrev pub decreases-put_members : goal.decreases-put_members
decreases-put_members l = 12 * l.levels + 4

abbrev pub decreases-put_place : goal.decreases-put_place
decreases-put_place l = 12 * l.levels + 3

abbrev pub decreases-put_field : goal.decreases-put_field
decreases-put_field l = 12 * l.levels + 3

abbrev pub decreases-put_member : goal.decreases-put_member
decreases-put_member l = 12 * l.levels + 3

abbrev pub invariant-put_items-loop-i : goal.invariant-put_items-loop-i
invariant-put_items-loop-i l =
    let f = put_place l.source.layout.now l.depth (json (look_in l.source) l.source.layout.now l.levels l.depth) l.items in
    record { rest : all_said f (l.count - l.i) l.i l.sheet.out l.sheet.steps ≡ all_said f l.count 0 l.fn.sheet.out l.fn.sheet.steps; less : l.sheet.steps ≤ l.fn.sheet.steps }

abbrev pub invariant-put_fields-loop-i : goal.invariant-put_fields-loop-i
invariant-put_fields-loop-i l =
    let f = put_member l.source.layout.now l.depth (json (look_in l.source) l.source.layout.now l.levels l.depth) l.fields in
    record { rest : all_said f (l.count - l.i) l.i l.sheet.out l.sheet.steps ≡ all_said f l.count 0 l.fn.sheet.out l.fn.sheet.steps; less : l.sheet.steps ≤ l.fn.sheet.steps }

abbrev pub invariant-put_members-loop-i : goal.invariant-put_members-loop-i
invariant-put_members-loop-i l =
    let f = put_member l.source.layout.now l.depth (json (look_in l.source) l.source.layout.now l.levels l.depth) l.members in
    record { rest : all_said f (l.count - l.i) l.i l.sheet.out l.sheet.steps ≡ all_said f l.count 0 l.fn.sheet.out l.fn.sheet.steps; less : l.sheet.steps ≤ l.fn.sheet.steps }

abbrev pub invariant-put_elements-loop-i : goal.invariant-put_elements-loop-i
invariant-put_elements-loop-i l =
    let f = put_nth l.source.layout.now l.depth (json (look_in l.source) l.source.layout.now l.levels l.depth) l.elements in
    record { rest : all_said f (l.count - l.i) l.i l.sheet.out l.sheet.steps ≡ all_said f l.count 0 l.fn.sheet.out l.fn.sheet.steps; less : l.sheet.steps ≤ l.fn.sheet.steps }
