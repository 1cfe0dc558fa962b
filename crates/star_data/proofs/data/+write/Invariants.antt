use Rattle.std.proofs.Common.{◌≡◌, ◌+◌, ◌*◌, drop, map, take}
use Rattle.star_store.specs.declared.values.Value.{Value}
use Rattle.star_data.specs.Stores.{look_in}
use Rattle.star_data.specs.Data.{data_of, entries_data}
use Rattle.star_data.specs.Paths.{AllStandInEach}
use Rattle.star_data.specs.Texts.{row_data}
use Rattle.star_data.proofs.Fields.{LeftFields}
use Rattle.star_data.proofs.Sent.{LeftMembers, SentItems}
use Rattle.star_data.proofs.data.+write.Given as goal

abbrev pub decreases-is_data : goal.decreases-is_data
decreases-is_data l = 6 * l.levels + 1

abbrev pub decreases-write_cell : goal.decreases-write_cell
decreases-write_cell l = 6 * l.levels + 5

abbrev pub decreases-write_dict : goal.decreases-write_dict
decreases-write_dict l = 6 * l.levels + 4

abbrev pub decreases-write_entries : goal.decreases-write_entries
decreases-write_entries l = 6 * l.levels + 3

abbrev pub decreases-write_items : goal.decreases-write_items
decreases-write_items l = 6 * l.levels + 3

abbrev pub decreases-write_list : goal.decreases-write_list
decreases-write_list l = 6 * l.levels + 4

abbrev pub decreases-write_many : goal.decreases-write_many
decreases-write_many l = 6 * l.levels + 2

abbrev pub decreases-write_members : goal.decreases-write_members
decreases-write_members l = 6 * l.levels + 1

abbrev pub decreases-write_row : goal.decreases-write_row
decreases-write_row l = 6 * l.levels + 1

abbrev pub decreases-write_set : goal.decreases-write_set
decreases-write_set l = 6 * l.levels + 4

abbrev pub decreases-write_struct : goal.decreases-write_struct
decreases-write_struct l = 6 * l.levels + 1

abbrev pub decreases-write_value : goal.decreases-write_value
decreases-write_value l = 6 * l.levels

abbrev pub invariant-write_many-loop-i : goal.invariant-write_many-loop-i
invariant-write_many-loop-i l = record {
  path : l.path.items ≡ l.fn.path.items;
  out : l.out ≡ l.fn.out;
  row : entries_data (look_in l.stores) (data_of (look_in l.stores) l.levels) (drop l.i l.entries) ≡ row_data (data_of (look_in l.stores) l.levels) l.members.entries;
  stand : AllStandInEach (look_in l.stores) l.fn.path.items (map (λ e. e.1) l.members.entries);
}

abbrev pub invariant-write_items-loop-item : goal.invariant-write_items-loop-item
invariant-write_items-loop-item l = record {
  path : l.path.items ≡ l.fn.path.items;
  before : l.out.before ≡ l.fn.out.before;
  sent : SentItems (data_of (look_in l.stores) l.levels) (take l.item-index l.items) l.fn.out.tokens l.out.tokens;
}

abbrev pub invariant-write_set-loop-element : goal.invariant-write_set-loop-element
invariant-write_set-loop-element l = record {
  path : l.path.items ≡ l.fn.path.items;
  before : l.out.before ≡ l.fn.out.before;
  sent : SentItems (data_of (look_in l.stores) l.levels) (map (λ (e : Value × Value). e.0) (take l.element-index l.elements)) l.fn.out.tokens l.out.tokens;
}

abbrev pub invariant-write_members-loop-key : goal.invariant-write_members-loop-key
invariant-write_members-loop-key l = record {
  path : l.path.items ≡ l.fn.path.items;
  before : l.out.before ≡ l.fn.out.before;
  sent : LeftMembers (data_of (look_in l.stores) l.levels) l.members.entries l.key-iterator l.fn.out.tokens l.out.tokens;
  stand : AllStandInEach (look_in l.stores) l.fn.path.items (map (λ e. e.1) l.key-iterator);
}

abbrev pub invariant-write_row-loop-member : goal.invariant-write_row-loop-member
invariant-write_row-loop-member l = record {
  path : l.path.items ≡ l.fn.path.items;
  before : l.out.before ≡ l.fn.out.before;
  sent : LeftMembers (data_of (look_in l.stores) l.levels) l.row (drop l.member-index l.row) l.fn.out.tokens l.out.tokens;
}

abbrev pub invariant-write_struct-loop-i : goal.invariant-write_struct-loop-i
invariant-write_struct-loop-i l = record {
  path : l.path.items ≡ l.fn.path.items;
  before : l.out.before ≡ l.fn.out.before;
  sent : LeftFields (data_of (look_in l.stores) l.levels) l.fields (drop l.i l.fields) l.fn.out.tokens l.out.tokens;
}
