-- The order of ints, and of strings by their bytes, as one order of all contents; and orders of items by their keys.
use Rattle.std.specs.Prelude.{Bool, true, false, List, Option, ℤ, pos}
use Rattle.std.specs.Option.{unwrap_or}
use Rattle.std.specs.Ordering.{int_cmp, nat_cmp, ordering_then}
use Rattle.std.specs.Cmp.Lexicographic.{slice_cmp}
use Rattle.std.specs.declared.cmp.Ordering.{Ordering}
use Rattle.star_store.specs.declared.values.Value.{Value}
use Rattle.star_builtin.specs.declared.orders.Order.{Order}
use Rattle.star_builtin.specs.declared.orders.Sorting.{Sorting}
use Rattle.star_builtin.specs.declared.orders.Candidates.{Candidates}
use Rattle.star_meaning.specs.Run.{State, Action}
use Rattle.star_meaning.specs.Orders as orders
use Rattle.star_meaning.specs.Program.{Setting}
use Rattle.star_meaning.specs.Values.{Content, content, int_of}
use Rattle.star_machine.specs.Kinds.{bytes_of}

-- the int that a content is, and 0 of another one
abbrev pub int_in : Content → ℤ
int_in c = unwrap_or (int_of c) (pos 0)

-- contents by their ints, and then by their bytes
abbrev pub by_contents : Content → Content → Ordering
by_contents c d = ordering_then (int_cmp (int_in c) (int_in d)) (slice_cmp nat_cmp (bytes_of c) (bytes_of d))

-- two items by their keys
abbrev pub turned_by : Bool → Content → Content → Ordering
turned_by true c d = by_contents d c
turned_by false c d = by_contents c d

abbrev pub by_keys : Setting → State → Bool → Value × Value → Value × Value → Ordering
by_keys w s backwards p q = turned_by backwards (content w s p.0) (content w s q.0)

abbrev pub precedes : Order → Value × Value → Value × Value → Action Bool
precedes o = orders.precedes o.setting.now o.levels o.line o.backwards

-- what a call asks for
abbrev pub shown_asked : Sorting → List Value × Option Value × Bool
shown_asked r = (r.items, r.key, r.backwards)

abbrev pub shown_best : Candidates → List Value × Option Value
shown_best r = (r.items, r.key)
