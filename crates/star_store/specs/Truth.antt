-- The truth of values.
use Rattle.std.specs.Prelude.{nat_eq, Bool, true, false, not, length, Option, Some, pos}
use Rattle.std.specs.Ordering.{int_eq}
use Rattle.star_store.specs.declared.values.Value.{Value}
use Rattle.star_store.specs.declared.values.Value.TheVariants as value
use Rattle.star_store.specs.declared.values.Cell.{Cell}
use Rattle.star_store.specs.declared.values.Cell.TheVariants as cell
use Rattle.star_store.specs.Range.{range_length}

-- empty strings, ranges, tuples, lists, dictionaries and sets are false; every other cell is true
abbrev pub true_cell : Option Cell → Bool
true_cell (Some (cell.Text t)) = not (nat_eq (length t) 0)
true_cell (Some (cell.Range r)) = not (nat_eq (range_length r) 0)
true_cell (Some (cell.Tuple xs)) = not (nat_eq (length xs) 0)
true_cell (Some (cell.List xs)) = not (nat_eq (length xs) 0)
true_cell (Some (cell.Dict es)) = not (nat_eq (length es) 0)
true_cell (Some (cell.Set es)) = not (nat_eq (length es) 0)
true_cell _ = true

-- None, False and 0 are false
abbrev pub truth : (Value → Option Cell) → Value → Bool
truth look value.NoneValue = false
truth look (value.Bool b) = b
truth look (value.Int n) = not (int_eq n (pos 0))
truth look (value.Builtin b) = true
truth look (value.Ref h a) = true_cell (look (value.Ref h a))
