-- How augmented assignments write a set.
use Rattle.std.specs.Prelude.{Option, None, Some}
use Rattle.star_tree.specs.declared.tree.BinaryOperator.{BinaryOperator}
use Rattle.star_tree.specs.declared.tree.BinaryOperator.TheVariants as binary
use Rattle.star_meaning.specs.declared.merge.Merge.{Merge}
use Rattle.star_meaning.specs.declared.merge.Merge.TheVariants as merge

abbrev pub merge_of : BinaryOperator → Option Merge
merge_of binary.BitOr = Some merge.Union
merge_of binary.BitAnd = Some merge.Intersection
merge_of binary.Subtract = Some merge.Difference
merge_of binary.BitXor = Some merge.SymmetricDifference
merge_of _ = None
