-- Keys differ after every run: the entries of displays, and augmented assignments.
use Rattle.star_store.specs.declared.values.Value.{Value}
use Rattle.star_store.specs.declared.values.Cell.TheVariants as cell
use Rattle.star_tree.specs.declared.tree.BinaryOperator.{BinaryOperator}
use Rattle.star_tree.specs.declared.tree.BinaryOperator.TheVariants as binary
use Rattle.star_meaning.specs.Program.{Setting}
use Rattle.star_meaning.specs.Values.{Content, Held}
use Rattle.std.proofs.Common.{ℕ}
use Rattle.star_meaning.specs.Statements.{augment_content, augmented}
use Rattle.star_once.proofs.Keeps.{keeps, Keeps, once_by}
use Rattle.star_meaning.proofs.KeepsValues.{respects-guard}
use Rattle.star_once.proofs.KeepsOperators.{keeps-operate}
use Rattle.star_meaning.proofs.KeepsPairs.{respects-update_with}
use Rattle.star_meaning.proofs.KeepsListMethods.{respects-extend}
use Rattle.star_meaning.proofs.KeepsSets.{respects-augment_set}

pub keeps-augment_content : (w : Setting) (levels : ℕ) (line : ℕ) (a3 : BinaryOperator) (x : Value) (y : Value) (a6 : Content) → Keeps w (augment_content w levels line a3 x y a6)
keeps-augment_content w levels line binary.Add x y (Held (cell.List xs)) = search (keeps, once_by, respects-extend) depth 14
keeps-augment_content w levels line binary.BitOr x y (Held (cell.Dict es)) = search (keeps, once_by, respects-guard, respects-update_with) depth 14
keeps-augment_content w levels line binary.BitOr x y (Held (cell.Set es)) = search (keeps, once_by, respects-augment_set) depth 14
keeps-augment_content w levels line binary.BitAnd x y (Held (cell.Set es)) = search (keeps, once_by, respects-augment_set) depth 14
keeps-augment_content w levels line binary.Subtract x y (Held (cell.Set es)) = search (keeps, once_by, respects-augment_set) depth 14
keeps-augment_content w levels line binary.BitXor x y (Held (cell.Set es)) = search (keeps, once_by, respects-augment_set) depth 14
keeps-augment_content w levels line op x y c = search (keeps, keeps-operate) depth 14

pub keeps-augmented : (w : Setting) (levels : ℕ) (line : ℕ) (op : BinaryOperator) (x : Value) (y : Value) → Keeps w (augmented w levels line op x y)
keeps-augmented w levels line op x y = search (keeps, keeps-augment_content) depth 14
