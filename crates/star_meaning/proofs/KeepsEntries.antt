-- The invariants of every run: the entries of displays, and augmented assignments.
use Rattle.star_store.specs.declared.values.Value.{Value}
use Rattle.star_store.specs.declared.values.Cell.TheVariants as cell
use Rattle.star_tree.specs.declared.tree.BinaryOperator.{BinaryOperator}
use Rattle.star_tree.specs.declared.tree.BinaryOperator.TheVariants as binary
use Rattle.star_meaning.specs.Program.{Setting}
use Rattle.star_meaning.specs.Values.{Content, Held}
use Rattle.std.proofs.Common.{ℕ, List, [], ◌∷◌, Bool}
use Rattle.star_meaning.specs.Expressions.{fresh_entry, fresh_entries}
use Rattle.star_meaning.specs.Statements.{augment_content, augmented}
use Rattle.star_meaning.proofs.Keeps.{keeps, Keeps, kept_by}
use Rattle.star_meaning.proofs.KeepsValues.{respects-check_key, respects-guard}
use Rattle.star_meaning.proofs.KeepsOperators.{keeps-operate}
use Rattle.star_meaning.proofs.KeepsPairs.{respects-update_with}
use Rattle.star_meaning.proofs.KeepsListMethods.{respects-extend}
use Rattle.star_meaning.proofs.KeepsSets.{respects-augment_set}

pub keeps-fresh_entry : {q : Bool} → (w : Setting) (levels : ℕ) (line : ℕ) (es : List (Value × Value)) (e : Value × Value) → Keeps q (fresh_entry w levels line es e)
keeps-fresh_entry w levels line es e = search (keeps, kept_by w, respects-check_key) depth 14

pub keeps-fresh_entries : {q : Bool} → (w : Setting) (levels : ℕ) (line : ℕ) (es : List (Value × Value)) (a4 : List (Value × Value)) → Keeps q (fresh_entries w levels line es a4)
keeps-fresh_entries w levels line es [] = search keeps depth 14
keeps-fresh_entries {q = q} w levels line es (e ∷ more) = let h1 : (z3 : List (Value × Value)) → Keeps q (fresh_entries w levels line z3 more) = λ z3. keeps-fresh_entries w levels line z3 more in search (keeps, keeps-fresh_entry, h1) depth 14

pub keeps-augment_content : {q : Bool} → (w : Setting) (levels : ℕ) (line : ℕ) (a3 : BinaryOperator) (x : Value) (y : Value) (a6 : Content) → Keeps q (augment_content w levels line a3 x y a6)
keeps-augment_content w levels line binary.Add x y (Held (cell.List xs)) = search (keeps, kept_by w, respects-extend) depth 14
keeps-augment_content w levels line binary.BitOr x y (Held (cell.Dict es)) = search (keeps, kept_by w, respects-guard, respects-update_with) depth 14
keeps-augment_content w levels line binary.BitOr x y (Held (cell.Set es)) = search (keeps, kept_by w, respects-augment_set) depth 14
keeps-augment_content w levels line binary.BitAnd x y (Held (cell.Set es)) = search (keeps, kept_by w, respects-augment_set) depth 14
keeps-augment_content w levels line binary.Subtract x y (Held (cell.Set es)) = search (keeps, kept_by w, respects-augment_set) depth 14
keeps-augment_content w levels line binary.BitXor x y (Held (cell.Set es)) = search (keeps, kept_by w, respects-augment_set) depth 14
keeps-augment_content w levels line op x y c = search (keeps, keeps-operate) depth 14

pub keeps-augmented : {q : Bool} → (w : Setting) (levels : ℕ) (line : ℕ) (op : BinaryOperator) (x : Value) (y : Value) → Keeps q (augmented w levels line op x y)
keeps-augmented w levels line op x y = search (keeps, keeps-augment_content) depth 14
