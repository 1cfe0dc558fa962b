-- Augmented assignments, by the kind of what is assigned to.
use Rattle.std.proofs.Common.{◌≡◌, ◌≢◌, ℕ, [], Option, None, Some, refl, ap, ◌∙◌}
use Rattle.star_store.specs.declared.values.Value.{Value}
use Rattle.star_store.specs.declared.values.Cell.TheVariants as cell
use Rattle.star_tree.specs.declared.tree.BinaryOperator.{BinaryOperator}
use Rattle.star_tree.specs.declared.tree.BinaryOperator.TheVariants as binary
use Rattle.star_machine.specs.declared.content.Kind.TheVariants as kind
use Rattle.star_machine.specs.Kinds.{kind_of}
use Rattle.star_machine.proofs.KindCases as kinds
use Rattle.star_meaning.specs.declared.merge.Merge.{Merge}
use Rattle.star_meaning.specs.Run.{◌>>=◌, give}
use Rattle.star_meaning.specs.Program.{Setting}
use Rattle.star_meaning.specs.ListMethods.{extend}
use Rattle.star_meaning.specs.Operators.{operate}
use Rattle.star_meaning.specs.Pairs.{update_with}
use Rattle.star_meaning.specs.Sets.{augment_set}
use Rattle.star_meaning.specs.Statements.{augment_content}
use Rattle.star_meaning.specs.Values.{Content, Held, guard}
use Rattle.star_eval.specs.Merges.{merge_of}

pub list_add : (w : Setting) (levels line : ℕ) (x y : Value) (c : Content) → kind_of c ≡ kind.List → augment_content w levels line binary.Add x y c ≡ (extend w line x y >>= λ _. give x)
list_add w levels line x y c h = ap (augment_content w levels line binary.Add x y) (kinds.is_list c h)

pub list_other : (w : Setting) (levels line : ℕ) (op : BinaryOperator) (x y : Value) (c : Content) → kind_of c ≡ kind.List → op ≢ binary.Add → augment_content w levels line op x y c ≡ operate w levels line op x y
list_other w levels line binary.Add x y c h o = absurd (o refl)
list_other w levels line binary.Subtract x y c h o = ap (augment_content w levels line binary.Subtract x y) (kinds.is_list c h)
list_other w levels line binary.BitAnd x y c h o = ap (augment_content w levels line binary.BitAnd x y) (kinds.is_list c h)
list_other w levels line binary.BitOr x y c h o = ap (augment_content w levels line binary.BitOr x y) (kinds.is_list c h)
list_other w levels line binary.BitXor x y c h o = ap (augment_content w levels line binary.BitXor x y) (kinds.is_list c h)
list_other w levels line op x y c h o = refl

pub dict_or : (w : Setting) (levels line : ℕ) (x y : Value) (c : Content) → kind_of c ≡ kind.Dict → augment_content w levels line binary.BitOr x y c ≡ (update_with w levels line x (Some y) [] (guard w line x) >>= λ _. give x)
dict_or w levels line x y c h = ap (augment_content w levels line binary.BitOr x y) (kinds.is_dict c h)

pub dict_other : (w : Setting) (levels line : ℕ) (op : BinaryOperator) (x y : Value) (c : Content) → kind_of c ≡ kind.Dict → op ≢ binary.BitOr → augment_content w levels line op x y c ≡ operate w levels line op x y
dict_other w levels line binary.BitOr x y c h o = absurd (o refl)
dict_other w levels line binary.Add x y c h o = ap (augment_content w levels line binary.Add x y) (kinds.is_dict c h)
dict_other w levels line binary.Subtract x y c h o = ap (augment_content w levels line binary.Subtract x y) (kinds.is_dict c h)
dict_other w levels line binary.BitAnd x y c h o = ap (augment_content w levels line binary.BitAnd x y) (kinds.is_dict c h)
dict_other w levels line binary.BitXor x y c h o = ap (augment_content w levels line binary.BitXor x y) (kinds.is_dict c h)
dict_other w levels line op x y c h o = refl

same_merge : (a b : Merge) → ◌≡◌ {A = Option Merge} (Some a) (Some b) → a ≡ b
same_merge a b h = cc

pub set_merged : (w : Setting) (levels line : ℕ) (op : BinaryOperator) (m : Merge) (x y : Value) (c : Content) → kind_of c ≡ kind.Set → merge_of op ≡ Some m → augment_content w levels line op x y c ≡ augment_set w levels line m x y
set_merged w levels line binary.BitOr m x y c h e = ap (augment_content w levels line binary.BitOr x y) (kinds.is_set c h) ∙ ap (λ k. augment_set w levels line k x y) (same_merge _ m e)
set_merged w levels line binary.BitAnd m x y c h e = ap (augment_content w levels line binary.BitAnd x y) (kinds.is_set c h) ∙ ap (λ k. augment_set w levels line k x y) (same_merge _ m e)
set_merged w levels line binary.Subtract m x y c h e = ap (augment_content w levels line binary.Subtract x y) (kinds.is_set c h) ∙ ap (λ k. augment_set w levels line k x y) (same_merge _ m e)
set_merged w levels line binary.BitXor m x y c h e = ap (augment_content w levels line binary.BitXor x y) (kinds.is_set c h) ∙ ap (λ k. augment_set w levels line k x y) (same_merge _ m e)
set_merged w levels line op m x y c h e = cc

pub set_other : (w : Setting) (levels line : ℕ) (op : BinaryOperator) (x y : Value) (c : Content) → kind_of c ≡ kind.Set → merge_of op ≡ None → augment_content w levels line op x y c ≡ operate w levels line op x y
set_other w levels line binary.BitOr x y c h e = cc
set_other w levels line binary.BitAnd x y c h e = cc
set_other w levels line binary.Subtract x y c h e = cc
set_other w levels line binary.BitXor x y c h e = cc
set_other w levels line binary.Add x y c h e = ap (augment_content w levels line binary.Add x y) (kinds.is_set c h)
set_other w levels line op x y c h e = refl

pub otherwise : (w : Setting) (levels line : ℕ) (op : BinaryOperator) (x y : Value) (c : Content) → kind_of c ≢ kind.List → kind_of c ≢ kind.Dict → kind_of c ≢ kind.Set → augment_content w levels line op x y c ≡ operate w levels line op x y
otherwise w levels line binary.Add x y (Held (cell.List xs)) l d s = absurd (l refl)
otherwise w levels line binary.BitOr x y (Held (cell.Dict es)) l d s = absurd (d refl)
otherwise w levels line binary.BitOr x y (Held (cell.Set es)) l d s = absurd (s refl)
otherwise w levels line binary.BitAnd x y (Held (cell.Set es)) l d s = absurd (s refl)
otherwise w levels line binary.Subtract x y (Held (cell.Set es)) l d s = absurd (s refl)
otherwise w levels line binary.BitXor x y (Held (cell.Set es)) l d s = absurd (s refl)
otherwise w levels line op x y c l d s = refl
