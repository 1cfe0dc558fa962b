-- Keys differ after every run: binary operators. `x | y` makes a dictionary.
use Rattle.star_store.specs.declared.values.Value.{Value}
use Rattle.star_store.specs.declared.values.Cell.TheVariants as cell
use Rattle.star_tree.specs.declared.tree.BinaryOperator.{BinaryOperator}
use Rattle.star_tree.specs.declared.tree.BinaryOperator.TheVariants as binary
use Rattle.star_meaning.specs.Program.{Setting}
use Rattle.star_meaning.specs.Values.{Content, Number, Held}
use Rattle.std.proofs.Common.{ℕ, List, [], ◌∷◌}
use Rattle.star_meaning.specs.Run.{Action}
use Rattle.star_meaning.specs.Operators.{add, multiply, union, on_ints, on_others, on_contents, operate}
use Rattle.star_once.proofs.Keeps.{Keeps, once_by}
use Rattle.star_meaning.specs.Entries.{with_entries}
use Rattle.star_meaning.specs.Percent.{percent}
use Rattle.star_meaning.specs.Program.{seen}
use Rattle.star_meaning.specs.Run.{State}
use Rattle.star_meaning.specs.Values.{content}
use Rattle.std.proofs.Common.{◌≡◌, refl}
use Rattle.star_once.specs.Keys.{Differ, KeysDiffer}
use Rattle.star_once.proofs.After.{differ_there, new_dict_differs, with_entries_differ}
use Rattle.star_once.proofs.Dicts.{held_differ}
use Rattle.star_once.proofs.Writes as writes
use Rattle.star_meaning.specs.declared.merge.Merge.TheVariants as merge
use Rattle.star_meaning.specs.Sets.{merge_new}
use Rattle.star_meaning.proofs.KeepsSets.{respects-merge_new}
use Rattle.star_meaning.proofs.KeepsPercent.{respects-percent}
use Rattle.star_meaning.proofs.KeepsOperators.{respects-add, respects-multiply, respects-on_ints}

-- the entries of a content differ, if it is that of a dictionary
EntriesDiffer : Setting → State → Content → Type 0
EntriesDiffer w s c = (es : List (Value × Value)) → c ≡ Held (cell.Dict es) → Differ (seen w s) es

union_differs : (w : Setting) (line : ℕ) (es fs : List (Value × Value)) (s : State) → KeysDiffer w s → Differ (seen w s) es → Differ (seen w s) fs → writes.Held w (union w line es fs s)
union_differs w line es fs s h d e = new_dict_differs w line (with_entries w s es fs) s h (with_entries_differ w s es fs d (differ_there (seen w s) fs e))

now : {A : Type 0} (w : Setting) (m : Action A) (s : State) → KeysDiffer w s → Keeps w m → writes.Held w (m s)
now w m s h k = k.holds s h

others_differ : (w : Setting) (levels line : ℕ) (op : BinaryOperator) (c d : Content) (y : Value) (s : State) → KeysDiffer w s → EntriesDiffer w s c → EntriesDiffer w s d → writes.Held w (on_others w levels line op c d y s)
unfolding EntriesDiffer
others_differ w levels line binary.Add c d y s h a b = now w (add line c d) s h (once_by (respects-add line c d))
others_differ w levels line binary.Multiply c d y s h a b = now w (multiply line c d) s h (once_by (respects-multiply line c d))
others_differ w levels line binary.Modulo (Held (cell.Text t)) d y s h a b = now w (percent w levels line t d y) s h (once_by (respects-percent w levels line t d y))
others_differ w levels line binary.BitOr (Held (cell.Dict es)) (Held (cell.Dict fs)) y s h a b = union_differs w line es fs s h (a es refl) (b fs refl)
others_differ w levels line binary.BitOr (Held (cell.Set es)) (Held (cell.Set fs)) y s h a b = now w (merge_new w levels line merge.Union es (y ∷ [])) s h (once_by (respects-merge_new w levels line merge.Union es (y ∷ [])))
others_differ w levels line binary.BitAnd (Held (cell.Set es)) (Held (cell.Set fs)) y s h a b = now w (merge_new w levels line merge.Intersection es (y ∷ [])) s h (once_by (respects-merge_new w levels line merge.Intersection es (y ∷ [])))
others_differ w levels line binary.Subtract (Held (cell.Set es)) (Held (cell.Set fs)) y s h a b = now w (merge_new w levels line merge.Difference es (y ∷ [])) s h (once_by (respects-merge_new w levels line merge.Difference es (y ∷ [])))
others_differ w levels line binary.BitXor (Held (cell.Set es)) (Held (cell.Set fs)) y s h a b = now w (merge_new w levels line merge.SymmetricDifference es (y ∷ [])) s h (once_by (respects-merge_new w levels line merge.SymmetricDifference es (y ∷ [])))
others_differ w levels line _ c d y s h a b = tt

contents_differ : (w : Setting) (levels line : ℕ) (op : BinaryOperator) (c d : Content) (y : Value) (s : State) → KeysDiffer w s → EntriesDiffer w s c → EntriesDiffer w s d → writes.Held w (on_contents w levels line op c d y s)
contents_differ w levels line op (Number x) (Number z) y s h a b = now w (on_ints line op x z) s h (once_by (respects-on_ints line op x z))
contents_differ w levels line op c d y s h a b = others_differ w levels line op c d y s h a b

pub keeps-operate : (w : Setting) (levels : ℕ) (line : ℕ) (op : BinaryOperator) (x : Value) (y : Value) → Keeps w (operate w levels line op x y)
unfolding operate EntriesDiffer
keeps-operate w levels line op x y = record { holds = λ s h. contents_differ w levels line op (content w s x) (content w s y) y s h (λ es e. held_differ w s x es h e) (λ es e. held_differ w s y es h e) }
