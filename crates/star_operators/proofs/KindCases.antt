-- The effects of actions on contents, by the kinds of values.
use Rattle.std.proofs.Common.{◌≡◌, ◌≢◌, ℕ, true, false, List, [], ◌∷◌, refl, ap, ◌∙◌}
use Rattle.star_store.specs.declared.values.Value.{Value}
use Rattle.star_store.specs.declared.values.Cell.TheVariants as cell
use Rattle.star_store.specs.declared.range.Range.{Range}
use Rattle.star_tree.specs.declared.tree.BinaryOperator.TheVariants as binary
use Rattle.star_machine.specs.declared.content.Kind.TheVariants as kind
use Rattle.star_meaning.specs.declared.fault.FaultCode.TheVariants.{BadType}
use Rattle.star_meaning.specs.declared.merge.Merge.{Merge}
use Rattle.star_meaning.specs.declared.merge.Merge.TheVariants as merge
use Rattle.star_meaning.specs.Run.{State, fail, give}
use Rattle.star_meaning.specs.Program.{Setting, seen}
use Rattle.star_meaning.specs.Values.{Content, Held, content, int_of, with_content}
use Rattle.star_meaning.specs.Operators.{on_others, has, list_contains, range_has_value}
use Rattle.star_meaning.specs.Percent.{percent}
use Rattle.star_operators.specs.Operands.{are_sets, on_dicts, on_sets}
use Rattle.star_meaning.specs.Sets.{is_set, merge_new}
use Rattle.star_meaning.specs.Subscript.{entries_in}
use Rattle.star_machine.specs.Kinds.{kind_of, row_in, bytes_of}
use Rattle.star_machine.proofs.KindCases.{is_text, is_list, is_tuple, is_dict, is_range, row_seen}
use Rattle.star_machine.proofs.KindCases as kinds

-- `%` on other operands than two ints
pub modulo_text : (w : Setting) (levels line : ℕ) (c d : Content) (y : Value) → kind_of c ≡ kind.Text → on_others w levels line binary.Modulo c d y ≡ percent w levels line (bytes_of c) d y
modulo_text w levels line c d y h = ap (λ k. on_others w levels line binary.Modulo k d y) (is_text c h)

pub modulo_other : (w : Setting) (levels line : ℕ) (c d : Content) (y : Value) → kind_of c ≢ kind.Text → on_others w levels line binary.Modulo c d y ≡ fail BadType line
modulo_other w levels line (Held (cell.Text t)) d y h = absurd (h refl)
modulo_other w levels line _ d y h = refl

-- `in`
pub has_list : (w : Setting) (levels line : ℕ) (s : State) (v x : Value) → kind_of (content w s v) ≡ kind.List → has w levels line (content w s v) x ≡ list_contains w levels line (row_in (seen w s v)) x
has_list w levels line s v x h = ap (λ c. has w levels line c x) (is_list (content w s v) h) ∙ ap (λ ys. list_contains w levels line ys x) (row_seen w s v)

pub has_tuple : (w : Setting) (levels line : ℕ) (s : State) (v x : Value) → kind_of (content w s v) ≡ kind.Tuple → has w levels line (content w s v) x ≡ list_contains w levels line (row_in (seen w s v)) x
has_tuple w levels line s v x h = ap (λ c. has w levels line c x) (is_tuple (content w s v) h) ∙ ap (λ ys. list_contains w levels line ys x) (row_seen w s v)

pub has_dict : (w : Setting) (levels line : ℕ) (c : Content) (x : Value) → kind_of c ≡ kind.Dict → has w levels line c x ≡ has w levels line (Held (cell.Dict (entries_in c))) x
has_dict w levels line c x h = ap (λ k. has w levels line k x) (is_dict c h)

pub has_set : (w : Setting) (levels line : ℕ) (c : Content) (x : Value) → kind_of c ≡ kind.Set → has w levels line c x ≡ has w levels line (Held (cell.Dict (entries_in c))) x
has_set w levels line c x h = ap (λ k. has w levels line k x) (kinds.is_set c h)

pub has_text : (w : Setting) (levels line : ℕ) (c : Content) (x : Value) → kind_of c ≡ kind.Text → has w levels line c x ≡ has w levels line (Held (cell.Text (bytes_of c))) x
has_text w levels line c x h = ap (λ k. has w levels line k x) (is_text c h)

pub has_range : (w : Setting) (levels line : ℕ) (c : Content) (x : Value) (r : Range) → kind_of c ≡ kind.Range r → has w levels line c x ≡ with_content w x (λ d. give (range_has_value r (int_of d)))
has_range w levels line c x r h = ap (λ k. has w levels line k x) (is_range c r h)

pub has_other : (w : Setting) (levels line : ℕ) (c : Content) (x : Value) → kind_of c ≢ kind.List → kind_of c ≢ kind.Tuple → kind_of c ≢ kind.Dict → kind_of c ≢ kind.Set → kind_of c ≢ kind.Text → ((r : Range) → kind_of c ≢ kind.Range r) → has w levels line c x ≡ fail BadType line
has_other w levels line (Held (cell.Text b)) x l t d m u r = absurd (u refl)
has_other w levels line (Held (cell.Range q)) x l t d m u r = absurd (r q refl)
has_other w levels line (Held (cell.Tuple xs)) x l t d m u r = absurd (t refl)
has_other w levels line (Held (cell.List xs)) x l t d m u r = absurd (l refl)
has_other w levels line (Held (cell.Dict es)) x l t d m u r = absurd (d refl)
has_other w levels line (Held (cell.Set es)) x l t d m u r = absurd (m refl)
has_other w levels line _ x l t d m u r = refl

-- a merge of two sets, and of other operands
with_set : (w : Setting) (levels line : ℕ) (m : Merge) (es : List (Value × Value)) (d : Content) (y : Value) → is_set d ≡ true → on_sets w levels line m (Held (cell.Set es)) d y ≡ merge_new w levels line m es (y ∷ [])
with_set w levels line m es (Held (cell.Set fs)) y h = refl
with_set w levels line m es _ y h = cc

pub sets_both : (w : Setting) (levels line : ℕ) (m : Merge) (c d : Content) (y : Value) → are_sets c d ≡ true → on_sets w levels line m c d y ≡ merge_new w levels line m (entries_in c) (y ∷ [])
sets_both w levels line m (Held (cell.Set es)) d y h = with_set w levels line m es d y h
sets_both w levels line m _ d y h = cc

without_set : (w : Setting) (levels line : ℕ) (m : Merge) (es : List (Value × Value)) (d : Content) (y : Value) → is_set d ≡ false → on_sets w levels line m (Held (cell.Set es)) d y ≡ fail BadType line
without_set w levels line m es (Held (cell.Set fs)) y h = cc
without_set w levels line m es _ y h = refl

pub sets_not : (w : Setting) (levels line : ℕ) (m : Merge) (c d : Content) (y : Value) → are_sets c d ≡ false → on_sets w levels line m c d y ≡ fail BadType line
sets_not w levels line m (Held (cell.Set es)) d y h = without_set w levels line m es d y h
sets_not w levels line m _ d y h = refl

-- `|` of two sets, and of other operands
or_set : (w : Setting) (levels line : ℕ) (es : List (Value × Value)) (d : Content) (y : Value) → is_set d ≡ true → on_others w levels line binary.BitOr (Held (cell.Set es)) d y ≡ on_sets w levels line merge.Union (Held (cell.Set es)) d y
or_set w levels line es (Held (cell.Set fs)) y h = refl
or_set w levels line es _ y h = cc

pub or_sets : (w : Setting) (levels line : ℕ) (c d : Content) (y : Value) → are_sets c d ≡ true → on_others w levels line binary.BitOr c d y ≡ on_sets w levels line merge.Union c d y
or_sets w levels line (Held (cell.Set es)) d y h = or_set w levels line es d y h
or_sets w levels line _ d y h = cc

or_other : (w : Setting) (levels line : ℕ) (es : List (Value × Value)) (d : Content) (y : Value) → is_set d ≡ false → on_others w levels line binary.BitOr (Held (cell.Set es)) d y ≡ on_dicts w line (Held (cell.Set es)) d
or_other w levels line es (Held (cell.Set fs)) y h = cc
or_other w levels line es _ y h = refl

or_dict : (w : Setting) (levels line : ℕ) (es : List (Value × Value)) (d : Content) (y : Value) → on_others w levels line binary.BitOr (Held (cell.Dict es)) d y ≡ on_dicts w line (Held (cell.Dict es)) d
or_dict w levels line es (Held (cell.Dict fs)) y = refl
or_dict w levels line es _ y = refl

pub or_others : (w : Setting) (levels line : ℕ) (c d : Content) (y : Value) → are_sets c d ≡ false → on_others w levels line binary.BitOr c d y ≡ on_dicts w line c d
or_others w levels line (Held (cell.Set es)) d y h = or_other w levels line es d y h
or_others w levels line (Held (cell.Dict es)) d y h = or_dict w levels line es d y
or_others w levels line _ d y h = refl

-- `&`, `-` and `^`
and_set : (w : Setting) (levels line : ℕ) (es : List (Value × Value)) (d : Content) (y : Value) → on_others w levels line binary.BitAnd (Held (cell.Set es)) d y ≡ on_sets w levels line merge.Intersection (Held (cell.Set es)) d y
and_set w levels line es (Held (cell.Set fs)) y = refl
and_set w levels line es _ y = refl

pub sets_and : (w : Setting) (levels line : ℕ) (c d : Content) (y : Value) → on_others w levels line binary.BitAnd c d y ≡ on_sets w levels line merge.Intersection c d y
sets_and w levels line (Held (cell.Set es)) d y = and_set w levels line es d y
sets_and w levels line _ d y = refl

minus_set : (w : Setting) (levels line : ℕ) (es : List (Value × Value)) (d : Content) (y : Value) → on_others w levels line binary.Subtract (Held (cell.Set es)) d y ≡ on_sets w levels line merge.Difference (Held (cell.Set es)) d y
minus_set w levels line es (Held (cell.Set fs)) y = refl
minus_set w levels line es _ y = refl

pub sets_minus : (w : Setting) (levels line : ℕ) (c d : Content) (y : Value) → on_others w levels line binary.Subtract c d y ≡ on_sets w levels line merge.Difference c d y
sets_minus w levels line (Held (cell.Set es)) d y = minus_set w levels line es d y
sets_minus w levels line _ d y = refl

xor_set : (w : Setting) (levels line : ℕ) (es : List (Value × Value)) (d : Content) (y : Value) → on_others w levels line binary.BitXor (Held (cell.Set es)) d y ≡ on_sets w levels line merge.SymmetricDifference (Held (cell.Set es)) d y
xor_set w levels line es (Held (cell.Set fs)) y = refl
xor_set w levels line es _ y = refl

pub sets_xor : (w : Setting) (levels line : ℕ) (c d : Content) (y : Value) → on_others w levels line binary.BitXor c d y ≡ on_sets w levels line merge.SymmetricDifference c d y
sets_xor w levels line (Held (cell.Set es)) d y = xor_set w levels line es d y
sets_xor w levels line _ d y = refl
