-- The effects of subscripts, by the kinds of values.
use Rattle.std.proofs.Common.{◌≡◌, ◌≢◌, ℕ, refl, ap}
use Rattle.star_store.specs.declared.values.Value.{Value}
use Rattle.star_store.specs.declared.values.Cell.TheVariants as cell
use Rattle.star_store.specs.declared.range.Range.{Range}
use Rattle.star_machine.specs.declared.content.Kind.TheVariants as kind
use Rattle.star_meaning.specs.declared.fault.FaultCode.TheVariants.{BadType}
use Rattle.star_meaning.specs.Run.{fail}
use Rattle.star_meaning.specs.Program.{Setting}
use Rattle.star_meaning.specs.Values.{Content, Held}
use Rattle.star_meaning.specs.Subscript.{item_of, row_item, byte_at, entry_value, entries_in, set_in, set_item, set_entry}
use Rattle.star_machine.specs.Kinds.{kind_of, bytes_of, size_of}
use Rattle.star_machine.proofs.KindCases.{is_text, is_list, is_tuple, is_dict, is_range}

abbrev RowItem : Setting → ℕ → ℕ → Value → Content → Type 0
RowItem w levels line i c = item_of w levels line c i ≡ row_item w line c (size_of c) i

pub item_list : (w : Setting) (levels line : ℕ) (c : Content) (i : Value) → kind_of c ≡ kind.List → item_of w levels line c i ≡ row_item w line c (size_of c) i
item_list w levels line c i h = rw (is_list c h) refl

pub item_tuple : (w : Setting) (levels line : ℕ) (c : Content) (i : Value) → kind_of c ≡ kind.Tuple → item_of w levels line c i ≡ row_item w line c (size_of c) i
item_tuple w levels line c i h = rw (is_tuple c h) refl

pub item_range : (w : Setting) (levels line : ℕ) (c : Content) (i : Value) (r : Range) → kind_of c ≡ kind.Range r → item_of w levels line c i ≡ row_item w line c (size_of c) i
item_range w levels line c i r h = rw (is_range c r h) refl

pub item_text : (w : Setting) (levels line : ℕ) (c : Content) (i : Value) → kind_of c ≡ kind.Text → item_of w levels line c i ≡ byte_at w line (bytes_of c) i
item_text w levels line c i h = ap (λ k. item_of w levels line k i) (is_text c h)

pub item_dict : (w : Setting) (levels line : ℕ) (c : Content) (i : Value) → kind_of c ≡ kind.Dict → item_of w levels line c i ≡ entry_value w levels line (entries_in c) i
item_dict w levels line c i h = ap (λ k. item_of w levels line k i) (is_dict c h)

pub item_other : (w : Setting) (levels line : ℕ) (c : Content) (i : Value) → kind_of c ≢ kind.List → kind_of c ≢ kind.Tuple → ((r : Range) → kind_of c ≢ kind.Range r) → kind_of c ≢ kind.Text → kind_of c ≢ kind.Dict → item_of w levels line c i ≡ fail BadType line
item_other w levels line (Held (cell.Text b)) i l t r u d = absurd (u refl)
item_other w levels line (Held (cell.Range q)) i l t r u d = absurd (r q refl)
item_other w levels line (Held (cell.Tuple xs)) i l t r u d = absurd (t refl)
item_other w levels line (Held (cell.List xs)) i l t r u d = absurd (l refl)
item_other w levels line (Held (cell.Dict es)) i l t r u d = absurd (d refl)
item_other w levels line _ i l t r u d = refl

pub set_list : (w : Setting) (levels line : ℕ) (c : Content) (x i v : Value) → kind_of c ≡ kind.List → set_in w levels line c x i v ≡ set_item w line x (size_of c) i v
set_list w levels line c x i v h = rw (is_list c h) refl

pub set_dict : (w : Setting) (levels line : ℕ) (c : Content) (x i v : Value) → kind_of c ≡ kind.Dict → set_in w levels line c x i v ≡ set_entry w levels line x i v
set_dict w levels line c x i v h = ap (λ k. set_in w levels line k x i v) (is_dict c h)

pub set_other : (w : Setting) (levels line : ℕ) (c : Content) (x i v : Value) → kind_of c ≢ kind.List → kind_of c ≢ kind.Dict → set_in w levels line c x i v ≡ fail BadType line
set_other w levels line (Held (cell.List xs)) x i v l d = absurd (l refl)
set_other w levels line (Held (cell.Dict es)) x i v l d = absurd (d refl)
set_other w levels line _ x i v l d = refl
