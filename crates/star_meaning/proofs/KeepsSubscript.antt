-- Actions that respect every invariant of runs: subscripts.
use Rattle.star_store.specs.declared.values.Value.{Value}
use Rattle.star_store.specs.declared.values.Cell.TheVariants as cell
use Rattle.star_store.specs.declared.range.Range.{Range}
use Rattle.star_meaning.specs.Program.{Setting}
use Rattle.star_meaning.specs.Values.{Content, Held}
use Rattle.std.proofs.Common.{ℕ, List, Option, Some, None}
use Rattle.star_meaning.specs.Subscript.{row_item, byte_at, entry_value, item_of, index, pay_if_new, put_entry, set_item, set_entry, set_in, set_index, want_part, text_slice, range_slice, sliced, slice}
use Rattle.star_meaning.proofs.Invariants.{Invariant, Respects, respects}
use Rattle.star_meaning.proofs.KeepsValues.{respects-with_content, respects-want_int, respects-new_text, respects-new_tuple, respects-new_list, respects-check_key, respects-guard}

pub respects-row_item : (w : Setting) {inv : Invariant w} (line : ℕ) (c : Content) (len : ℕ) (i : Value) → Respects inv (row_item w line c len i)
respects-row_item w line c len i = search (respects, respects-want_int) depth 14

pub respects-byte_at : (w : Setting) {inv : Invariant w} (line : ℕ) (t : List ℕ) (i : Value) → Respects inv (byte_at w line t i)
respects-byte_at w line t i = search (respects, respects-want_int, respects-new_text) depth 14

pub respects-entry_value : (w : Setting) {inv : Invariant w} (levels : ℕ) (line : ℕ) (es : List (Value × Value)) (k : Value) → Respects inv (entry_value w levels line es k)
respects-entry_value w levels line es k = search (respects, respects-check_key) depth 14

pub respects-item_of : (w : Setting) {inv : Invariant w} (levels : ℕ) (line : ℕ) (a3 : Content) (i : Value) → Respects inv (item_of w levels line a3 i)
respects-item_of w levels line (Held (cell.List xs)) i = search (respects, respects-row_item) depth 14
respects-item_of w levels line (Held (cell.Tuple xs)) i = search (respects, respects-row_item) depth 14
respects-item_of w levels line (Held (cell.Range r)) i = search (respects, respects-row_item) depth 14
respects-item_of w levels line (Held (cell.Text t)) i = search (respects, respects-byte_at) depth 14
respects-item_of w levels line (Held (cell.Dict es)) i = search (respects, respects-entry_value) depth 14
respects-item_of w levels line _ i = search respects depth 14

pub respects-index : (w : Setting) {inv : Invariant w} (levels : ℕ) (line : ℕ) (x : Value) (i : Value) → Respects inv (index w levels line x i)
unfolding index
respects-index w levels line x i = search (respects, respects-with_content, respects-item_of) depth 14

pub respects-pay_if_new : {w : Setting} {inv : Invariant w} → (line : ℕ) (a1 : Option ℕ) → Respects inv (pay_if_new line a1)
respects-pay_if_new line None = search respects depth 14
respects-pay_if_new line (Some i) = search respects depth 14

pub respects-put_entry : (w : Setting) {inv : Invariant w} (line : ℕ) (d : Value) (k : Value) (v : Value) → Respects inv (put_entry w line d k v)
unfolding put_entry
respects-put_entry w line d k v = search (respects, respects-pay_if_new) depth 14

pub respects-set_item : (w : Setting) {inv : Invariant w} (line : ℕ) (x : Value) (len : ℕ) (i : Value) (v : Value) → Respects inv (set_item w line x len i v)
respects-set_item w line x len i v = search (respects, respects-want_int, respects-guard) depth 14

pub respects-set_entry : (w : Setting) {inv : Invariant w} (levels : ℕ) (line : ℕ) (x : Value) (k : Value) (v : Value) → Respects inv (set_entry w levels line x k v)
respects-set_entry w levels line x k v = search (respects, respects-check_key, respects-guard, respects-put_entry) depth 14

pub respects-set_in : (w : Setting) {inv : Invariant w} (levels : ℕ) (line : ℕ) (a3 : Content) (x : Value) (i : Value) (v : Value) → Respects inv (set_in w levels line a3 x i v)
respects-set_in w levels line (Held (cell.List xs)) x i v = search (respects, respects-set_item) depth 14
respects-set_in w levels line (Held (cell.Dict es)) x i v = search (respects, respects-set_entry) depth 14
respects-set_in w levels line _ x i v = search respects depth 14

pub respects-set_index : (w : Setting) {inv : Invariant w} (levels : ℕ) (line : ℕ) (x : Value) (i : Value) (v : Value) → Respects inv (set_index w levels line x i v)
unfolding set_index
respects-set_index w levels line x i v = search (respects, respects-with_content, respects-set_in) depth 14

pub respects-want_part : (w : Setting) {inv : Invariant w} (line : ℕ) (a2 : Option Value) → Respects inv (want_part w line a2)
respects-want_part w line None = search respects depth 14
respects-want_part w line (Some v) = search (respects, respects-with_content) depth 14

pub respects-text_slice : {w : Setting} {inv : Invariant w} → (line : ℕ) (t : List ℕ) (r : Range) → Respects inv (text_slice line t r)
respects-text_slice line t r = search (respects, respects-new_text) depth 14

pub respects-range_slice : {w : Setting} {inv : Invariant w} → (line : ℕ) (r : Range) (p : Range) → Respects inv (range_slice line r p)
respects-range_slice line r p = search respects depth 14

pub respects-sliced : {w : Setting} {inv : Invariant w} → (line : ℕ) (a1 : Content) (r : (ℕ → Range)) → Respects inv (sliced line a1 r)
respects-sliced line (Held (cell.List xs)) r = search (respects, respects-new_list) depth 14
respects-sliced line (Held (cell.Tuple xs)) r = search (respects, respects-new_tuple) depth 14
respects-sliced line (Held (cell.Text t)) r = search (respects, respects-text_slice) depth 14
respects-sliced line (Held (cell.Range s)) r = search (respects, respects-range_slice) depth 14
respects-sliced line _ r = search respects depth 14

pub respects-slice : (w : Setting) {inv : Invariant w} (line : ℕ) (x : Value) (a : Option Value) (b : Option Value) (c : Option Value) → Respects inv (slice w line x a b c)
unfolding slice
respects-slice w line x a b c = search (respects, respects-with_content, respects-want_part, respects-sliced) depth 14
