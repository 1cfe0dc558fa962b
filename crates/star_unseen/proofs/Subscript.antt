-- Subscripts and slices over two shelves: each does the same, and leaves what is visible.
use Rattle.std.proofs.Common.{◌≡◌, ℕ, ℤ, List, [], ◌∷◌, length, not, Option, Some, None, pos, ◌+ℤ◌, ◌*ℤ◌, slice_get, nat_lt, ap, subst, ◌∙◌}
use Rattle.std.specs.List.{cons_option}
use Rattle.std.specs.Ordering.{int_eq}
use Rattle.star_store.specs.declared.values.Value.{Value}
use Rattle.star_store.specs.declared.values.Cell.TheVariants as cell
use Rattle.star_store.specs.declared.arena.write.Change.TheVariants as change_to
use Rattle.star_store.specs.declared.range.Range.{Range}
use Rattle.star_store.specs.Arithmetic.{checked}
use Rattle.star_store.specs.Range.{range_length}
use Rattle.star_meaning.specs.declared.fault.FaultCode.{FaultCode}
use Rattle.star_meaning.specs.declared.fault.FaultCode.TheVariants as code
use Rattle.star_meaning.specs.Run.{State, found}
use Rattle.star_meaning.specs.Program.{Setting}
use Rattle.star_meaning.specs.Values.{Content, Held, content, item_in, place_in, value_in}
use Rattle.star_meaning.specs.Subscript.{place_from, row_item, byte_at, entry_value, item_of, index, pay_if_new, entries_in, put_entry, set_item, set_entry, set_in, set_index, part_of, want_part, places_of, picked, is_whole, text_slice, range_slice, sliced, has_slices, stride_of, slice_range, slice}
use Rattle.star_unseen.specs.Veil.{Every, IsVisible, Maybe, VisibleIfThere, PairsAreVisible, StateIsVisible}
use Rattle.star_unseen.specs.Shelves.{Veil, with_other}
use Rattle.star_unseen.proofs.Rows.{every_get}
use Rattle.star_unseen.proofs.Looks.{ContentIsVisible, visible_content, same_content}
use Rattle.star_unseen.proofs.Alike.{Alike, Any, alike_agreed, alike_build, alike_check, alike_content, alike_fail, alike_finds, alike_found, alike_give, alike_pay, alike_seeing, alike_then}
use Rattle.star_unseen.proofs.Writes.{alike-change, alike-guard}
use Rattle.star_unseen.proofs.Values.{any_found, alike-check_key, alike-new_list, alike-new_text, alike-new_tuple, alike-want_int, visible-item_in, visible-value_in, same-place_in, same-value_in}

-- what is found, of which nothing is said
pub alike_found_any : {A : Type 0} {w : Setting} {k : Veil w} (c : FaultCode) (line : ℕ) (o : Option A) → Alike k Any (found c line o) (found c line o)
alike_found_any c line o = alike_found Any c line o (any_found o)

-- ---- reads

pub alike-row_item : {w : Setting} (k : Veil w) (line : ℕ) (c : Content) (len : ℕ) (i : Value) → ContentIsVisible k.hides c → IsVisible k.hides i → Alike k (IsVisible k.hides) (row_item w line c len i) (row_item (with_other k.other w) line c len i)
alike-row_item k line c len i hc hi = alike_then (alike-want_int k line i hi) (λ z _. alike_then (alike_found_any code.Index line (place_from len z)) (λ at _. alike_found (IsVisible k.hides) code.Index line (item_in c at) (visible-item_in k c at hc)))

pub alike-byte_at : {w : Setting} (k : Veil w) (line : ℕ) (t : List ℕ) (i : Value) → IsVisible k.hides i → Alike k (IsVisible k.hides) (byte_at w line t i) (byte_at (with_other k.other w) line t i)
alike-byte_at k line t i hi = alike_then (alike-want_int k line i hi) (λ z _. alike_then (alike_found_any code.Index line (place_from (length t) z)) (λ at _. alike_then (alike_found_any code.Index line (slice_get t at)) (λ b _. alike_then (alike_check code.Cut line (nat_lt b 128)) (λ _ _. alike-new_text k line (b ∷ [])))))

pub alike-entry_value : {w : Setting} (k : Veil w) (levels line : ℕ) (es : List (Value × Value)) (key : Value) → PairsAreVisible k.hides es → IsVisible k.hides key → Alike k (IsVisible k.hides) (entry_value w levels line es key) (entry_value (with_other k.other w) levels line es key)
alike-entry_value {w = w} k levels line es key hes hk = alike_then (alike-check_key k levels line key hk) (λ _ _. alike_seeing (IsVisible k.hides) _ _ (λ s c. alike_finds (IsVisible k.hides) code.Key line (value_in w s key es) _ (same-value_in k s key es c hk hes) (visible-value_in k s key es hes)))

pub alike-item_of : {w : Setting} (k : Veil w) (levels line : ℕ) (c : Content) (i : Value) → ContentIsVisible k.hides c → IsVisible k.hides i → Alike k (IsVisible k.hides) (item_of w levels line c i) (item_of (with_other k.other w) levels line c i)
alike-item_of k levels line (Held (cell.List xs)) i hc hi = alike-row_item k line (Held (cell.List xs)) (length xs) i hc hi
alike-item_of k levels line (Held (cell.Tuple xs)) i hc hi = alike-row_item k line (Held (cell.Tuple xs)) (length xs) i hc hi
alike-item_of k levels line (Held (cell.Range r)) i hc hi = alike-row_item k line (Held (cell.Range r)) (range_length r) i hc hi
alike-item_of k levels line (Held (cell.Text t)) i hc hi = alike-byte_at k line t i hi
alike-item_of k levels line (Held (cell.Dict es)) i hc hi = alike-entry_value k levels line es i hc hi
alike-item_of k levels line _ i hc hi = alike_fail Value (IsVisible k.hides) code.BadType line

pub alike-index : {w : Setting} (k : Veil w) (levels line : ℕ) (x i : Value) → IsVisible k.hides x → IsVisible k.hides i → Alike k (IsVisible k.hides) (index w levels line x i) (index (with_other k.other w) levels line x i)
unfolding index
alike-index k levels line x i hx hi = alike_content (IsVisible k.hides) x _ _ hx (λ c hc. alike-item_of k levels line c i hc hi)

-- ---- changes

pub alike-pay_if_new : {w : Setting} (k : Veil w) (line : ℕ) (o : Option ℕ) → Alike k Any (pay_if_new line o) (pay_if_new line o)
alike-pay_if_new k line None = alike_pay line 1
alike-pay_if_new k line (Some i) = alike_give {A = Unit {0}} Any tt tt

pub visible-entries_in : {w : Setting} (k : Veil w) (c : Content) → ContentIsVisible k.hides c → PairsAreVisible k.hides (entries_in c)
visible-entries_in k (Held (cell.Dict es)) h = h
visible-entries_in k (Held (cell.Set es)) h = h
visible-entries_in k _ h = tt

-- a visible key has the same place among the entries of a dictionary over both shelves
pub same_place : {w : Setting} (k : Veil w) (s : State) (d key : Value) → StateIsVisible k.hides w.home s → IsVisible k.hides d → IsVisible k.hides key → place_in w s key (entries_in (content w s d)) ≡ place_in (with_other k.other w) s key (entries_in (content (with_other k.other w) s d))
same_place {w = w} k s d key c hd hk =
    same-place_in k s key (entries_in (content w s d)) c hk (visible-entries_in k (content w s d) (visible_content k s d c hd))
    ∙ ap (λ x. place_in (with_other k.other w) s key (entries_in x)) (same_content k s d hd)

pub alike-put_entry : {w : Setting} (k : Veil w) (line : ℕ) (d key v : Value) → IsVisible k.hides d → IsVisible k.hides key → IsVisible k.hides v → Alike k Any (put_entry w line d key v) (put_entry (with_other k.other w) line d key v)
unfolding put_entry
alike-put_entry {w = w} k line d key v hd hk hv = alike_then
    (alike_seeing Any _ _ (λ s c. subst (λ o. Alike k Any (pay_if_new line (place_in w s key (entries_in (content w s d)))) (pay_if_new line o)) (same_place k s d key c hd hk) (alike-pay_if_new k line (place_in w s key (entries_in (content w s d))))))
    (λ _ _. alike_then (alike-change k line d (change_to.Put key v) hd (hk, hv)) (λ _ _. alike_give {A = Unit {0}} Any tt tt))

pub alike-set_item : {w : Setting} (k : Veil w) (line : ℕ) (x : Value) (len : ℕ) (i v : Value) → IsVisible k.hides x → IsVisible k.hides i → IsVisible k.hides v → Alike k Any (set_item w line x len i v) (set_item (with_other k.other w) line x len i v)
alike-set_item k line x len i v hx hi hv = alike_then (alike-guard k line x hx) (λ _ _. alike_then (alike-want_int k line i hi) (λ z _. alike_then (alike_found_any code.Index line (place_from len z)) (λ at _. alike_then (alike-change k line x (change_to.Set at v) hx hv) (λ _ _. alike_give {A = Unit {0}} Any tt tt))))

pub alike-set_entry : {w : Setting} (k : Veil w) (levels line : ℕ) (x key v : Value) → IsVisible k.hides x → IsVisible k.hides key → IsVisible k.hides v → Alike k Any (set_entry w levels line x key v) (set_entry (with_other k.other w) levels line x key v)
alike-set_entry k levels line x key v hx hk hv = alike_then (alike-guard k line x hx) (λ _ _. alike_then (alike-check_key k levels line key hk) (λ _ _. alike-put_entry k line x key v hx hk hv))

pub alike-set_in : {w : Setting} (k : Veil w) (levels line : ℕ) (c : Content) (x i v : Value) → ContentIsVisible k.hides c → IsVisible k.hides x → IsVisible k.hides i → IsVisible k.hides v → Alike k Any (set_in w levels line c x i v) (set_in (with_other k.other w) levels line c x i v)
alike-set_in k levels line (Held (cell.List xs)) x i v hc hx hi hv = alike-set_item k line x (length xs) i v hx hi hv
alike-set_in k levels line (Held (cell.Dict es)) x i v hc hx hi hv = alike-set_entry k levels line x i v hx hi hv
alike-set_in k levels line _ x i v hc hx hi hv = alike_fail (Unit {0}) Any code.BadType line

pub alike-set_index : {w : Setting} (k : Veil w) (levels line : ℕ) (x i v : Value) → IsVisible k.hides x → IsVisible k.hides i → IsVisible k.hides v → Alike k Any (set_index w levels line x i v) (set_index (with_other k.other w) levels line x i v)
unfolding set_index
alike-set_index k levels line x i v hx hi hv = alike_content Any x _ _ hx (λ c hc. alike-set_in k levels line c x i v hc hx hi hv)

-- ---- slices

pub alike-want_part : {w : Setting} (k : Veil w) (line : ℕ) (o : Option Value) → VisibleIfThere k.hides o → Alike k Any (want_part w line o) (want_part (with_other k.other w) line o)
alike-want_part k line None h = alike_give {A = Option ℤ} Any None tt
alike-want_part k line (Some v) h = alike_content Any v _ _ h (λ c hc. alike_found_any code.BadType line (part_of c))

visible_cons : {A : Type 0} (P : A → Type 0) (o : Option A) (xs : List A) → Maybe P o → Every P xs → Every P (cons_option o xs)
visible_cons P None xs h k = k
visible_cons P (Some x) xs h k = (h, k)

pub visible-picked : {A : Type 0} (P : A → Type 0) (xs : List A) (places : List ℕ) → Every P xs → Every P (picked xs places)
visible-picked P xs [] h = tt
visible-picked P xs (i ∷ is) h = visible_cons P (slice_get xs i) (picked xs is) (every_get P xs i h) (visible-picked P xs is h)

pub alike-text_slice : {w : Setting} (k : Veil w) (line : ℕ) (t : List ℕ) (r : Range) → Alike k (IsVisible k.hides) (text_slice line t r) (text_slice line t r)
alike-text_slice k line t r = alike_then (alike_check code.Cut line (is_whole t r)) (λ _ _. alike-new_text k line (picked t (places_of r)))

pub alike-range_slice : {w : Setting} (k : Veil w) (line : ℕ) (r p : Range) → Alike k (IsVisible k.hides) (range_slice line r p) (range_slice line r p)
alike-range_slice k line r p =
    alike_then (alike_agreed Any line (checked (r.start +ℤ p.start *ℤ r.step)) (λ x e. tt)) (λ start _. alike_then (alike_agreed Any line (checked (r.start +ℤ p.stop *ℤ r.step)) (λ x e. tt)) (λ stop _.
    alike_then (alike_agreed Any line (checked (r.step *ℤ p.step)) (λ x e. tt)) (λ step _. alike_build line 1 (cell.Range (record { start = start; stop = stop; step = step })) tt)))

pub alike-sliced : {w : Setting} (k : Veil w) (line : ℕ) (c : Content) (r : ℕ → Range) → ContentIsVisible k.hides c → Alike k (IsVisible k.hides) (sliced line c r) (sliced line c r)
alike-sliced k line (Held (cell.List xs)) r h = alike-new_list k line (picked xs (places_of (r (length xs)))) (visible-picked (IsVisible k.hides) xs (places_of (r (length xs))) h)
alike-sliced k line (Held (cell.Tuple xs)) r h = alike-new_tuple k line (picked xs (places_of (r (length xs)))) (visible-picked (IsVisible k.hides) xs (places_of (r (length xs))) h)
alike-sliced k line (Held (cell.Text t)) r h = alike-text_slice k line t (r (length t))
alike-sliced k line (Held (cell.Range s)) r h = alike-range_slice k line s (r (range_length s))
alike-sliced k line _ r h = alike_fail Value (IsVisible k.hides) code.BadType line

pub alike-slice : {w : Setting} (k : Veil w) (line : ℕ) (x : Value) (a b c : Option Value) → IsVisible k.hides x → VisibleIfThere k.hides a → VisibleIfThere k.hides b → VisibleIfThere k.hides c → Alike k (IsVisible k.hides) (slice w line x a b c) (slice (with_other k.other w) line x a b c)
unfolding slice
alike-slice {w = w} k line x a b c hx ha hb hc = alike_then (alike_content Any x _ _ hx (λ d hd. alike_check code.BadType line (has_slices w.language.dialect d))) (λ _ _.
    alike_then (alike-want_part k line a ha) (λ start _. alike_then (alike-want_part k line b hb) (λ stop _. alike_then (alike-want_part k line c hc) (λ stride _.
    alike_then (alike_check code.BadValue line (not (int_eq (stride_of stride) (pos 0)))) (λ _ _.
    alike_content (IsVisible k.hides) x _ _ hx (λ d hd. alike-sliced k line d (λ n. slice_range n start stop (stride_of stride)) hd))))))
