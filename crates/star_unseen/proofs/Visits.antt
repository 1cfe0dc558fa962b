-- Visits of visible values: equality, order, keys, truth and texts are the same over two looks that agree on visible values.
use Rattle.std.proofs.Common.{◌≡◌, ℕ, zero, suc, ◌+◌, List, [], ◌∷◌, ◌++◌, length, min, Option, Some, None, Bool, false, ◌&&◌, not, cond, if◌then◌else◌, nat_eq, nat_lt, codes, slice_get, refl, ap, ◌∙◌}
use Rattle.std.specs.List.{list_all, position, prefix_len}
use Rattle.std.specs.Option.{option_map, option_and_then}
use Rattle.std.specs.Ordering.{nat_cmp}
use Rattle.std.specs.declared.cmp.Ordering.{Ordering}
use Rattle.star_store.specs.declared.values.Value.{Value}
use Rattle.star_store.specs.declared.values.Value.TheVariants as value
use Rattle.star_store.specs.declared.values.Cell.{Cell}
use Rattle.star_store.specs.declared.values.Cell.TheVariants as cell
use Rattle.star_store.specs.Spend.{Spend, all_places, answer, spend_then, visited}
use Rattle.star_store.specs.Equal.{same, same_cells, same_entries, same_entry, same_found, same_items, same_pair, same_pairs, same_place, same_values}
use Rattle.star_store.specs.Order.{order, order_cells, order_items, order_pair, order_place, order_places, order_values}
use Rattle.json.specs.Print.{quoted}
use Rattle.star_store.specs.declared.layout.Layout.{Layout}
use Rattle.star_store.specs.Fields.{Fields, is_before, names_of, same_names, values_of}
use Rattle.star_store.specs.Json.{closing, colon, comma, json, line, members, name_in, named, put_array, put_cell, put_dict, put_member, put_named, put_nth, put_object, put_place, put_set, put_value}
use Rattle.star_store.specs.Sorting.{in_order}
use Rattle.star_store.specs.Key.{all_pass, check, check_cell, check_each, check_value, is_key, is_text, is_text_cell, key_cell, key_levels, key_value, place_of, same_key, same_key_cell, same_key_items, same_key_pair, same_key_place, same_key_value, text_place, text_value, value_of}
use Rattle.star_store.specs.Text.{Say, all_said, on_path, say, separator, tuple_end, say_cell, say_element, say_elements, say_entries, say_entry, say_field, say_fields, say_item, say_named, say_items, say_nth, say_pair, say_place, say_value, text, then_say}
use Rattle.star_store.specs.Truth.{true_cell, truth}
use Rattle.star_unseen.specs.Veil.{AreVisible, CellIsVisible, Every, FieldsAreVisible, Hides, IsVisible, Maybe, VisibleIfThere, PairIsVisible, PairsAreVisible}
use Rattle.star_unseen.proofs.Rows.{every_get, every_in_order, maybe_map}

pub ext : {A B : Type 0} (f g : A → B) → ((x : A) → f x ≡ g x) → f ≡ g
ext f g h = λ i x. h x i

-- two looks that agree on visible values, and see visible cells there
pub record Looks (hides : Hides) (look other : Value → Option Cell) : Type 0 where
  pub agree : (v : Value) → IsVisible hides v → look v ≡ other v
  pub visible : (v : Value) → IsVisible hides v → Maybe (CellIsVisible hides) (look v)

-- a function of two values that does the same as another on visible values
abbrev pub SameOnVisible : {A : Type 0} → Hides → (Value → Value → A) → (Value → Value → A) → Type 0
SameOnVisible hides f g = (x y : Value) → IsVisible hides x → IsVisible hides y → f x y ≡ g x y

-- ---- keys

-- the values of visible fields are visible
fields_values : (hides : Hides) (fs : List (List ℕ × Value)) → FieldsAreVisible hides fs → AreVisible hides (values_of fs)
fields_values hides [] c = tt
fields_values hides (f ∷ fs) c = (c.0, fields_values hides fs c.1)

key_items : (hides : Hides) (f g : Value → Bool) → ((x : Value) → IsVisible hides x → f x ≡ g x) → (xs : List Value) → AreVisible hides xs → list_all f xs ≡ list_all g xs
key_items hides f g h [] c = refl
key_items hides f g h (x ∷ xs) c = ap (λ b. b && list_all f xs) (h x c.0) ∙ ap (λ b. g x && b) (key_items hides f g h xs c.1)

key_cells : (hides : Hides) (f g : Value → Bool) → ((x : Value) → IsVisible hides x → f x ≡ g x) → (o : Option Cell) → Maybe (CellIsVisible hides) o → key_cell f o ≡ key_cell g o
key_cells hides f g h (Some (cell.Tuple xs)) c = key_items hides f g h xs c
key_cells hides f g h (Some (cell.Struct fs)) c = key_items hides f g h (values_of fs) (fields_values hides fs c)
key_cells hides f g h _ c = refl

key_values : (hides : Hides) (look other : Value → Option Cell) → Looks hides look other → (f g : Value → Bool) → ((x : Value) → IsVisible hides x → f x ≡ g x) → (v : Value) → IsVisible hides v → key_value look f v ≡ key_value other g v
key_values hides look other l f g h (value.Ref m a) c = key_cells hides f g h (look (value.Ref m a)) (l.visible (value.Ref m a) c) ∙ ap (key_cell g) (l.agree (value.Ref m a) c)
key_values hides look other l f g h _ c = refl

pub same-is_key : (hides : Hides) (look other : Value → Option Cell) → Looks hides look other → (n : ℕ) (v : Value) → IsVisible hides v → is_key look n v ≡ is_key other n v
unfolding is_key
same-is_key hides look other l zero v c = refl
same-is_key hides look other l (suc n) v c = key_values hides look other l (is_key look n) (is_key other n) (same-is_key hides look other l n) v c

key_pair : (hides : Hides) (f g : Value → Value → Bool) → SameOnVisible hides f g → (o p : Option Value) → VisibleIfThere hides o → VisibleIfThere hides p → same_key_pair f o p ≡ same_key_pair g o p
key_pair hides f g h (Some x) (Some y) c d = h x y c d
key_pair hides f g h None p c d = refl
key_pair hides f g h (Some x) None c d = refl

all_pass_same : (f g : ℕ → Bool) → ((i : ℕ) → f i ≡ g i) → (n i : ℕ) → all_pass f n i ≡ all_pass g n i
all_pass_same f g h n i = ap (λ (t : ℕ → Bool). all_pass t n i) (ext f g h)

key_rows : (hides : Hides) (f g : Value → Value → Bool) → SameOnVisible hides f g → (xs ys : List Value) → AreVisible hides xs → AreVisible hides ys → same_key_items f xs ys ≡ same_key_items g xs ys
key_rows hides f g h xs ys c d = ap (λ b. if nat_eq (length xs) (length ys) then b else false) (all_pass_same (same_key_place f xs ys) (same_key_place g xs ys) (λ i. key_pair hides f g h (slice_get xs i) (slice_get ys i) (every_get _ xs i c) (every_get _ ys i d)) (length xs) 0)

same_key_cells : (hides : Hides) (f g : Value → Value → Bool) → SameOnVisible hides f g → (o p : Option Cell) → Maybe (CellIsVisible hides) o → Maybe (CellIsVisible hides) p → same_key_cell f o p ≡ same_key_cell g o p
same_key_cells hides f g h (Some (cell.Tuple xs)) (Some (cell.Tuple ys)) c d = key_rows hides f g h xs ys c d
same_key_cells hides f g h (Some (cell.Struct xs)) (Some (cell.Struct ys)) c d = ap (λ (b : Bool). same_names (names_of xs) (names_of ys) && b) (key_rows hides f g h (values_of xs) (values_of ys) (fields_values hides xs c) (fields_values hides ys d))
same_key_cells hides f g h _ _ c d = refl

same_key_values : (hides : Hides) (look other : Value → Option Cell) → Looks hides look other → (f g : Value → Value → Bool) → SameOnVisible hides f g → (x y : Value) → IsVisible hides x → IsVisible hides y → same_key_value look f x y ≡ same_key_value other g x y
same_key_values hides look other l f g h (value.Ref m a) (value.Ref n b) c d =
    same_key_cells hides f g h (look (value.Ref m a)) (look (value.Ref n b)) (l.visible (value.Ref m a) c) (l.visible (value.Ref n b) d)
    ∙ ap (λ o. same_key_cell g o (look (value.Ref n b))) (l.agree (value.Ref m a) c)
    ∙ ap (λ o. same_key_cell g (other (value.Ref m a)) o) (l.agree (value.Ref n b) d)
same_key_values hides look other l f g h _ _ c d = refl

pub same-same_key : (hides : Hides) (look other : Value → Option Cell) → Looks hides look other → (n : ℕ) → SameOnVisible hides (same_key look n) (same_key other n)
unfolding same_key
same-same_key hides look other l zero = λ x y c d. refl
same-same_key hides look other l (suc n) = λ x y c d. same_key_values hides look other l (same_key look n) (same_key other n) (same-same_key hides look other l n) x y c d

prefix_same : {A : Type 0} (P : A → Type 0) (f g : A → Bool) → ((x : A) → P x → f x ≡ g x) → (xs : List A) → Every P xs → prefix_len (λ x. not (f x)) xs ≡ prefix_len (λ x. not (g x)) xs
prefix_same P f g h [] c = refl
prefix_same P f g h (x ∷ xs) c = ap (λ b. cond (not b) (1 + prefix_len (λ y. not (f y)) xs) 0) (h x c.0) ∙ ap (λ n. cond (not (g x)) (1 + n) 0) (prefix_same P f g h xs c.1)

pub same_position : {A : Type 0} (P : A → Type 0) (f g : A → Bool) → ((x : A) → P x → f x ≡ g x) → (xs : List A) → Every P xs → position f xs ≡ position g xs
same_position P f g h xs c = ap (λ n. cond (nat_lt n (length xs)) (Some n) None) (prefix_same P f g h xs c)

pub same-place_of : (hides : Hides) (look other : Value → Option Cell) → Looks hides look other → (key : Value) (es : List (Value × Value)) → IsVisible hides key → PairsAreVisible hides es → place_of look key es ≡ place_of other key es
same-place_of hides look other l key es c d = same_position (PairIsVisible hides) _ _ (λ e p. same-same_key hides look other l key_levels key e.0 c p.0) es d

pub same-value_of : (hides : Hides) (look other : Value → Option Cell) → Looks hides look other → (key : Value) (es : List (Value × Value)) → IsVisible hides key → PairsAreVisible hides es → value_of look key es ≡ value_of other key es
same-value_of hides look other l key es c d = ap (option_and_then (λ i. option_map (λ e. e.1) (slice_get es i))) (same-place_of hides look other l key es c d)

pub visible-value_of : (hides : Hides) (look : Value → Option Cell) (key : Value) (es : List (Value × Value)) → PairsAreVisible hides es → VisibleIfThere hides (value_of look key es)
visible-value_of hides look key es d = by (place_of look key es)
  where
    by : (o : Option ℕ) → VisibleIfThere hides (option_and_then (λ i. option_map (λ e. e.1) (slice_get es i)) o)
    by None = tt
    by (Some i) = maybe_map (PairIsVisible hides) (IsVisible hides) (λ e. e.1) (λ e p. p.1) (slice_get es i) (every_get _ es i d)

-- a string is the same key, whatever is hidden
text_cells : (text : List ℕ) (o p : Option Cell) → o ≡ p → is_text_cell text o ≡ is_text_cell text p
text_cells text o p e = ap (is_text_cell text) e

same-is_text : (hides : Hides) (look other : Value → Option Cell) → Looks hides look other → (text : List ℕ) (v : Value) → IsVisible hides v → is_text look text v ≡ is_text other text v
same-is_text hides look other l text (value.Ref m a) c = text_cells text (look (value.Ref m a)) (other (value.Ref m a)) (l.agree (value.Ref m a) c)
same-is_text hides look other l text _ c = refl

pub same-text_value : (hides : Hides) (look other : Value → Option Cell) → Looks hides look other → (text : List ℕ) (es : List (Value × Value)) → PairsAreVisible hides es → text_value look text es ≡ text_value other text es
same-text_value hides look other l text es d =
    ap (option_and_then (λ i. option_map (λ e. e.1) (slice_get es i))) (same_position (PairIsVisible hides) _ _ (λ e p. same-is_text hides look other l text e.0 p.0) es d)

pub visible-text_value : (hides : Hides) (look : Value → Option Cell) (text : List ℕ) (es : List (Value × Value)) → PairsAreVisible hides es → VisibleIfThere hides (text_value look text es)
visible-text_value hides look text es d = by (text_place look text es)
  where
    by : (o : Option ℕ) → VisibleIfThere hides (option_and_then (λ i. option_map (λ e. e.1) (slice_get es i)) o)
    by None = tt
    by (Some i) = maybe_map (PairIsVisible hides) (IsVisible hides) (λ e. e.1) (λ e p. p.1) (slice_get es i) (every_get _ es i d)

check_items : (hides : Hides) (f g : Value → Spend (Unit {0})) → ((x : Value) → IsVisible hides x → f x ≡ g x) → (xs : List Value) → AreVisible hides xs → check_each f xs ≡ check_each g xs
check_items hides f g h [] c = refl
check_items hides f g h (x ∷ xs) c = ap {B = Spend (Unit {0})} (λ (m : Spend (Unit {0})) left. spend_then (m left) (λ _. check_each f xs)) (h x c.0) ∙ ap {B = Spend (Unit {0})} (λ (m : Spend (Unit {0})) left. spend_then (g x left) (λ _. m)) (check_items hides f g h xs c.1)

check_cells : (hides : Hides) (f g : Value → Spend (Unit {0})) → ((x : Value) → IsVisible hides x → f x ≡ g x) → (o : Option Cell) → Maybe (CellIsVisible hides) o → check_cell f o ≡ check_cell g o
check_cells hides f g h (Some (cell.Tuple xs)) c = check_items hides f g h xs c
check_cells hides f g h (Some (cell.Struct fs)) c = check_items hides f g h (values_of fs) (fields_values hides fs c)
check_cells hides f g h _ c = refl

check_values : (hides : Hides) (look other : Value → Option Cell) → Looks hides look other → (f g : Value → Spend (Unit {0})) → ((x : Value) → IsVisible hides x → f x ≡ g x) → (v : Value) → IsVisible hides v → check_value look f v ≡ check_value other g v
check_values hides look other l f g h (value.Ref m a) c = check_cells hides f g h (look (value.Ref m a)) (l.visible (value.Ref m a) c) ∙ ap (check_cell g) (l.agree (value.Ref m a) c)
check_values hides look other l f g h _ c = refl

pub same-check : (hides : Hides) (look other : Value → Option Cell) → Looks hides look other → (n : ℕ) (v : Value) → IsVisible hides v → check look n v ≡ check other n v
unfolding check
same-check hides look other l zero v c = refl
same-check hides look other l (suc n) v c = ap visited (check_values hides look other l (check look n) (check other n) (same-check hides look other l n) v c)

-- ---- equality

places_same : (f g : ℕ → Spend Bool) → ((i : ℕ) → f i ≡ g i) → (n i : ℕ) → all_places f n i ≡ all_places g n i
places_same f g h n i = ap (λ (t : ℕ → Spend Bool). all_places t n i) (ext f g h)

pair_same : (hides : Hides) (f g : Value → Value → Spend Bool) → SameOnVisible hides f g → (o p : Option Value) → VisibleIfThere hides o → VisibleIfThere hides p → same_pair f o p ≡ same_pair g o p
pair_same hides f g h (Some x) (Some y) c d = h x y c d
pair_same hides f g h None p c d = refl
pair_same hides f g h (Some x) None c d = refl

place_same : (hides : Hides) (f g : Value → Value → Spend Bool) → SameOnVisible hides f g → (xs ys : List Value) → AreVisible hides xs → AreVisible hides ys → (i : ℕ) → same_place f xs ys i ≡ same_place g xs ys i
place_same hides f g h xs ys c d i = pair_same hides f g h (slice_get xs i) (slice_get ys i) (every_get _ xs i c) (every_get _ ys i d)

items_same : (hides : Hides) (f g : Value → Value → Spend Bool) → SameOnVisible hides f g → (xs ys : List Value) → AreVisible hides xs → AreVisible hides ys → same_items f xs ys ≡ same_items g xs ys
items_same hides f g h xs ys c d = ap (λ (m : Spend Bool). if nat_eq (length xs) (length ys) then m else answer false) (places_same _ _ (place_same hides f g h xs ys c d) (length xs) 0)

found_same : (hides : Hides) (f g : Value → Value → Spend Bool) → SameOnVisible hides f g → (x : Value) (o : Option Value) → IsVisible hides x → VisibleIfThere hides o → same_found f x o ≡ same_found g x o
found_same hides f g h x (Some y) c d = h x y c d
found_same hides f g h x None c d = refl

pairs_same : (hides : Hides) (look other : Value → Option Cell) → Looks hides look other → (f g : Value → Value → Spend Bool) → SameOnVisible hides f g → (ys : List (Value × Value)) → PairsAreVisible hides ys → (o : Option (Value × Value)) → Maybe (PairIsVisible hides) o → same_pairs look f ys o ≡ same_pairs other g ys o
pairs_same hides look other l f g h ys d None c = refl
pairs_same hides look other l f g h ys d (Some e) c = found_same hides f g h e.1 (value_of look e.0 ys) c.1 (visible-value_of hides look e.0 ys d) ∙ ap (same_found g e.1) (same-value_of hides look other l e.0 ys c.0 d)

entries_same : (hides : Hides) (look other : Value → Option Cell) → Looks hides look other → (f g : Value → Value → Spend Bool) → SameOnVisible hides f g → (xs ys : List (Value × Value)) → PairsAreVisible hides xs → PairsAreVisible hides ys → same_entries look f xs ys ≡ same_entries other g xs ys
entries_same hides look other l f g h xs ys c d = ap (λ (m : Spend Bool). if nat_eq (length xs) (length ys) then m else answer false)
    (places_same (same_entry look f xs ys) (same_entry other g xs ys) (λ i. pairs_same hides look other l f g h ys d (slice_get xs i) (every_get _ xs i c)) (length xs) 0)

cells_same : (hides : Hides) (look other : Value → Option Cell) → Looks hides look other → (f g : Value → Value → Spend Bool) → SameOnVisible hides f g → (one : Bool) (o p : Option Cell) → Maybe (CellIsVisible hides) o → Maybe (CellIsVisible hides) p → same_cells look f one o p ≡ same_cells other g one o p
cells_same hides look other l f g h one (Some (cell.Tuple xs)) (Some (cell.Tuple ys)) c d = items_same hides f g h xs ys c d
cells_same hides look other l f g h one (Some (cell.List xs)) (Some (cell.List ys)) c d = items_same hides f g h xs ys c d
cells_same hides look other l f g h one (Some (cell.Dict xs)) (Some (cell.Dict ys)) c d = entries_same hides look other l f g h xs ys c d
cells_same hides look other l f g h one (Some (cell.Set xs)) (Some (cell.Set ys)) c d = entries_same hides look other l f g h xs ys c d
cells_same hides look other l f g h one (Some (cell.Struct xs)) (Some (cell.Struct ys)) c d =
    ap (λ (m : Spend Bool). if same_names (names_of xs) (names_of ys) then m else answer false) (items_same hides f g h (values_of xs) (values_of ys) (fields_values hides xs c) (fields_values hides ys d))
cells_same hides look other l f g h one _ _ c d = refl

values_same : (hides : Hides) (look other : Value → Option Cell) → Looks hides look other → (f g : Value → Value → Spend Bool) → SameOnVisible hides f g → (x y : Value) → IsVisible hides x → IsVisible hides y → same_values look f x y ≡ same_values other g x y
values_same hides look other l f g h (value.Ref m a) (value.Ref n b) c d =
    let one : Bool = nat_eq m n && nat_eq a b in
    cells_same hides look other l f g h one (look (value.Ref m a)) (look (value.Ref n b)) (l.visible (value.Ref m a) c) (l.visible (value.Ref n b) d)
    ∙ ap (λ o. same_cells other g one o (look (value.Ref n b))) (l.agree (value.Ref m a) c)
    ∙ ap (λ o. same_cells other g one (other (value.Ref m a)) o) (l.agree (value.Ref n b) d)
values_same hides look other l f g h _ _ c d = refl

pub same-same : (hides : Hides) (look other : Value → Option Cell) → Looks hides look other → (n : ℕ) → SameOnVisible hides (same look n) (same other n)
unfolding same
same-same hides look other l zero = λ x y c d. refl
same-same hides look other l (suc n) = λ x y c d. ap visited (values_same hides look other l (same look n) (same other n) (same-same hides look other l n) x y c d)

-- ---- order

ordered_same : (f f' : ℕ → Spend Bool) (g g' : ℕ → Spend Ordering) → ((i : ℕ) → f i ≡ f' i) → ((i : ℕ) → g i ≡ g' i) → (end : Ordering) (n i : ℕ) → order_places f g end n i ≡ order_places f' g' end n i
ordered_same f f' g g' h k end n i = ap (λ (t : ℕ → Spend Bool). order_places t g end n i) (ext f f' h) ∙ ap (λ (t : ℕ → Spend Ordering). order_places f' t end n i) (ext g g' k)

order_pair_same : (hides : Hides) (f g : Value → Value → Spend Ordering) → SameOnVisible hides f g → (o p : Option Value) → VisibleIfThere hides o → VisibleIfThere hides p → order_pair f o p ≡ order_pair g o p
order_pair_same hides f g h (Some x) (Some y) c d = h x y c d
order_pair_same hides f g h None p c d = refl
order_pair_same hides f g h (Some x) None c d = refl

order_items_same : (hides : Hides) (f f' : Value → Value → Spend Bool) (g g' : Value → Value → Spend Ordering) → SameOnVisible hides f f' → SameOnVisible hides g g' → (xs ys : List Value) → AreVisible hides xs → AreVisible hides ys → order_items f g xs ys ≡ order_items f' g' xs ys
order_items_same hides f f' g g' h k xs ys c d = ordered_same (same_place f xs ys) (same_place f' xs ys) (order_place g xs ys) (order_place g' xs ys) (place_same hides f f' h xs ys c d) (λ i. order_pair_same hides g g' k (slice_get xs i) (slice_get ys i) (every_get _ xs i c) (every_get _ ys i d)) (nat_cmp (length xs) (length ys)) (min (length xs) (length ys)) 0

order_cells_same : (hides : Hides) (f f' : Value → Value → Spend Bool) (g g' : Value → Value → Spend Ordering) → SameOnVisible hides f f' → SameOnVisible hides g g' → (o p : Option Cell) → Maybe (CellIsVisible hides) o → Maybe (CellIsVisible hides) p → order_cells f g o p ≡ order_cells f' g' o p
order_cells_same hides f f' g g' h k (Some (cell.Tuple xs)) (Some (cell.Tuple ys)) c d = order_items_same hides f f' g g' h k xs ys c d
order_cells_same hides f f' g g' h k (Some (cell.List xs)) (Some (cell.List ys)) c d = order_items_same hides f f' g g' h k xs ys c d
order_cells_same hides f f' g g' h k _ _ c d = refl

order_values_same : (hides : Hides) (look other : Value → Option Cell) → Looks hides look other → (f f' : Value → Value → Spend Bool) (g g' : Value → Value → Spend Ordering) → SameOnVisible hides f f' → SameOnVisible hides g g' → (x y : Value) → IsVisible hides x → IsVisible hides y → order_values look f g x y ≡ order_values other f' g' x y
order_values_same hides look other l f f' g g' h k (value.Ref m a) (value.Ref n b) c d =
    order_cells_same hides f f' g g' h k (look (value.Ref m a)) (look (value.Ref n b)) (l.visible (value.Ref m a) c) (l.visible (value.Ref n b) d)
    ∙ ap (λ o. order_cells f' g' o (look (value.Ref n b))) (l.agree (value.Ref m a) c)
    ∙ ap (λ o. order_cells f' g' (other (value.Ref m a)) o) (l.agree (value.Ref n b) d)
order_values_same hides look other l f f' g g' h k _ _ c d = refl

pub same-order : (hides : Hides) (look other : Value → Option Cell) → Looks hides look other → (n : ℕ) → SameOnVisible hides (order look n) (order other n)
unfolding order
same-order hides look other l zero = λ x y c d. refl
same-order hides look other l (suc n) = λ x y c d. ap visited (order_values_same hides look other l (same look n) (same other n) (order look n) (order other n) (same-same hides look other l n) (same-order hides look other l n) x y c d)

-- ---- truth

pub same-truth : (hides : Hides) (look other : Value → Option Cell) → Looks hides look other → (v : Value) → IsVisible hides v → truth look v ≡ truth other v
same-truth hides look other l (value.Ref m a) c = ap true_cell (l.agree (value.Ref m a) c)
same-truth hides look other l _ c = refl

-- ---- texts

said_same : (f g : ℕ → Say) → ((i : ℕ) → f i ≡ g i) → (n i : ℕ) → all_said f n i ≡ all_said g n i
said_same f g h n i = ap (λ (t : ℕ → Say). all_said t n i) (ext f g h)

item_said : (hides : Hides) (f g : Value → Say) → ((x : Value) → IsVisible hides x → f x ≡ g x) → (o : Option Value) → VisibleIfThere hides o → say_item f o ≡ say_item g o
item_said hides f g h (Some x) c = h x c
item_said hides f g h None c = refl

items_said : (hides : Hides) (f g : Value → Say) → ((x : Value) → IsVisible hides x → f x ≡ g x) → (xs : List Value) → AreVisible hides xs → say_items f xs ≡ say_items g xs
items_said hides f g h xs c = said_same (say_place f xs) (say_place g xs) (λ i. ap (then_say (say (separator i))) (item_said hides f g h (slice_get xs i) (every_get _ xs i c))) (length xs) 0

pair_said : (hides : Hides) (f g : Value → Say) → ((x : Value) → IsVisible hides x → f x ≡ g x) → (o : Option (Value × Value)) → Maybe (PairIsVisible hides) o → say_pair f o ≡ say_pair g o
pair_said hides f g h None c = refl
pair_said hides f g h (Some e) c = ap (λ (m : Say). then_say m (then_say (say (codes ": ")) (f e.1))) (h e.0 c.0) ∙ ap (λ (m : Say). then_say (g e.0) (then_say (say (codes ": ")) m)) (h e.1 c.1)

entries_said : (hides : Hides) (f g : Value → Say) → ((x : Value) → IsVisible hides x → f x ≡ g x) → (es : List (Value × Value)) → PairsAreVisible hides es → say_entries f es ≡ say_entries g es
entries_said hides f g h es c = said_same (say_entry f es) (say_entry g es) (λ i. ap (then_say (say (separator i))) (pair_said hides f g h (slice_get es i) (every_get _ es i c))) (length es) 0

element_said : (hides : Hides) (f g : Value → Say) → ((x : Value) → IsVisible hides x → f x ≡ g x) → (o : Option (Value × Value)) → Maybe (PairIsVisible hides) o → say_element f o ≡ say_element g o
element_said hides f g h None c = refl
element_said hides f g h (Some e) c = h e.0 c.0

elements_said : (hides : Hides) (f g : Value → Say) → ((x : Value) → IsVisible hides x → f x ≡ g x) → (es : List (Value × Value)) → PairsAreVisible hides es → say_elements f es ≡ say_elements g es
elements_said hides f g h es c = said_same (say_nth f es) (say_nth g es) (λ i. ap (then_say (say (separator i))) (element_said hides f g h (slice_get es i) (every_get _ es i c))) (length es) 0

named_said : (hides : Hides) (f g : Value → Say) → ((x : Value) → IsVisible hides x → f x ≡ g x) → (o : Option (List ℕ × Value)) → Maybe (λ e. IsVisible hides e.1) o → say_named f o ≡ say_named g o
named_said hides f g h None c = refl
named_said hides f g h (Some e) c = ap (λ (m : Say). then_say (say e.0) (then_say (say (codes " = ")) m)) (h e.1 c)

fields_said : (hides : Hides) (f g : Value → Say) → ((x : Value) → IsVisible hides x → f x ≡ g x) → (fs : List (List ℕ × Value)) → FieldsAreVisible hides fs → say_fields f fs ≡ say_fields g fs
fields_said hides f g h fs c = said_same (say_field f fs) (say_field g fs) (λ i. ap (then_say (say (separator i))) (named_said hides f g h (slice_get fs i) (every_get _ fs i c))) (length fs) 0

-- the texts of values below any path
abbrev SaysSame : Hides → (List Value → Value → Say) → (List Value → Value → Say) → Type 0
SaysSame hides f g = (path : List Value) (x : Value) → IsVisible hides x → f path x ≡ g path x

cell_said : (hides : Hides) (f g : List Value → Value → Say) → SaysSame hides f g → (path : List Value) (v : Value) (o : Option Cell) → Maybe (CellIsVisible hides) o → say_cell f path v o ≡ say_cell g path v o
cell_said hides f g h path v (Some (cell.Tuple xs)) c = ap (λ (m : Say). then_say (say (codes "(")) (then_say m (say (tuple_end xs)))) (items_said hides (f path) (g path) (h path) xs c)
cell_said hides f g h path v (Some (cell.List xs)) c = ap {B = Say} (λ (m : Say) out left. if on_path v path then say (codes "[...]") out left else then_say (say (codes "[")) (then_say m (say (codes "]"))) out left) (items_said hides (f (path ++ v ∷ [])) (g (path ++ v ∷ [])) (h (path ++ v ∷ [])) xs c)
cell_said hides f g h path v (Some (cell.Dict es)) c = ap {B = Say} (λ (m : Say) out left. if on_path v path then say (codes "{...}") out left else then_say (say (codes "{")) (then_say m (say (codes "}"))) out left) (entries_said hides (f (path ++ v ∷ [])) (g (path ++ v ∷ [])) (h (path ++ v ∷ [])) es c)
cell_said hides f g h path v (Some (cell.Struct fs)) c = ap (λ (m : Say). then_say (say (codes "struct(")) (then_say m (say (codes ")")))) (fields_said hides (f path) (g path) (h path) fs c)
cell_said hides f g h path v (Some (cell.Set es)) c = ap (λ (m : Say). then_say (say (codes "set([")) (then_say m (say (codes "])")))) (elements_said hides (f path) (g path) (h path) es c)
cell_said hides f g h path v _ c = refl

value_said : (hides : Hides) (look other : Value → Option Cell) → Looks hides look other → (f g : List Value → Value → Say) → SaysSame hides f g → (path : List Value) (v : Value) → IsVisible hides v → (names : List (List ℕ)) → say_value names look f path v ≡ say_value names other g path v
value_said hides look other l f g h path (value.Ref m a) c names = cell_said hides f g h path (value.Ref m a) (look (value.Ref m a)) (l.visible (value.Ref m a) c) ∙ ap (say_cell g path (value.Ref m a)) (l.agree (value.Ref m a) c)
value_said hides look other l f g h path _ c names = refl

pub same-text : (hides : Hides) (look other : Value → Option Cell) → Looks hides look other → (names : List (List ℕ)) (n : ℕ) → SaysSame hides (text names look n) (text names other n)
unfolding text
same-text hides look other l names zero = λ path v c. refl
same-text hides look other l names (suc n) = λ path v c. ap {B = Say} (λ (m : Say) out. visited (m out)) (value_said hides look other l (text names look n) (text names other n) (same-text hides look other l names n) path v c names)

-- ---- JSON

array_put : (hides : Hides) (l : Layout) (n : ℕ) (f g : Value → Say) → ((x : Value) → IsVisible hides x → f x ≡ g x) → (xs : List Value) → AreVisible hides xs → put_array l n f xs ≡ put_array l n g xs
array_put hides l n f g h xs c = ap (λ (m : Say). then_say (say (codes "[")) (then_say m (say (closing l n (length xs) ++ codes "]"))))
    (said_same (put_place l (n + 1) f xs) (put_place l (n + 1) g xs) (λ i. ap (then_say (say (comma i ++ line l (n + 1)))) (item_said hides f g h (slice_get xs i) (every_get _ xs i c))) (length xs) 0)

set_put : (hides : Hides) (l : Layout) (n : ℕ) (f g : Value → Say) → ((x : Value) → IsVisible hides x → f x ≡ g x) → (es : List (Value × Value)) → PairsAreVisible hides es → put_set l n f es ≡ put_set l n g es
set_put hides l n f g h es c = ap (λ (m : Say). then_say (say (codes "[")) (then_say m (say (closing l n (length es) ++ codes "]"))))
    (said_same (put_nth l (n + 1) f es) (put_nth l (n + 1) g es) (λ i. ap (then_say (say (comma i ++ line l (n + 1)))) (element_said hides f g h (slice_get es i) (every_get _ es i c))) (length es) 0)

named_put : (hides : Hides) (l : Layout) (f g : Value → Say) → ((x : Value) → IsVisible hides x → f x ≡ g x) → (o : Option (List ℕ × Value)) → Maybe (λ e. IsVisible hides e.1) o → put_named l f o ≡ put_named l g o
named_put hides l f g h None c = refl
named_put hides l f g h (Some e) c = ap (then_say (say (quoted e.0 ++ colon l))) (h e.1 c)

object_put : (hides : Hides) (l : Layout) (n : ℕ) (f g : Value → Say) → ((x : Value) → IsVisible hides x → f x ≡ g x) → (fs : Fields) → FieldsAreVisible hides fs → put_object l n f fs ≡ put_object l n g fs
object_put hides l n f g h fs c = ap (λ (m : Say). then_say (say (codes "{")) (then_say m (say (closing l n (length fs) ++ codes "}"))))
    (said_same (put_member l (n + 1) f fs) (put_member l (n + 1) g fs) (λ i. ap (then_say (say (comma i ++ line l (n + 1)))) (named_put hides l f g h (slice_get fs i) (every_get _ fs i c))) (length fs) 0)

names_same : (hides : Hides) (look other : Value → Option Cell) → Looks hides look other → (es : List (Value × Value)) → PairsAreVisible hides es → named look es ≡ named other es
names_same hides look other l [] c = refl
names_same hides look other l (e ∷ es) c =
    ap (λ o. option_and_then (λ n. option_map (λ fs. (n, e.1) ∷ fs) (named look es)) (name_in o)) (l.agree e.0 c.0.0)
    ∙ ap (λ r. option_and_then (λ n. option_map (λ fs. (n, e.1) ∷ fs) r) (name_in (other e.0))) (names_same hides look other l es c.1)

visible_more : (hides : Hides) (o : Option (List ℕ)) (v : Value) (r : Option Fields) → IsVisible hides v → Maybe (FieldsAreVisible hides) r → Maybe (FieldsAreVisible hides) (option_and_then (λ n. option_map (λ fs. (n, v) ∷ fs) r) o)
visible_more hides None v r h c = tt
visible_more hides (Some n) v None h c = tt
visible_more hides (Some n) v (Some fs) h c = (h, c)

visible_named : (hides : Hides) (look : Value → Option Cell) (es : List (Value × Value)) → PairsAreVisible hides es → Maybe (FieldsAreVisible hides) (named look es)
visible_named hides look [] c = tt
visible_named hides look (e ∷ es) c = visible_more hides (name_in (look e.0)) e.1 (named look es) c.0.1 (visible_named hides look es c.1)

visible_ordered : (hides : Hides) (o : Option Fields) → Maybe (FieldsAreVisible hides) o → Maybe (FieldsAreVisible hides) (option_map (in_order is_before) o)
visible_ordered hides None c = tt
visible_ordered hides (Some fs) c = every_in_order (λ e. IsVisible hides e.1) is_before fs c

dict_put : (hides : Hides) (l : Layout) (n : ℕ) (f g : Value → Say) → ((x : Value) → IsVisible hides x → f x ≡ g x) → (o : Option Fields) → Maybe (FieldsAreVisible hides) o → put_dict l n f o ≡ put_dict l n g o
dict_put hides l n f g h None c = refl
dict_put hides l n f g h (Some fs) c = object_put hides l n f g h fs c

-- the JSON of values, whatever is open
abbrev WritesSame : Hides → (ℕ → Value → Say) → (ℕ → Value → Say) → Type 0
WritesSame hides f g = (n : ℕ) (x : Value) → IsVisible hides x → f n x ≡ g n x

cell_put : (hides : Hides) (look other : Value → Option Cell) → Looks hides look other → (l : Layout) (n : ℕ) (f g : ℕ → Value → Say) → WritesSame hides f g → (o : Option Cell) → Maybe (CellIsVisible hides) o → put_cell look l n f o ≡ put_cell other l n g o
cell_put hides look other k l n f g h (Some (cell.Tuple xs)) c = array_put hides l n (f (n + 1)) (g (n + 1)) (h (n + 1)) xs c
cell_put hides look other k l n f g h (Some (cell.List xs)) c = array_put hides l n (f (n + 1)) (g (n + 1)) (h (n + 1)) xs c
cell_put hides look other k l n f g h (Some (cell.Dict es)) c =
    dict_put hides l n (f (n + 1)) (g (n + 1)) (h (n + 1)) (members look es) (visible_ordered hides (named look es) (visible_named hides look es c))
    ∙ ap (λ o. put_dict l n (g (n + 1)) (option_map (in_order is_before) o)) (names_same hides look other k es c)
cell_put hides look other k l n f g h (Some (cell.Struct fs)) c = object_put hides l n (f (n + 1)) (g (n + 1)) (h (n + 1)) fs c
cell_put hides look other k l n f g h (Some (cell.Set es)) c = set_put hides l n (f (n + 1)) (g (n + 1)) (h (n + 1)) es c
cell_put hides look other k l n f g h _ c = refl

value_put : (hides : Hides) (look other : Value → Option Cell) → Looks hides look other → (l : Layout) (n : ℕ) (f g : ℕ → Value → Say) → WritesSame hides f g → (v : Value) → IsVisible hides v → put_value look l n f v ≡ put_value other l n g v
value_put hides look other k l n f g h (value.Ref m a) c = cell_put hides look other k l n f g h (look (value.Ref m a)) (k.visible (value.Ref m a) c) ∙ ap (put_cell other l n g) (k.agree (value.Ref m a) c)
value_put hides look other k l n f g h _ c = refl

pub same-json : (hides : Hides) (look other : Value → Option Cell) → Looks hides look other → (l : Layout) (levels : ℕ) → WritesSame hides (json look l levels) (json other l levels)
unfolding json
same-json hides look other k l zero = λ n v c. refl
same-json hides look other k l (suc levels) = λ n v c. ap {B = Say} (λ (m : Say) out. visited (m out)) (value_put hides look other k l n (json look l levels) (json other l levels) (same-json hides look other k l levels) v c)
