-- Alike over both shelves: what is read of values, new values, items of iterables, visits.
use Rattle.std.proofs.Common.{◌≡◌, ℕ, ℤ, List, [], ◌+◌, length, Option, Some, None, Bool, true, false, if◌then◌else◌, nat_lt, slice_get, refl, ap, subst}
use Rattle.star_store.specs.declared.values.Value.{Value}
use Rattle.star_store.specs.declared.layout.Layout.{Layout}
use Rattle.star_store.specs.declared.values.Value.TheVariants as value
use Rattle.star_store.specs.declared.values.Cell.TheVariants as cell
use Rattle.star_store.specs.Range.{range_length}
use Rattle.star_store.specs.Arithmetic.{checked}
use Rattle.star_meaning.specs.declared.fault.FaultCode.TheVariants as code
use Rattle.star_meaning.specs.Run.{State, give}
use Rattle.star_meaning.specs.Program.{Setting, seen}
use Rattle.star_meaning.specs.Values.{Content, Held, bare, bool_of, check_key, compare, count_in, count_of, equal, int_of, is_true, item_in, iterate, new_dict, new_set, new_int, new_list, new_text, new_tuple, place_in, repr, encoded, str, str_of, take_all, take_item, take_items, text_of, text_value, value_in, want_bool, want_int, want_text}
use Rattle.star_unseen.specs.Veil.{AreVisible, IsVisible, Maybe, VisibleIfThere, PairIsVisible, PairsAreVisible, StateIsVisible}
use Rattle.star_unseen.specs.Shelves.{Veil, with_other}
use Rattle.star_unseen.proofs.Looks.{ContentIsVisible}
use Rattle.star_unseen.proofs.Visits.{visible-text_value, visible-value_of, same-check, same-order, same-place_of, same-same, same-json, same-text, same-text_value, same-truth, same-value_of}
use Rattle.star_unseen.proofs.Writes.{looks}
use Rattle.star_unseen.proofs.Alike.{Alike, Any, alike_agreed, alike_build, alike_collect, alike_content, alike_found, alike_give, alike_opened, alike_pay, alike_seeing, alike_then, alike_visiting}
use Rattle.star_unseen.proofs.Rows.{every_get, maybe_map}

pub any_found : {A : Type 0} (o : Option A) → Maybe Any o
any_found None = tt
any_found (Some x) = tt

pub alike-want_int : {w : Setting} (k : Veil w) (line : ℕ) (v : Value) → IsVisible k.hides v → Alike k Any (want_int w line v) (want_int (with_other k.other w) line v)
alike-want_int k line v h = alike_content Any v _ _ h (λ c _. alike_found Any code.BadType line (int_of c) (any_found (int_of c)))

pub alike-want_bool : {w : Setting} (k : Veil w) (line : ℕ) (v : Value) → IsVisible k.hides v → Alike k Any (want_bool w line v) (want_bool (with_other k.other w) line v)
alike-want_bool k line v h = alike_content Any v _ _ h (λ c _. alike_found Any code.BadType line (bool_of c) (any_found (bool_of c)))

pub alike-want_text : {w : Setting} (k : Veil w) (line : ℕ) (v : Value) → IsVisible k.hides v → Alike k Any (want_text w line v) (want_text (with_other k.other w) line v)
alike-want_text k line v h = alike_content Any v _ _ h (λ c _. alike_found Any code.BadType line (text_of c) (any_found (text_of c)))

pub alike-new_int : {w : Setting} (k : Veil w) (line : ℕ) (z : ℤ) → Alike k (IsVisible k.hides) (new_int line z) (new_int line z)
alike-new_int k line z = alike_then (alike_agreed Any line (checked z) (λ x e. tt)) (λ n _. alike_give (IsVisible k.hides) (value.Int n) tt)

pub alike-new_text : {w : Setting} (k : Veil w) (line : ℕ) (t : List ℕ) → Alike k (IsVisible k.hides) (new_text line t) (new_text line t)
alike-new_text k line t = alike_build line (1 + length t) (cell.Text t) tt

pub alike-new_tuple : {w : Setting} (k : Veil w) (line : ℕ) (xs : List Value) → AreVisible k.hides xs → Alike k (IsVisible k.hides) (new_tuple line xs) (new_tuple line xs)
alike-new_tuple k line xs h = alike_build line (1 + length xs) (cell.Tuple xs) h

pub alike-new_list : {w : Setting} (k : Veil w) (line : ℕ) (xs : List Value) → AreVisible k.hides xs → Alike k (IsVisible k.hides) (new_list line xs) (new_list line xs)
alike-new_list k line xs h = alike_build line (1 + length xs) (cell.List xs) h

pub alike-new_dict : {w : Setting} (k : Veil w) (line : ℕ) (es : List (Value × Value)) → PairsAreVisible k.hides es → Alike k (IsVisible k.hides) (new_dict line es) (new_dict line es)
alike-new_dict k line es h = alike_build line (1 + length es) (cell.Dict es) h

pub alike-new_set : {w : Setting} (k : Veil w) (line : ℕ) (es : List (Value × Value)) → PairsAreVisible k.hides es → Alike k (IsVisible k.hides) (new_set line es) (new_set line es)
alike-new_set k line es h = alike_build line (1 + length es) (cell.Set es) h

range_visible : {w : Setting} (k : Veil w) (b : Bool) (n : ℤ) → VisibleIfThere k.hides (if b then Some (value.Int n) else None)
range_visible k true n = tt
range_visible k false n = tt

pub visible-item_in : {w : Setting} (k : Veil w) (c : Content) (i : ℕ) → ContentIsVisible k.hides c → VisibleIfThere k.hides (item_in c i)
visible-item_in k (Held (cell.Tuple xs)) i h = every_get _ xs i h
visible-item_in k (Held (cell.List xs)) i h = every_get _ xs i h
visible-item_in k (Held (cell.Dict es)) i h = maybe_map (PairIsVisible k.hides) (IsVisible k.hides) (λ e. e.0) (λ e p. p.0) (slice_get es i) (every_get _ es i h)
visible-item_in k (Held (cell.Set es)) i h = maybe_map (PairIsVisible k.hides) (IsVisible k.hides) (λ e. e.0) (λ e p. p.0) (slice_get es i) (every_get _ es i h)
visible-item_in k (Held (cell.Range r)) i h = range_visible k (nat_lt i (range_length r)) _
visible-item_in k _ i h = tt

pub alike-count_of : {w : Setting} (k : Veil w) (line : ℕ) (v : Value) → IsVisible k.hides v → Alike k Any (count_of w line v) (count_of (with_other k.other w) line v)
unfolding count_of
alike-count_of k line v h = alike_content Any v _ _ h (λ c _. alike_found Any code.BadType line (count_in c) (any_found (count_in c)))

pub alike-take_item : {w : Setting} (k : Veil w) (line : ℕ) (v : Value) (i : ℕ) → IsVisible k.hides v → Alike k (IsVisible k.hides) (take_item w line v i) (take_item (with_other k.other w) line v i)
unfolding take_item
alike-take_item k line v i h = alike_then (alike_pay line 1) (λ _ _. alike_content (IsVisible k.hides) v _ _ h (λ c hc. alike_found (IsVisible k.hides) code.BadType line (item_in c i) (visible-item_in k c i hc)))

pub alike-take_items : {w : Setting} (k : Veil w) (line : ℕ) (v : Value) (n : ℕ) → IsVisible k.hides v → Alike k (AreVisible k.hides) (take_items w line v n) (take_items (with_other k.other w) line v n)
alike-take_items k line v n h = alike_collect (IsVisible k.hides) _ _ n 0 (λ i. alike-take_item k line v i h)

pub alike-take_all : {w : Setting} (k : Veil w) (line : ℕ) (v : Value) → IsVisible k.hides v → Alike k (AreVisible k.hides) (take_all w line v) (take_all (with_other k.other w) line v)
alike-take_all k line v h = alike_then (alike-count_of k line v h) (λ n _. alike-take_items k line v n h)

pub alike-iterate : {w : Setting} (k : Veil w) (line : ℕ) (v : Value) → IsVisible k.hides v → Alike k Any (iterate w line v) (iterate (with_other k.other w) line v)
unfolding iterate
alike-iterate k line v h = alike_then (alike-count_of k line v h) (λ n _. alike_then (alike_opened v) (λ _ _. alike_give Any n tt))

give_same : {A : Type 0} {w : Setting} (k : Veil w) (x y : A) → x ≡ y → Alike k Any (give x) (give y)
give_same k x y e = subst (λ z. Alike k Any (give x) (give z)) e (alike_give Any x tt)

pub alike-is_true : {w : Setting} (k : Veil w) (v : Value) → IsVisible k.hides v → Alike k Any (is_true w v) (is_true (with_other k.other w) v)
unfolding is_true
alike-is_true k v h = alike_seeing Any _ _ (λ s c. give_same k _ _ (same-truth k.hides _ _ (looks k s c) v h))

pub alike-equal : {w : Setting} (k : Veil w) (levels line : ℕ) (x y : Value) → IsVisible k.hides x → IsVisible k.hides y → Alike k Any (equal w levels line x y) (equal (with_other k.other w) levels line x y)
unfolding equal
alike-equal k levels line x y h i = alike_visiting line _ _ (λ s c. same-same k.hides _ _ (looks k s c) levels x y h i)

pub alike-compare : {w : Setting} (k : Veil w) (levels line : ℕ) (x y : Value) → IsVisible k.hides x → IsVisible k.hides y → Alike k Any (compare w levels line x y) (compare (with_other k.other w) levels line x y)
unfolding compare
alike-compare k levels line x y h i = alike_visiting line _ _ (λ s c. same-order k.hides _ _ (looks k s c) levels x y h i)

pub alike-check_key : {w : Setting} (k : Veil w) (levels line : ℕ) (x : Value) → IsVisible k.hides x → Alike k Any (check_key w levels line x) (check_key (with_other k.other w) levels line x)
unfolding check_key
alike-check_key k levels line x h = alike_visiting line _ _ (λ s c. same-check k.hides _ _ (looks k s c) levels x h)

pub alike-repr : {w : Setting} (k : Veil w) (levels line : ℕ) (v : Value) → IsVisible k.hides v → Alike k Any (repr w levels line v) (repr (with_other k.other w) levels line v)
unfolding repr
alike-repr {w = w} k levels line v h = alike_visiting line _ _ (λ s c. ap (λ f. f []) (same-text k.hides _ _ (looks k s c) w.language.recorded levels [] v h))

pub alike-encoded : {w : Setting} (k : Veil w) (levels line : ℕ) (l : Layout) (v : Value) → IsVisible k.hides v → Alike k Any (encoded w levels line l v) (encoded (with_other k.other w) levels line l v)
unfolding encoded
alike-encoded k levels line l v h = alike_visiting line _ _ (λ s c. ap (λ f. f []) (same-json k.hides _ _ (looks k s c) l levels 0 v h))

pub alike-str_of : {w : Setting} (k : Veil w) (levels line : ℕ) (v : Value) (o : Option (List ℕ)) → IsVisible k.hides v → Alike k Any (str_of w levels line v o) (str_of (with_other k.other w) levels line v o)
alike-str_of k levels line v (Some t) h = alike_visiting line (λ s. bare levels t) (λ s. bare levels t) (λ s c. refl)
alike-str_of k levels line v None h = alike-repr k levels line v h

pub alike-str : {w : Setting} (k : Veil w) (levels line : ℕ) (v : Value) → IsVisible k.hides v → Alike k Any (str w levels line v) (str (with_other k.other w) levels line v)
unfolding str
alike-str k levels line v h = alike_content Any v _ _ h (λ c _. alike-str_of k levels line v (text_of c) h)

-- the place and the value of a key in a state
pub same-place_in : {w : Setting} (k : Veil w) (s : State) (x : Value) (es : List (Value × Value)) → StateIsVisible k.hides w.home s → IsVisible k.hides x → PairsAreVisible k.hides es → place_in w s x es ≡ place_in (with_other k.other w) s x es
same-place_in k s x es c h d = same-place_of k.hides _ _ (looks k s c) x es h d

pub same-value_in : {w : Setting} (k : Veil w) (s : State) (x : Value) (es : List (Value × Value)) → StateIsVisible k.hides w.home s → IsVisible k.hides x → PairsAreVisible k.hides es → value_in w s x es ≡ value_in (with_other k.other w) s x es
same-value_in k s x es c h d = same-value_of k.hides _ _ (looks k s c) x es h d

pub visible-value_in : {w : Setting} (k : Veil w) (s : State) (x : Value) (es : List (Value × Value)) → PairsAreVisible k.hides es → VisibleIfThere k.hides (value_in w s x es)
visible-value_in {w = w} k s x es d = visible-value_of k.hides (seen w s) x es d

-- and the value of a string
pub same-text_value_in : {w : Setting} (k : Veil w) (s : State) (x : List ℕ) (es : List (Value × Value)) → StateIsVisible k.hides w.home s → PairsAreVisible k.hides es → text_value w s x es ≡ text_value (with_other k.other w) s x es
same-text_value_in k s x es c d = same-text_value k.hides _ _ (looks k s c) x es d

pub visible-text_value_in : {w : Setting} (k : Veil w) (s : State) (x : List ℕ) (es : List (Value × Value)) → PairsAreVisible k.hides es → VisibleIfThere k.hides (text_value w s x es)
visible-text_value_in {w = w} k s x es d = visible-text_value k.hides (seen w s) x es d
