-- Pairs of actions that do the same over two shelves: built-in functions.
use Rattle.std.proofs.Common.{◌≡◌, ℕ, ◌+◌, ◌^◌, length, map, reverse, List, [], ◌∷◌, Option, Some, None, Bool, true, false, not, if◌then◌else◌, nat_lt, ℤ, pos, ◌+ℤ◌, unsigned_abs, codes, refl, ap, sym, subst, ◌∙◌}
use Rattle.std.proofs.lemmas.List.{reverse-append}
use Rattle.std.specs.Ordering.{int_eq, is_lt, is_gt}
use Rattle.std.specs.declared.cmp.Ordering.{Ordering}
use Rattle.star_store.specs.declared.values.Value.{Value}
use Rattle.star_store.specs.declared.values.Value.TheVariants as value
use Rattle.star_store.specs.declared.values.Cell.TheVariants as cell
use Rattle.star_store.specs.declared.range.Range.{Range}
use Rattle.star_store.specs.declared.names.BuiltIn.{BuiltIn}
use Rattle.star_store.specs.declared.names.BuiltIn.TheVariants as built_in
use Rattle.star_store.specs.Range.{range_length}
use Rattle.star_meaning.specs.declared.fault.FaultCode.TheVariants as code
use Rattle.star_meaning.specs.declared.said.Said.TheVariants.{Line}
use Rattle.star_meaning.specs.declared.given.Arguments.{Arguments}
use Rattle.star_meaning.specs.Run.{State, ◌>>=◌, check}
use Rattle.star_meaning.specs.Arguments.{positional, only_one, none_or_one}
use Rattle.star_meaning.specs.Program.{Setting}
use Rattle.star_meaning.specs.Values.{Content, Truth, Number, Held, content, type_name, new_list}
use Rattle.star_meaning.specs.BuiltIns.{absolute, call_abs, is_decided, some_item, call_all, call_any, truth_of, call_bool, call_dict, want_start, numbered, call_enumerate, want_separator, print_line, call_print, call_fail, to_int, int_alone, one_base, int_by, int_with_base, int_of_dialect, call_int, length_in, call_len, taken_from, call_list, call_tuple, call_reversed, best_of, best_in, candidates, call_best, new_range, range_of, is_range_count, call_range, call_repr, call_str, call_type, turned, sort, sort_items, call_sorted, least, row_at, call_zip, call_built_in}
use Rattle.star_meaning.specs.Texts.{joined}
use Rattle.star_meaning.specs.Spelling.{spelled}
use Rattle.star_meaning.specs.Orders.{by_itself, can_sort, is_before}
use Rattle.star_strings.specs.Ints.{base_of, int_in}
use Rattle.star_store.specs.Sorting.{in_order, placed}
use Rattle.star_unseen.specs.Veil.{AreVisible, Every, Hides, IsVisible, VisibleIfThere}
use Rattle.star_unseen.specs.Shelves.{Veil, with_other}
use Rattle.star_dialect.specs.declared.Dialect.{Dialect}
use Rattle.star_dialect.specs.declared.Dialect.TheVariants as dialect
use Rattle.star_unseen.proofs.SetMethods.{alike-call_set}
use Rattle.star_unseen.proofs.Orders.{alike-sort_by, alike-want_reverse, visible-by_itself}
use Rattle.star_unseen.proofs.Rows.{every_append}
use Rattle.star_unseen.proofs.Looks.{ContentIsVisible, same_content}
use Rattle.star_unseen.proofs.Visible.{ArgumentsAreVisible}
use Rattle.star_unseen.proofs.Alike.{Alike, Any, alike_add_said, alike_build, alike_check, alike_collect, alike_content, alike_each, alike_fail, alike_found, alike_give, alike_pay, alike_seeing, alike_then, alike_until}
use Rattle.star_unseen.proofs.Values.{any_found, alike-want_int, alike-want_text, alike-new_int, alike-new_text, alike-new_tuple, alike-new_list, alike-count_of, alike-take_item, alike-take_items, alike-take_all, alike-is_true, alike-compare, alike-repr, alike-str}
use Rattle.star_unseen.proofs.Arguments.{alike-positional, alike-with_name, alike-only_one, alike-none_or_one, alike-one_or_two}
use Rattle.star_unseen.proofs.Attributes.{alike-call_chr, alike-call_dir, alike-call_getattr, alike-call_hasattr, alike-call_hash, alike-call_ord, alike-call_recorded, alike-call_struct}
use Rattle.star_unseen.proofs.Json.{alike-call_decode, alike-call_encode, alike-call_encode_indent}
use Rattle.star_unseen.proofs.Pairs.{alike-pairs_count, alike-pairs_of, alike-dict_of}

-- ---- rows

pub every_any : {A : Type 0} (xs : List A) → Every {A = A} Any xs
every_any [] = tt
every_any (x ∷ xs) = (tt, every_any xs)

pub every_reverse : {A : Type 0} (P : A → Type 0) (xs : List A) → Every P xs → Every P (reverse xs)
every_reverse P [] h = tt
every_reverse P (x ∷ xs) h = subst (Every P) (sym (reverse-append (x ∷ []) xs)) (every_append P (reverse xs) (x ∷ []) (every_reverse P xs h.1) (h.0, tt))

pub every_if : {A : Type 0} (P : A → Type 0) (b : Bool) (xs ys : List A) → Every P xs → Every P ys → Every P (if b then xs else ys)
every_if P true xs ys h l = h
every_if P false xs ys h l = l

visible_if : (hides : Hides) (b : Bool) (x y : Value) → IsVisible hides x → IsVisible hides y → IsVisible hides (if b then x else y)
visible_if hides true x y h l = h
visible_if hides false x y h l = l

-- the only positional argument, and the one that may be there
pub one_of : {w : Setting} (k : Veil w) (line : ℕ) (g : Arguments) → ArgumentsAreVisible k.hides g → Alike k (IsVisible k.hides) (positional line g >>= only_one line) (positional line g >>= only_one line)
one_of k line g h = alike_then (alike-positional k line g h) (λ xs l. alike-only_one k line xs l)

pub maybe_of : {w : Setting} (k : Veil w) (line : ℕ) (g : Arguments) → ArgumentsAreVisible k.hides g → Alike k (VisibleIfThere k.hides) (positional line g >>= none_or_one line) (positional line g >>= none_or_one line)
maybe_of k line g h = alike_then (alike-positional k line g h) (λ xs l. alike-none_or_one k line xs l)

-- ---- functions

pub alike-absolute : {w : Setting} (k : Veil w) (line : ℕ) (z : ℤ) → Alike k (IsVisible k.hides) (absolute line z) (absolute line z)
alike-absolute k line z = alike-new_int k line (pos (unsigned_abs z))

pub alike-call_abs : {w : Setting} (k : Veil w) (line : ℕ) (g : Arguments) → ArgumentsAreVisible k.hides g → Alike k (IsVisible k.hides) (call_abs w line g) (call_abs (with_other k.other w) line g)
alike-call_abs k line g h = alike_then (alike_then (one_of k line g h) (λ v l. alike-want_int k line v l)) (λ z _. alike-absolute k line z)

pub alike-is_decided : {w : Setting} (k : Veil w) (line : ℕ) (wanted : Bool) (v : Value) (i : ℕ) → IsVisible k.hides v → Alike k Any (is_decided w line wanted v i) (is_decided (with_other k.other w) line wanted v i)
alike-is_decided k line wanted v i h =
    alike_then (alike_then (alike-take_item k line v i h) (λ x l. alike-is_true k x l)) (λ b _. alike_give {A = Bool} Any (if b then wanted else not wanted) tt)

pub alike-some_item : {w : Setting} (k : Veil w) (line : ℕ) (wanted : Bool) (g : Arguments) → ArgumentsAreVisible k.hides g → Alike k Any (some_item w line wanted g) (some_item (with_other k.other w) line wanted g)
alike-some_item k line wanted g h =
    alike_then (one_of k line g h) (λ v l. alike_then (alike-count_of k line v l) (λ n _. alike_until _ _ n 0 (λ i. alike-is_decided k line wanted v i l)))

pub alike-call_all : {w : Setting} (k : Veil w) (line : ℕ) (g : Arguments) → ArgumentsAreVisible k.hides g → Alike k (IsVisible k.hides) (call_all w line g) (call_all (with_other k.other w) line g)
alike-call_all k line g h = alike_then (alike-some_item k line false g h) (λ b _. alike_give (IsVisible k.hides) (value.Bool (not b)) tt)

pub alike-call_any : {w : Setting} (k : Veil w) (line : ℕ) (g : Arguments) → ArgumentsAreVisible k.hides g → Alike k (IsVisible k.hides) (call_any w line g) (call_any (with_other k.other w) line g)
alike-call_any k line g h = alike_then (alike-some_item k line true g h) (λ b _. alike_give (IsVisible k.hides) (value.Bool b) tt)

pub alike-truth_of : {w : Setting} (k : Veil w) (o : Option Value) → VisibleIfThere k.hides o → Alike k (IsVisible k.hides) (truth_of w o) (truth_of (with_other k.other w) o)
alike-truth_of k None h = alike_give (IsVisible k.hides) (value.Bool false) tt
alike-truth_of k (Some v) h = alike_then (alike-is_true k v h) (λ b _. alike_give (IsVisible k.hides) (value.Bool b) tt)

pub alike-call_bool : {w : Setting} (k : Veil w) (line : ℕ) (g : Arguments) → ArgumentsAreVisible k.hides g → Alike k (IsVisible k.hides) (call_bool w line g) (call_bool (with_other k.other w) line g)
alike-call_bool k line g h = alike_then (maybe_of k line g h) (λ o l. alike-truth_of k o l)

pub alike-call_dict : {w : Setting} (k : Veil w) (levels line : ℕ) (g : Arguments) → ArgumentsAreVisible k.hides g → Alike k (IsVisible k.hides) (call_dict w levels line g) (call_dict (with_other k.other w) levels line g)
alike-call_dict k levels line g h =
    alike_then (alike-none_or_one k line g.positional h.0) (λ x l. alike_then (alike-pairs_count k line x l) (λ n _. alike_then (alike-pairs_of k line x n l) (λ ps r. alike-dict_of k levels line ps g.named r h.1)))

pub alike-want_start : {w : Setting} (k : Veil w) (line : ℕ) (o : Option Value) → VisibleIfThere k.hides o → Alike k Any (want_start w line o) (want_start (with_other k.other w) line o)
alike-want_start k line None h = alike_give {A = ℤ} Any (pos 0) tt
alike-want_start k line (Some v) h = alike-want_int k line v h

pub alike-numbered : {w : Setting} (k : Veil w) (line : ℕ) (z : ℤ) (xs : List Value) → AreVisible k.hides xs → Alike k (AreVisible k.hides) (numbered line z xs) (numbered line z xs)
alike-numbered k line z [] h = alike_give {A = List Value} (AreVisible k.hides) [] tt
alike-numbered k line z (x ∷ xs) h =
    alike_then (alike-new_int k line z) (λ n l. alike_then (alike-new_tuple k line (n ∷ x ∷ []) (l, (h.0, tt))) (λ pair p.
    alike_then (alike-numbered k line (z +ℤ pos 1) xs h.1) (λ rest r. alike_give (AreVisible k.hides) (pair ∷ rest) (p, r))))

pub alike-call_enumerate : {w : Setting} (k : Veil w) (line : ℕ) (g : Arguments) → ArgumentsAreVisible k.hides g → Alike k (IsVisible k.hides) (call_enumerate w line g) (call_enumerate (with_other k.other w) line g)
alike-call_enumerate k line g h =
    alike_then (alike_then (alike-positional k line g h) (λ xs l. alike-one_or_two k line xs l)) (λ a l.
    alike_then (alike-count_of k line a.0 l.0) (λ n _. alike_then (alike-want_start k line a.1 l.1) (λ start _.
    alike_then (alike-take_items k line a.0 n l.0) (λ xs r. alike_then (alike-numbered k line start xs r) (λ ys q. alike-new_list k line ys q)))))

pub alike-want_separator : {w : Setting} (k : Veil w) (line : ℕ) (o : Option Value) → VisibleIfThere k.hides o → Alike k Any (want_separator w line o) (want_separator (with_other k.other w) line o)
alike-want_separator k line None h = alike_give {A = List ℕ} Any (codes " ") tt
alike-want_separator k line (Some v) h = alike-want_text k line v h

pub alike-print_line : {w : Setting} (k : Veil w) (levels line : ℕ) (g : Arguments) → ArgumentsAreVisible k.hides g → Alike k Any (print_line w levels line g) (print_line (with_other k.other w) levels line g)
alike-print_line k levels line g h =
    alike_then (alike-with_name k line (codes "sep") g h) (λ a l. alike_then (alike-want_separator k line a.1 l.1) (λ by _.
    alike_then (alike_each {B = List ℕ} (IsVisible k.hides) Any _ _ a.0 l.0 (λ x r. alike-str k levels line x r)) (λ ts _.
    alike_then (alike_pay line (1 + length (joined by ts))) (λ _ _. alike_add_said (Line (joined by ts))))))

pub alike-call_print : {w : Setting} (k : Veil w) (levels line : ℕ) (g : Arguments) → ArgumentsAreVisible k.hides g → Alike k (IsVisible k.hides) (call_print w levels line g) (call_print (with_other k.other w) levels line g)
alike-call_print k levels line g h = alike_then (alike-print_line k levels line g h) (λ _ _. alike_give (IsVisible k.hides) value.NoneValue tt)

pub alike-call_fail : {w : Setting} (k : Veil w) (levels line : ℕ) (g : Arguments) → ArgumentsAreVisible k.hides g → Alike k (IsVisible k.hides) (call_fail w levels line g) (call_fail (with_other k.other w) levels line g)
alike-call_fail k levels line g h = alike_then (alike-print_line k levels line g h) (λ _ _. alike_fail Value (IsVisible k.hides) code.Fail line)

pub alike-to_int : {w : Setting} (k : Veil w) (line : ℕ) (c : Content) → ContentIsVisible k.hides c → Alike k (IsVisible k.hides) (to_int line c) (to_int line c)
alike-to_int k line (Number z) h = alike_give (IsVisible k.hides) (value.Int z) tt
alike-to_int k line (Truth b) h = alike_give (IsVisible k.hides) (value.Int (if b then pos 1 else pos 0)) tt
alike-to_int k line (Held (cell.Text t)) h = alike_then (alike_found Any code.BadValue line (spelled t) (any_found (spelled t))) (λ z _. alike-new_int k line z)
alike-to_int k line _ h = alike_fail Value (IsVisible k.hides) code.BadType line

pub alike-int_alone : {w : Setting} (k : Veil w) (line : ℕ) (g : Arguments) → ArgumentsAreVisible k.hides g → Alike k (IsVisible k.hides) (int_alone w line g) (int_alone (with_other k.other w) line g)
alike-int_alone k line g h = alike_then (one_of k line g h) (λ v l. alike_content (IsVisible k.hides) v _ _ l (λ c r. alike-to_int k line c r))

pub alike-one_base : {w : Setting} (k : Veil w) (line : ℕ) (o p : Option Value) → VisibleIfThere k.hides o → VisibleIfThere k.hides p → Alike k (VisibleIfThere k.hides) (one_base line o p) (one_base line o p)
alike-one_base k line None named h l = alike_give (VisibleIfThere k.hides) named l
alike-one_base k line (Some b) None h l = alike_give (VisibleIfThere k.hides) (Some b) h
alike-one_base k line (Some b) (Some c) h l = alike_fail (Option Value) (VisibleIfThere k.hides) code.Args line

pub alike-int_by : {w : Setting} (k : Veil w) (line : ℕ) (v : Value) (o : Option Value) → IsVisible k.hides v → VisibleIfThere k.hides o → Alike k (IsVisible k.hides) (int_by w line v o) (int_by (with_other k.other w) line v o)
alike-int_by k line v None h l = alike_content (IsVisible k.hides) v _ _ h (λ c r. alike-to_int k line c r)
alike-int_by k line v (Some b) h l =
    alike_then (alike-want_text k line v h) (λ t _. alike_then (alike-want_int k line b l) (λ n _.
    alike_then (alike_found Any code.BadValue line (base_of n) (any_found (base_of n))) (λ base _.
    alike_then (alike_found Any code.BadValue line (int_in base t) (any_found (int_in base t))) (λ z _. alike-new_int k line z))))

pub alike-int_with_base : {w : Setting} (k : Veil w) (line : ℕ) (g : Arguments) → ArgumentsAreVisible k.hides g → Alike k (IsVisible k.hides) (int_with_base w line g) (int_with_base (with_other k.other w) line g)
alike-int_with_base k line g h =
    alike_then (alike-with_name k line (codes "base") g h) (λ a l. alike_then (alike-one_or_two k line a.0 l.0) (λ xs r.
    alike_then (alike-one_base k line xs.1 a.1 r.1 l.1) (λ base q. alike-int_by k line xs.0 base r.0 q)))

pub alike-int_of_dialect : {w : Setting} (k : Veil w) (line : ℕ) (g : Arguments) (d : Dialect) → ArgumentsAreVisible k.hides g → Alike k (IsVisible k.hides) (int_of_dialect w line g d) (int_of_dialect (with_other k.other w) line g d)
alike-int_of_dialect k line g dialect.Core h = alike-int_alone k line g h
alike-int_of_dialect k line g dialect.Extended h = alike-int_with_base k line g h

pub alike-call_int : {w : Setting} (k : Veil w) (line : ℕ) (g : Arguments) → ArgumentsAreVisible k.hides g → Alike k (IsVisible k.hides) (call_int w line g) (call_int (with_other k.other w) line g)
alike-call_int {w = w} k line g h = alike-int_of_dialect k line g w.language.dialect h

pub alike-call_len : {w : Setting} (k : Veil w) (line : ℕ) (g : Arguments) → ArgumentsAreVisible k.hides g → Alike k (IsVisible k.hides) (call_len w line g) (call_len (with_other k.other w) line g)
alike-call_len k line g h =
    alike_then (one_of k line g h) (λ v l. alike_then (alike_content {A = ℕ} Any v _ _ l (λ c _. alike_found Any code.BadType line (length_in c) (any_found (length_in c)))) (λ n _. alike-new_int k line (pos n)))

pub alike-taken_from : {w : Setting} (k : Veil w) (line : ℕ) (o : Option Value) → VisibleIfThere k.hides o → Alike k (AreVisible k.hides) (taken_from w line o) (taken_from (with_other k.other w) line o)
alike-taken_from k line None h = alike_give {A = List Value} (AreVisible k.hides) [] tt
alike-taken_from k line (Some v) h = alike-take_all k line v h

pub alike-call_list : {w : Setting} (k : Veil w) (line : ℕ) (g : Arguments) → ArgumentsAreVisible k.hides g → Alike k (IsVisible k.hides) (call_list w line g) (call_list (with_other k.other w) line g)
alike-call_list k line g h = alike_then (alike_then (maybe_of k line g h) (λ o l. alike-taken_from k line o l)) (λ xs l. alike-new_list k line xs l)

pub alike-call_tuple : {w : Setting} (k : Veil w) (line : ℕ) (g : Arguments) → ArgumentsAreVisible k.hides g → Alike k (IsVisible k.hides) (call_tuple w line g) (call_tuple (with_other k.other w) line g)
alike-call_tuple k line g h = alike_then (alike_then (maybe_of k line g h) (λ o l. alike-taken_from k line o l)) (λ xs l. alike-new_tuple k line xs l)

pub alike-call_reversed : {w : Setting} (k : Veil w) (line : ℕ) (g : Arguments) → ArgumentsAreVisible k.hides g → Alike k (IsVisible k.hides) (call_reversed w line g) (call_reversed (with_other k.other w) line g)
alike-call_reversed k line g h = alike_then (alike_then (one_of k line g h) (λ v l. alike-take_all k line v l)) (λ xs l. alike-new_list k line (reverse xs) (every_reverse (IsVisible k.hides) xs l))

pub alike-best_of : {w : Setting} (k : Veil w) (levels line : ℕ) (better : Ordering → Bool) (best : Value) (xs : List Value) → IsVisible k.hides best → AreVisible k.hides xs → Alike k (IsVisible k.hides) (best_of w levels line better best xs) (best_of (with_other k.other w) levels line better best xs)
alike-best_of k levels line better best [] h l = alike_give (IsVisible k.hides) best h
alike-best_of k levels line better best (x ∷ xs) h l =
    alike_then (alike-compare k levels line x best l.0 h) (λ o _. alike-best_of k levels line better (if better o then x else best) xs (visible_if k.hides (better o) x best l.0 h) l.1)

pub alike-best_in : {w : Setting} (k : Veil w) (levels line : ℕ) (better : Ordering → Bool) (xs : List Value) → AreVisible k.hides xs → Alike k (IsVisible k.hides) (best_in w levels line better xs) (best_in (with_other k.other w) levels line better xs)
alike-best_in k levels line better [] h = alike_fail Value (IsVisible k.hides) code.BadValue line
alike-best_in k levels line better (x ∷ xs) h = alike-best_of k levels line better x xs h.0 h.1

pub alike-candidates : {w : Setting} (k : Veil w) (line : ℕ) (xs : List Value) → AreVisible k.hides xs → Alike k (AreVisible k.hides) (candidates w line xs) (candidates (with_other k.other w) line xs)
alike-candidates k line [] h = alike_fail (List Value) (AreVisible k.hides) code.Args line
alike-candidates k line (v ∷ []) h = alike-take_all k line v h.0
alike-candidates k line (x ∷ y ∷ xs) h = alike_give (AreVisible k.hides) (x ∷ y ∷ xs) h

pub alike-call_best : {w : Setting} (k : Veil w) (levels line : ℕ) (better : Ordering → Bool) (g : Arguments) → ArgumentsAreVisible k.hides g → Alike k (IsVisible k.hides) (call_best w levels line better g) (call_best (with_other k.other w) levels line better g)
alike-call_best k levels line better g h =
    alike_then (alike_then (alike-positional k line g h) (λ xs l. alike-candidates k line xs l)) (λ xs l. alike-best_in k levels line better xs l)

pub alike-new_range : {w : Setting} (k : Veil w) (line : ℕ) (r : Range) → Alike k (IsVisible k.hides) (new_range line r) (new_range line r)
alike-new_range k line r =
    alike_then (alike_check code.BadValue line (not (int_eq r.step (pos 0)))) (λ _ _. alike_then (alike_check code.Overflow line (nat_lt (range_length r) (2 ^ 63))) (λ _ _. alike_build line 1 (cell.Range r) tt))

pub alike-range_of : {w : Setting} (k : Veil w) (line : ℕ) (zs : List ℤ) → Alike k (IsVisible k.hides) (range_of line zs) (range_of line zs)
alike-range_of k line (b ∷ []) = alike-new_range k line (record { start = pos 0; stop = b; step = pos 1 })
alike-range_of k line (a ∷ b ∷ []) = alike-new_range k line (record { start = a; stop = b; step = pos 1 })
alike-range_of k line (a ∷ b ∷ c ∷ []) = alike-new_range k line (record { start = a; stop = b; step = c })
alike-range_of k line _ = alike_fail Value (IsVisible k.hides) code.Args line

pub alike-call_range : {w : Setting} (k : Veil w) (line : ℕ) (g : Arguments) → ArgumentsAreVisible k.hides g → Alike k (IsVisible k.hides) (call_range w line g) (call_range (with_other k.other w) line g)
alike-call_range k line g h =
    alike_then (alike-positional k line g h) (λ xs l. alike_then (alike_check code.Args line (is_range_count (length xs))) (λ _ _.
    alike_then (alike_each {B = ℤ} (IsVisible k.hides) Any _ _ xs l (λ x r. alike-want_int k line x r)) (λ zs _. alike-range_of k line zs)))

pub alike-call_repr : {w : Setting} (k : Veil w) (levels line : ℕ) (g : Arguments) → ArgumentsAreVisible k.hides g → Alike k (IsVisible k.hides) (call_repr w levels line g) (call_repr (with_other k.other w) levels line g)
alike-call_repr k levels line g h = alike_then (alike_then (one_of k line g h) (λ v l. alike-repr k levels line v l)) (λ t _. alike-new_text k line t)

pub alike-call_str : {w : Setting} (k : Veil w) (levels line : ℕ) (g : Arguments) → ArgumentsAreVisible k.hides g → Alike k (IsVisible k.hides) (call_str w levels line g) (call_str (with_other k.other w) levels line g)
alike-call_str k levels line g h = alike_then (alike_then (one_of k line g h) (λ v l. alike-str k levels line v l)) (λ t _. alike-new_text k line t)

pub alike-call_type : {w : Setting} (k : Veil w) (line : ℕ) (g : Arguments) → ArgumentsAreVisible k.hides g → Alike k (IsVisible k.hides) (call_type w line g) (call_type (with_other k.other w) line g)
alike-call_type k line g h = alike_then (one_of k line g h) (λ v l. alike_content (IsVisible k.hides) v _ _ l (λ c _. alike-new_text k line (type_name c)))

-- ---- sorted

same_contents : {w : Setting} (k : Veil w) (s : State) (xs : List Value) → AreVisible k.hides xs → map (content w s) xs ≡ map (content (with_other k.other w) s) xs
same_contents k s [] h = refl
same_contents {w = w} k s (x ∷ xs) h = ap (λ c. c ∷ map (content w s) xs) (same_content k s x h.0) ∙ ap (λ cs. content (with_other k.other w) s x ∷ cs) (same_contents k s xs h.1)

-- two tests that agree on visible values
abbrev Agree : Hides → (Value → Value → Bool) → (Value → Value → Bool) → Type 0
Agree hides f g = (x y : Value) → IsVisible hides x → IsVisible hides y → f x y ≡ g x y

same_before : {w : Setting} (k : Veil w) (s : State) → Agree k.hides (λ x y. is_before (content w s x) (content w s y)) (λ x y. is_before (content (with_other k.other w) s x) (content (with_other k.other w) s y))
same_before {w = w} k s = λ x y h l. ap (λ c. is_before c (content w s y)) (same_content k s x h) ∙ ap (λ c. is_before (content (with_other k.other w) s x) c) (same_content k s y l)

pub visible-placed : (hides : Hides) (f : Value → Value → Bool) (x : Value) (ys : List Value) → IsVisible hides x → AreVisible hides ys → AreVisible hides (placed f x ys)
visible-placed hides f x [] h l = (h, tt)
visible-placed hides f x (y ∷ ys) h l = every_if (IsVisible hides) (f y x) (y ∷ placed f x ys) (x ∷ y ∷ ys) (l.0, visible-placed hides f x ys h l.1) (h, l)

pub same-placed : (hides : Hides) (f g : Value → Value → Bool) → Agree hides f g → (x : Value) (ys : List Value) → IsVisible hides x → AreVisible hides ys → placed f x ys ≡ placed g x ys
same-placed hides f g a x [] h l = refl
same-placed hides f g a x (y ∷ ys) h l =
    ap (λ b. if b then y ∷ placed f x ys else x ∷ y ∷ ys) (a y x l.0 h) ∙ ap (λ zs. if g y x then y ∷ zs else x ∷ y ∷ ys) (same-placed hides f g a x ys h l.1)

pub visible-in_order : (hides : Hides) (f : Value → Value → Bool) (xs : List Value) → AreVisible hides xs → AreVisible hides (in_order f xs)
visible-in_order hides f [] h = tt
visible-in_order hides f (x ∷ xs) h = visible-placed hides f x (in_order f xs) h.0 (visible-in_order hides f xs h.1)

pub same-in_order : (hides : Hides) (f g : Value → Value → Bool) → Agree hides f g → (xs : List Value) → AreVisible hides xs → in_order f xs ≡ in_order g xs
same-in_order hides f g a [] h = refl
same-in_order hides f g a (x ∷ xs) h = same-placed hides f g a x (in_order f xs) h.0 (visible-in_order hides f xs h.1) ∙ ap (placed g x) (same-in_order hides f g a xs h.1)

pub visible-turned : (hides : Hides) (b : Bool) (xs : List Value) → AreVisible hides xs → AreVisible hides (turned b xs)
visible-turned hides true xs h = every_reverse (IsVisible hides) xs h
visible-turned hides false xs h = h

pub alike-sort : {w : Setting} (k : Veil w) (line : ℕ) (backwards : Bool) (xs : List Value) → AreVisible k.hides xs → Alike k (IsVisible k.hides) (sort w line backwards xs) (sort (with_other k.other w) line backwards xs)
alike-sort {w = w} k line backwards xs h = alike_seeing (IsVisible k.hides) _ _ (λ s _.
    let f : Value → Value → Bool = λ x y. is_before (content w s x) (content w s y) in
    alike_then (subst (λ cs. Alike k Any (check code.BadType line (can_sort (map (content w s) xs))) (check code.BadType line (can_sort cs))) (same_contents k s xs h) (alike_check code.BadType line (can_sort (map (content w s) xs)))) (λ _ _.
    subst (λ ys. Alike k (IsVisible k.hides) (new_list line (turned backwards (in_order f xs))) (new_list line (turned backwards ys))) (same-in_order k.hides f _ (same_before k s) xs h)
    (alike-new_list k line (turned backwards (in_order f xs)) (visible-turned k.hides backwards (in_order f xs) (visible-in_order k.hides f xs h)))))

pub alike-sort_items : {w : Setting} (k : Veil w) (levels line : ℕ) (backwards : Bool) (xs : List Value) (d : Dialect) → AreVisible k.hides xs → Alike k (IsVisible k.hides) (sort_items w levels line backwards xs d) (sort_items (with_other k.other w) levels line backwards xs d)
alike-sort_items k levels line backwards xs dialect.Core h = alike-sort k line backwards xs h
alike-sort_items k levels line backwards xs dialect.Extended h = alike-sort_by k levels line backwards (map by_itself xs) (visible-by_itself k.hides xs h)

pub alike-call_sorted : {w : Setting} (k : Veil w) (levels line : ℕ) (g : Arguments) → ArgumentsAreVisible k.hides g → Alike k (IsVisible k.hides) (call_sorted w levels line g) (call_sorted (with_other k.other w) levels line g)
alike-call_sorted {w = w} k levels line g h =
    alike_then (alike-with_name k line (codes "reverse") g h) (λ a l. alike_then (alike-only_one k line a.0 l.0) (λ it r.
    alike_then (alike-count_of k line it r) (λ n _. alike_then (alike-want_reverse k line a.1 l.1) (λ backwards _.
    alike_then (alike-take_items k line it n r) (λ xs q. alike-sort_items k levels line backwards xs w.language.dialect q)))))

-- ---- zip

pub alike-row_at : {w : Setting} (k : Veil w) (line : ℕ) (vs : List Value) (i : ℕ) → AreVisible k.hides vs → Alike k (IsVisible k.hides) (row_at w line vs i) (row_at (with_other k.other w) line vs i)
alike-row_at k line vs i h =
    alike_then (alike_each (IsVisible k.hides) (IsVisible k.hides) _ _ vs h (λ v l. alike-take_item k line v i l)) (λ xs l. alike-new_tuple k line xs l)

pub alike-call_zip : {w : Setting} (k : Veil w) (line : ℕ) (g : Arguments) → ArgumentsAreVisible k.hides g → Alike k (IsVisible k.hides) (call_zip w line g) (call_zip (with_other k.other w) line g)
alike-call_zip k line g h =
    alike_then (alike-positional k line g h) (λ vs l. alike_then (alike_each {B = ℕ} (IsVisible k.hides) Any _ _ vs l (λ v r. alike-count_of k line v r)) (λ ns _.
    alike_then (alike_collect (IsVisible k.hides) _ _ (least ns) 0 (λ i. alike-row_at k line vs i l)) (λ rows r. alike-new_list k line rows r)))

-- ---- any of them

pub alike-call_built_in : {w : Setting} (k : Veil w) (levels line : ℕ) (b : BuiltIn) (g : Arguments) → ArgumentsAreVisible k.hides g → Alike k (IsVisible k.hides) (call_built_in w levels line b g) (call_built_in (with_other k.other w) levels line b g)
unfolding call_built_in
alike-call_built_in k levels line built_in.Abs g h = alike-call_abs k line g h
alike-call_built_in k levels line built_in.All g h = alike-call_all k line g h
alike-call_built_in k levels line built_in.Any g h = alike-call_any k line g h
alike-call_built_in k levels line built_in.Bool g h = alike-call_bool k line g h
alike-call_built_in k levels line built_in.Dict g h = alike-call_dict k levels line g h
alike-call_built_in k levels line built_in.Enumerate g h = alike-call_enumerate k line g h
alike-call_built_in k levels line built_in.Fail g h = alike-call_fail k levels line g h
alike-call_built_in k levels line built_in.Int g h = alike-call_int k line g h
alike-call_built_in k levels line built_in.Len g h = alike-call_len k line g h
alike-call_built_in k levels line built_in.List g h = alike-call_list k line g h
alike-call_built_in k levels line built_in.Max g h = alike-call_best k levels line is_gt g h
alike-call_built_in k levels line built_in.Min g h = alike-call_best k levels line is_lt g h
alike-call_built_in k levels line built_in.Print g h = alike-call_print k levels line g h
alike-call_built_in k levels line built_in.Range g h = alike-call_range k line g h
alike-call_built_in k levels line built_in.Repr g h = alike-call_repr k levels line g h
alike-call_built_in k levels line built_in.Reversed g h = alike-call_reversed k line g h
alike-call_built_in k levels line built_in.Sorted g h = alike-call_sorted k levels line g h
alike-call_built_in k levels line built_in.Str g h = alike-call_str k levels line g h
alike-call_built_in k levels line built_in.Tuple g h = alike-call_tuple k line g h
alike-call_built_in k levels line built_in.Type g h = alike-call_type k line g h
alike-call_built_in k levels line built_in.Zip g h = alike-call_zip k line g h
alike-call_built_in k levels line built_in.Chr g h = alike-call_chr k line g h
alike-call_built_in k levels line built_in.Dir g h = alike-call_dir k line g h
alike-call_built_in k levels line built_in.Getattr g h = alike-call_getattr k line g h
alike-call_built_in k levels line built_in.Hasattr g h = alike-call_hasattr k line g h
alike-call_built_in k levels line built_in.Hash g h = alike-call_hash k line g h
alike-call_built_in k levels line built_in.Json g h = alike_fail Value (IsVisible k.hides) code.BadType line
alike-call_built_in k levels line built_in.Ord g h = alike-call_ord k line g h
alike-call_built_in k levels line built_in.Set g h = alike-call_set k levels line g h
alike-call_built_in k levels line built_in.Struct g h = alike-call_struct k line g h
alike-call_built_in k levels line built_in.JsonDecode g h = alike-call_decode k levels line g h
alike-call_built_in k levels line built_in.JsonEncode g h = alike-call_encode k levels line g h
alike-call_built_in k levels line built_in.JsonEncodeIndent g h = alike-call_encode_indent k levels line g h
alike-call_built_in k levels line (built_in.Recorded i) g h = alike-call_recorded k levels line i g h
