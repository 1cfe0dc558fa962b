-- Actions that respect every invariant of runs: built-in functions.
use Rattle.std.specs.declared.cmp.Ordering.{Ordering}
use Rattle.star_store.specs.declared.values.Value.{Value}
use Rattle.star_store.specs.declared.values.Cell.TheVariants as cell
use Rattle.star_store.specs.declared.range.Range.{Range}
use Rattle.star_store.specs.declared.names.BuiltIn.{BuiltIn}
use Rattle.star_store.specs.declared.names.BuiltIn.TheVariants as built_in
use Rattle.star_meaning.specs.Program.{Setting}
use Rattle.star_meaning.specs.Values.{Content, Truth, Number, Held}
use Rattle.star_meaning.specs.declared.given.Arguments.{Arguments}
use Rattle.std.proofs.Common.{ℕ, List, [], ◌∷◌, Option, Some, None, Bool, ℤ, map}
use Rattle.star_meaning.specs.BuiltIns.{absolute, call_abs, is_decided, some_item, call_all, call_any, truth_of, call_bool, call_dict, want_start, numbered, call_enumerate, want_separator, print_line, call_print, call_fail, to_int, int_alone, one_base, int_by, int_with_base, int_of_dialect, call_int, call_len, taken_from, call_list, call_tuple, call_reversed, best_of, best_in, candidates, call_best, new_range, range_of, call_range, call_repr, call_str, call_type, sort, sort_items, call_sorted, row_at, call_zip, call_built_in}
use Rattle.star_meaning.specs.Orders.{by_itself}
use Rattle.star_dialect.specs.declared.Dialect.{Dialect}
use Rattle.star_dialect.specs.declared.Dialect.TheVariants as dialect
use Rattle.star_meaning.proofs.KeepsSets.{respects-call_set}
use Rattle.star_meaning.proofs.KeepsOrders.{respects-sort_by, respects-want_reverse}
use Rattle.star_meaning.proofs.Invariants.{Invariant, Respects, respects}
use Rattle.star_meaning.proofs.Keeps.{keeps, kept_by, Keeps}
use Rattle.star_meaning.proofs.KeepsAttributes.{respects-call_chr, respects-call_dir, respects-call_getattr, respects-call_hasattr, respects-call_hash, respects-call_ord, respects-call_struct}
use Rattle.star_meaning.proofs.KeepsValues.{respects-with_content, respects-want_int, respects-want_text, respects-new_int, respects-new_text, respects-new_tuple, respects-new_list, respects-count_of, respects-take_item, respects-take_items, respects-take_all, respects-is_true, respects-compare, respects-repr, respects-str}
use Rattle.star_meaning.proofs.KeepsArguments.{respects-positional, respects-with_name, respects-only_one, respects-none_or_one, respects-one_or_two}
use Rattle.star_meaning.proofs.KeepsJson.{keeps-call_decode, respects-call_encode, respects-call_encode_indent, respects-call_recorded}
use Rattle.star_meaning.proofs.KeepsPairs.{respects-pairs_of, respects-pairs_count, keeps-dict_of}

pub respects-absolute : {w : Setting} {inv : Invariant w} → (line : ℕ) (z : ℤ) → Respects inv (absolute line z)
respects-absolute line z = search (respects, respects-new_int) depth 14

pub respects-call_abs : (w : Setting) {inv : Invariant w} (line : ℕ) (g : Arguments) → Respects inv (call_abs w line g)
respects-call_abs w line g = search (respects, respects-want_int, respects-positional, respects-only_one, respects-absolute) depth 14

pub respects-is_decided : (w : Setting) {inv : Invariant w} (line : ℕ) (wanted : Bool) (v : Value) (i : ℕ) → Respects inv (is_decided w line wanted v i)
respects-is_decided w line wanted v i = search (respects, respects-take_item, respects-is_true) depth 14

pub respects-some_item : (w : Setting) {inv : Invariant w} (line : ℕ) (wanted : Bool) (g : Arguments) → Respects inv (some_item w line wanted g)
respects-some_item w line wanted g = search (respects, respects-count_of, respects-positional, respects-only_one, respects-is_decided) depth 14

pub respects-call_all : (w : Setting) {inv : Invariant w} (line : ℕ) (g : Arguments) → Respects inv (call_all w line g)
respects-call_all w line g = search (respects, respects-some_item) depth 14

pub respects-call_any : (w : Setting) {inv : Invariant w} (line : ℕ) (g : Arguments) → Respects inv (call_any w line g)
respects-call_any w line g = search (respects, respects-some_item) depth 14

pub respects-truth_of : (w : Setting) {inv : Invariant w} (a1 : Option Value) → Respects inv (truth_of w a1)
respects-truth_of w None = search respects depth 14
respects-truth_of w (Some v) = search (respects, respects-is_true) depth 14

pub respects-call_bool : (w : Setting) {inv : Invariant w} (line : ℕ) (g : Arguments) → Respects inv (call_bool w line g)
respects-call_bool w line g = search (respects, respects-positional, respects-none_or_one, respects-truth_of) depth 14

pub respects-want_start : (w : Setting) {inv : Invariant w} (line : ℕ) (a2 : Option Value) → Respects inv (want_start w line a2)
respects-want_start w line None = search respects depth 14
respects-want_start w line (Some v) = search (respects, respects-want_int) depth 14

pub respects-numbered : {w : Setting} {inv : Invariant w} → (line : ℕ) (z : ℤ) (a2 : List Value) → Respects inv (numbered line z a2)
respects-numbered line z [] = search respects depth 14
respects-numbered {inv = inv} line z (x ∷ xs) = let h1 : (z1 : ℤ) → Respects inv (numbered line z1 xs) = λ z1. respects-numbered line z1 xs in search (respects, respects-new_int, respects-new_tuple, h1) depth 14

pub respects-call_enumerate : (w : Setting) {inv : Invariant w} (line : ℕ) (g : Arguments) → Respects inv (call_enumerate w line g)
respects-call_enumerate w line g = search (respects, respects-new_list, respects-count_of, respects-take_items, respects-positional, respects-one_or_two, respects-want_start, respects-numbered) depth 14

pub respects-want_separator : (w : Setting) {inv : Invariant w} (line : ℕ) (a2 : Option Value) → Respects inv (want_separator w line a2)
respects-want_separator w line None = search respects depth 14
respects-want_separator w line (Some v) = search (respects, respects-want_text) depth 14

pub respects-print_line : (w : Setting) {inv : Invariant w} (levels : ℕ) (line : ℕ) (g : Arguments) → Respects inv (print_line w levels line g)
respects-print_line w levels line g = search (respects, respects-str, respects-with_name, respects-want_separator) depth 14

pub respects-call_print : (w : Setting) {inv : Invariant w} (levels : ℕ) (line : ℕ) (g : Arguments) → Respects inv (call_print w levels line g)
respects-call_print w levels line g = search (respects, respects-print_line) depth 14

pub respects-call_fail : (w : Setting) {inv : Invariant w} (levels : ℕ) (line : ℕ) (g : Arguments) → Respects inv (call_fail w levels line g)
respects-call_fail w levels line g = search (respects, respects-print_line) depth 14

pub respects-to_int : {w : Setting} {inv : Invariant w} → (line : ℕ) (a1 : Content) → Respects inv (to_int line a1)
respects-to_int line (Number z) = search respects depth 14
respects-to_int line (Truth b) = search respects depth 14
respects-to_int line (Held (cell.Text t)) = search (respects, respects-new_int) depth 14
respects-to_int line _ = search respects depth 14

pub respects-int_alone : (w : Setting) {inv : Invariant w} (line : ℕ) (g : Arguments) → Respects inv (int_alone w line g)
respects-int_alone w line g = search (respects, respects-with_content, respects-positional, respects-only_one, respects-to_int) depth 14

pub respects-one_base : {w : Setting} {inv : Invariant w} → (line : ℕ) (a1 : Option Value) (a2 : Option Value) → Respects inv (one_base line a1 a2)
respects-one_base line None named = search respects depth 14
respects-one_base line (Some b) None = search respects depth 14
respects-one_base line (Some b) (Some c) = search respects depth 14

pub respects-int_by : (w : Setting) {inv : Invariant w} (line : ℕ) (v : Value) (a3 : Option Value) → Respects inv (int_by w line v a3)
respects-int_by w line v None = search (respects, respects-with_content, respects-to_int) depth 14
respects-int_by w line v (Some b) = search (respects, respects-want_text, respects-want_int, respects-new_int) depth 14

pub respects-int_with_base : (w : Setting) {inv : Invariant w} (line : ℕ) (g : Arguments) → Respects inv (int_with_base w line g)
respects-int_with_base w line g = search (respects, respects-with_name, respects-one_or_two, respects-one_base, respects-int_by) depth 14

pub respects-int_of_dialect : (w : Setting) {inv : Invariant w} (line : ℕ) (g : Arguments) (a3 : Dialect) → Respects inv (int_of_dialect w line g a3)
respects-int_of_dialect w line g dialect.Core = respects-int_alone w line g
respects-int_of_dialect w line g dialect.Extended = respects-int_with_base w line g

pub respects-call_int : (w : Setting) {inv : Invariant w} (line : ℕ) (g : Arguments) → Respects inv (call_int w line g)
respects-call_int w line g = respects-int_of_dialect w line g w.language.dialect

pub respects-call_len : (w : Setting) {inv : Invariant w} (line : ℕ) (g : Arguments) → Respects inv (call_len w line g)
respects-call_len w line g = search (respects, respects-with_content, respects-new_int, respects-positional, respects-only_one) depth 14

pub respects-taken_from : (w : Setting) {inv : Invariant w} (line : ℕ) (a2 : Option Value) → Respects inv (taken_from w line a2)
respects-taken_from w line None = search respects depth 14
respects-taken_from w line (Some v) = search (respects, respects-take_all) depth 14

pub respects-call_list : (w : Setting) {inv : Invariant w} (line : ℕ) (g : Arguments) → Respects inv (call_list w line g)
respects-call_list w line g = search (respects, respects-new_list, respects-positional, respects-none_or_one, respects-taken_from) depth 14

pub respects-call_tuple : (w : Setting) {inv : Invariant w} (line : ℕ) (g : Arguments) → Respects inv (call_tuple w line g)
respects-call_tuple w line g = search (respects, respects-new_tuple, respects-positional, respects-none_or_one, respects-taken_from) depth 14

pub respects-call_reversed : (w : Setting) {inv : Invariant w} (line : ℕ) (g : Arguments) → Respects inv (call_reversed w line g)
respects-call_reversed w line g = search (respects, respects-new_list, respects-take_all, respects-positional, respects-only_one) depth 14

pub respects-best_of : (w : Setting) {inv : Invariant w} (levels : ℕ) (line : ℕ) (better : (Ordering → Bool)) (best : Value) (a5 : List Value) → Respects inv (best_of w levels line better best a5)
respects-best_of w levels line better best [] = search respects depth 14
respects-best_of w {inv = inv} levels line better best (x ∷ xs) = let h1 : (z4 : Value) → Respects inv (best_of w levels line better z4 xs) = λ z4. respects-best_of w levels line better z4 xs in search (respects, respects-compare, h1) depth 14

pub respects-best_in : (w : Setting) {inv : Invariant w} (levels : ℕ) (line : ℕ) (better : (Ordering → Bool)) (a4 : List Value) → Respects inv (best_in w levels line better a4)
respects-best_in w levels line better [] = search respects depth 14
respects-best_in w levels line better (x ∷ xs) = search (respects, respects-best_of) depth 14

pub respects-candidates : (w : Setting) {inv : Invariant w} (line : ℕ) (a2 : List Value) → Respects inv (candidates w line a2)
respects-candidates w line [] = search respects depth 14
respects-candidates w line (v ∷ []) = search (respects, respects-take_all) depth 14
respects-candidates w line (x ∷ y ∷ xs) = search respects depth 14

pub respects-call_best : (w : Setting) {inv : Invariant w} (levels : ℕ) (line : ℕ) (better : (Ordering → Bool)) (g : Arguments) → Respects inv (call_best w levels line better g)
respects-call_best w levels line better g = search (respects, respects-positional, respects-best_in, respects-candidates) depth 14

pub respects-new_range : {w : Setting} {inv : Invariant w} → (line : ℕ) (r : Range) → Respects inv (new_range line r)
respects-new_range line r = search respects depth 14

pub respects-range_of : {w : Setting} {inv : Invariant w} → (line : ℕ) (a1 : List ℤ) → Respects inv (range_of line a1)
respects-range_of line (b ∷ []) = search (respects, respects-new_range) depth 14
respects-range_of line (a ∷ b ∷ []) = search (respects, respects-new_range) depth 14
respects-range_of line (a ∷ b ∷ c ∷ []) = search (respects, respects-new_range) depth 14
respects-range_of line _ = search respects depth 14

pub respects-call_range : (w : Setting) {inv : Invariant w} (line : ℕ) (g : Arguments) → Respects inv (call_range w line g)
respects-call_range w line g = search (respects, respects-want_int, respects-positional, respects-range_of) depth 14

pub respects-call_repr : (w : Setting) {inv : Invariant w} (levels : ℕ) (line : ℕ) (g : Arguments) → Respects inv (call_repr w levels line g)
respects-call_repr w levels line g = search (respects, respects-new_text, respects-repr, respects-positional, respects-only_one) depth 14

pub respects-call_str : (w : Setting) {inv : Invariant w} (levels : ℕ) (line : ℕ) (g : Arguments) → Respects inv (call_str w levels line g)
respects-call_str w levels line g = search (respects, respects-new_text, respects-str, respects-positional, respects-only_one) depth 14

pub respects-call_type : (w : Setting) {inv : Invariant w} (line : ℕ) (g : Arguments) → Respects inv (call_type w line g)
respects-call_type w line g = search (respects, respects-with_content, respects-new_text, respects-positional, respects-only_one) depth 14

pub respects-sort : (w : Setting) {inv : Invariant w} (line : ℕ) (backwards : Bool) (xs : List Value) → Respects inv (sort w line backwards xs)
respects-sort w line backwards xs = search (respects, respects-new_list) depth 14

pub respects-sort_items : (w : Setting) {inv : Invariant w} (levels line : ℕ) (backwards : Bool) (xs : List Value) (a5 : Dialect) → Respects inv (sort_items w levels line backwards xs a5)
respects-sort_items w levels line backwards xs dialect.Core = respects-sort w line backwards xs
respects-sort_items w levels line backwards xs dialect.Extended = respects-sort_by w levels line backwards (map by_itself xs)

pub respects-call_sorted : (w : Setting) {inv : Invariant w} (levels line : ℕ) (g : Arguments) → Respects inv (call_sorted w levels line g)
respects-call_sorted w levels line g = search (respects, respects-count_of, respects-take_items, respects-with_name, respects-only_one, respects-want_reverse, respects-sort_items) depth 14

pub respects-row_at : (w : Setting) {inv : Invariant w} (line : ℕ) (vs : List Value) (i : ℕ) → Respects inv (row_at w line vs i)
respects-row_at w line vs i = search (respects, respects-new_tuple, respects-take_item) depth 14

pub respects-call_zip : (w : Setting) {inv : Invariant w} (line : ℕ) (g : Arguments) → Respects inv (call_zip w line g)
respects-call_zip w line g = search (respects, respects-new_list, respects-count_of, respects-positional, respects-row_at) depth 14

pub keeps-call_dict : {q : Bool} → (w : Setting) (levels : ℕ) (line : ℕ) (g : Arguments) → Keeps q (call_dict w levels line g)
keeps-call_dict w levels line g = search (keeps, kept_by w, respects-none_or_one, respects-pairs_of, respects-pairs_count, keeps-dict_of) depth 14

pub keeps-call_built_in : {q : Bool} → (w : Setting) (levels : ℕ) (line : ℕ) (a3 : BuiltIn) (g : Arguments) → Keeps q (call_built_in w levels line a3 g)
unfolding call_built_in
keeps-call_built_in w levels line built_in.Abs g = search (keeps, kept_by w, respects-call_abs) depth 14
keeps-call_built_in w levels line built_in.All g = search (keeps, kept_by w, respects-call_all) depth 14
keeps-call_built_in w levels line built_in.Any g = search (keeps, kept_by w, respects-call_any) depth 14
keeps-call_built_in w levels line built_in.Bool g = search (keeps, kept_by w, respects-call_bool) depth 14
keeps-call_built_in w levels line built_in.Dict g = search (keeps, keeps-call_dict) depth 14
keeps-call_built_in w levels line built_in.Enumerate g = search (keeps, kept_by w, respects-call_enumerate) depth 14
keeps-call_built_in w levels line built_in.Fail g = search (keeps, kept_by w, respects-call_fail) depth 14
keeps-call_built_in w levels line built_in.Int g = search (keeps, kept_by w, respects-call_int) depth 14
keeps-call_built_in w levels line built_in.Len g = search (keeps, kept_by w, respects-call_len) depth 14
keeps-call_built_in w levels line built_in.List g = search (keeps, kept_by w, respects-call_list) depth 14
keeps-call_built_in w levels line built_in.Max g = search (keeps, kept_by w, respects-call_best) depth 14
keeps-call_built_in w levels line built_in.Min g = search (keeps, kept_by w, respects-call_best) depth 14
keeps-call_built_in w levels line built_in.Print g = search (keeps, kept_by w, respects-call_print) depth 14
keeps-call_built_in w levels line built_in.Range g = search (keeps, kept_by w, respects-call_range) depth 14
keeps-call_built_in w levels line built_in.Repr g = search (keeps, kept_by w, respects-call_repr) depth 14
keeps-call_built_in w levels line built_in.Reversed g = search (keeps, kept_by w, respects-call_reversed) depth 14
keeps-call_built_in w levels line built_in.Sorted g = search (keeps, kept_by w, respects-call_sorted) depth 14
keeps-call_built_in w levels line built_in.Str g = search (keeps, kept_by w, respects-call_str) depth 14
keeps-call_built_in w levels line built_in.Tuple g = search (keeps, kept_by w, respects-call_tuple) depth 14
keeps-call_built_in w levels line built_in.Type g = search (keeps, kept_by w, respects-call_type) depth 14
keeps-call_built_in w levels line built_in.Zip g = search (keeps, kept_by w, respects-call_zip) depth 14
keeps-call_built_in w levels line built_in.Chr g = search (keeps, kept_by w, respects-call_chr) depth 14
keeps-call_built_in w levels line built_in.Dir g = search (keeps, kept_by w, respects-call_dir) depth 14
keeps-call_built_in w levels line built_in.Getattr g = search (keeps, kept_by w, respects-call_getattr) depth 14
keeps-call_built_in w levels line built_in.Hasattr g = search (keeps, kept_by w, respects-call_hasattr) depth 14
keeps-call_built_in w levels line built_in.Hash g = search (keeps, kept_by w, respects-call_hash) depth 14
keeps-call_built_in w levels line built_in.Json g = search keeps depth 14
keeps-call_built_in w levels line built_in.Ord g = search (keeps, kept_by w, respects-call_ord) depth 14
keeps-call_built_in w levels line built_in.Set g = search (keeps, kept_by w, respects-call_set) depth 14
keeps-call_built_in w levels line built_in.Struct g = search (keeps, kept_by w, respects-call_struct) depth 14
keeps-call_built_in w levels line built_in.JsonDecode g = search (keeps, keeps-call_decode) depth 14
keeps-call_built_in w levels line built_in.JsonEncode g = search (keeps, kept_by w, respects-call_encode) depth 14
keeps-call_built_in w levels line built_in.JsonEncodeIndent g = search (keeps, kept_by w, respects-call_encode_indent) depth 14
keeps-call_built_in w levels line (built_in.Recorded i) g = search (keeps, kept_by w, respects-call_recorded) depth 14
