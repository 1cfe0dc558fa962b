-- Actions that respect every invariant of runs: values.
use Rattle.star_store.specs.declared.values.Value.{Value}
use Rattle.star_store.specs.declared.layout.Layout.{Layout}
use Rattle.star_meaning.specs.Program.{Setting}
use Rattle.std.proofs.Common.{ℕ, List, Option, Some, None, ℤ, Bool}
use Rattle.star_meaning.specs.Run.{Action}
use Rattle.star_meaning.specs.Values.{with_content, want_int, want_bool, want_text, new_int, new_text, new_tuple, new_list, new_dict, new_set, count_of, take_item, take_items, take_all, is_true, equal, compare, check_key, repr, encoded, str_of, str, guard, Content}
use Rattle.star_meaning.proofs.Invariants.{Invariant, Respects, respects}
use Rattle.star_meaning.proofs.Keeps.{keeps, Keeps}

pub respects-with_content : {A : Type 0} → (w : Setting) {inv : Invariant w} (v : Value) (f : (Content → Action A)) → ((x0 : Content) → Respects inv (f x0)) → Respects inv (with_content w v f)
respects-with_content w v f k0 = search respects depth 14

pub respects-want_int : (w : Setting) {inv : Invariant w} (line : ℕ) (v : Value) → Respects inv (want_int w line v)
respects-want_int w line v = search (respects, respects-with_content) depth 14

pub respects-want_bool : (w : Setting) {inv : Invariant w} (line : ℕ) (v : Value) → Respects inv (want_bool w line v)
respects-want_bool w line v = search (respects, respects-with_content) depth 14

pub respects-want_text : (w : Setting) {inv : Invariant w} (line : ℕ) (v : Value) → Respects inv (want_text w line v)
respects-want_text w line v = search (respects, respects-with_content) depth 14

pub respects-new_int : {w : Setting} {inv : Invariant w} → (line : ℕ) (z : ℤ) → Respects inv (new_int line z)
respects-new_int line z = search respects depth 14

pub respects-new_text : {w : Setting} {inv : Invariant w} → (line : ℕ) (t : List ℕ) → Respects inv (new_text line t)
respects-new_text line t = search respects depth 14

pub respects-new_tuple : {w : Setting} {inv : Invariant w} → (line : ℕ) (xs : List Value) → Respects inv (new_tuple line xs)
respects-new_tuple line xs = search respects depth 14

pub respects-new_list : {w : Setting} {inv : Invariant w} → (line : ℕ) (xs : List Value) → Respects inv (new_list line xs)
respects-new_list line xs = search respects depth 14

pub respects-new_set : {w : Setting} {inv : Invariant w} → (line : ℕ) (es : List (Value × Value)) → Respects inv (new_set line es)
respects-new_set line es = search respects depth 14

pub respects-count_of : (w : Setting) {inv : Invariant w} (line : ℕ) (v : Value) → Respects inv (count_of w line v)
unfolding count_of
respects-count_of w line v = search (respects, respects-with_content) depth 14

pub respects-take_item : (w : Setting) {inv : Invariant w} (line : ℕ) (v : Value) (i : ℕ) → Respects inv (take_item w line v i)
unfolding take_item
respects-take_item w line v i = search (respects, respects-with_content) depth 14

pub respects-take_items : (w : Setting) {inv : Invariant w} (line : ℕ) (v : Value) (n : ℕ) → Respects inv (take_items w line v n)
respects-take_items w line v n = search (respects, respects-take_item) depth 14

pub respects-take_all : (w : Setting) {inv : Invariant w} (line : ℕ) (v : Value) → Respects inv (take_all w line v)
respects-take_all w line v = search (respects, respects-count_of, respects-take_items) depth 14

pub respects-is_true : (w : Setting) {inv : Invariant w} (v : Value) → Respects inv (is_true w v)
unfolding is_true
respects-is_true w v = search respects depth 14

pub respects-equal : (w : Setting) {inv : Invariant w} (levels : ℕ) (line : ℕ) (x : Value) (y : Value) → Respects inv (equal w levels line x y)
unfolding equal
respects-equal w levels line x y = search respects depth 14

pub respects-compare : (w : Setting) {inv : Invariant w} (levels : ℕ) (line : ℕ) (x : Value) (y : Value) → Respects inv (compare w levels line x y)
unfolding compare
respects-compare w levels line x y = search respects depth 14

pub respects-check_key : (w : Setting) {inv : Invariant w} (levels : ℕ) (line : ℕ) (k : Value) → Respects inv (check_key w levels line k)
unfolding check_key
respects-check_key w levels line k = search respects depth 14

pub respects-repr : (w : Setting) {inv : Invariant w} (levels : ℕ) (line : ℕ) (v : Value) → Respects inv (repr w levels line v)
unfolding repr
respects-repr w levels line v = search respects depth 14

pub respects-encoded : (w : Setting) {inv : Invariant w} (levels : ℕ) (line : ℕ) (l : Layout) (v : Value) → Respects inv (encoded w levels line l v)
unfolding encoded
respects-encoded w levels line l v = search respects depth 14

pub respects-str_of : (w : Setting) {inv : Invariant w} (levels : ℕ) (line : ℕ) (v : Value) (a4 : Option (List ℕ)) → Respects inv (str_of w levels line v a4)
respects-str_of w levels line v (Some t) = search respects depth 14
respects-str_of w levels line v None = search (respects, respects-repr) depth 14

pub respects-str : (w : Setting) {inv : Invariant w} (levels : ℕ) (line : ℕ) (v : Value) → Respects inv (str w levels line v)
unfolding str
respects-str w levels line v = search (respects, respects-with_content, respects-str_of) depth 14

pub respects-guard : (w : Setting) {inv : Invariant w} (line : ℕ) (v : Value) → Respects inv (guard w line v)
unfolding guard
respects-guard w line v = search respects depth 14

pub keeps-new_dict : {q : Bool} → (line : ℕ) (es : List (Value × Value)) → Keeps q (new_dict line es)
keeps-new_dict line es = search keeps depth 14
