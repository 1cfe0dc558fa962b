-- Actions that respect every invariant of runs: the methods of lists.
use Rattle.star_store.specs.declared.values.Value.{Value}
use Rattle.star_meaning.specs.Program.{Setting}
use Rattle.star_meaning.specs.declared.given.Arguments.{Arguments}
use Rattle.std.proofs.Common.{ℕ, List, [], ◌∷◌, Option, Some, None, ℤ}
use Rattle.star_meaning.specs.Run.{Action}
use Rattle.star_dialect.specs.declared.Dialect.{Dialect}
use Rattle.star_dialect.specs.declared.Dialect.TheVariants as dialect
use Rattle.star_meaning.proofs.KeepsSubscript.{respects-want_part}
use Rattle.star_meaning.specs.ListMethods.{with_items, add_item, call_append, call_clear, extend, call_extend, equal_place, place_with, index_of, within_bounds, index_between, index_in, call_index, call_insert, want_last, call_pop, call_remove}
use Rattle.star_meaning.proofs.Invariants.{Invariant, Respects, respects}
use Rattle.star_meaning.proofs.KeepsValues.{respects-with_content, respects-want_int, respects-new_int, respects-count_of, respects-take_items, respects-equal, respects-guard}
use Rattle.star_meaning.proofs.KeepsArguments.{respects-positional, respects-only_one, respects-none_or_one, respects-two, respects-no_value}

pub respects-with_items : {A : Type 0} → (w : Setting) {inv : Invariant w} (l : Value) (f : (List Value → Action A)) → ((x0 : List Value) → Respects inv (f x0)) → Respects inv (with_items w l f)
respects-with_items w l f k0 = search (respects, respects-with_content) depth 14

pub respects-add_item : (w : Setting) {inv : Invariant w} (line : ℕ) (l : Value) (x : Value) → Respects inv (add_item w line l x)
respects-add_item w line l x = search respects depth 14

pub respects-call_append : (w : Setting) {inv : Invariant w} (line : ℕ) (l : Value) (g : Arguments) → Respects inv (call_append w line l g)
respects-call_append w line l g = search (respects, respects-guard, respects-positional, respects-only_one, respects-add_item) depth 14

pub respects-call_clear : (w : Setting) {inv : Invariant w} (line : ℕ) (l : Value) (g : Arguments) → Respects inv (call_clear w line l g)
respects-call_clear w line l g = search (respects, respects-guard, respects-positional, respects-no_value) depth 14

pub respects-extend : (w : Setting) {inv : Invariant w} (line : ℕ) (l : Value) (it : Value) → Respects inv (extend w line l it)
unfolding extend
respects-extend w line l it = search (respects, respects-count_of, respects-take_items, respects-guard, respects-add_item) depth 14

pub respects-call_extend : (w : Setting) {inv : Invariant w} (line : ℕ) (l : Value) (g : Arguments) → Respects inv (call_extend w line l g)
respects-call_extend w line l g = search (respects, respects-positional, respects-only_one, respects-extend) depth 14

pub respects-equal_place : (w : Setting) {inv : Invariant w} (levels : ℕ) (line : ℕ) (x : Value) (i : ℕ) (a5 : List Value) → Respects inv (equal_place w levels line x i a5)
respects-equal_place w levels line x i [] = search respects depth 14
respects-equal_place w {inv = inv} levels line x i (y ∷ ys) = let h1 : (z4 : ℕ) → Respects inv (equal_place w levels line x z4 ys) = λ z4. respects-equal_place w levels line x z4 ys in search (respects, respects-equal, h1) depth 14

pub respects-place_with : (w : Setting) {inv : Invariant w} (levels : ℕ) (line : ℕ) (l : Value) (x : Value) → Respects inv (place_with w levels line l x)
respects-place_with w levels line l x = search (respects, respects-with_items, respects-equal_place) depth 14

pub respects-index_of : (w : Setting) {inv : Invariant w} (levels : ℕ) (line : ℕ) (l : Value) (x : Value) → Respects inv (index_of w levels line l x)
respects-index_of w levels line l x = search (respects, respects-new_int, respects-place_with) depth 14

pub respects-within_bounds : (w : Setting) {inv : Invariant w} (levels : ℕ) (line : ℕ) (x : Value) (a b : Option ℤ) (ys : List Value) → Respects inv (within_bounds w levels line x a b ys)
respects-within_bounds w levels line x a b ys = respects-equal_place w levels line x _ _

pub respects-index_between : (w : Setting) {inv : Invariant w} (levels : ℕ) (line : ℕ) (l x : Value) (a b : Option Value) → Respects inv (index_between w levels line l x a b)
respects-index_between w levels line l x a b = search (respects, respects-want_part, respects-new_int, respects-with_items, respects-within_bounds) depth 14

pub respects-index_in : (w : Setting) {inv : Invariant w} (levels : ℕ) (line : ℕ) (l : Value) (d : Dialect) (xs : List Value) → Respects inv (index_in w levels line l d xs)
respects-index_in w levels line l d (x ∷ []) = respects-index_of w levels line l x
respects-index_in w levels line l dialect.Extended (x ∷ a ∷ []) = respects-index_between w levels line l x (Some a) None
respects-index_in w levels line l dialect.Extended (x ∷ a ∷ b ∷ []) = respects-index_between w levels line l x (Some a) (Some b)
respects-index_in w levels line l _ _ = search respects depth 14

pub respects-call_index : (w : Setting) {inv : Invariant w} (levels : ℕ) (line : ℕ) (l : Value) (g : Arguments) → Respects inv (call_index w levels line l g)
respects-call_index w levels line l g = search (respects, respects-positional, respects-index_in) depth 14

pub respects-call_insert : (w : Setting) {inv : Invariant w} (line : ℕ) (l : Value) (g : Arguments) → Respects inv (call_insert w line l g)
respects-call_insert w line l g = search (respects, respects-want_int, respects-guard, respects-positional, respects-two, respects-with_items) depth 14

pub respects-want_last : (w : Setting) {inv : Invariant w} (line : ℕ) (a2 : Option Value) → Respects inv (want_last w line a2)
respects-want_last w line None = search respects depth 14
respects-want_last w line (Some v) = search (respects, respects-want_int) depth 14

pub respects-call_pop : (w : Setting) {inv : Invariant w} (line : ℕ) (l : Value) (g : Arguments) → Respects inv (call_pop w line l g)
respects-call_pop w line l g = search (respects, respects-guard, respects-positional, respects-none_or_one, respects-with_items, respects-want_last) depth 14

pub respects-call_remove : (w : Setting) {inv : Invariant w} (levels : ℕ) (line : ℕ) (l : Value) (g : Arguments) → Respects inv (call_remove w levels line l g)
respects-call_remove w levels line l g = search (respects, respects-guard, respects-positional, respects-only_one, respects-place_with) depth 14
