-- The methods of lists over two shelves: each does the same, and leaves what is visible.
use Rattle.std.proofs.Common.{ℕ, ℤ, ◌+◌, List, [], ◌∷◌, length, Option, Some, None, pos, negsuc, zero, suc, take, drop}
use Rattle.star_store.specs.declared.values.Value.{Value}
use Rattle.star_store.specs.declared.values.Value.TheVariants as value
use Rattle.star_store.specs.declared.values.Cell.TheVariants as cell
use Rattle.star_store.specs.declared.arena.write.Change.TheVariants as change_to
use Rattle.star_meaning.specs.declared.fault.FaultCode.TheVariants as code
use Rattle.star_meaning.specs.declared.given.Arguments.{Arguments}
use Rattle.star_meaning.specs.Run.{Action, ◌>>=◌, give}
use Rattle.star_meaning.specs.Program.{Setting}
use Rattle.star_meaning.specs.Values.{Content, Held}
use Rattle.star_meaning.specs.Subscript.{place_from}
use Rattle.star_meaning.specs.Arguments.{only_one, positional}
use Rattle.star_dialect.specs.declared.Dialect.{Dialect}
use Rattle.star_dialect.specs.declared.Dialect.TheVariants as dialect
use Rattle.star_meaning.specs.ListMethods.{items_of, with_items, add_item, call_append, call_clear, extend, call_extend, equal_place, place_with, index_of, item_bound, within_bounds, index_between, index_in, call_index, insert_place, call_insert, want_last, call_pop, call_remove}
use Rattle.star_unseen.specs.Veil.{Hides, AreVisible, IsVisible, VisibleIfThere}
use Rattle.star_unseen.specs.Shelves.{Veil, with_other}
use Rattle.star_unseen.proofs.Looks.{ContentIsVisible}
use Rattle.star_unseen.proofs.Visible.{ArgumentsAreVisible}
use Rattle.star_unseen.proofs.Alike.{Alike, Any, alike_all_of, alike_content, alike_fail, alike_found, alike_give, alike_if, alike_pay, alike_then}
use Rattle.star_unseen.proofs.Writes.{alike-change, alike-guard}
use Rattle.star_unseen.proofs.Values.{alike-count_of, alike-equal, alike-new_int, alike-take_items, alike-want_int}
use Rattle.star_unseen.proofs.Subscript.{alike-want_part, alike_found_any}
use Rattle.star_unseen.proofs.Arguments.{alike-no_value, alike-none_or_one, alike-only_one, alike-positional, alike-two}

pub visible-items_of : {w : Setting} (k : Veil w) (c : Content) → ContentIsVisible k.hides c → AreVisible k.hides (items_of c)
visible-items_of k (Held (cell.List xs)) h = h
visible-items_of k _ h = tt

pub alike-with_items : {A : Type 0} {w : Setting} (k : Veil w) (P : A → Type 0) (l : Value) (f g : List Value → Action A) → IsVisible k.hides l → ((xs : List Value) → AreVisible k.hides xs → Alike k P (f xs) (g xs)) → Alike k P (with_items w l f) (with_items (with_other k.other w) l g)
alike-with_items k P l f g h hf = alike_content P l _ _ h (λ c hc. hf (items_of c) (visible-items_of k c hc))

pub alike-add_item : {w : Setting} (k : Veil w) (line : ℕ) (l x : Value) → IsVisible k.hides l → IsVisible k.hides x → Alike k Any (add_item w line l x) (add_item (with_other k.other w) line l x)
alike-add_item k line l x h hx = alike_then (alike-change k line l (change_to.Append x) h hx) (λ _ _. alike_give {A = Unit {0}} Any tt tt)

-- the one positional argument
one_argument : {w : Setting} (k : Veil w) (line : ℕ) (g : Arguments) → ArgumentsAreVisible k.hides g → Alike k (IsVisible k.hides) (positional line g >>= only_one line) (positional line g >>= only_one line)
one_argument k line g h = alike_then (alike-positional k line g h) (λ xs hx. alike-only_one k line xs hx)

alike_none : {w : Setting} (k : Veil w) → Alike k (IsVisible k.hides) (give value.NoneValue) (give value.NoneValue)
alike_none k = alike_give (IsVisible k.hides) value.NoneValue tt

pub alike-call_append : {w : Setting} (k : Veil w) (line : ℕ) (l : Value) (g : Arguments) → IsVisible k.hides l → ArgumentsAreVisible k.hides g → Alike k (IsVisible k.hides) (call_append w line l g) (call_append (with_other k.other w) line l g)
alike-call_append k line l g h hg = alike_then (one_argument k line g hg) (λ x hx. alike_then (alike-guard k line l h) (λ _ _. alike_then (alike_pay line 1) (λ _ _. alike_then (alike-add_item k line l x h hx) (λ _ _. alike_none k))))

pub alike-call_clear : {w : Setting} (k : Veil w) (line : ℕ) (l : Value) (g : Arguments) → IsVisible k.hides l → ArgumentsAreVisible k.hides g → Alike k (IsVisible k.hides) (call_clear w line l g) (call_clear (with_other k.other w) line l g)
alike-call_clear k line l g h hg = alike_then (alike_then (alike-positional k line g hg) (λ xs hx. alike-no_value k line xs hx)) (λ _ _. alike_then (alike-guard k line l h) (λ _ _. alike_then (alike-change k line l change_to.Clear h tt) (λ _ _. alike_none k)))

pub alike-extend : {w : Setting} (k : Veil w) (line : ℕ) (l it : Value) → IsVisible k.hides l → IsVisible k.hides it → Alike k Any (extend w line l it) (extend (with_other k.other w) line l it)
unfolding extend
alike-extend k line l it h hi = alike_then (alike-count_of k line it hi) (λ n _. alike_then (alike-guard k line l h) (λ _ _. alike_then (alike-take_items k line it n hi) (λ xs hx. alike_then (alike_pay line n) (λ _ _. alike_all_of (IsVisible k.hides) _ _ xs hx (λ x p. alike-add_item k line l x h p)))))

pub alike-call_extend : {w : Setting} (k : Veil w) (line : ℕ) (l : Value) (g : Arguments) → IsVisible k.hides l → ArgumentsAreVisible k.hides g → Alike k (IsVisible k.hides) (call_extend w line l g) (call_extend (with_other k.other w) line l g)
alike-call_extend k line l g h hg = alike_then (one_argument k line g hg) (λ it hi. alike_then (alike-extend k line l it h hi) (λ _ _. alike_none k))

pub alike-equal_place : {w : Setting} (k : Veil w) (levels line : ℕ) (x : Value) (i : ℕ) (ys : List Value) → IsVisible k.hides x → AreVisible k.hides ys → Alike k Any (equal_place w levels line x i ys) (equal_place (with_other k.other w) levels line x i ys)
alike-equal_place k levels line x i [] h hy = alike_give {A = Option ℕ} Any None tt
alike-equal_place k levels line x i (y ∷ ys) h hy = alike_then (alike-equal k levels line y x hy.0 h) (λ b _. alike_if Any b _ _ _ _ (alike_give Any (Some i) tt) (alike-equal_place k levels line x (i + 1) ys h hy.1))

pub alike-place_with : {w : Setting} (k : Veil w) (levels line : ℕ) (l x : Value) → IsVisible k.hides l → IsVisible k.hides x → Alike k Any (place_with w levels line l x) (place_with (with_other k.other w) levels line l x)
alike-place_with k levels line l x h hx = alike_then (alike-with_items k Any l _ _ h (λ xs hs. alike-equal_place k levels line x 0 xs hx hs)) (λ o _. alike_found_any code.BadValue line o)

alike-index_of : {w : Setting} (k : Veil w) (levels line : ℕ) (l x : Value) → IsVisible k.hides l → IsVisible k.hides x → Alike k (IsVisible k.hides) (index_of w levels line l x) (index_of (with_other k.other w) levels line l x)
alike-index_of k levels line l x h hx = alike_then (alike-place_with k levels line l x h hx) (λ i _. alike-new_int k line (pos i))

every_take : (hides : Hides) (n : ℕ) (xs : List Value) → AreVisible hides xs → AreVisible hides (take n xs)
every_take hides zero xs h = tt
every_take hides (suc n) [] h = tt
every_take hides (suc n) (x ∷ xs) h = (h.0, every_take hides n xs h.1)

every_drop : (hides : Hides) (n : ℕ) (xs : List Value) → AreVisible hides xs → AreVisible hides (drop n xs)
every_drop hides zero xs h = h
every_drop hides (suc n) [] h = tt
every_drop hides (suc n) (x ∷ xs) h = every_drop hides n xs h.1

alike-within_bounds : {w : Setting} (k : Veil w) (levels line : ℕ) (x : Value) (a b : Option ℤ) (ys : List Value) → IsVisible k.hides x → AreVisible k.hides ys → Alike k Any (within_bounds w levels line x a b ys) (within_bounds (with_other k.other w) levels line x a b ys)
alike-within_bounds k levels line x a b ys h hy =
    let from = item_bound (length ys) 0 a in
    let to = item_bound (length ys) (length ys) b in
    alike-equal_place k levels line x from (drop from (take to ys)) h (every_drop k.hides from (take to ys) (every_take k.hides to ys hy))

alike-index_between : {w : Setting} (k : Veil w) (levels line : ℕ) (l x : Value) (a b : Option Value) → IsVisible k.hides l → IsVisible k.hides x → VisibleIfThere k.hides a → VisibleIfThere k.hides b → Alike k (IsVisible k.hides) (index_between w levels line l x a b) (index_between (with_other k.other w) levels line l x a b)
alike-index_between k levels line l x a b h hx ha hb =
    alike_then (alike-want_part k line a ha) (λ from _. alike_then (alike-want_part k line b hb) (λ to _.
    alike_then (alike_then (alike-with_items k Any l _ _ h (λ ys hy. alike-within_bounds k levels line x from to ys hx hy)) (λ o _. alike_found_any code.BadValue line o)) (λ i _. alike-new_int k line (pos i))))

alike-index_in : {w : Setting} (k : Veil w) (levels line : ℕ) (l : Value) (d : Dialect) (xs : List Value) → IsVisible k.hides l → AreVisible k.hides xs → Alike k (IsVisible k.hides) (index_in w levels line l d xs) (index_in (with_other k.other w) levels line l d xs)
alike-index_in k levels line l d (x ∷ []) h hx = alike-index_of k levels line l x h hx.0
alike-index_in k levels line l dialect.Extended (x ∷ a ∷ []) h hx = alike-index_between k levels line l x (Some a) None h hx.0 (hx.1).0 tt
alike-index_in k levels line l dialect.Extended (x ∷ a ∷ b ∷ []) h hx = alike-index_between k levels line l x (Some a) (Some b) h hx.0 (hx.1).0 ((hx.1).1).0
alike-index_in k levels line l _ _ h hx = alike_fail Value (IsVisible k.hides) code.Args line

pub alike-call_index : {w : Setting} (k : Veil w) (levels line : ℕ) (l : Value) (g : Arguments) → IsVisible k.hides l → ArgumentsAreVisible k.hides g → Alike k (IsVisible k.hides) (call_index w levels line l g) (call_index (with_other k.other w) levels line l g)
alike-call_index {w = w} k levels line l g h hg = alike_then (alike-positional k line g hg) (λ xs hx. alike-index_in k levels line l w.language.dialect xs h hx)

pub alike-call_insert : {w : Setting} (k : Veil w) (line : ℕ) (l : Value) (g : Arguments) → IsVisible k.hides l → ArgumentsAreVisible k.hides g → Alike k (IsVisible k.hides) (call_insert w line l g) (call_insert (with_other k.other w) line l g)
alike-call_insert k line l g h hg = alike_then (alike_then (alike-positional k line g hg) (λ xs hx. alike-two k line xs hx)) (λ a ha.
    alike_then (alike-want_int k line a.0 ha.0) (λ z _. alike_then (alike-guard k line l h) (λ _ _. alike_then (alike_pay line 1) (λ _ _.
    alike_then (alike-with_items k (VisibleIfThere k.hides) l _ _ h (λ xs hx. alike-change k line l (change_to.Insert (insert_place (length xs) z) a.1) h ha.1)) (λ _ _. alike_none k)))))

pub alike-want_last : {w : Setting} (k : Veil w) (line : ℕ) (o : Option Value) → VisibleIfThere k.hides o → Alike k Any (want_last w line o) (want_last (with_other k.other w) line o)
alike-want_last k line None h = alike_give {A = ℤ} Any (negsuc 0) tt
alike-want_last k line (Some v) h = alike-want_int k line v h

pub alike-call_pop : {w : Setting} (k : Veil w) (line : ℕ) (l : Value) (g : Arguments) → IsVisible k.hides l → ArgumentsAreVisible k.hides g → Alike k (IsVisible k.hides) (call_pop w line l g) (call_pop (with_other k.other w) line l g)
alike-call_pop k line l g h hg = alike_then (alike_then (alike-positional k line g hg) (λ xs hx. alike-none_or_one k line xs hx)) (λ i hi.
    alike_then (alike-want_last k line i hi) (λ z _. alike_then (alike-guard k line l h) (λ _ _.
    alike_then (alike-with_items k Any l _ _ h (λ xs hx. alike_found_any code.Index line (place_from (length xs) z))) (λ at _.
    alike_then (alike-change k line l (change_to.RemoveAt at) h tt) (λ x hx. alike_found (IsVisible k.hides) code.Index line x hx)))))

pub alike-call_remove : {w : Setting} (k : Veil w) (levels line : ℕ) (l : Value) (g : Arguments) → IsVisible k.hides l → ArgumentsAreVisible k.hides g → Alike k (IsVisible k.hides) (call_remove w levels line l g) (call_remove (with_other k.other w) levels line l g)
alike-call_remove k levels line l g h hg = alike_then (one_argument k line g hg) (λ x hx. alike_then (alike-guard k line l h) (λ _ _. alike_then (alike-place_with k levels line l x h hx) (λ i _. alike_then (alike-change k line l (change_to.RemoveAt i) h tt) (λ _ _. alike_none k))))
