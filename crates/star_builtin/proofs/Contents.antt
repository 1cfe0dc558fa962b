-- Ints, and strings, have the same order as their contents.
use Rattle.std.proofs.Common.{◌≡◌, List, [], ◌∷◌, map, Bool, true, false, ◌&&◌, ◌||◌, if◌then◌else◌, refl, sym, ap, ◌∙◌}
use Rattle.std.specs.List.{list_all}
use Rattle.std.specs.Cmp.{IsStrictWeakOrder}
use Rattle.std.specs.Ordering.{is_lt, ordering_then, int_cmp}
use Rattle.std.specs.declared.cmp.Ordering.{Ordering}
use Rattle.std.specs.declared.cmp.Ordering.TheVariants.{Less, Equal, Greater}
use Rattle.std.proofs.lemmas.Cmp.{int_cmp_total, nat_list_cmp_total, on_total, then_total}
use Rattle.std.proofs.lemmas.List.Sorted.{ranks_by}
use Rattle.star_store.specs.declared.values.Value.{Value}
use Rattle.star_store.specs.declared.values.Cell.TheVariants as cell
use Rattle.star_meaning.specs.Run.{State}
use Rattle.star_meaning.specs.Program.{Setting}
use Rattle.star_meaning.specs.Values.{Content, Nothing, Truth, Number, BuiltInFunction, Held, Nowhere, content}
use Rattle.star_machine.specs.Kinds.{bytes_of}
use Rattle.star_meaning.specs.Orders.{is_int, is_text, can_sort, is_before}
use Rattle.star_store.specs.Sorting.{placed, in_order}
use Rattle.star_builtin.specs.Orders.{int_in, by_contents}

both : (a b : Bool) → (a && b) ≡ true → (a ≡ true) × (b ≡ true)
both true b e = (refl, e)
both false b e = cc

either : (a b : Bool) → (a || b) ≡ true → (b ≡ true → a ≡ true) → a ≡ true
either true b e h = refl
either false b e h = h e

module _ {A : Type 0} (p : A → Bool) (f g : A → A → Bool) (alike : (x y : A) → p x ≡ true → p y ≡ true → f x y ≡ g x y) where
  all_turn : (x y : A) (ys : List A) (b : Bool) → g y x ≡ b → p x ≡ true → list_all p (y ∷ ys) ≡ true → list_all p (placed g x ys) ≡ true → list_all p (placed g x (y ∷ ys)) ≡ true
  all_turn x y ys true e h k ih = rw (e, (both (p y) (list_all p ys) k).0) ih
  all_turn x y ys false e h k ih = rw (e, h) k

  all_placed : (x : A) (ys : List A) → p x ≡ true → list_all p ys ≡ true → list_all p (placed g x ys) ≡ true
  all_placed x [] h k = rw h refl
  all_placed x (y ∷ ys) h k = all_turn x y ys (g y x) refl h k (all_placed x ys h (both (p y) (list_all p ys) k).1)

  all_in_order : (xs : List A) → list_all p xs ≡ true → list_all p (in_order g xs) ≡ true
  all_in_order [] k = refl
  all_in_order (x ∷ xs) k = all_placed x (in_order g xs) (both (p x) (list_all p xs) k).0 (all_in_order xs (both (p x) (list_all p xs) k).1)

  placed_alike : (x : A) (ys : List A) → p x ≡ true → list_all p ys ≡ true → placed f x ys ≡ placed g x ys
  placed_alike x [] h k = refl
  placed_alike x (y ∷ ys) h k =
      let b = both (p y) (list_all p ys) k in
      rw (alike y x b.0 h) (ap (λ l. if g y x then y ∷ l else x ∷ y ∷ ys) (placed_alike x ys h b.1))

  pub order_alike : (xs : List A) → list_all p xs ≡ true → in_order f xs ≡ in_order g xs
  order_alike [] k = refl
  order_alike (x ∷ xs) k =
      let b = both (p x) (list_all p xs) k in
      ap (placed f x) (order_alike xs b.1) ∙ placed_alike x (in_order g xs) b.0 (all_in_order xs b.1)

all_map : (q : Content → Bool) (f : Value → Content) (xs : List Value) → list_all q (map f xs) ≡ list_all (λ v. q (f v)) xs
all_map q f [] = refl
all_map q f (x ∷ xs) = ap (λ b. q (f x) && b) (all_map q f xs)

then_equal : (o : Ordering) → is_lt (ordering_then o Equal) ≡ is_lt o
then_equal Less = refl
then_equal Equal = refl
then_equal Greater = refl

pub ints_alike : (c d : Content) → is_int c ≡ true → is_int d ≡ true → is_before c d ≡ is_lt (by_contents c d)
ints_alike (Number x) (Number y) h k = sym (then_equal (int_cmp x y))
ints_alike (Number x) Nothing h k = cc
ints_alike (Number x) (Truth b) h k = cc
ints_alike (Number x) (BuiltInFunction b) h k = cc
ints_alike (Number x) (Held b) h k = cc
ints_alike (Number x) Nowhere h k = cc
ints_alike Nothing d h k = cc
ints_alike (Truth b) d h k = cc
ints_alike (BuiltInFunction b) d h k = cc
ints_alike (Held b) d h k = cc
ints_alike Nowhere d h k = cc

held_text : (c : Content) → is_text c ≡ true → c ≡ Held (cell.Text (bytes_of c))
held_text (Held (cell.Text t)) h = refl
held_text _ h = cc

pub texts_alike : (c d : Content) → is_text c ≡ true → is_text d ≡ true → is_before c d ≡ is_lt (by_contents c d)
texts_alike c d h k =
    let e = held_text c h in
    let f = held_text d k in
    ap (λ a. is_before a d) e ∙ ap (λ b. is_before (Held (cell.Text (bytes_of c))) b) f
    ∙ sym (ap (λ a. is_lt (by_contents a d)) e ∙ ap (λ b. is_lt (by_contents (Held (cell.Text (bytes_of c))) b)) f)

order_by : (w : Setting) (s : State) (xs : List Value) (a b : Bool) → list_all (λ v. is_int (content w s v)) xs ≡ a → list_all (λ v. is_text (content w s v)) xs ≡ b → (a || b) ≡ true → in_order (λ x y. is_before (content w s x) (content w s y)) xs ≡ in_order (λ x y. is_lt (by_contents (content w s x) (content w s y))) xs
order_by w s xs true b h k e = order_alike (λ v. is_int (content w s v)) (λ x y. is_before (content w s x) (content w s y)) (λ x y. is_lt (by_contents (content w s x) (content w s y))) (λ x y p q. ints_alike (content w s x) (content w s y) p q) xs h
order_by w s xs false b h k e = order_alike (λ v. is_text (content w s v)) (λ x y. is_before (content w s x) (content w s y)) (λ x y. is_lt (by_contents (content w s x) (content w s y))) (λ x y p q. texts_alike (content w s x) (content w s y) p q) xs (k ∙ e)

-- values that can be sorted are in the order of their contents
pub order_same : (w : Setting) (s : State) (xs : List Value) → can_sort (map (content w s) xs) ≡ true → in_order (λ x y. is_before (content w s x) (content w s y)) xs ≡ in_order (λ x y. is_lt (by_contents (content w s x) (content w s y))) xs
order_same w s xs h = order_by w s xs (list_all (λ v. is_int (content w s v)) xs) (list_all (λ v. is_text (content w s v)) xs) refl refl (ap (λ b. b || list_all (λ v. is_text (content w s v)) xs) (sym (all_map is_int (content w s) xs)) ∙ ap (λ b. list_all is_int (map (content w s) xs) || b) (sym (all_map is_text (content w s) xs)) ∙ h)

-- the order of contents compares any two values
pub contents_rank : (w : Setting) (s : State) → IsStrictWeakOrder (λ x y. is_lt (by_contents (content w s x) (content w s y)))
contents_rank w s = ranks_by (then_total (on_total int_in int_cmp_total) (on_total bytes_of nat_list_cmp_total)) (content w s)
