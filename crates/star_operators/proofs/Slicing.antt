-- Slices, place by place.
use Rattle.std.proofs.Common.{◌≢◌, ◌≤◌, ◌*◌, ◌/◌, ℤ, nat_eq, nat_lt, Bool, true, false, ◌&&◌, if◌then◌else◌, length, take, drop, get_or}
use Rattle.std.specs.Ordering.{int_eq}
use Rattle.std.specs.List.{list_all}
use Rattle.std.proofs.lemmas.Bool.{and_from, and_right}
use Rattle.std.proofs.lemmas.Bool.Decides.{nat_tests, Decides-int_eq}
use Rattle.std.proofs.lemmas.Option.{slice_get-get_or}
use Rattle.std.proofs.Math.Seq.{drop-cons}
use Rattle.star_store.specs.Range.{range_length}
use Rattle.star_operators.specs.declared.slices.Span.{Span}
use Rattle.std.proofs.Common.{◌≡◌, ℕ, zero, suc, ◌+◌, ◌-◌, ◌<◌, List, [], ◌∷◌, ◌++◌, Option, Some, None, slice_get, pos, ◌+ℤ◌, ◌*ℤ◌, unsigned_abs, refl, ap, sym, ◌∙◌, append_assoc, arith}
use Rattle.star_store.specs.declared.range.Range.{Range}
use Rattle.star_operators.specs.Slices.{Parts, all_ascii, as_range, item_list, run}
use Rattle.star_meaning.specs.Subscript.{is_boundary, is_whole, picked, places_from, places_of, range_slice, sliced}
use Rattle.star_store.specs.declared.values.Value.{Value}
use Rattle.star_store.specs.declared.values.Cell.TheVariants as cell
use Rattle.star_meaning.specs.Values.{Content, Held, new_list, new_tuple}
use Rattle.std.proofs.lemmas.List.Folds.{list_all-append}

abbrev pub place : Range → ℕ → ℕ
place r i = unsigned_abs (r.start +ℤ pos i *ℤ r.step)

picked_one : {A : Type 0} (xs : List A) (p : ℕ) (ps : List ℕ) (o : Option A) → slice_get xs p ≡ o → picked xs (p ∷ ps) ≡ item_list o ++ picked xs ps
picked_one xs p ps None h = rw h refl
picked_one xs p ps (Some x) h = rw h refl

picked_more : {A : Type 0} (xs : List A) (r : Range) (n m i : ℕ) → n ≡ m + 1 → picked xs (places_from r n i) ≡ item_list (slice_get xs (place r i)) ++ picked xs (places_from r m (i + 1))
picked_more xs r zero m i h = absurd (omega arith)
picked_more xs r (suc n) m i h =
    let e : n ≡ m = omega arith in
    picked_one xs (place r i) (places_from r n (i + 1)) (slice_get xs (place r i)) refl ∙ ap (λ k. item_list (slice_get xs (place r i)) ++ picked xs (places_from r k (i + 1))) e

pub picked_next : {A : Type 0} (xs made : List A) (r : Range) (n i : ℕ) → i < n → (made ++ item_list (slice_get xs (place r i))) ++ picked xs (places_from r (n - (i + 1)) (i + 1)) ≡ made ++ picked xs (places_from r (n - i) i)
picked_next xs made r n i h = append_assoc made (item_list (slice_get xs (place r i))) (picked xs (places_from r (n - (i + 1)) (i + 1))) ∙ ap (λ ys. made ++ ys) (sym (picked_more xs r (n - i) (n - (i + 1)) i (omega arith)))

-- places one after another
steps_one : (g : ℕ) (e : Bool) → nat_eq g 0 ≡ e → (if e then 0 else (g - 1) / 1 + 1) ≡ g
steps_one g true h = grind (arith, nat_tests)
steps_one g false h = let k : 0 < g = grind (arith, nat_tests) in omega arith

run_length : (a b : ℕ) → range_length (run a b) ≡ b - a
run_length a b = steps_one (b - a) (nat_eq (b - a) 0) refl

is_whole_run : (t : List ℕ) (a b : ℕ) → a < b → is_whole t (run a b) ≡ (is_boundary t a && is_boundary t b)
is_whole_run t a b h = let e : nat_eq (b - a) 0 ≡ false = grind (arith, nat_tests) in rw (run_length a b, e) refl

picked_from : (t : List ℕ) (a b n i : ℕ) → a + i + n ≤ length t → picked t (places_from (run a b) n i) ≡ take n (drop (a + i) t)
picked_from t a b zero i h = refl
picked_from t a b (suc n) i h =
    let k : a + i < length t = omega arith in
    let p : a + i * 1 ≡ a + i = omega arith in
    let g = slice_get-get_or t (a + i) 0 k in
    let f = picked_from t a b n (i + 1) (omega arith) in
    let q : a + (i + 1) ≡ suc (a + i) = omega arith in
    picked_one t (a + i * 1) (places_from (run a b) n (i + 1)) (Some (get_or t (a + i) 0)) (rw p g) ∙ ap (λ ys. get_or t (a + i) 0 ∷ ys) (f ∙ ap (λ m. take n (drop m t)) q) ∙ sym (ap (take (suc n)) (drop-cons t (a + i) 0 k))

picked_run : (t : List ℕ) (a b : ℕ) → a ≤ b → b ≤ length t → picked t (places_of (run a b)) ≡ take (b - a) (drop a t)
picked_run t a b h k = rw (run_length a b) (let p : a + 0 ≡ a = omega arith in picked_from t a b (b - a) 0 (omega arith) ∙ ap (λ m. take (b - a) (drop m t)) p)

pub empty_part : (t u : List ℕ) (a b : ℕ) → b ≤ a → u ≡ [] → Parts (Some u) t (run a b)
empty_part t u a b h e = let z : b - a ≡ 0 = omega arith in (rw (run_length a b, z) refl, e ∙ sym (rw (run_length a b, z) refl))

pub whole_part : (t u : List ℕ) (a b : ℕ) → a < b → b ≤ length t → is_boundary t a ≡ true → is_boundary t b ≡ true → u ≡ take (b - a) (drop a t) → Parts (Some u) t (run a b)
whole_part t u a b h k p q e = (is_whole_run t a b h ∙ and_from (is_boundary t a) (is_boundary t b) p q, e ∙ sym (picked_run t a b (omega arith) k))

pub cut_before : (t : List ℕ) (a b : ℕ) → a < b → is_boundary t a ≡ false → Parts None t (run a b)
cut_before t a b h p = is_whole_run t a b h ∙ ap (λ e. e && is_boundary t b) p

pub cut_after : (t : List ℕ) (a b : ℕ) → a < b → is_boundary t a ≡ true → is_boundary t b ≡ false → Parts None t (run a b)
cut_after t a b h p q = is_whole_run t a b h ∙ and_right (is_boundary t a) (is_boundary t b) q

pub run_is : (t : List ℕ) (o : Option (List ℕ)) (s : Span) (a b : ℕ) → Parts o t (run a b) → s.step ≡ pos 1 → s.start ≡ pos a → s.stop ≡ pos b → Parts o t (as_range s)
run_is t o s a b h e f g = rw (e, f, g) h

-- bytes at places
is_whole_if : (t : List ℕ) (r : Range) (e : Bool) → int_eq r.step (pos 1) ≡ e → e ≡ false → is_whole t r ≡ list_all (λ b. nat_lt b 128) (picked t (places_of r))
is_whole_if t r true h k = cc
is_whole_if t r false h k = rw h refl

not_one : (z : ℤ) (e : Bool) → int_eq z (pos 1) ≡ e → z ≢ pos 1 → e ≡ false
not_one z true h k = absurd (k ((Decides-int_eq z (pos 1)).0 h))
not_one z false h k = refl

is_whole_spread : (t : List ℕ) (r : Range) → r.step ≢ pos 1 → is_whole t r ≡ list_all (λ b. nat_lt b 128) (picked t (places_of r))
is_whole_spread t r h = is_whole_if t r (int_eq r.step (pos 1)) refl (not_one r.step (int_eq r.step (pos 1)) refl h)

pub spread_whole : (t u : List ℕ) (r : Range) → r.step ≢ pos 1 → u ≡ picked t (places_of r) → list_all (λ b. nat_lt b 128) u ≡ true → Parts (Some u) t r
spread_whole t u r h e k = (is_whole_spread t r h ∙ ap (list_all (λ (b : ℕ). nat_lt b 128)) (sym e) ∙ k, e)

ascii_both : (u v : List ℕ) → all_ascii u ≡ true → all_ascii v ≡ true → all_ascii (u ++ v) ≡ true
ascii_both u v h k = list_all-append (λ b. nat_lt b 128) u v ∙ and_from (all_ascii u) (all_ascii v) h k

ascii_cut : (u v rest : List ℕ) → all_ascii v ≡ false → all_ascii (u ++ (v ++ rest)) ≡ false
ascii_cut u v rest h =
    let e = list_all-append (λ b. nat_lt b 128) u (v ++ rest) in
    let f = list_all-append (λ b. nat_lt b 128) v rest in
    e ∙ and_right (all_ascii u) (all_ascii (v ++ rest)) (f ∙ ap (λ e. e && all_ascii rest) h)

pub spread_next : (u v : List ℕ) (o : Option ℕ) → all_ascii u ≡ true → v ≡ u ++ item_list o → all_ascii (item_list o) ≡ true → all_ascii v ≡ true
spread_next u v o h e k = rw e (ascii_both u (item_list o) h k)

pub spread_cut : (t u : List ℕ) (r : Range) (n i : ℕ) → i < n → r.step ≢ pos 1 → u ++ picked t (places_from r (n - i) i) ≡ picked t (places_of r) → all_ascii (item_list (slice_get t (place r i))) ≡ false → is_whole t r ≡ false
spread_cut t u r n i h s e k =
    let m = picked_more t r (n - i) (n - (i + 1)) i (omega arith) in
    is_whole_spread t r s ∙ ap all_ascii (sym e ∙ ap (λ ys. u ++ ys) m) ∙ ascii_cut u (item_list (slice_get t (place r i))) (picked t (places_from r (n - (i + 1)) (i + 1))) k

-- slices of ranges
pub sliced_range : (line : ℕ) (c : Content) (r : Range) (f : ℕ → Range) → Held (cell.Range r) ≡ c → sliced line c f ≡ range_slice line r (f (range_length r))
sliced_range line c r f h = rw (← h) refl

-- slices of lists and tuples
pub sliced_list : (line : ℕ) (c : Content) (xs ys : List Value) (f : ℕ → Range) → Held (cell.List xs) ≡ c → ys ≡ picked xs (places_of (f (length xs))) → sliced line c f ≡ new_list line ys
sliced_list line c xs ys f h e = rw (← h, e) refl

pub sliced_tuple : (line : ℕ) (c : Content) (xs ys : List Value) (f : ℕ → Range) → Held (cell.Tuple xs) ≡ c → ys ≡ picked xs (places_of (f (length xs))) → sliced line c f ≡ new_tuple line ys
sliced_tuple line c xs ys f h e = rw (← h, e) refl
