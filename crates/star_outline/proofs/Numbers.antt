-- The first index of a list whose item passes a test.
use Rattle.std.proofs.Common.{◌≡◌, ◌+◌, ℕ, suc, Bool, true, false, ◌||◌, List, [], ◌∷◌, ◌++◌, Option, Some, None, arith, refl, ap, sym, ◌∙◌, length, map, nat_lt, not, cond, if◌then◌else◌}
use Rattle.std.specs.List.{find, list_any, position, position_or_len}
use Rattle.std.specs.Option.{option_map, option_and_then, option_or, is_some}
use Rattle.std.specs.Prelude.{slice_get}
use Rattle.std.specs.Bool.{nat_eq}
use Rattle.std.specs.Str.{bytes_eq}
use Rattle.std.proofs.lemmas.Slice.Eq.{bytes_eq-Decides}
use Rattle.star_outline.specs.declared.index.Index.{Index}
use Rattle.std.specs.BTreeMap.{BTreeMap, Updates, get_by}
use Rattle.std.specs.Cmp.Lexicographic.{slice_cmp}
use Rattle.std.specs.Ordering.{nat_cmp}
use Rattle.std.proofs.lemmas.Map.Text.{btree_map_updates_str}
use denote.Ref.{Bor}
use Rattle.star_outline.specs.Index.{Finds, HaveSlots, place_at}
use Rattle.star_outline.specs.Names.{Names, has_name, same_name, slot_of}

next : (b : Bool) (n l : ℕ) → (if nat_lt (cond (not b) (1 + n) 0) (suc l) then Some (cond (not b) (1 + n) 0) else None) ≡ (if b then Some 0 else option_map (λ i. suc i) (if nat_lt n l then Some n else None))
next true n l = grind arith
next false n l = grind arith

pub position_next : {A : Type 0} (p : A → Bool) (x : A) (xs : List A) → position p (x ∷ xs) ≡ (if p x then Some 0 else option_map (λ i. suc i) (position p xs))
position_next p x xs = next (p x) (position_or_len p xs) (length xs)

last : (b : Bool) → (if b then Some 0 else option_map (λ i. suc i) None) ≡ option_or None (if b then Some 0 else None)
last true = refl
last false = refl

further : (b c : Bool) (o : Option ℕ) (n : ℕ) → (if b then Some 0 else option_map (λ i. suc i) (option_or o (if c then Some n else None))) ≡ option_or (if b then Some 0 else option_map (λ i. suc i) o) (if c then Some (suc n) else None)
further true c o n = refl
further false c (Some i) n = refl
further false true None n = refl
further false false None n = refl

-- the first such index in a list with one item more
pub position_pushed : {A : Type 0} (p : A → Bool) (xs : List A) (x : A) → position p (xs ++ x ∷ []) ≡ option_or (position p xs) (if p x then Some (length xs) else None)
position_pushed p [] x = position_next p x [] ∙ last (p x)
position_pushed p (y ∷ ys) x =
    position_next p y (ys ++ x ∷ []) ∙ ap (λ o. if p y then Some 0 else option_map (λ i. suc i) o) (position_pushed p ys x)
    ∙ further (p y) (p x) (position p ys) (length ys)
    ∙ ap (λ o. option_or o (if p x then Some (suc (length ys)) else None)) (sym (position_next p y ys))

is_there : (b : Bool) (o : Option ℕ) → is_some (if b then Some 0 else option_map (λ i. suc i) o) ≡ (b || is_some o)
is_there true o = refl
is_there false None = refl
is_there false (Some i) = refl

-- there is such an index if an item passes the test
pub position_any : {A : Type 0} (p : A → Bool) (xs : List A) → is_some (position p xs) ≡ list_any p xs
position_any p [] = refl
position_any p (x ∷ xs) = ap is_some (position_next p x xs) ∙ is_there (p x) (position p xs) ∙ ap (λ b. p x || b) (position_any p xs)

found_there : {A : Type 0} (b : Bool) (o : Option ℕ) (x : A) (xs : List A) → cond b (Some x) (option_and_then (slice_get xs) o) ≡ option_and_then (slice_get (x ∷ xs)) (if b then Some 0 else option_map (λ i. suc i) o)
found_there true o x xs = refl
found_there false None x xs = refl
found_there false (Some i) x xs = refl

-- the item at that index is the first item that passes the test
pub find_position : {A : Type 0} (p : A → Bool) (xs : List A) → find p xs ≡ option_and_then (slice_get xs) (position p xs)
find_position p [] = refl
find_position p (x ∷ xs) = ap (λ o. cond (p x) (Some x) o) (find_position p xs) ∙ found_there (p x) (position p xs) x xs ∙ ap (option_and_then (slice_get (x ∷ xs))) (sym (position_next p x xs))

mapped : {A B : Type 0} (b : Bool) (f : A → B) (x : A) (o : Option A) → cond b (Some (f x)) (option_map f o) ≡ option_map f (cond b (Some x) o)
mapped true f x o = refl
mapped false f x o = refl

pub find_mapped : {A B : Type 0} (f : A → B) (p : B → Bool) (xs : List A) → find p (map f xs) ≡ option_map f (find (λ x. p (f x)) xs)
find_mapped f p [] = refl
find_mapped f p (x ∷ xs) = ap (λ o. cond (p (f x)) (Some (f x)) o) (find_mapped f p xs) ∙ mapped (p (f x)) f x (find (λ y. p (f y)) xs)

-- ---- items found by their numbers

pub finds_pushed : {A : Type 0} (number_of : A → ℕ) (xs : List A) (x : A) (old new : Index)
    → Finds number_of xs old
    → ((n : ℕ) → place_at new n ≡ option_or (place_at old n) (if nat_eq (number_of x) n then Some (length xs) else None))
    → Finds number_of (xs ++ x ∷ []) new
finds_pushed number_of xs x old new finds put n =
    put n ∙ ap (λ o. option_or o (if nat_eq (number_of x) n then Some (length xs) else None)) (finds n)
    ∙ sym (position_pushed (λ y. nat_eq (number_of y) n) xs x)

-- ---- slots found by names

no_place : (o : Option ℕ) → is_some o ≡ false → o ≡ None
no_place None e = refl
no_place (Some i) e = cc

named : (m n : List ℕ) (l : ℕ) (o : Option ℕ) → (m ≡ n → o ≡ None) → cond (bytes_eq n m) (Some l) o ≡ option_or o (if bytes_eq m n then Some l else None)
named m n l o free = grind (arith, bytes_eq-Decides m n, bytes_eq-Decides n m)

pub has_slot : (names : Names) (slots : BTreeMap (Bor (List ℕ)) ℕ) (name : List ℕ) → HaveSlots names slots → is_some (get_by (λ k. slice_cmp nat_cmp name k.now) slots) ≡ has_name names name
has_slot names slots name h = ap is_some (h name) ∙ position_any (same_name name) names

pub slots_pushed : (names : Names) (name : Bor (List ℕ)) (old new : BTreeMap (Bor (List ℕ)) ℕ)
    → HaveSlots names old → has_name names name.now ≡ false
    → Updates (λ x y. slice_cmp nat_cmp x.now y.now) old new name (Some (length names))
    → HaveSlots (names ++ name.now ∷ []) new
slots_pushed names name old new h absent updates cs =
    btree_map_updates_str name.now old new (Some (length names)) updates cs
    ∙ named cs name.now (length names) _ (λ e. h cs ∙ ap (λ n. slot_of n names) e ∙ no_place (slot_of name.now names) (position_any (same_name name.now) names ∙ absent))
    ∙ ap (λ o. option_or o (if bytes_eq cs name.now then Some (length names) else None)) (h cs)
    ∙ sym (position_pushed (same_name cs) names name.now)
