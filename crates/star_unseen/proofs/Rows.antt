-- Rows of which each item has a property.
use Rattle.std.proofs.Common.{◌≡◌, ℕ, zero, suc, List, [], ◌∷◌, ◌++◌, Option, Some, None, Bool, true, false, if◌then◌else◌, slice_get, slice_set, replicate, map, take, drop, subst}
use Rattle.std.specs.List.{insert, remove}
use Rattle.std.specs.Option.{option_map, option_and_then}
use Rattle.star_store.specs.Sorting.{in_order, placed}
use Rattle.star_unseen.specs.Veil.{Every, Maybe}

pub every_get : {A : Type 0} (P : A → Type 0) (xs : List A) (i : ℕ) → Every P xs → Maybe P (slice_get xs i)
every_get P [] i h = tt
every_get P (x ∷ xs) zero h = h.0
every_get P (x ∷ xs) (suc i) h = every_get P xs i h.1

pub every_append : {A : Type 0} (P : A → Type 0) (xs ys : List A) → Every P xs → Every P ys → Every P (xs ++ ys)
every_append P [] ys h k = k
every_append P (x ∷ xs) ys h k = (h.0, every_append P xs ys h.1 k)

pub every_set : {A : Type 0} (P : A → Type 0) (xs : List A) (i : ℕ) (x : A) → Every P xs → P x → Every P (slice_set xs i x)
every_set P [] i x h k = tt
every_set P (y ∷ xs) zero x h k = (k, h.1)
every_set P (y ∷ xs) (suc i) x h k = (h.0, every_set P xs i x h.1 k)

pub every_take : {A : Type 0} (P : A → Type 0) (i : ℕ) (xs : List A) → Every P xs → Every P (take i xs)
every_take P zero xs h = tt
every_take P (suc i) [] h = tt
every_take P (suc i) (x ∷ xs) h = (h.0, every_take P i xs h.1)

pub every_drop : {A : Type 0} (P : A → Type 0) (i : ℕ) (xs : List A) → Every P xs → Every P (drop i xs)
every_drop P zero xs h = h
every_drop P (suc i) [] h = tt
every_drop P (suc i) (x ∷ xs) h = every_drop P i xs h.1

pub every_remove : {A : Type 0} (P : A → Type 0) (xs : List A) (i : ℕ) → Every P xs → Every P (remove xs i)
every_remove P xs i h = every_append P (take i xs) (drop (suc i) xs) (every_take P i xs h) (every_drop P (suc i) xs h)

pub every_insert : {A : Type 0} (P : A → Type 0) (xs : List A) (i : ℕ) (x : A) → Every P xs → P x → Every P (insert xs i x)
every_insert P xs i x h k = every_append P (take i xs) (x ∷ drop i xs) (every_take P i xs h) (k, every_drop P i xs h)

pub every_replicate : {A : Type 0} (P : A → Type 0) (n : ℕ) (x : A) → P x → Every P (replicate n x)
every_replicate P zero x h = tt
every_replicate P (suc n) x h = (h, every_replicate P n x h)

pub every_map : {A B : Type 0} (P : A → Type 0) (Q : B → Type 0) (f : A → B) → ((x : A) → P x → Q (f x)) → (xs : List A) → Every P xs → Every Q (map f xs)
every_map P Q f k [] h = tt
every_map P Q f k (x ∷ xs) h = (k x h.0, every_map P Q f k xs h.1)

-- what is made of one that may be there
pub maybe_map : {A B : Type 0} (P : A → Type 0) (Q : B → Type 0) (f : A → B) → ((x : A) → P x → Q (f x)) → (o : Option A) → Maybe P o → Maybe Q (option_map f o)
maybe_map P Q f k None h = tt
maybe_map P Q f k (Some x) h = k x h

pub maybe_then : {A B : Type 0} (P : A → Type 0) (Q : B → Type 0) (f : A → Option B) → ((x : A) → P x → Maybe Q (f x)) → (o : Option A) → Maybe P o → Maybe Q (option_and_then f o)
maybe_then P Q f k None h = tt
maybe_then P Q f k (Some x) h = k x h

pub maybe_if : {A : Type 0} (P : A → Type 0) (b : Bool) (o p : Option A) → Maybe P o → Maybe P p → Maybe P (if b then o else p)
maybe_if P true o p h k = h
maybe_if P false o p h k = k

-- the one that is there
pub is_there : {A : Type 0} (P : A → Type 0) (o : Option A) (x : A) → Maybe P o → o ≡ Some x → P x
is_there P o x h e = subst (Maybe P) e h

-- ---- sorted rows

every_choice : {A : Type 0} (P : A → Type 0) (b : Bool) (xs ys : List A) → Every P xs → Every P ys → Every P (if b then xs else ys)
every_choice P true xs ys h k = h
every_choice P false xs ys h k = k

every_placed : {A : Type 0} (P : A → Type 0) (before : A → A → Bool) (x : A) (ys : List A) → P x → Every P ys → Every P (placed before x ys)
every_placed P before x [] h k = (h, tt)
every_placed P before x (y ∷ ys) h k = every_choice P (before y x) (y ∷ placed before x ys) (x ∷ y ∷ ys) (k.0, every_placed P before x ys h k.1) (h, k)

pub every_in_order : {A : Type 0} (P : A → Type 0) (before : A → A → Bool) (xs : List A) → Every P xs → Every P (in_order before xs)
every_in_order P before [] h = tt
every_in_order P before (x ∷ xs) h = every_placed P before x (in_order before xs) h.0 (every_in_order P before xs h.1)
