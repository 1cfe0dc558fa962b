-- Rows of slots: the slot at a place, and the row after one place has changed.
use Rattle.std.proofs.Common.{◌≡◌, ℕ, zero, suc, ◌+◌, ◌-◌, ◌<◌, ◌≤◌, ◌≢◌, List, [], ◌∷◌, ◌++◌, length, set, replicate, slice_get, Option, Some, None, refl, ap, sym, ◌∙◌, arith, nat_eq, if◌then◌else◌}
use Rattle.std.specs.Option.{option_flatten, option_or}
use Rattle.std.specs.BTreeMap.{BTreeMap}
use Rattle.std.specs.Arc.{arc_slice_items}
use Rattle.std.specs.declared.sync.ArcSlice.{ArcSlice}
use Rattle.std.specs.Global.{Box, Global}
use Rattle.std.proofs.lemmas.Option.{slice_get_past}
use Rattle.std.proofs.lemmas.List.{set_past, length-append, length-replicate}
use Rattle.star_store.specs.declared.values.Value.{Value}
use Rattle.star_store.specs.declared.slots.DefaultLayer.{DefaultLayer}
use Rattle.star_store.specs.Slots.{default_at, far_at, row, slot_at, under_at}

-- ---- rows

pub row_at : {A : Type 0} (f : ℕ → A) (n at : ℕ) → at < n → slice_get (row f n) at ≡ Some (f at)
row_at f zero at h = absurd (omega arith)
row_at f (suc n) zero h = refl
row_at f (suc n) (suc at) h = row_at (λ i. f (suc i)) n at (omega arith)

pub row_past : {A : Type 0} (f : ℕ → A) (n at : ℕ) → n ≤ at → slice_get (row f n) at ≡ None
row_past f zero at h = refl
row_past f (suc n) zero h = absurd (omega arith)
row_past f (suc n) (suc at) h = row_past (λ i. f (suc i)) n at (omega arith)

pub row_same : {A : Type 0} (f g : ℕ → A) (n : ℕ) → ((i : ℕ) → f i ≡ g i) → row f n ≡ row g n
row_same f g zero h = refl
row_same f g (suc n) h = ap (λ x. x ∷ row (λ i. f (suc i)) n) (h 0) ∙ ap (λ xs. g 0 ∷ xs) (row_same (λ i. f (suc i)) (λ i. g (suc i)) n (λ i. h (suc i)))

pub row_all : {A : Type 0} (f : ℕ → A) (x : A) (n : ℕ) → ((i : ℕ) → f i ≡ x) → row f n ≡ replicate n x
row_all f x zero h = refl
row_all f x (suc n) h = ap (λ y. y ∷ row (λ i. f (suc i)) n) (h 0) ∙ ap (λ xs. x ∷ xs) (row_all (λ i. f (suc i)) x n (λ i. h (suc i)))

pub row_set : {A : Type 0} (f g : ℕ → A) (n at : ℕ) (x : A) → g at ≡ x → ((i : ℕ) → i ≢ at → g i ≡ f i) → set (row f n) at x ≡ row g n
row_set f g zero at x e h = refl
row_set f g (suc n) zero x e h =
    ap (λ y. y ∷ row (λ i. f (suc i)) n) (sym e) ∙ ap (λ xs. g 0 ∷ xs) (row_same (λ i. f (suc i)) (λ i. g (suc i)) n (λ i. sym (h (suc i) (omega arith))))
row_set f g (suc n) (suc at) x e h =
    ap (λ y. y ∷ set (row (λ i. f (suc i)) n) at x) (sym (h 0 (omega arith)))
    ∙ ap (λ xs. g 0 ∷ xs) (row_set (λ i. f (suc i)) (λ i. g (suc i)) n at x e (λ i d. h (suc i) (λ s. d (omega (arith, s)))))

row_length : {A : Type 0} (f : ℕ → A) (n : ℕ) → length (row f n) ≡ n
row_length f zero = refl
row_length f (suc n) = ap suc (row_length (λ i. f (suc i)) n)

pub row_beyond : {A : Type 0} (f : ℕ → A) (n at : ℕ) (x : A) → n ≤ at → row f n ≡ set (row f n) at x
row_beyond f n at x h = sym (set_past (row f n) at x (omega (arith, row_length f n)))

-- a slot has the value that the row has for it
pub row_near : (near : List (Option Value)) (far : Option (Box (BTreeMap ℕ Value))) (under : Option (Box DefaultLayer)) (n at : ℕ) (v : Value)
    → at < n → option_flatten (slice_get near at) ≡ Some v
    → option_flatten (slice_get (row (slot_at near far under) n) at) ≡ Some v
row_near near far under n at v h e =
    ap option_flatten (row_at (slot_at near far under) n at h)
    ∙ ap (λ x. option_or x (option_or (far_at far at) (under_at under at))) e

-- ---- lists with one changed place

set_at : {A : Type 0} (xs : List A) (at : ℕ) (x : A) → at < length xs → slice_get (set xs at x) at ≡ Some x
set_at [] at x h = absurd (omega arith)
set_at (y ∷ ys) zero x h = refl
set_at (y ∷ ys) (suc at) x h = set_at ys at x (omega arith)

set_other : {A : Type 0} (xs : List A) (at i : ℕ) (x : A) → i ≢ at → slice_get (set xs at x) i ≡ slice_get xs i
set_other [] at i x d = refl
set_other (y ∷ ys) zero zero x d = absurd (d refl)
set_other (y ∷ ys) zero (suc i) x d = refl
set_other (y ∷ ys) (suc at) zero x d = refl
set_other (y ∷ ys) (suc at) (suc i) x d = set_other ys at i x (λ s. d (ap (λ j. suc j) s))

room_unbound : (m i : ℕ) → option_flatten {T = Value} (slice_get (replicate m None) i) ≡ None
room_unbound zero i = refl
room_unbound (suc m) zero = refl
room_unbound (suc m) (suc i) = room_unbound m i

room : (near : List (Option Value)) (m i : ℕ) → option_flatten (slice_get (near ++ replicate m None) i) ≡ option_flatten (slice_get near i)
room [] m i = room_unbound m i
room (x ∷ xs) m zero = refl
room (x ∷ xs) m (suc i) = room xs m i

-- ---- slots

-- where no slot was bound
pub row_unbound : (m n : ℕ) → row (slot_at (replicate m None) None None) n ≡ replicate n None
row_unbound m n = row_all _ None n (λ i. ap (λ o. option_or o None) (room_unbound m i))

-- if no slot was bound, and the slots are over defaults
pub row_over : (near : List (Option Value)) (under : Box DefaultLayer) (ranks : ArcSlice (Option ℕ) Global) (ds : List Value) (n : ℕ)
    → near ≡ [] → under.value ≡ record { ranks = ranks; defaults = ds } → row (slot_at near None (Some under)) n ≡ row (default_at (arc_slice_items ranks) ds) n
row_over near under ranks ds n e h = row_same _ _ n (λ i. ap (λ xs. slot_at xs None (Some under) i) e ∙ ap (λ (u : DefaultLayer). default_at (arc_slice_items u.ranks) u.defaults i) h)

abbrev unbound : Option Value
unbound = None

width : (near : List (Option Value)) (at : ℕ) → length near ≤ at → at < length (near ++ replicate (at + 1 - length near) None)
width near at h = omega (arith, length-append near (replicate (at + 1 - length near) unbound), length-replicate (at + 1 - length near) unbound)

-- the value of a slot that has none in the row
abbrev rest : Option (Box (BTreeMap ℕ Value)) → Option (Box DefaultLayer) → ℕ → Option Value
rest far under at = option_or (far_at far at) (under_at under at)

-- a slot of the row gets a value, after room for it was made
pub row_put_near : (near new : List (Option Value)) (far : Option (Box (BTreeMap ℕ Value))) (under : Option (Box DefaultLayer)) (n at : ℕ) (v : Value)
    → length near ≤ at → new ≡ set (near ++ replicate (at + 1 - length near) None) at (Some v)
    → set (row (slot_at near far under) n) at (Some v) ≡ row (slot_at new far under) n
row_put_near near new far under n at v h put =
    let wide = near ++ replicate (at + 1 - length near) None in
    row_set _ _ n at (Some v)
    (ap (λ xs. slot_at xs far under at) put ∙ ap (λ o. option_or (option_flatten o) (rest far under at)) (set_at wide at (Some v) (width near at h)))
    (λ i d. ap (λ xs. slot_at xs far under i) put ∙ ap (λ o. option_or (option_flatten o) (rest far under i)) (set_other wide at i (Some v) d) ∙ ap (λ o. option_or o (rest far under i)) (room near (at + 1 - length near) i))

pub row_put_here : (near : List (Option Value)) (far : Option (Box (BTreeMap ℕ Value))) (under : Option (Box DefaultLayer)) (n at : ℕ) (v : Value)
    → at < length near → set (row (slot_at near far under) n) at (Some v) ≡ row (slot_at (set near at (Some v)) far under) n
row_put_here near far under n at v h =
    row_set _ _ n at (Some v)
    (ap (λ o. option_or (option_flatten o) (rest far under at)) (set_at near at (Some v) h))
    (λ i d. ap (λ o. option_or (option_flatten o) (rest far under i)) (set_other near at i (Some v) d))

here : (at : ℕ) (v : Value) (o : Option Value) → (if nat_eq at at then Some v else o) ≡ Some v
here at v o = grind arith

apart : (i at : ℕ) (v : Value) (o : Option Value) → i ≢ at → (if nat_eq i at then Some v else o) ≡ o
apart i at v o d = grind (arith, d)

-- a slot gets a value in the map
pub row_put_far : (near : List (Option Value)) (old new : Option (Box (BTreeMap ℕ Value))) (under : Option (Box DefaultLayer)) (n at : ℕ) (v : Value)
    → length near ≤ at → ((i : ℕ) → far_at new i ≡ (if nat_eq i at then Some v else far_at old i))
    → set (row (slot_at near old under) n) at (Some v) ≡ row (slot_at near new under) n
row_put_far near old new under n at v h put =
    row_set _ _ n at (Some v)
    (ap (λ o. option_or (option_flatten o) (rest new under at)) (slice_get_past near at h) ∙ ap (λ o. option_or o (under_at under at)) (put at ∙ here at v (far_at old at)))
    (λ i d. ap (λ o. option_or (option_flatten (slice_get near i)) (option_or o (under_at under i))) (put i ∙ apart i at v (far_at old i) d))

pub row_kept : (near : List (Option Value)) (old new : Option (Box (BTreeMap ℕ Value))) (under : Option (Box DefaultLayer)) (n : ℕ)
    → ((i : ℕ) → far_at new i ≡ far_at old i) → row (slot_at near new under) n ≡ row (slot_at near old under) n
row_kept near old new under n kept = row_same _ _ n (λ i. ap (λ o. option_or (option_flatten (slice_get near i)) (option_or o (under_at under i))) (kept i))
