-- Entries whose keys differ: they stay so where strings and tuples stay, and after each change of a dictionary.
use Rattle.std.proofs.Common.{◌≡◌, ℕ, zero, suc, Bool, true, false, List, [], ◌∷◌, ◌++◌, slice_get, slice_set, Option, Some, None, if◌then◌else◌, refl, ap, sym, subst, ◌∙◌}
use Rattle.std.specs.List.{position, remove}
use Rattle.std.specs.Option.{option_map}
use Rattle.std.proofs.lemmas.Slice.Eq.{bytes_eq-Decides}
use Rattle.star_store.specs.declared.values.Value.{Value}
use Rattle.star_store.specs.declared.values.Value.TheVariants as value
use Rattle.star_store.specs.declared.values.Cell.{Cell}
use Rattle.star_store.specs.declared.values.Cell.TheVariants as cell
use Rattle.star_store.specs.Key.{is_key, key_cell, key_value, place_of, same_key, same_key_cell, same_key_value}
use Rattle.star_outline.proofs.Numbers.{position_next}
use Rattle.star_data.specs.Data.{cell_of, text_in}
use Rattle.star_data.proofs.Parts.{is_text}
use Rattle.star_once.specs.Keys.{Apart, ApartFrom, Differ, IsFixed, IsThere, LeadsToFixed}

-- a property of a list, with or without an element before it
pub with_or_without : {A : Type 0} (P : List A → Type 0) (b : Bool) (x : A) (xs : List A) → P (x ∷ xs) → P xs → P (if b then x ∷ xs else xs)
with_or_without P true x xs one rest = one
with_or_without P false x xs one rest = rest

-- strings and tuples stay
abbrev pub Stay : (Value → Option Cell) → (Value → Option Cell) → Type 0
Stay look see = (v : Value) (c : Cell) → look v ≡ Some c → IsFixed c → see v ≡ Some c

same_by : (look see : Value → Option Cell) (v : Value) (o : Option Cell) → Stay look see → look v ≡ o → LeadsToFixed o → see v ≡ look v
same_by look see v (Some c) k e f = k v c e f ∙ sym e
same_by look see v None k e f = absurd f

same_cell : (look see : Value → Option Cell) (v : Value) → Stay look see → IsThere look v → cell_of see v ≡ cell_of look v
same_cell look see (value.Ref h a) k t = same_by look see (value.Ref h a) (look (value.Ref h a)) k refl t
same_cell look see _ k t = refl

pub there_stays : (look see : Value → Option Cell) (v : Value) → Stay look see → IsThere look v → IsThere see v
there_stays look see (value.Ref h a) k t = subst LeadsToFixed (sym (same_by look see (value.Ref h a) (look (value.Ref h a)) k refl t)) t
there_stays look see value.NoneValue k t = tt
there_stays look see (value.Bool b) k t = tt
there_stays look see (value.Int n) k t = tt
there_stays look see (value.Builtin b) k t = tt

apart_stays : (look see : Value → Option Cell) (x y : Value) → Stay look see → IsThere look x → IsThere look y → Apart look x y → Apart see x y
apart_stays look see x y k a b h t p q = h t (ap text_in (sym (same_cell look see x k a)) ∙ p) (ap text_in (sym (same_cell look see y k b)) ∙ q)

from_stays : (look see : Value → Option Cell) (x : Value) (es : List (Value × Value)) → Stay look see → IsThere look x → ApartFrom look x es → Differ look es → ApartFrom see x es
from_stays look see x [] k t h d = tt
from_stays look see x (e ∷ es) k t h d = (apart_stays look see x e.0 k t d.0 h.0, from_stays look see x es k t h.1 d.2)

pub differ_stays : (look see : Value → Option Cell) (es : List (Value × Value)) → Stay look see → Differ look es → Differ see es
differ_stays look see [] k d = tt
differ_stays look see (e ∷ es) k d = (there_stays look see e.0 k d.0, from_stays look see e.0 es k d.0 d.1 d.2, differ_stays look see es k d.2)

-- ---- no string twice, by places

from_at : (look : Value → Option Cell) (x : Value) (es : List (Value × Value)) (i : ℕ) (e : Value × Value) → ApartFrom look x es → slice_get es i ≡ Some e → Apart look x e.0
from_at look x [] i e h at = absurd (let no : ⊥ = cc in no)
from_at look x (y ∷ es) zero e h at = let same : y ≡ e = cc in subst (λ (z : Value × Value). Apart look x z.0) same h.0
from_at look x (y ∷ es) (suc i) e h at = from_at look x es i e h.1 at

pub once : (look : Value → Option Cell) (es : List (Value × Value)) → Differ look es → (i j : ℕ) (x y : Value × Value) (t : List ℕ) → slice_get es i ≡ Some x → slice_get es j ≡ Some y → text_in (cell_of look x.0) ≡ Some t → text_in (cell_of look y.0) ≡ Some t → i ≡ j
once look [] d i j x y t a b p q = absurd (let no : ⊥ = cc in no)
once look (e ∷ es) d zero zero x y t a b p q = refl
once look (e ∷ es) d zero (suc j) x y t a b p q = let same : e ≡ x = cc in absurd (from_at look e.0 es j y d.1 b t (ap (λ (z : Value × Value). text_in (cell_of look z.0)) same ∙ p) q)
once look (e ∷ es) d (suc i) zero x y t a b p q = let same : e ≡ y = cc in absurd (from_at look e.0 es i x d.1 a t (ap (λ (z : Value × Value). text_in (cell_of look z.0)) same ∙ q) p)
once look (e ∷ es) d (suc i) (suc j) x y t a b p q = ap suc (once look es d.2 i j x y t a b p q)

-- ---- a value that is a key is there

key_there : (f : Value → Bool) (o : Option Cell) → key_cell f o ≡ true → LeadsToFixed o
key_there f (Some (cell.Text t)) h = tt
key_there f (Some (cell.Tuple xs)) h = tt
key_there f (Some (cell.Struct fs)) h = tt
key_there f (Some (cell.List xs)) h = absurd (let no : ⊥ = cc in no)
key_there f (Some (cell.Dict xs)) h = absurd (let no : ⊥ = cc in no)
key_there f (Some (cell.Range xs)) h = absurd (let no : ⊥ = cc in no)
key_there f (Some (cell.Set xs)) h = absurd (let no : ⊥ = cc in no)
key_there f (Some (cell.Func xs)) h = absurd (let no : ⊥ = cc in no)
key_there f (Some (cell.Frame xs)) h = absurd (let no : ⊥ = cc in no)
key_there f (Some (cell.Bound m xs)) h = absurd (let no : ⊥ = cc in no)
key_there f None h = absurd (let no : ⊥ = cc in no)

by_value : (look : Value → Option Cell) (f : Value → Bool) (k : Value) → key_value look f k ≡ true → IsThere look k
by_value look f (value.Ref h a) e = key_there f (look (value.Ref h a)) e
by_value look f value.NoneValue e = tt
by_value look f (value.Bool b) e = tt
by_value look f (value.Int n) e = tt
by_value look f (value.Builtin b) e = tt

pub is_there : (look : Value → Option Cell) (n : ℕ) (k : Value) → is_key look n k ≡ true → IsThere look k
unfolding is_key
is_there look zero k e = absurd (let no : ⊥ = cc in no)
is_there look (suc n) k e = by_value look (is_key look n) k e

-- ---- a key that is not among entries

same_texts : (f : Value → Value → Bool) (o p : Option Cell) (t : List ℕ) → o ≡ Some (cell.Text t) → p ≡ Some (cell.Text t) → same_key_cell f o p ≡ true
same_texts f o p t a b = rw (a, b) ((bytes_eq-Decides t t).1 refl)

same_value : (look : Value → Option Cell) (f : Value → Value → Bool) (x y : Value) (t : List ℕ) → text_in (cell_of look x) ≡ Some t → text_in (cell_of look y) ≡ Some t → same_key_value look f x y ≡ true
same_value look f (value.Ref h a) (value.Ref k b) t p q = same_texts f (look (value.Ref h a)) (look (value.Ref k b)) t (is_text (look (value.Ref h a)) t p) (is_text (look (value.Ref k b)) t q)
same_value look f (value.Ref h a) value.NoneValue t p q = absurd (let no : ⊥ = cc in no)
same_value look f (value.Ref h a) (value.Bool b) t p q = absurd (let no : ⊥ = cc in no)
same_value look f (value.Ref h a) (value.Int n) t p q = absurd (let no : ⊥ = cc in no)
same_value look f (value.Ref h a) (value.Builtin b) t p q = absurd (let no : ⊥ = cc in no)
same_value look f value.NoneValue y t p q = absurd (let no : ⊥ = cc in no)
same_value look f (value.Bool b) y t p q = absurd (let no : ⊥ = cc in no)
same_value look f (value.Int n) y t p q = absurd (let no : ⊥ = cc in no)
same_value look f (value.Builtin b) y t p q = absurd (let no : ⊥ = cc in no)

same_key_texts : (look : Value → Option Cell) (n : ℕ) (x y : Value) (t : List ℕ) → text_in (cell_of look x) ≡ Some t → text_in (cell_of look y) ≡ Some t → same_key look (suc n) x y ≡ true
unfolding same_key
same_key_texts look n x y t p q = same_value look (same_key look n) x y t p q

none_next : {A : Type 0} (p : A → Bool) (x : A) (xs : List A) (b : Bool) → p x ≡ b → position p (x ∷ xs) ≡ None → (p x ≡ false) × (position p xs ≡ None)
none_next p x xs true e h = absurd (let k : (if p x then Some 0 else option_map (λ i. suc i) (position p xs)) ≡ None = sym (position_next p x xs) ∙ h in let l : Some 0 ≡ None = ap (λ b. if b then Some 0 else option_map (λ i. suc i) (position p xs)) (sym e) ∙ k in let no : ⊥ = cc in no)
none_next p x xs false e h =
    let k : (if p x then Some 0 else option_map (λ i. suc i) (position p xs)) ≡ None = sym (position_next p x xs) ∙ h in
    (e, unmapped (position p xs) (ap (λ b. if b then Some 0 else option_map (λ i. suc i) (position p xs)) (sym e) ∙ k))
  where
    unmapped : (o : Option ℕ) → option_map (λ i. suc i) o ≡ None → o ≡ None
    unmapped None h = refl
    unmapped (Some i) h = absurd (let no : ⊥ = cc in no)

true_is_false : (b : Bool) → b ≡ false → b ≡ true → ⊥
true_is_false true h k = let no : ⊥ = cc in no
true_is_false false h k = let no : ⊥ = cc in no

-- each key is apart from it
abbrev pub AllApart : (Value → Option Cell) → List (Value × Value) → Value → Type 0
AllApart look [] k = Unit {0}
AllApart look (e ∷ es) k = Apart look e.0 k × AllApart look es k

not_among : (look : Value → Option Cell) (n : ℕ) (k : Value) (es : List (Value × Value)) → position (λ e. same_key look (suc n) k e.0) es ≡ None → AllApart look es k
not_among look n k [] h = tt
not_among look n k (e ∷ es) h =
    let r = none_next (λ (e : Value × Value). same_key look (suc n) k e.0) e es (same_key look (suc n) k e.0) refl h in
    ((λ t p q. true_is_false (same_key look (suc n) k e.0) r.0 (same_key_texts look n k e.0 t q p)), not_among look n k es r.1)

pub absent : (look : Value → Option Cell) (k : Value) (es : List (Value × Value)) → place_of look k es ≡ None → AllApart look es k
absent look k es h = not_among look 400 k es h

-- ---- entries after a change

from_append : (look : Value → Option Cell) (x k v : Value) (es : List (Value × Value)) → ApartFrom look x es → Apart look x k → ApartFrom look x (es ++ (k, v) ∷ [])
from_append look x k v [] h a = (a, tt)
from_append look x k v (e ∷ es) h a = (h.0, from_append look x k v es h.1 a)

pub differ_append : (look : Value → Option Cell) (k v : Value) (es : List (Value × Value)) → Differ look es → IsThere look k → AllApart look es k → Differ look (es ++ (k, v) ∷ [])
differ_append look k v [] d t a = (t, tt, tt)
differ_append look k v (e ∷ es) d t a = (d.0, from_append look e.0 k v es d.1 a.0, differ_append look k v es d.2 t a.1)

from_set : (look : Value → Option Cell) (x v : Value) (es : List (Value × Value)) (i : ℕ) (e : Value × Value) → slice_get es i ≡ Some e → ApartFrom look x es → ApartFrom look x (slice_set es i (e.0, v))
from_set look x v [] i e at h = absurd (let no : ⊥ = cc in no)
from_set look x v (y ∷ es) zero e at h = let same : y ≡ e = cc in (subst (λ (z : Value × Value). Apart look x z.0) same h.0, h.1)
from_set look x v (y ∷ es) (suc i) e at h = (h.0, from_set look x v es i e at h.1)

pub differ_set : (look : Value → Option Cell) (v : Value) (es : List (Value × Value)) (i : ℕ) (e : Value × Value) → slice_get es i ≡ Some e → Differ look es → Differ look (slice_set es i (e.0, v))
differ_set look v [] i e at d = absurd (let no : ⊥ = cc in no)
differ_set look v (y ∷ es) zero e at d = let same : y ≡ e = cc in (subst (λ (z : Value × Value). IsThere look z.0) same d.0, subst (λ (z : Value × Value). ApartFrom look z.0 es) same d.1, d.2)
differ_set look v (y ∷ es) (suc i) e at d = (d.0, from_set look y.0 v es i e at d.1, differ_set look v es i e at d.2)

from_remove : (look : Value → Option Cell) (x : Value) (es : List (Value × Value)) (i : ℕ) → ApartFrom look x es → ApartFrom look x (remove es i)
from_remove look x [] zero h = tt
from_remove look x [] (suc i) h = tt
from_remove look x (e ∷ es) zero h = h.1
from_remove look x (e ∷ es) (suc i) h = (h.0, from_remove look x es i h.1)

pub differ_remove : (look : Value → Option Cell) (es : List (Value × Value)) (i : ℕ) → Differ look es → Differ look (remove es i)
differ_remove look [] zero d = tt
differ_remove look [] (suc i) d = tt
differ_remove look (e ∷ es) zero d = d.2
differ_remove look (e ∷ es) (suc i) d = (d.0, from_remove look e.0 es i d.1, differ_remove look es i d.2)
