-- The spots that the entries of a table are, and the change by a further entry.
use Rattle.std.proofs.Common.{◌≡◌, ◌≢◌, ◌⊎◌, inl, inr, ℕ, zero, suc, List, [], ◌∷◌, slice_get, Option, Some, None, refl, ap, sym, ◌∙◌, Result, Ok, Err, OnOk}
use Rattle.std.proofs.lemmas.Bool.Decides.{eqb_tells}
use Rattle.std.specs.Option.{option_flatten}
use Rattle.star_scope.specs.declared.spot.Spot.{Spot}
use Rattle.star_scope.specs.declared.spots.Entry.{Entry}
use Rattle.star_scope.specs.declared.spots.Entry.TheVariants as entry
use Rattle.star_scope.specs.Spots.{IsPutAt, Keeps, found, spot_at, spot_in, spots_of}

pub at_token : (es : List Entry) (fs : List (Option Spot)) (t : ℕ) → spot_at (spots_of es fs) t ≡ found (slice_get es t) (spot_at fs t)
unfolding found spots_of
at_token [] fs t = refl
at_token (e ∷ es) [] zero = refl
at_token (e ∷ es) [] (suc t) = at_token es [] t
at_token (e ∷ es) (f ∷ fs) zero = refl
at_token (e ∷ es) (f ∷ fs) (suc t) = at_token es fs t

-- the spot at a token is the spot of the entry there
pub told : (spots : List (Option Spot)) (es : List Entry) (fs : List (Option Spot)) (t : ℕ) (e : Entry) → spots_of es fs ≡ spots
    → ((far : Option Spot) → spot_in e far ≡ found (slice_get es t) far) → spot_in e (spot_at fs t) ≡ spot_at spots t
told spots es fs t e same entry = entry (spot_at fs t) ∙ sym (at_token es fs t) ∙ ap (λ s. spot_at s t) same

same_or_apart : (a b : ℕ) → (a ≡ b) ⊎ (a ≢ b)
same_or_apart a b = elim (eqb_tells a b) [ inl h ↦ inl h.1 | inr h ↦ inr h.1 ]

-- a spot that was found is still found if its entry did not change
still : (o n : Option Entry) (far : Option Spot) (s : Spot) → (n ≡ o) ⊎ ((o ≡ None) × (n ≡ Some entry.Empty)) → found o far ≡ Some s → found n far ≡ Some s
unfolding found
still o n far s (inl e) there = ap (λ m. found m far) e ∙ there
still None n far s (inr e) there = absurd (let some : None ≡ Some s = there in let no : ⊥ = cc in no)
still (Some o) n far s (inr e) there = absurd (let none : Some o ≡ None = e.0 in let no : ⊥ = cc in no)

-- a row of spots is unchanged at another token
pub far_still : (old new : List (Option Spot)) (t : ℕ) (value : Option Spot) → IsPutAt old new t value None → (i : ℕ) → i ≢ t → spot_at new i ≡ spot_at old i
far_still old new t value put i apart =
    elim (put.others i apart) [ inl e ↦ ap option_flatten e | inr e ↦ ap option_flatten e.1 ∙ sym (ap option_flatten e.0) ]

-- the table keeps its spots if a token without a spot gets an entry
pub keeps : (spots : List (Option Spot)) (es ns : List Entry) (fs gs : List (Option Spot)) (t : ℕ) (e : Entry) → spots_of es fs ≡ spots → spot_at spots t ≡ None → IsPutAt es ns t e entry.Empty
    → ((i : ℕ) → i ≢ t → spot_at gs i ≡ spot_at fs i) → Keeps spots (spots_of ns gs)
keeps spots es ns fs gs t e same none put far i s there =
    elim (same_or_apart i t) [ inl here ↦ lost here | inr apart ↦ kept apart ]
  where
    lost : i ≡ t → spot_at (spots_of ns gs) i ≡ Some s
    lost here = absurd (let gone : None ≡ Some s = sym none ∙ ap (spot_at spots) (sym here) ∙ there in let no : ⊥ = cc in no)

    kept : i ≢ t → spot_at (spots_of ns gs) i ≡ Some s
    kept apart = at_token ns gs i ∙ ap (found (slice_get ns i)) (far i apart)
        ∙ still (slice_get es i) (slice_get ns i) (spot_at fs i) s (put.others i apart) (sym (at_token es fs i) ∙ ap (λ x. spot_at x i) same ∙ there)

-- and it has the spot of that entry
pub is_put : (es ns : List Entry) (gs : List (Option Spot)) (t : ℕ) (e : Entry) → IsPutAt es ns t e entry.Empty → spot_at (spots_of ns gs) t ≡ spot_in e (spot_at gs t)
unfolding spot_in found
is_put es ns gs t e put = at_token ns gs t ∙ ap (λ m. found m (spot_at gs t)) put.put

pub none_of : {A : Type 0} (o : Option A) → ((x : A) → o ≡ Some x → ⊥) → o ≡ None
none_of None never = refl
none_of (Some x) never = absurd (never x refl)

pub on_ok : {A E : Type 0} {P Q : Type 0} (r : Result A E) → (P → Q) → OnOk r P → OnOk r Q
on_ok (Ok a) f p = f p
on_ok (Err e) f p = p
