-- The items of a row between two places, one by one.
use Rattle.std.proofs.Common.{◌≡◌, ℕ, zero, suc, ◌+◌, ◌<◌, ◌≤◌, List, [], ◌∷◌, Some, None, take, drop, refl, ap, ◌∙◌, arith}
use Rattle.std.specs.Prelude.{slice_get}
use Rattle.star_store.specs.declared.values.Value.{Value}
use Rattle.star_store.specs.declared.values.Value.TheVariants as value
use Rattle.star_store.specs.Store.{look}
use Rattle.star_meaning.specs.Run.{State}
use Rattle.star_meaning.specs.Program.{Setting}
use Rattle.star_meaning.specs.Values.{held, content}
use Rattle.star_meaning.specs.ListMethods.{items_of}

rest_from : {A : Type 0} (at to : ℕ) (ys : List A) (y : A) → slice_get ys at ≡ Some y → at < to → drop at (take to ys) ≡ y ∷ drop (suc at) (take to ys)
rest_from at zero ys y e h = absurd (omega (arith, h))
rest_from at (suc to) [] y e h = cc
rest_from zero (suc to) (x ∷ ys) y e h = cc
rest_from (suc at) (suc to) (x ∷ ys) y e h = rest_from at to ys y e (omega (arith, h))

pub rest_at : {A : Type 0} (at to : ℕ) (ys : List A) (y : A) → slice_get ys at ≡ Some y → at < to → drop at (take to ys) ≡ y ∷ drop (at + 1) (take to ys)
rest_at at to ys y e h = let next : suc at ≡ at + 1 = omega arith in rest_from at to ys y e h ∙ ap (λ k. y ∷ drop k (take to ys)) next

-- a list has the same items while the store is the same
pub same_items : (w : Setting) (s t : State) (l : Value) → t.store ≡ s.store → items_of (content w t l) ≡ items_of (content w s l)
same_items w s t value.NoneValue e = refl
same_items w s t (value.Bool b) e = refl
same_items w s t (value.Int n) e = refl
same_items w s t (value.Builtin b) e = refl
same_items w s t (value.Ref h a) e = ap (λ store. items_of (held (look store w.shelf (value.Ref h a)))) e

dropped : {A : Type 0} (at : ℕ) → drop {A = A} at [] ≡ []
dropped zero = refl
dropped (suc at) = refl

pub no_rest : {A : Type 0} (at to : ℕ) (ys : List A) → slice_get ys at ≡ None → drop at (take to ys) ≡ []
no_rest at zero ys e = dropped at
no_rest at (suc to) [] e = dropped at
no_rest zero (suc to) (x ∷ ys) e = cc
no_rest (suc at) (suc to) (x ∷ ys) e = no_rest at to ys e

pub past_end : {A : Type 0} (at to : ℕ) (ys : List A) → to ≤ at → drop at (take to ys) ≡ []
past_end at zero ys h = dropped at
past_end at (suc to) [] h = dropped at
past_end zero (suc to) (x ∷ ys) h = absurd (omega (arith, h))
past_end (suc at) (suc to) (x ∷ ys) h = past_end at to ys (omega (arith, h))
