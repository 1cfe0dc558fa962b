-- What is hidden from a run over the shelves of two plans; over greater shelves more is visible.
use Rattle.std.proofs.Common.{◌≡◌, ◌⊎◌, inl, inr, ℕ, nat_eq, eqb-true, Bool, true, false, not, ◌||◌, List, [], ◌∷◌, Option, Some, None, refl, ap, ◌∙◌, if◌then◌else◌}
use Rattle.std.specs.Prelude.{slice_get}
use Rattle.std.specs.Option.{option_flatten}
use Rattle.star_store.specs.declared.values.Value.{Value}
use Rattle.star_store.specs.declared.values.Value.TheVariants as value
use Rattle.star_store.specs.declared.values.Cell.{Cell}
use Rattle.star_store.specs.declared.values.Cell.TheVariants as cell
use Rattle.star_store.specs.declared.values.HeapCell.{HeapCell}
use Rattle.star_store.specs.Store.{Published, Shelf}
use Rattle.star_meaning.specs.Module.{most_levels}
use Rattle.star_plan.proofs.Rows.{flat_is}
use Rattle.star_unseen.specs.Veil.{AreVisible, CellIsVisible, FieldsAreVisible, CellsAreVisible, Every, Hides, IsVisible, Maybe, PairsAreVisible, VisibleIfThere}
use Rattle.star_needs.specs.Changed.{same_at}

-- a place of a home is hidden unless both shelves have a module there, and the home is in or the places have the same
-- data
abbrev pub hidden_by : Bool → ℕ → ℕ → Option Published → Option Published → Bool
hidden_by is_in home at (Some m) (Some n) = not (is_in || same_at m.cells n.cells home most_levels at)
hidden_by is_in home at _ _ = true

abbrev pub hidden_cell : (ℕ → Bool) → Shelf → Shelf → ℕ → ℕ → Bool
hidden_cell is_in s t home at = hidden_by (is_in home) home at (option_flatten (slice_get s home)) (option_flatten (slice_get t home))

abbrev pub hides_over : (ℕ → Bool) → Shelf → Shelf → Hides
hides_over is_in s t = record { cell = hidden_cell is_in s t; file = λ n. not (is_in n) }

-- so it is for the run of the file n, but its own cells are visible
abbrev pub hides_in : (ℕ → Bool) → ℕ → Shelf → Shelf → Hides
hides_in is_in n s t =
    record { cell = λ home at. (if nat_eq home n then false else hidden_cell is_in s t home at); file = λ k. not (is_in k) }

-- ---- visible places

-- a visible place
pub record Open (is_in : ℕ → Bool) (s t : Shelf) (home at : ℕ) : Type 0 where
  pub one : Published
  pub other : Published
  pub on_one : slice_get s home ≡ Some (Some one)
  pub on_other : slice_get t home ≡ Some (Some other)
  pub why : (is_in home ≡ true) ⊎ (same_at one.cells other.cells home most_levels at ≡ true)

either : (a b : Bool) → not (a || b) ≡ false → (a ≡ true) ⊎ (b ≡ true)
either true b e = inl refl
either false true e = inr refl
either false false e = absurd (let no : ⊥ = cc in no)

neither : (a b : Bool) → (a ≡ true) ⊎ (b ≡ true) → not (a || b) ≡ false
neither true b h = refl
neither false b (inl e) = absurd (let no : ⊥ = cc in no)
neither false b (inr e) = ap (λ z. not (false || z)) e

open_by : (is_in : ℕ → Bool) (s t : Shelf) (home at : ℕ) (o p : Option Published) → option_flatten (slice_get s home) ≡ o → option_flatten (slice_get t home) ≡ p → hidden_by (is_in home) home at o p ≡ false → Open is_in s t home at
open_by is_in s t home at (Some m) (Some n) x y e = record { one = m; other = n; on_one = flat_is (slice_get s home) m x; on_other = flat_is (slice_get t home) n y; why = either (is_in home) (same_at m.cells n.cells home most_levels at) e }
open_by is_in s t home at o p x y e = absurd (let no : ⊥ = cc in no)

pub is_open : (is_in : ℕ → Bool) (s t : Shelf) (home at : ℕ) → hidden_cell is_in s t home at ≡ false → Open is_in s t home at
is_open is_in s t home at e = open_by is_in s t home at (option_flatten (slice_get s home)) (option_flatten (slice_get t home)) refl refl e

pub opened : (is_in : ℕ → Bool) (s t : Shelf) (home at : ℕ) → Open is_in s t home at → hidden_cell is_in s t home at ≡ false
opened is_in s t home at h =
    ap (λ o. hidden_by (is_in home) home at (option_flatten o) (option_flatten (slice_get t home))) h.on_one
    ∙ (ap (λ o. hidden_by (is_in home) home at (Some h.one) (option_flatten o)) h.on_other
    ∙ neither (is_in home) (same_at h.one.cells h.other.cells home most_levels at) h.why)

-- ---- more is visible

pub record Reveals (a b : Hides) : Type 0 where
  pub cell : (home at : ℕ) → a.cell home at ≡ false → b.cell home at ≡ false
  pub file : (n : ℕ) → a.file n ≡ false → b.file n ≡ false

pub reveals_both : (a b c : Hides) → Reveals a b → Reveals b c → Reveals a c
reveals_both a b c h k = record { cell = λ home at e. k.cell home at (h.cell home at e); file = λ n e. k.file n (h.file n e) }

pub every_more : {A : Type 0} (P Q : A → Type 0) → ((x : A) → P x → Q x) → (xs : List A) → Every P xs → Every Q xs
every_more P Q h [] k = tt
every_more P Q h (x ∷ xs) k = (h x k.0, every_more P Q h xs k.1)

maybe_more : {A : Type 0} (P Q : A → Type 0) → ((x : A) → P x → Q x) → (o : Option A) → Maybe P o → Maybe Q o
maybe_more P Q h None k = tt
maybe_more P Q h (Some x) k = h x k

pub value_more : (a b : Hides) → Reveals a b → (v : Value) → IsVisible a v → IsVisible b v
value_more a b r (value.Ref home at) h = r.cell home at h
value_more a b r v h = tt

there_more : (a b : Hides) → Reveals a b → (o : Option Value) → VisibleIfThere a o → VisibleIfThere b o
there_more a b r o h = maybe_more (IsVisible a) (IsVisible b) (value_more a b r) o h

values_more : (a b : Hides) → Reveals a b → (xs : List Value) → AreVisible a xs → AreVisible b xs
values_more a b r [] h = tt
values_more a b r (x ∷ xs) h = (value_more a b r x h.0, values_more a b r xs h.1)

pairs_more : (a b : Hides) → Reveals a b → (es : List (Value × Value)) → PairsAreVisible a es → PairsAreVisible b es
pairs_more a b r [] h = tt
pairs_more a b r (e ∷ es) h = ((value_more a b r e.0 (h.0).0, value_more a b r e.1 (h.0).1), pairs_more a b r es h.1)

slots_more : (a b : Hides) → Reveals a b → (os : List (Option Value)) → Every (VisibleIfThere a) os → Every (VisibleIfThere b) os
slots_more a b r [] h = tt
slots_more a b r (o ∷ os) h = (there_more a b r o h.0, slots_more a b r os h.1)

fields_more : (a b : Hides) → Reveals a b → (fs : List (List ℕ × Value)) → FieldsAreVisible a fs → FieldsAreVisible b fs
fields_more a b r [] h = tt
fields_more a b r (f ∷ fs) h = (value_more a b r f.1 h.0, fields_more a b r fs h.1)

pub cell_more : (a b : Hides) → Reveals a b → (c : Cell) → CellIsVisible a c → CellIsVisible b c
cell_more a b r (cell.Text t) h = tt
cell_more a b r (cell.Range x) h = tt
cell_more a b r (cell.Tuple xs) h = values_more a b r xs h
cell_more a b r (cell.List xs) h = values_more a b r xs h
cell_more a b r (cell.Dict es) h = pairs_more a b r es h
cell_more a b r (cell.Func f) h = (values_more a b r f.defaults h.0, value_more a b r f.frame h.1, r.file f.file h.2)
cell_more a b r (cell.Frame f) h = (there_more a b r f.parent h.0, slots_more a b r f.slots h.1, r.file f.file h.2)
cell_more a b r (cell.Bound m v) h = value_more a b r v h
cell_more a b r (cell.Struct fs) h = fields_more a b r fs h
cell_more a b r (cell.Set es) h = pairs_more a b r es h

pub cells_more : (a b : Hides) → Reveals a b → (es : List HeapCell) → CellsAreVisible a es → CellsAreVisible b es
cells_more a b r [] h = tt
cells_more a b r (e ∷ es) h = (cell_more a b r e.cell h.0, cells_more a b r es h.1)

-- a shelf has all that another has
abbrev pub Holds : Shelf → Shelf → Type 0
Holds s t = (k : ℕ) (p : Published) → slice_get s k ≡ Some (Some p) → slice_get t k ≡ Some (Some p)

pub over_more : (is_in : ℕ → Bool) (s t u v : Shelf) → Holds s u → Holds t v → Reveals (hides_over is_in s t) (hides_over is_in u v)
over_more is_in s t u v h k = record {
  cell = λ home at e. (let o = is_open is_in s t home at e in opened is_in u v home at (record { one = o.one; other = o.other; on_one = h home o.one o.on_one; on_other = k home o.other o.on_other; why = o.why }));
  file = λ n e. e;
}

kept_false : (b x : Bool) → x ≡ false → (if b then false else x) ≡ false
kept_false true x e = refl
kept_false false x e = e

pub in_split : {P : Type 0} (b x : Bool) → (b ≡ true → P) → (x ≡ false → P) → (if b then false else x) ≡ false → P
in_split true x h k e = h refl
in_split false x h k e = k e

pub over_in : (is_in : ℕ → Bool) (n : ℕ) (s t : Shelf) → Reveals (hides_over is_in s t) (hides_in is_in n s t)
over_in is_in n s t = record { cell = λ home at e. kept_false (nat_eq home n) (hidden_cell is_in s t home at) e; file = λ k e. e }

-- after the run of a file that is in, with its module on both shelves
pub in_over : (is_in : ℕ → Bool) (n : ℕ) (s t u v : Shelf) (one other : Published) → is_in n ≡ true → Holds s u → Holds t v → slice_get u n ≡ Some (Some one) → slice_get v n ≡ Some (Some other) → Reveals (hides_in is_in n s t) (hides_over is_in u v)
in_over is_in n s t u v one other i h k x y = record {
  cell = λ home at e. in_split (nat_eq home n) (hidden_cell is_in s t home at)
      (λ same. let is : home ≡ n = eqb-true home n same in ap (λ z. hidden_cell is_in u v z at) is ∙ opened is_in u v n at (record { one = one; other = other; on_one = x; on_other = y; why = inl i }))
      (λ seen. (over_more is_in s t u v h k).cell home at seen) e;
  file = λ k e. e;
}
