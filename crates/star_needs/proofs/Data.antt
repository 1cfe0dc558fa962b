-- The same data in two rows of cells: it is the same, and leads to nothing else.
use Rattle.std.proofs.Common.{◌≡◌, ℕ, zero, suc, nat_eq, eqb-true, Bool, true, false, ◌&&◌, List, [], ◌∷◌, Option, Some, refl, ap, sym, ◌∙◌}
use Rattle.std.specs.Bool.{beq}
use Rattle.std.specs.Cmp.Lexicographic.{pointwise}
use Rattle.std.specs.Ordering.{int_eq}
use Rattle.std.proofs.lemmas.Bool.Decides.{Decides-int_eq}
use Rattle.star_store.specs.declared.range.Range.{Range}
use Rattle.star_store.specs.declared.values.Value.{Value}
use Rattle.star_store.specs.declared.values.Value.TheVariants as value
use Rattle.star_store.specs.declared.values.Cell.{Cell}
use Rattle.star_store.specs.declared.values.Cell.TheVariants as cell
use Rattle.star_store.specs.declared.values.HeapCell.{HeapCell}
use Rattle.star_store.specs.Write.{cell_at}
use Rattle.star_store.specs.Fields.{Fields, names_of, same_names, values_of}
use Rattle.star_unseen.specs.Veil.{AreVisible, CellIsVisible, FieldsAreVisible, Hides, IsVisible, PairsAreVisible}
use Rattle.star_needs.specs.Changed.{data_by, one_range, same_at, same_cell, same_entries, same_fields, same_items, same_value}

-- ---- bools

pub both : (a b : Bool) → (a && b) ≡ true → (a ≡ true) × (b ≡ true)
both true b e = (refl, e)
both false b e = absurd (let no : ⊥ = cc in no)

pub and_both : (a b : Bool) → a ≡ true → b ≡ true → (a && b) ≡ true
and_both true b e f = f
and_both false b e f = e

one_bool : (b c : Bool) → beq b c ≡ true → b ≡ c
one_bool true true e = refl
one_bool true false e = absurd (let no : ⊥ = cc in no)
one_bool false true e = absurd (let no : ⊥ = cc in no)
one_bool false false e = refl

-- ---- what is the same is one

one_text : (s t : List ℕ) → pointwise nat_eq s t ≡ true → s ≡ t
one_text [] (y ∷ t) e = absurd (let no : ⊥ = cc in no)
one_text [] [] e = refl
one_text (x ∷ s) [] e = absurd (let no : ⊥ = cc in no)
one_text (x ∷ s) (y ∷ t) e =
    let h = both (nat_eq x y) (pointwise nat_eq s t) e in
    ap (λ z. z ∷ s) (eqb-true x y h.0) ∙ ap (λ zs. y ∷ zs) (one_text s t h.1)

one_value : (v u : Value) → same_value v u ≡ true → v ≡ u
one_value value.NoneValue value.NoneValue e = refl
one_value (value.Bool b) (value.Bool c) e = ap value.Bool (one_bool b c e)
one_value (value.Int m) (value.Int n) e = ap value.Int ((Decides-int_eq m n).0 e)
one_value (value.Ref h a) (value.Ref k b) e =
    let s = both (nat_eq h k) (nat_eq a b) e in
    ap (λ z. value.Ref z a) (eqb-true h k s.0) ∙ ap (value.Ref k) (eqb-true a b s.1)
one_value v u e = absurd (let no : ⊥ = cc in no)

one_row : (fits : Value → Bool) (xs ys : List Value) → same_items fits xs ys ≡ true → xs ≡ ys
one_row fits [] [] e = refl
one_row fits [] (y ∷ ys) e = absurd (let no : ⊥ = cc in no)
one_row fits (x ∷ xs) [] e = absurd (let no : ⊥ = cc in no)
one_row fits (x ∷ xs) (y ∷ ys) e =
    let h = both (same_value x y) (fits x && same_items fits xs ys) e in
    let rest = both (fits x) (same_items fits xs ys) h.1 in
    ap (λ z. z ∷ xs) (one_value x y h.0) ∙ ap (λ zs. y ∷ zs) (one_row fits xs ys rest.1)

-- the parts of entries that are the same
record OneEntry (fits : Value → Bool) (x y : Value × Value) (more : Bool) : Type 0 where
  key : x.0 ≡ y.0
  worth : x.1 ≡ y.1
  key_data : fits x.0 ≡ true
  value_data : fits x.1 ≡ true
  rest : more ≡ true

one_entry : (fits : Value → Bool) (x y : Value × Value) (more : Bool) → ((same_value x.0 y.0 && fits x.0) && ((same_value x.1 y.1 && fits x.1) && more)) ≡ true → OneEntry fits x y more
one_entry fits x y more e =
    let h = both (same_value x.0 y.0 && fits x.0) ((same_value x.1 y.1 && fits x.1) && more) e in
    let k = both (same_value x.0 y.0) (fits x.0) h.0 in
    let r = both (same_value x.1 y.1 && fits x.1) more h.1 in
    let v = both (same_value x.1 y.1) (fits x.1) r.0 in
    record { key = one_value x.0 y.0 k.0; worth = one_value x.1 y.1 v.0; key_data = k.1; value_data = v.1; rest = r.1 }

one_entries : (fits : Value → Bool) (xs ys : List (Value × Value)) → same_entries fits xs ys ≡ true → xs ≡ ys
one_entries fits [] [] e = refl
one_entries fits [] (y ∷ ys) e = absurd (let no : ⊥ = cc in no)
one_entries fits (x ∷ xs) [] e = absurd (let no : ⊥ = cc in no)
one_entries fits ((a, b) ∷ xs) ((c, d) ∷ ys) e =
    let h = one_entry fits (a, b) (c, d) (same_entries fits xs ys) e in
    let key : a ≡ c = h.key in
    let val : b ≡ d = h.worth in
    ap (λ z. (z, b) ∷ xs) key ∙ (ap (λ z. (c, z) ∷ xs) val ∙ ap (λ zs. (c, d) ∷ zs) (one_entries fits xs ys h.rest))

one_range_is : (r s : Range) → one_range r s ≡ true → r ≡ s
one_range_is r s e =
    let h = both (int_eq r.start s.start) (int_eq r.stop s.stop && int_eq r.step s.step) e in
    let k = both (int_eq r.stop s.stop) (int_eq r.step s.step) h.1 in
    let start : r.start ≡ s.start = (Decides-int_eq r.start s.start).0 h.0 in
    let stop : r.stop ≡ s.stop = (Decides-int_eq r.stop s.stop).0 k.0 in
    let step : r.step ≡ s.step = (Decides-int_eq r.step s.step).0 k.1 in
    ap (λ z. let t : Range = record { start = z; stop = r.stop; step = r.step } in t) start
    ∙ (ap (λ z. let t : Range = record { start = s.start; stop = z; step = r.step } in t) stop
    ∙ ap (λ z. let t : Range = record { start = s.start; stop = s.stop; step = z } in t) step)

-- two structs with the same names and values are one
one_name : (ns ms : List (List ℕ)) → same_names ns ms ≡ true → ns ≡ ms
one_name [] [] e = refl
one_name [] (m ∷ ms) e = absurd (let no : ⊥ = cc in no)
one_name (n ∷ ns) [] e = absurd (let no : ⊥ = cc in no)
one_name (n ∷ ns) (m ∷ ms) e =
    let h = both (pointwise nat_eq n m) (same_names ns ms) e in
    ap (λ z. z ∷ ns) (one_text n m h.0) ∙ ap (λ zs. m ∷ zs) (one_name ns ms h.1)

one_fields : (xs ys : Fields) → names_of xs ≡ names_of ys → values_of xs ≡ values_of ys → xs ≡ ys
one_fields [] [] n v = refl
one_fields [] (y ∷ ys) n v = absurd (let no : ⊥ = cc in no)
one_fields (x ∷ xs) [] n v = absurd (let no : ⊥ = cc in no)
one_fields ((a, b) ∷ xs) ((c, d) ∷ ys) n v =
    let name : a ≡ c = cc in
    let names : names_of xs ≡ names_of ys = cc in
    let val : b ≡ d = cc in
    let vals : values_of xs ≡ values_of ys = cc in
    ap (λ z. (z, b) ∷ xs) name ∙ (ap (λ z. (c, z) ∷ xs) val ∙ ap (λ zs. (c, d) ∷ zs) (one_fields xs ys names vals))

one_struct : (fits : Value → Bool) (xs ys : Fields) → same_fields fits xs ys ≡ true → xs ≡ ys
one_struct fits xs ys e =
    let h = both (same_names (names_of xs) (names_of ys)) (same_items fits (values_of xs) (values_of ys)) e in
    one_fields xs ys (one_name (names_of xs) (names_of ys) h.0) (one_row fits (values_of xs) (values_of ys) h.1)

pub one_cell : (fits : Value → Bool) (o p : Option Cell) → same_cell fits o p ≡ true → o ≡ p
one_cell fits (Some (cell.Text t)) (Some (cell.Text u)) e = ap (λ z. Some (cell.Text z)) (one_text t u e)
one_cell fits (Some (cell.Range r)) (Some (cell.Range s)) e = ap (λ z. Some (cell.Range z)) (one_range_is r s e)
one_cell fits (Some (cell.Tuple xs)) (Some (cell.Tuple ys)) e = ap (λ z. Some (cell.Tuple z)) (one_row fits xs ys e)
one_cell fits (Some (cell.List xs)) (Some (cell.List ys)) e = ap (λ z. Some (cell.List z)) (one_row fits xs ys e)
one_cell fits (Some (cell.Dict es)) (Some (cell.Dict fs)) e = ap (λ z. Some (cell.Dict z)) (one_entries fits es fs e)
one_cell fits (Some (cell.Struct xs)) (Some (cell.Struct ys)) e = ap (λ z. Some (cell.Struct z)) (one_struct fits xs ys e)
one_cell fits o p e = absurd (let no : ⊥ = cc in no)

-- ---- and leads to nothing but data

-- each value that is data by one measure is so by another, or has another property
abbrev Implies : (Value → Bool) → (Value → Type 0) → Type 0
Implies fits P = (v : Value) → fits v ≡ true → P v

row_visible : (hides : Hides) (fits : Value → Bool) → Implies fits (IsVisible hides) → (xs ys : List Value) → same_items fits xs ys ≡ true → AreVisible hides xs
row_visible hides fits h [] ys e = tt
row_visible hides fits h (x ∷ xs) [] e = absurd (let no : ⊥ = cc in no)
row_visible hides fits h (x ∷ xs) (y ∷ ys) e =
    let k = both (same_value x y) (fits x && same_items fits xs ys) e in
    let rest = both (fits x) (same_items fits xs ys) k.1 in
    (h x rest.0, row_visible hides fits h xs ys rest.1)

entries_visible : (hides : Hides) (fits : Value → Bool) → Implies fits (IsVisible hides) → (xs ys : List (Value × Value)) → same_entries fits xs ys ≡ true → PairsAreVisible hides xs
entries_visible hides fits h [] ys e = tt
entries_visible hides fits h (x ∷ xs) [] e = absurd (let no : ⊥ = cc in no)
entries_visible hides fits h (x ∷ xs) (y ∷ ys) e =
    let k = one_entry fits x y (same_entries fits xs ys) e in
    ((h x.0 k.key_data, h x.1 k.value_data), entries_visible hides fits h xs ys k.rest)

of_values : (hides : Hides) (fs : Fields) → AreVisible hides (values_of fs) → FieldsAreVisible hides fs
of_values hides [] h = tt
of_values hides (f ∷ fs) h = (h.0, of_values hides fs h.1)

fields_visible : (hides : Hides) (fits : Value → Bool) → Implies fits (IsVisible hides) → (xs ys : Fields) → same_fields fits xs ys ≡ true → FieldsAreVisible hides xs
fields_visible hides fits h xs ys e =
    let k = both (same_names (names_of xs) (names_of ys)) (same_items fits (values_of xs) (values_of ys)) e in
    of_values hides xs (row_visible hides fits h (values_of xs) (values_of ys) k.1)

pub data_visible : (hides : Hides) (fits : Value → Bool) → Implies fits (IsVisible hides) → (c : Cell) (p : Option Cell) → same_cell fits (Some c) p ≡ true → CellIsVisible hides c
data_visible hides fits h (cell.Text t) p e = tt
data_visible hides fits h (cell.Range r) p e = tt
data_visible hides fits h (cell.Tuple xs) (Some (cell.Tuple ys)) e = row_visible hides fits h xs ys e
data_visible hides fits h (cell.List xs) (Some (cell.List ys)) e = row_visible hides fits h xs ys e
data_visible hides fits h (cell.Dict xs) (Some (cell.Dict ys)) e = entries_visible hides fits h xs ys e
data_visible hides fits h (cell.Struct xs) (Some (cell.Struct ys)) e = fields_visible hides fits h xs ys e
data_visible hides fits h c p e = absurd (let no : ⊥ = cc in no)

-- ---- more levels

abbrev Within : (Value → Bool) → (Value → Bool) → Type 0
Within f g = (v : Value) → f v ≡ true → g v ≡ true

more_items : (f g : Value → Bool) → Within f g → (xs ys : List Value) → same_items f xs ys ≡ true → same_items g xs ys ≡ true
more_items f g h [] [] e = e
more_items f g h [] (y ∷ ys) e = e
more_items f g h (x ∷ xs) [] e = e
more_items f g h (x ∷ xs) (y ∷ ys) e =
    let k = both (same_value x y) (f x && same_items f xs ys) e in
    let rest = both (f x) (same_items f xs ys) k.1 in
    and_both (same_value x y) (g x && same_items g xs ys) k.0 (and_both (g x) (same_items g xs ys) (h x rest.0) (more_items f g h xs ys rest.1))

more_entries : (f g : Value → Bool) → Within f g → (xs ys : List (Value × Value)) → same_entries f xs ys ≡ true → same_entries g xs ys ≡ true
more_entries f g h [] [] e = e
more_entries f g h [] (y ∷ ys) e = e
more_entries f g h (x ∷ xs) [] e = e
more_entries f g h (x ∷ xs) (y ∷ ys) e =
    let a = both (same_value x.0 y.0 && f x.0) ((same_value x.1 y.1 && f x.1) && same_entries f xs ys) e in
    let k = both (same_value x.0 y.0) (f x.0) a.0 in
    let r = both (same_value x.1 y.1 && f x.1) (same_entries f xs ys) a.1 in
    let v = both (same_value x.1 y.1) (f x.1) r.0 in
    and_both (same_value x.0 y.0 && g x.0) ((same_value x.1 y.1 && g x.1) && same_entries g xs ys)
    (and_both (same_value x.0 y.0) (g x.0) k.0 (h x.0 k.1))
    (and_both (same_value x.1 y.1 && g x.1) (same_entries g xs ys) (and_both (same_value x.1 y.1) (g x.1) v.0 (h x.1 v.1)) (more_entries f g h xs ys r.1))

more_fields : (f g : Value → Bool) → Within f g → (xs ys : Fields) → same_fields f xs ys ≡ true → same_fields g xs ys ≡ true
more_fields f g h xs ys e =
    let k = both (same_names (names_of xs) (names_of ys)) (same_items f (values_of xs) (values_of ys)) e in
    and_both (same_names (names_of xs) (names_of ys)) (same_items g (values_of xs) (values_of ys)) k.0 (more_items f g h (values_of xs) (values_of ys) k.1)

more_cell : (f g : Value → Bool) → Within f g → (o p : Option Cell) → same_cell f o p ≡ true → same_cell g o p ≡ true
more_cell f g h (Some (cell.Text t)) (Some (cell.Text u)) e = e
more_cell f g h (Some (cell.Range r)) (Some (cell.Range s)) e = e
more_cell f g h (Some (cell.Tuple xs)) (Some (cell.Tuple ys)) e = more_items f g h xs ys e
more_cell f g h (Some (cell.List xs)) (Some (cell.List ys)) e = more_items f g h xs ys e
more_cell f g h (Some (cell.Dict es)) (Some (cell.Dict fs)) e = more_entries f g h es fs e
more_cell f g h (Some (cell.Struct xs)) (Some (cell.Struct ys)) e = more_fields f g h xs ys e
more_cell f g h o p e = absurd (let no : ⊥ = cc in no)

by_more : (home : ℕ) (f g : ℕ → Bool) → ((at : ℕ) → f at ≡ true → g at ≡ true) → (v : Value) → data_by home f v ≡ true → data_by home g v ≡ true
by_more home f g h (value.Ref k at) e =
    let s = both (nat_eq k home) (f at) e in
    and_both (nat_eq k home) (g at) s.0 (h at s.1)
by_more home f g h v e = refl

more_levels : (own other : List HeapCell) (home n at : ℕ) → same_at own other home n at ≡ true → same_at own other home (suc n) at ≡ true
unfolding same_at
more_levels own other home zero at e = absurd (let no : ⊥ = cc in no)
more_levels own other home (suc n) at e =
    more_cell (data_by home (same_at own other home n)) (data_by home (same_at own other home (suc n)))
    (by_more home (same_at own other home n) (same_at own other home (suc n)) (more_levels own other home n)) (cell_at own at) (cell_at other at) e

-- ---- at a place

-- what is at a place with the same data is one
pub one_at : (own other : List HeapCell) (home n at : ℕ) → same_at own other home n at ≡ true → cell_at own at ≡ cell_at other at
unfolding same_at
one_at own other home zero at e = absurd (let no : ⊥ = cc in no)
one_at own other home (suc n) at e = one_cell (data_by home (same_at own other home n)) (cell_at own at) (cell_at other at) e

-- and leads to such places alone
pub data_at : (hides : Hides) (own other : List HeapCell) (home n at : ℕ) → ((k : ℕ) → same_at own other home n k ≡ true → hides.cell home k ≡ false)
    → same_at own other home n at ≡ true → (c : Cell) → cell_at own at ≡ Some c → CellIsVisible hides c
unfolding same_at
data_at hides own other home zero at h e c is = absurd (let no : ⊥ = cc in no)
data_at hides own other home (suc n) at h e c is =
    data_visible hides (data_by home (same_at own other home n)) (each hides own other home n h) c (cell_at other at)
    (ap (λ o. same_cell (data_by home (same_at own other home n)) o (cell_at other at)) (sym is) ∙ e)
  where
    each : (hides : Hides) (own other : List HeapCell) (home n : ℕ) → ((k : ℕ) → same_at own other home (suc n) k ≡ true → hides.cell home k ≡ false)
        → (v : Value) → data_by home (same_at own other home n) v ≡ true → IsVisible hides v
    each hides own other home n h (value.Ref k at) e =
        let s = both (nat_eq k home) (same_at own other home n at) e in
        ap (λ z. hides.cell z at) (eqb-true k home s.0) ∙ h at (more_levels own other home n at s.1)
    each hides own other home n h v e = tt
