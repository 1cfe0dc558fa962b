-- The parts of a value that is data are data.
use Rattle.std.proofs.Common.{◌≡◌, ℕ, zero, suc, true, false, List, [], ◌∷◌, map, Option, Some, None, refl, ap, sym, subst, ◌∙◌}
use Rattle.std.specs.Prelude.{slice_get}
use Rattle.std.specs.Option.{option_and_then, option_map}
use Rattle.serde_json.specs.Data.{Data, Items, Members, array, item, object, put}
use Rattle.star_store.specs.declared.values.Value.{Value}
use Rattle.star_store.specs.declared.values.Value.TheVariants as value
use Rattle.star_store.specs.declared.values.Cell.{Cell}
use Rattle.star_store.specs.declared.values.Cell.TheVariants as cell
use Rattle.star_data.specs.Data.{cell_data, cell_of, data_of, entries_data, fields_data, items_data, key_in, text_in, utf8_of, value_data}
use Rattle.star_data.specs.Parts.{IsOpaque, IsPart, StandsIn, built_in, function, in_dict, in_list, in_set, in_struct, in_tuple, int, key, method, name, range, text}
use Rattle.star_data.specs.Laws.{DataIsPlain, NoCycleIsData, PartsAreData}
use Rattle.star_data.proofs.Ints.{int_is}
use Rattle.star_data.proofs.Options.{chained, mapped}
use Rattle.star_data.proofs.Strings.{key_is, string_is, utf8_is}

item-data : (f : Value → Option Data) (xs : List Value) (is : Items) → items_data f xs ≡ Some is → (i : ℕ) (x : Value) → slice_get xs i ≡ Some x → (d : Data) × (f x ≡ Some d)
item-data f [] is e i x at = absurd (let no : ⊥ = cc in no)
item-data f (y ∷ xs) is e zero x at =
    let first = chained (λ d. option_map (item d) (items_data f xs)) (f y) is e in
    let same : y ≡ x = cc in
    subst (λ z. (d : Data) × (f z ≡ Some d)) same (first.0, first.1)
item-data f (y ∷ xs) is e (suc i) x at =
    let first = chained (λ d. option_map (item d) (items_data f xs)) (f y) is e in
    let rest = mapped (item first.0) (items_data f xs) is first.2 in
    item-data f xs rest.0 rest.1 i x at

pub entry-data : (look : Value → Option Cell) (f : Value → Option Data) (es : List (Value × Value)) (ms : Members) → entries_data look f es ≡ Some ms → (i : ℕ) (x : Value × Value) → slice_get es i ≡ Some x → ((t : List ℕ) × (key_in (cell_of look x.0) ≡ Some t)) × ((d : Data) × (f x.1 ≡ Some d))
entry-data look f [] ms e i x at = absurd (let no : ⊥ = cc in no)
entry-data look f (y ∷ es) ms e zero x at =
    let k = chained (λ k. option_and_then (λ d. option_map (put k d) (entries_data look f es)) (f y.1)) (key_in (cell_of look y.0)) ms e in
    let d = chained (λ d. option_map (put k.0 d) (entries_data look f es)) (f y.1) ms k.2 in
    let same : y ≡ x = cc in
    subst (λ (z : Value × Value). ((t : List ℕ) × (key_in (cell_of look z.0) ≡ Some t)) × ((d : Data) × (f z.1 ≡ Some d))) same ((k.0, k.1), (d.0, d.1))
entry-data look f (y ∷ es) ms e (suc i) x at =
    let k = chained (λ k. option_and_then (λ d. option_map (put k d) (entries_data look f es)) (f y.1)) (key_in (cell_of look y.0)) ms e in
    let d = chained (λ d. option_map (put k.0 d) (entries_data look f es)) (f y.1) ms k.2 in
    let rest = mapped (put k.0 d.0) (entries_data look f es) ms d.2 in
    entry-data look f es rest.0 rest.1 i x at

pub field-data : (f : Value → Option Data) (fs : List (List ℕ × Value)) (ms : Members) → fields_data f fs ≡ Some ms → (i : ℕ) (x : List ℕ × Value) → slice_get fs i ≡ Some x → ((t : List ℕ) × (utf8_of x.0 ≡ Some t)) × ((d : Data) × (f x.1 ≡ Some d))
field-data f [] ms e i x at = absurd (let no : ⊥ = cc in no)
field-data f (y ∷ fs) ms e zero x at =
    let k = chained (λ k. option_and_then (λ d. option_map (put k d) (fields_data f fs)) (f y.1)) (utf8_of y.0) ms e in
    let d = chained (λ d. option_map (put k.0 d) (fields_data f fs)) (f y.1) ms k.2 in
    let same : y ≡ x = cc in
    subst (λ (z : List ℕ × Value). ((t : List ℕ) × (utf8_of z.0 ≡ Some t)) × ((d : Data) × (f z.1 ≡ Some d))) same ((k.0, k.1), (d.0, d.1))
field-data f (y ∷ fs) ms e (suc i) x at =
    let k = chained (λ k. option_and_then (λ d. option_map (put k d) (fields_data f fs)) (f y.1)) (utf8_of y.0) ms e in
    let d = chained (λ d. option_map (put k.0 d) (fields_data f fs)) (f y.1) ms k.2 in
    let rest = mapped (put k.0 d.0) (fields_data f fs) ms d.2 in
    field-data f fs rest.0 rest.1 i x at

-- a value that has a cell is data by its cell
by_cell : (look : Value → Option Cell) (f : Value → Option Data) (v : Value) (d : Data) (c : Cell) → value_data look f v ≡ Some d → cell_of look v ≡ Some c → cell_data look f (Some c) ≡ Some d
by_cell look f value.NoneValue d c e h = absurd (let no : ⊥ = cc in no)
by_cell look f (value.Bool b) d c e h = absurd (let no : ⊥ = cc in no)
by_cell look f (value.Int n) d c e h = absurd (let no : ⊥ = cc in no)
by_cell look f (value.Builtin b) d c e h = absurd (let no : ⊥ = cc in no)
by_cell look f (value.Ref a b) d c e h = ap (cell_data look f) (sym h) ∙ e

part : (look : Value → Option Cell) (f : Value → Option Data) (v x : Value) (d : Data) → value_data look f v ≡ Some d → IsPart look v x → (e : Data) × (f x ≡ Some e)
part look f v x d e (in_list xs i h at) =
    let all = mapped array (items_data f xs) d (by_cell look f v d (cell.List xs) e h) in
    item-data f xs all.0 all.1 i x at
part look f v x d e (in_tuple xs i h at) =
    let all = mapped array (items_data f xs) d (by_cell look f v d (cell.Tuple xs) e h) in
    item-data f xs all.0 all.1 i x at
part look f v x d e (in_dict es i k h at) =
    let all = mapped object (entries_data look f es) d (by_cell look f v d (cell.Dict es) e h) in
    (entry-data look f es all.0 all.1 i (k, x) at).1
part look f v x d e (in_set es i h at) =
    let all = mapped array (items_data f (map (λ (z : Value × Value). z.0) es)) d (by_cell look f v d (cell.Set es) e h) in
    item-data f (map (λ (z : Value × Value). z.0) es) all.0 all.1 i x at
part look f v x d e (in_struct fs i n h at) =
    let all = mapped object (fields_data f fs) d (by_cell look f v d (cell.Struct fs) e h) in
    (field-data f fs all.0 all.1 i (n, x) at).1

pub parts_are_data : PartsAreData
unfolding data_of
parts_are_data look n v x d e h = part look (data_of look n) v x d e h

pub is_text : (o : Option Cell) (t : List ℕ) → text_in o ≡ Some t → o ≡ Some (cell.Text t)
is_text (Some (cell.Text u)) t e = let same : u ≡ t = cc in ap (λ z. Some (cell.Text z)) same
is_text (Some (cell.Tuple xs)) t e = absurd (let no : ⊥ = cc in no)
is_text (Some (cell.List xs)) t e = absurd (let no : ⊥ = cc in no)
is_text (Some (cell.Dict es)) t e = absurd (let no : ⊥ = cc in no)
is_text (Some (cell.Range r)) t e = absurd (let no : ⊥ = cc in no)
is_text (Some (cell.Func r)) t e = absurd (let no : ⊥ = cc in no)
is_text (Some (cell.Frame r)) t e = absurd (let no : ⊥ = cc in no)
is_text (Some (cell.Bound m x)) t e = absurd (let no : ⊥ = cc in no)
is_text (Some (cell.Set es)) t e = absurd (let no : ⊥ = cc in no)
is_text (Some (cell.Struct fs)) t e = absurd (let no : ⊥ = cc in no)
is_text None t e = absurd (let no : ⊥ = cc in no)

not_opaque : (look : Value → Option Cell) (f : Value → Option Data) (v : Value) (d : Data) → value_data look f v ≡ Some d → IsOpaque look v → ⊥
not_opaque look f v d e (built_in b is) =
    let none : None ≡ Some d = ap (value_data look f) (sym is) ∙ e in
    let no : ⊥ = cc in no
not_opaque look f v d e (function g h) = let none = by_cell look f v d (cell.Func g) e h in let no : ⊥ = cc in no
not_opaque look f v d e (method m x h) = let none = by_cell look f v d (cell.Bound m x) e h in let no : ⊥ = cc in no
not_opaque look f v d e (range r h) = let none = by_cell look f v d (cell.Range r) e h in let no : ⊥ = cc in no
not_opaque look f v d e (key es i x h at other) =
    let all = mapped object (entries_data look f es) d (by_cell look f v d (cell.Dict es) e h) in
    let k = (entry-data look f es all.0 all.1 i x at).0 in
    let is = key_is (cell_of look x.0) k.0 k.1 in
    other k.0 (is_text (cell_of look x.0) k.0 is.0) is.1
not_opaque look f v d e (int n is out) = let inside = int_is n d (ap (value_data look f) (sym is) ∙ e) in absurd (let both : true ≡ false = sym inside.0 ∙ out in let no : ⊥ = cc in no)
not_opaque look f v d e (text t h other) = other (string_is t d (by_cell look f v d (cell.Text t) e h)).1
not_opaque look f v d e (name fs i x h at other) =
    let all = mapped object (fields_data f fs) d (by_cell look f v d (cell.Struct fs) e h) in
    let k = (field-data f fs all.0 all.1 i x at).0 in
    other (utf8_is x.0 k.0 k.1).1

pub data_is_plain : DataIsPlain
unfolding data_of
data_is_plain look zero k v x d e h o = let no : ⊥ = cc in no
data_is_plain look (suc n) zero v x d e h o = not_opaque look (data_of look n) v d e (subst (IsOpaque look) (sym h) o)
data_is_plain look (suc n) (suc k) v x d e h o =
    let below = parts_are_data look n v h.0 d e h.1 in
    data_is_plain look n k h.0 x below.0 below.1 h.2 o

pub stands_push : (look : Value → Option Cell) (k : ℕ) (v x y : Value) → StandsIn look k v x → IsPart look x y → StandsIn look (suc k) v y
stands_push look zero v x y h p = (y, subst (λ z. IsPart look z y) (sym h) p, refl)
stands_push look (suc k) v x y h p = (h.0, h.1, stands_push look k h.0 x y h.2 p)

pub no_cycle_is_data : NoCycleIsData
unfolding data_of
no_cycle_is_data look zero k v d h e = let no : ⊥ = cc in no
no_cycle_is_data look (suc n) k v d h e =
    let below = parts_are_data look n v h.0 d e h.1 in
    no_cycle_is_data look n k h.0 below.0 (stands_push look k h.0 v h.0 h.2 h.1) below.1
