-- Data stays where cells stay.
use Rattle.std.proofs.Common.{arith, ◌≡◌, ◌+◌, ℕ, zero, suc, List, [], ◌∷◌, map, Option, Some, None, refl, ap, sym, ◌∙◌}
use Rattle.std.specs.Option.{option_and_then, option_map}
use Rattle.serde_json.specs.Data.{Data, Items, Members, array, item, object, put}
use Rattle.star_store.specs.declared.values.Value.{Value}
use Rattle.star_store.specs.declared.values.Value.TheVariants as value
use Rattle.star_store.specs.declared.values.Cell.{Cell}
use Rattle.star_store.specs.declared.values.Cell.TheVariants as cell
use Rattle.star_data.specs.Data.{cell_data, cell_of, data_of, entries_data, fields_data, items_data, key_in, utf8_of, value_data}
use Rattle.star_data.specs.Laws.{DataStays, OneData}
use Rattle.star_data.proofs.Options.{chained, mapped}

abbrev Stay : (A B : Type 0) → (A → Option B) → (A → Option B) → Type 0
Stay A B f g = (x : A) (y : B) → f x ≡ Some y → g x ≡ Some y

items-stay : (f g : Value → Option Data) → Stay Value Data f g → (xs : List Value) (is : Items) → items_data f xs ≡ Some is → items_data g xs ≡ Some is
items-stay f g h [] is e = e
items-stay f g h (x ∷ xs) is e =
    let first = chained (λ d. option_map (item d) (items_data f xs)) (f x) is e in
    let rest = mapped (item first.0) (items_data f xs) is first.2 in
    ap (option_and_then (λ d. option_map (item d) (items_data g xs))) (h x first.0 first.1) ∙ (ap (option_map (item first.0)) (items-stay f g h xs rest.0 rest.1) ∙ ap Some rest.2)

key-stays : (o p : Option Cell) → ((c : Cell) → o ≡ Some c → p ≡ Some c) → (t : List ℕ) → key_in o ≡ Some t → key_in p ≡ Some t
key-stays None p h t e = absurd (let no : ⊥ = cc in no)
key-stays (Some c) p h t e = ap key_in (h c refl) ∙ e

led-stays : (look see : Value → Option Cell) → Stay Value Cell look see → (v : Value) (c : Cell) → cell_of look v ≡ Some c → cell_of see v ≡ Some c
led-stays look see s (value.Ref h a) c e = s (value.Ref h a) c e
led-stays look see s _ c e = absurd (let no : ⊥ = cc in no)

entries-stay : (look see : Value → Option Cell) → Stay Value Cell look see → (f g : Value → Option Data) → Stay Value Data f g → (es : List (Value × Value)) (ms : Members) → entries_data look f es ≡ Some ms → entries_data see g es ≡ Some ms
entries-stay look see s f g h [] ms e = e
entries-stay look see s f g h (x ∷ es) ms e =
    let k = chained (λ k. option_and_then (λ d. option_map (put k d) (entries_data look f es)) (f x.1)) (key_in (cell_of look x.0)) ms e in
    let d = chained (λ d. option_map (put k.0 d) (entries_data look f es)) (f x.1) ms k.2 in
    let rest = mapped (put k.0 d.0) (entries_data look f es) ms d.2 in
    let more : entries_data see g es ≡ Some rest.0 = entries-stay look see s f g h es rest.0 rest.1 in
    let key : key_in (cell_of see x.0) ≡ Some k.0 = key-stays (cell_of look x.0) (cell_of see x.0) (led-stays look see s x.0) k.0 k.1 in
    ap (option_and_then (λ k. option_and_then (λ d. option_map (put k d) (entries_data see g es)) (g x.1))) key ∙ (ap (option_and_then (λ d. option_map (put k.0 d) (entries_data see g es))) (h x.1 d.0 d.1) ∙ (ap (option_map (put k.0 d.0)) more ∙ ap Some rest.2))

fields-stay : (f g : Value → Option Data) → Stay Value Data f g → (fs : List (List ℕ × Value)) (ms : Members) → fields_data f fs ≡ Some ms → fields_data g fs ≡ Some ms
fields-stay f g h [] ms e = e
fields-stay f g h (x ∷ fs) ms e =
    let k = chained (λ k. option_and_then (λ d. option_map (put k d) (fields_data f fs)) (f x.1)) (utf8_of x.0) ms e in
    let d = chained (λ d. option_map (put k.0 d) (fields_data f fs)) (f x.1) ms k.2 in
    let rest = mapped (put k.0 d.0) (fields_data f fs) ms d.2 in
    let more : fields_data g fs ≡ Some rest.0 = fields-stay f g h fs rest.0 rest.1 in
    ap (option_and_then (λ k. option_and_then (λ d. option_map (put k d) (fields_data g fs)) (g x.1))) k.1 ∙ (ap (option_and_then (λ d. option_map (put k.0 d) (fields_data g fs))) (h x.1 d.0 d.1) ∙ (ap (option_map (put k.0 d.0)) more ∙ ap Some rest.2))

cell-stays : (look see : Value → Option Cell) → Stay Value Cell look see → (f g : Value → Option Data) → Stay Value Data f g → (o p : Option Cell) → ((c : Cell) → o ≡ Some c → p ≡ Some c) → (d : Data) → cell_data look f o ≡ Some d → cell_data see g p ≡ Some d
cell-stays look see s f g h (Some (cell.Text t)) p k d e = ap (cell_data see g) (k (cell.Text t) refl) ∙ e
cell-stays look see s f g h (Some (cell.Tuple xs)) p k d e =
    let all = mapped array (items_data f xs) d e in
    ap (cell_data see g) (k (cell.Tuple xs) refl) ∙ (ap (option_map array) (items-stay f g h xs all.0 all.1) ∙ ap Some all.2)
cell-stays look see s f g h (Some (cell.List xs)) p k d e =
    let all = mapped array (items_data f xs) d e in
    ap (cell_data see g) (k (cell.List xs) refl) ∙ (ap (option_map array) (items-stay f g h xs all.0 all.1) ∙ ap Some all.2)
cell-stays look see s f g h (Some (cell.Dict es)) p k d e =
    let all = mapped object (entries_data look f es) d e in
    ap (cell_data see g) (k (cell.Dict es) refl) ∙ (ap (option_map object) (entries-stay look see s f g h es all.0 all.1) ∙ ap Some all.2)
cell-stays look see s f g h (Some (cell.Range r)) p k d e = absurd (let no : ⊥ = cc in no)
cell-stays look see s f g h (Some (cell.Func r)) p k d e = absurd (let no : ⊥ = cc in no)
cell-stays look see s f g h (Some (cell.Frame r)) p k d e = absurd (let no : ⊥ = cc in no)
cell-stays look see s f g h (Some (cell.Bound m x)) p k d e = absurd (let no : ⊥ = cc in no)
cell-stays look see s f g h (Some (cell.Struct fs)) p k d e =
    let all = mapped object (fields_data f fs) d e in
    ap (cell_data see g) (k (cell.Struct fs) refl) ∙ (ap (option_map object) (fields-stay f g h fs all.0 all.1) ∙ ap Some all.2)
cell-stays look see s f g h (Some (cell.Set es)) p k d e =
    let all = mapped array (items_data f (map (λ (x : Value × Value). x.0) es)) d e in
    ap (cell_data see g) (k (cell.Set es) refl) ∙ (ap (option_map array) (items-stay f g h (map (λ (x : Value × Value). x.0) es) all.0 all.1) ∙ ap Some all.2)
cell-stays look see s f g h None p k d e = absurd (let no : ⊥ = cc in no)

value-stays : (look see : Value → Option Cell) → Stay Value Cell look see → (f g : Value → Option Data) → Stay Value Data f g → Stay Value Data (value_data look f) (value_data see g)
value-stays look see s f g h value.NoneValue d e = e
value-stays look see s f g h (value.Bool b) d e = e
value-stays look see s f g h (value.Int n) d e = e
value-stays look see s f g h (value.Ref a b) d e = cell-stays look see s f g h (look (value.Ref a b)) (see (value.Ref a b)) (s (value.Ref a b)) d e
value-stays look see s f g h (value.Builtin b) d e = absurd (let no : ⊥ = cc in no)

pub data_stays : DataStays
unfolding data_of
data_stays look see s zero m v d le e = absurd (let no : ⊥ = cc in no)
data_stays look see s (suc n) zero v d le e = absurd (let no : ⊥ = omega arith in no)
data_stays look see s (suc n) (suc m) v d le e =
    value-stays look see s (data_of look n) (data_of see m) (λ x y. data_stays look see s n m x y (omega arith)) v d e

pub one_data : OneData
one_data look n m v d e a b =
    let one : data_of look (n + m) v ≡ Some d = data_stays look look (λ x c h. h) n (n + m) v d (omega arith) a in
    let other : data_of look (n + m) v ≡ Some e = data_stays look look (λ x c h. h) m (n + m) v e (omega arith) b in
    let same : Some d ≡ Some e = sym one ∙ other in
    cc
