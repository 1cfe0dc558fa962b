-- The data of a value comes from the data of its parts, and a value on its own path has none.
use Rattle.std.proofs.Common.{arith, ◌≡◌, ◌<◌, ◌-◌, ◌+◌, drop, ℕ, zero, suc, Bool, true, false, nat_eq, ◌&&◌, ◌||◌, List, [], ◌∷◌, ◌++◌, length, get_or, map, Option, Some, None, refl, ap, sym, subst, ◌∙◌, ◌⊎◌, inl, inr, eqb-true}
use Rattle.std.specs.Prelude.{slice_get}
use Rattle.std.proofs.lemmas.List.{drop_more}
use Rattle.std.specs.List.{list_any}
use Rattle.std.specs.Option.{option_and_then, option_map}
use Rattle.serde_json.specs.Data.{Data, item, no_items, put}
use Rattle.serde_json.specs.View.{items_of}
use Rattle.star_store.specs.declared.values.Value.{Value}
use Rattle.star_store.specs.declared.values.Value.TheVariants as value
use Rattle.star_store.specs.declared.values.Cell.{Cell}
use Rattle.star_store.specs.declared.values.Cell.TheVariants as cell
use Rattle.star_store.specs.Fields.{values_of}
use Rattle.star_store.specs.Text.{on_path, same_address}
use Rattle.star_data.specs.Data.{cell_data, cell_of, data_of, entries_data, items_data, key_in, value_data}
use Rattle.star_data.specs.Parts.{IsPart, StandsIn, in_dict, in_list, in_set, in_struct, in_tuple}
use Rattle.star_data.specs.Paths.{AllStandInEach, StandsInEach}
use Rattle.star_data.proofs.Options.{chained, mapped}
use Rattle.star_data.proofs.Parts.{no_cycle_is_data, stands_push}

-- ---- levels

pub data_at_none : (look : Value → Option Cell) (v : Value) → data_of look 0 v ≡ None
unfolding data_of
data_at_none look v = refl

pub data_at : (look : Value → Option Cell) (levels : ℕ) (v : Value) → 0 < levels → data_of look levels v ≡ value_data look (data_of look (levels - 1)) v
unfolding data_of
data_at look zero v h = absurd (let no : ⊥ = omega arith in no)
data_at look (suc levels) v h = ap (λ k. value_data look (data_of look k) v) (let e : levels ≡ suc levels - 1 = omega arith in e)

pub by_its_cell : (look : Value → Option Cell) (f : Value → Option Data) (v : Value) (c : Cell) → cell_of look v ≡ Some c → value_data look f v ≡ cell_data look f (Some c)
by_its_cell look f (value.Ref h a) c e = ap (cell_data look f) e
by_its_cell look f value.NoneValue c e = absurd (let no : ⊥ = cc in no)
by_its_cell look f (value.Bool b) c e = absurd (let no : ⊥ = cc in no)
by_its_cell look f (value.Int n) c e = absurd (let no : ⊥ = cc in no)
by_its_cell look f (value.Builtin b) c e = absurd (let no : ⊥ = cc in no)

-- ---- items

pub none_then : {A B : Type 0} (o : Option A) (g : A → Option B) → o ≡ None → option_and_then g o ≡ None
none_then o g e = ap (option_and_then g) e

pub then_none : {A B : Type 0} (o : Option A) (g : A → Option B) → ((x : A) → g x ≡ None) → option_and_then g o ≡ None
then_none None g e = refl
then_none (Some x) g e = e x

pub item_none : (f : Value → Option Data) (xs : List Value) (i : ℕ) (x : Value) → slice_get xs i ≡ Some x → f x ≡ None → items_data f xs ≡ None
item_none f [] i x e n = absurd (let no : ⊥ = cc in no)
item_none f (y ∷ xs) zero x e n =
    let same : y ≡ x = cc in
    none_then (f y) (λ d. option_map (item d) (items_data f xs)) (ap f same ∙ n)
item_none f (y ∷ xs) (suc i) x e n =
    let rest : items_data f xs ≡ None = item_none f xs i x e n in
    then_none (f y) (λ d. option_map (item d) (items_data f xs)) (λ d. ap (option_map (item d)) rest)

pub items_push : (f : Value → Option Data) (xs : List Value) (ds : List Data) (x : Value) (d : Data) → items_data f xs ≡ Some (items_of ds) → f x ≡ Some d → items_data f (xs ++ x ∷ []) ≡ Some (items_of (ds ++ d ∷ []))
items_push f [] [] x d e h = ap (option_and_then (λ c. Some (item c no_items))) h
items_push f [] (c ∷ ds) x d e h = absurd (let no : ⊥ = cc in no)
items_push f (y ∷ xs) [] x d e h =
    let first = chained (λ c. option_map (item c) (items_data f xs)) (f y) no_items e in
    let rest = mapped (item first.0) (items_data f xs) no_items first.2 in
    let no : item first.0 rest.0 ≡ no_items = rest.2 in
    absurd (let none : ⊥ = cc in none)
items_push f (y ∷ xs) (c ∷ ds) x d e h =
    let first = chained (λ b. option_map (item b) (items_data f xs)) (f y) (item c (items_of ds)) e in
    let rest = mapped (item first.0) (items_data f xs) (item c (items_of ds)) first.2 in
    let both : item first.0 rest.0 ≡ item c (items_of ds) = rest.2 in
    let tail : rest.0 ≡ items_of ds = cc in
    let head : first.0 ≡ c = cc in
    let more : items_data f (xs ++ x ∷ []) ≡ Some (items_of (ds ++ d ∷ [])) = items_push f xs ds x d (rest.1 ∙ ap Some tail) h in
    ap (option_and_then (λ b. option_map (item b) (items_data f (xs ++ x ∷ [])))) (first.1 ∙ ap Some head) ∙ ap (option_map (item c)) more

-- ---- entries

pub entry_no_key : (look : Value → Option Cell) (f : Value → Option Data) (es : List (Value × Value)) (i : ℕ) (e : Value × Value) → slice_get es i ≡ Some e → key_in (cell_of look e.0) ≡ None → entries_data look f es ≡ None
entry_no_key look f [] i e at n = absurd (let no : ⊥ = cc in no)
entry_no_key look f (x ∷ es) zero e at n =
    let same : x ≡ e = cc in
    none_then (key_in (cell_of look x.0)) (λ k. option_and_then (λ d. option_map (put k d) (entries_data look f es)) (f x.1)) (ap (λ (z : Value × Value). key_in (cell_of look z.0)) same ∙ n)
entry_no_key look f (x ∷ es) (suc i) e at n =
    let rest : entries_data look f es ≡ None = entry_no_key look f es i e at n in
    then_none (key_in (cell_of look x.0)) (λ k. option_and_then (λ d. option_map (put k d) (entries_data look f es)) (f x.1))
    (λ k. then_none (f x.1) (λ d. option_map (put k d) (entries_data look f es)) (λ d. ap (option_map (put k d)) rest))

-- if the entries from some place on are not data, all together are not
pub rest_none : (look : Value → Option Cell) (f : Value → Option Data) (es : List (Value × Value)) (i : ℕ) → entries_data look f (drop i es) ≡ None → entries_data look f es ≡ None
rest_none look f es zero e = e
rest_none look f [] (suc i) e = e
rest_none look f (x ∷ es) (suc i) e =
    let rest : entries_data look f es ≡ None = rest_none look f es i e in
    then_none (key_in (cell_of look x.0)) (λ k. option_and_then (λ d. option_map (put k d) (entries_data look f es)) (f x.1))
    (λ k. then_none (f x.1) (λ d. option_map (put k d) (entries_data look f es)) (λ d. ap (option_map (put k d)) rest))

-- the entries from the place before
pub one_back : (es : List (Value × Value)) (i : ℕ) → 0 < i → i - 1 < length es → drop (i - 1) es ≡ get_or es (i - 1) (value.NoneValue, value.NoneValue) ∷ drop i es
one_back es i some less = drop_more es (i - 1) (value.NoneValue, value.NoneValue) less ∙ ap (λ k. get_or es (i - 1) (value.NoneValue, value.NoneValue) ∷ drop k es) (let e : i - 1 + 1 ≡ i = omega (arith, some) in e)

-- ---- values that contain themselves

both : (a b : Bool) → (a && b) ≡ true → (a ≡ true) × (b ≡ true)
both true b e = (refl, e)
both false b e = absurd (let no : ⊥ = cc in no)

address : (v p : Value) → same_address v p ≡ true → p ≡ v
address (value.Ref h a) (value.Ref k b) e =
    let is = both (nat_eq h k) (nat_eq a b) e in
    ap (λ z. value.Ref z b) (sym (eqb-true h k is.0)) ∙ ap (λ z. value.Ref h z) (sym (eqb-true a b is.1))
address (value.Ref h a) value.NoneValue e = absurd (let no : ⊥ = cc in no)
address (value.Ref h a) (value.Bool b) e = absurd (let no : ⊥ = cc in no)
address (value.Ref h a) (value.Int n) e = absurd (let no : ⊥ = cc in no)
address (value.Ref h a) (value.Builtin b) e = absurd (let no : ⊥ = cc in no)
address value.NoneValue p e = absurd (let no : ⊥ = cc in no)
address (value.Bool b) p e = absurd (let no : ⊥ = cc in no)
address (value.Int n) p e = absurd (let no : ⊥ = cc in no)
address (value.Builtin b) p e = absurd (let no : ⊥ = cc in no)

found_first : (v p : Value) (path : List Value) (b : Bool) → same_address v p ≡ b → (list_any (same_address v) path ≡ true → (i : ℕ) × (slice_get path i ≡ Some v)) → (b || list_any (same_address v) path) ≡ true → (i : ℕ) × (slice_get (p ∷ path) i ≡ Some v)
found_first v p path true is rest h = (0, ap Some (address v p is))
found_first v p path false is rest h = let at = rest h in (suc at.0, at.1)

found : (v : Value) (path : List Value) → list_any (same_address v) path ≡ true → (i : ℕ) × (slice_get path i ≡ Some v)
found v [] e = absurd (let no : ⊥ = cc in no)
found v (p ∷ path) e = found_first v p path (same_address v p) refl (found v path) e

no_data : (look : Value → Option Cell) (n k : ℕ) (v : Value) (o : Option Data) → data_of look n v ≡ o → StandsIn look (suc k) v v → o ≡ None
no_data look n k v None is h = refl
no_data look n k v (Some d) is h = absurd (no_cycle_is_data look n k v d h is)

pub on_own_path : (look : Value → Option Cell) (n : ℕ) (path : List Value) (v : Value) → StandsInEach look path v → on_path v path ≡ true → data_of look n v ≡ None
on_own_path look n path v stands on =
    let at = found v path on in
    let deep = stands.each at.0 v at.1 in
    no_data look n deep.0 v (data_of look n v) refl deep.1

pub no_cell_data : (look : Value → Option Cell) (n : ℕ) (path : List Value) (v : Value) (c : Cell) → cell_of look v ≡ Some c → StandsInEach look path v → on_path v path ≡ true → cell_data look (data_of look n) (Some c) ≡ None
unfolding data_of
no_cell_data look n path v c is stands on = sym (by_its_cell look (data_of look n) v c is) ∙ on_own_path look (suc n) path v stands on

-- ---- paths

one_deeper : (look : Value → Option Cell) (path : List Value) (v x : Value) → StandsInEach look path v → IsPart look v x → StandsInEach look path x
one_deeper look path v x stands part = record { each = λ i p at. (let deep = stands.each i p at in (suc deep.0, stands_push look (suc deep.0) p v x deep.1 part)) }

pushed : (xs : List Value) (y : Value) (i : ℕ) (p : Value) → slice_get (xs ++ y ∷ []) i ≡ Some p → (slice_get xs i ≡ Some p) ⊎ (y ≡ p)
pushed [] y zero p e = inr cc
pushed [] y (suc i) p e = absurd (let no : ⊥ = cc in no)
pushed (x ∷ xs) y zero p e = inl e
pushed (x ∷ xs) y (suc i) p e = pushed xs y i p e

entered : (look : Value → Option Cell) (path : List Value) (v x : Value) → StandsInEach look path v → IsPart look v x → StandsInEach look (path ++ v ∷ []) x
entered look path v x stands part = record { each = λ i p at. turn i p (pushed path v i p at) }
  where
    turn : (i : ℕ) (p : Value) → ((slice_get path i ≡ Some p) ⊎ (v ≡ p)) → (k : ℕ) × StandsIn look (suc k) p x
    turn i p (inl at) = (one_deeper look path v x stands part).each i p at
    turn i p (inr same) = (0, subst (λ z. StandsIn look 1 z x) same (x, part, refl))

pub starts : (look : Value → Option Cell) (v : Value) → StandsInEach look [] v
starts look v = record { each = λ i p at. absurd (let no : ⊥ = cc in no) }

pub in_a_tuple : (look : Value → Option Cell) (path : List Value) (v : Value) (xs : List Value) → cell_of look v ≡ Some (cell.Tuple xs) → StandsInEach look path v → AllStandInEach look path xs
in_a_tuple look path v xs is stands = record { all = λ i x at. one_deeper look path v x stands (in_tuple xs i is at) }

pub in_a_list : (look : Value → Option Cell) (path : List Value) (v : Value) (xs : List Value) → cell_of look v ≡ Some (cell.List xs) → StandsInEach look path v → AllStandInEach look (path ++ v ∷ []) xs
in_a_list look path v xs is stands = record { all = λ i x at. entered look path v x stands (in_list xs i is at) }

value_at : (es : List (Value × Value)) (i : ℕ) (x : Value) → slice_get (map (λ (e : Value × Value). e.1) es) i ≡ Some x → (k : Value) × (slice_get es i ≡ Some (k, x))
value_at [] i x e = absurd (let no : ⊥ = cc in no)
value_at (y ∷ es) zero x e = (y.0, let same : y.1 ≡ x = cc in ap (λ z. Some (y.0, z)) same)
value_at (y ∷ es) (suc i) x e = value_at es i x e

pub in_a_dict : (look : Value → Option Cell) (path : List Value) (v : Value) (es : List (Value × Value)) → cell_of look v ≡ Some (cell.Dict es) → StandsInEach look path v → AllStandInEach look (path ++ v ∷ []) (map (λ (e : Value × Value). e.1) es)
in_a_dict look path v es is stands = record { all = λ i x at. (let here = value_at es i x at in entered look path v x stands (in_dict es i here.0 is here.1)) }

pub field_at : (fs : List (List ℕ × Value)) (i : ℕ) (x : Value) → slice_get (values_of fs) i ≡ Some x → (n : List ℕ) × (slice_get fs i ≡ Some (n, x))
field_at [] i x e = absurd (let no : ⊥ = cc in no)
field_at (y ∷ fs) zero x e = (y.0, let same : y.1 ≡ x = cc in ap (λ z. Some (y.0, z)) same)
field_at (y ∷ fs) (suc i) x e = field_at fs i x e

pub in_a_struct : (look : Value → Option Cell) (path : List Value) (v : Value) (fs : List (List ℕ × Value)) → cell_of look v ≡ Some (cell.Struct fs) → StandsInEach look path v → AllStandInEach look path (values_of fs)
in_a_struct look path v fs is stands = record { all = λ i x at. (let here = field_at fs i x at in one_deeper look path v x stands (in_struct fs i here.0 is here.1)) }

pub in_a_set : (look : Value → Option Cell) (path : List Value) (v : Value) (es : List (Value × Value)) → cell_of look v ≡ Some (cell.Set es) → StandsInEach look path v → AllStandInEach look path (map (λ (e : Value × Value). e.0) es)
in_a_set look path v es is stands = record { all = λ i x at. one_deeper look path v x stands (in_set es i is at) }

pub by_ref : (look : Value → Option Cell) (f : Value → Option Data) (v : Value) (h a : ℕ) → v ≡ value.Ref h a → cell_data look f (look v) ≡ value_data look f v
by_ref look f v h a e = let P : Value → Type 0 = λ z. cell_data look f (look z) ≡ value_data look f z in subst P (sym e) refl

-- ---- places

pub at_place : {A : Type 0} (xs : List A) (i : ℕ) (d : A) → i < length xs → slice_get xs i ≡ Some (get_or xs i d)
at_place [] i d less = absurd (let no : ⊥ = omega arith in no)
at_place (x ∷ xs) zero d less = refl
at_place (x ∷ xs) (suc i) d less = at_place xs i d (omega arith)

pub is_none : {A : Type 0} (o : Option A) → ((x : A) → o ≡ Some x → ⊥) → o ≡ None
is_none None h = refl
is_none (Some x) h = absurd (h x refl)

pub mapped_at : {A B : Type 0} (g : A → B) (xs : List A) (i : ℕ) (x : A) → slice_get xs i ≡ Some x → slice_get (map g xs) i ≡ Some (g x)
mapped_at g [] i x e = absurd (let no : ⊥ = cc in no)
mapped_at g (y ∷ xs) zero x e = let same : y ≡ x = cc in ap (λ z. Some (g z)) same
mapped_at g (y ∷ xs) (suc i) x e = mapped_at g xs i x e
