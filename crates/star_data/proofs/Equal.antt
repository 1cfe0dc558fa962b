-- Equal values have the same data.
use Rattle.std.proofs.Common.{arith, eqb-true, ◌≡◌, ◌<◌, ◌≤◌, ◌+◌, ◌-◌, ℕ, zero, suc, nat_eq, nat_lt, Bool, true, false, ◌&&◌, List, [], ◌∷◌, length, get_or, Option, Some, None, refl, ap, sym, subst, ◌∙◌, if◌then◌else◌}
use Rattle.std.specs.Prelude.{slice_get}
use Rattle.std.specs.Bool.{beq}
use Rattle.std.proofs.lemmas.Bool.Decides.{Decides-int_eq}
use Rattle.std.specs.Ordering.{int_eq, nat_cmp}
use Rattle.std.specs.Option.{option_and_then, option_map}
use Rattle.std.specs.Cmp.Lexicographic.{pointwise, slice_cmp}
use Rattle.std.specs.declared.cmp.Ordering.{Ordering}
use Rattle.std.specs.declared.cmp.Ordering.TheVariants.{Less, Equal, Greater}
use Rattle.std.proofs.lemmas.Map.Lookups.{exact_bytes}
use Rattle.std.proofs.lemmas.List.Quantifiers.{position-Some}
use Rattle.serde_json.specs.Data.{Data, Items, Members, array, boolean, item, no_members, null, number, object, put, string}
use Rattle.serde_json.specs.Find.{get_member, of_integer}
use Rattle.star_store.specs.declared.values.Value.{Value}
use Rattle.star_store.specs.declared.values.Value.TheVariants as value
use Rattle.star_store.specs.declared.values.Cell.{Cell}
use Rattle.star_store.specs.declared.values.Cell.TheVariants as cell
use Rattle.star_store.specs.Equal.{same, same_cells, same_entries, same_fields, same_found, same_items, same_pairs, same_pair, same_place, same_entry, same_values}
use Rattle.star_store.specs.Fields.{names_of, same_names, values_of}
use Rattle.star_store.specs.Key.{key_levels, place_of, same_key, same_key_cell, value_of}
use Rattle.star_store.specs.Spend.{Enough, Lacks, Spend, Spent, all_places, answer, spend_then, visited}
use Rattle.star_data.specs.Counts.{member_count}
use Rattle.star_data.specs.Data.{cell_data, cell_of, data_of, entries_data, fields_data, items_data, key_in, text_in, utf8_of, value_data}
use Rattle.star_data.specs.Laws.{EqualAreSame, HasNoSet, KeysStandOnce}
use Rattle.star_data.specs.Parts.{IsPart, in_dict, in_list, in_struct, in_tuple}
use Rattle.star_data.proofs.Builds.{field_at}
use Rattle.star_data.proofs.Ints.{int_is}
use Rattle.star_data.proofs.Rising.{Rises, count_new, count_put, equal_bytes, rises_put, same_members}
use Rattle.serde_json.proofs.Views.{get_member-put, get_member-put_other}
use Rattle.star_data.proofs.Options.{chained, mapped}
use Rattle.star_data.proofs.Parts.{entry-data, is_text}
use Rattle.star_data.proofs.Strings.{key_is, string_is, utf8_is}

-- ---- bytes

both : (a b : Bool) → (a && b) ≡ true → (a ≡ true) × (b ≡ true)
both true b e = (refl, e)
both false b e = absurd (let no : ⊥ = cc in no)

same_bytes : (s t : List ℕ) → pointwise nat_eq s t ≡ true → s ≡ t
same_bytes [] [] e = refl
same_bytes [] (y ∷ t) e = absurd (let no : ⊥ = cc in no)
same_bytes (x ∷ s) [] e = absurd (let no : ⊥ = cc in no)
same_bytes (x ∷ s) (y ∷ t) e =
    let h = both (nat_eq x y) (pointwise nat_eq s t) e in
    ap (λ z. z ∷ s) (eqb-true x y h.0) ∙ ap (λ zs. y ∷ zs) (same_bytes s t h.1)

same_rows : (ns ms : List (List ℕ)) → same_names ns ms ≡ true → ns ≡ ms
same_rows [] [] e = refl
same_rows [] (m ∷ ms) e = absurd (let no : ⊥ = cc in no)
same_rows (n ∷ ns) [] e = absurd (let no : ⊥ = cc in no)
same_rows (n ∷ ns) (m ∷ ms) e =
    let h = both (pointwise nat_eq n m) (same_names ns ms) e in
    ap (λ z. z ∷ ns) (same_bytes n m h.0) ∙ ap (λ zs. m ∷ zs) (same_rows ns ms h.1)

own_number : (n : ℕ) → nat_eq n n ≡ true
own_number n = grind arith

own_bytes : (s : List ℕ) → pointwise nat_eq s s ≡ true
own_bytes [] = refl
own_bytes (x ∷ s) = ap (λ b. b && pointwise nat_eq s s) (own_number x) ∙ own_bytes s

-- ---- comparisons that pass

abbrev Passes : Spend Bool → Type 0
Passes f = (n : ℕ) × (left : ℕ) × (f n ≡ Enough true left)

unvisited : (f : Spend Bool) (n left : ℕ) → visited f n ≡ Enough true left → Passes f
unvisited f n left e = split (nat_lt n 1) e
  where
    split : (b : Bool) → (let o : Spent Bool = if b then Lacks Rattle.star_store.specs.declared.fault.StoreFault.TheVariants.Steps n else f (n - 1) in o) ≡ Enough true left → Passes f
    split true h = absurd (let no : ⊥ = cc in no)
    split false h = (n - 1, left, h)

first_passes : (o : Spent Bool) (g : Spend Bool) (left : ℕ) → spend_then o (λ b. if b then g else answer false) ≡ Enough true left → ((m : ℕ) × (o ≡ Enough true m)) × Passes g
first_passes (Enough true m) g left e = ((m, refl), (m, left, e))
first_passes (Enough false m) g left e = absurd (let no : ⊥ = cc in no)
first_passes (Lacks c m) g left e = absurd (let no : ⊥ = cc in no)

each_passes : (g : ℕ → Spend Bool) (k i : ℕ) → Passes (all_places g k i) → (j : ℕ) → j < k → Passes (g (i + j))
each_passes g zero i h j less = absurd (let no : ⊥ = omega (arith, less) in no)
each_passes g (suc k) i (n, left, e) zero less =
    let both = first_passes (g i n) (all_places g k (i + 1)) left e in
    let at : i ≡ i + 0 = omega arith in
    subst (λ z. Passes (g z)) at (n, both.0.0, both.0.1)
each_passes g (suc k) i (n, left, e) (suc j) less =
    let both = first_passes (g i n) (all_places g k (i + 1)) left e in
    let at : (i + 1) + j ≡ i + suc j = omega arith in
    subst (λ z. Passes (g z)) at (each_passes g k (i + 1) both.1 j (omega (arith, less)))

-- rows of one length
rows_pass : (g : ℕ → Spend Bool) (m k : ℕ) (n left : ℕ) → (let o : Spend Bool = if nat_eq m k then all_places g m 0 else answer false in o) n ≡ Enough true left → (m ≡ k) × ((j : ℕ) → j < m → Passes (g j))
rows_pass g m k n left e = split (nat_eq m k) refl e
  where
    split : (b : Bool) → nat_eq m k ≡ b → (let o : Spend Bool = if b then all_places g m 0 else answer false in o) n ≡ Enough true left → (m ≡ k) × ((j : ℕ) → j < m → Passes (g j))
    split true is h = (eqb-true m k is, λ j less. (let at : 0 + j ≡ j = omega arith in subst (λ z. Passes (g z)) at (each_passes g m 0 (n, left, h) j less)))
    split false is h = absurd (let no : ⊥ = cc in no)

within : {A : Type 0} (xs : List A) (j : ℕ) (x : A) → slice_get xs j ≡ Some x → j < length xs
within [] j x e = absurd (let no : ⊥ = cc in no)
within (y ∷ xs) zero x e = omega arith
within (y ∷ xs) (suc j) x e = let h : j < length xs = within xs j x e in omega (arith, h)

-- ---- items and members

items_same : (a b : Value → Option Data) (xs ys : List Value) (ds es : Items) → items_data a xs ≡ Some ds → items_data b ys ≡ Some es → length xs ≡ length ys
    → ((j : ℕ) (x y : Value) (d e : Data) → slice_get xs j ≡ Some x → slice_get ys j ≡ Some y → a x ≡ Some d → b y ≡ Some e → d ≡ e) → ds ≡ es
items_same a b [] [] ds es f g l h = cc
items_same a b [] (y ∷ ys) ds es f g l h = absurd (let no : ⊥ = omega (arith, l) in no)
items_same a b (x ∷ xs) [] ds es f g l h = absurd (let no : ⊥ = omega (arith, l) in no)
items_same a b (x ∷ xs) (y ∷ ys) ds es f g l h =
    let one = chained (λ d. option_map (item d) (items_data a xs)) (a x) ds f in
    let more = mapped (item one.0) (items_data a xs) ds one.2 in
    let two = chained (λ d. option_map (item d) (items_data b ys)) (b y) es g in
    let rest = mapped (item two.0) (items_data b ys) es two.2 in
    let tails : more.0 ≡ rest.0 = items_same a b xs ys more.0 rest.0 more.1 rest.1 (omega (arith, l)) (λ j. h (suc j)) in
    sym more.2 ∙ (ap (λ z. item z more.0) (h zero x y one.0 two.0 refl refl one.1 two.1) ∙ (ap (item two.0) tails ∙ rest.2))

-- the members of fields with the same names
fields_same : (a b : Value → Option Data) (fs gs : List (List ℕ × Value)) (ms ns : Members) → fields_data a fs ≡ Some ms → fields_data b gs ≡ Some ns → names_of fs ≡ names_of gs
    → ((j : ℕ) (x y : Value) (d e : Data) → slice_get (values_of fs) j ≡ Some x → slice_get (values_of gs) j ≡ Some y → a x ≡ Some d → b y ≡ Some e → d ≡ e) → ms ≡ ns
fields_same a b [] [] ms ns f g l h = cc
fields_same a b [] (y ∷ gs) ms ns f g l h = absurd (let no : ⊥ = cc in no)
fields_same a b (x ∷ fs) [] ms ns f g l h = absurd (let no : ⊥ = cc in no)
fields_same a b (x ∷ fs) (y ∷ gs) ms ns f g l h =
    let k = chained (λ k. option_and_then (λ d. option_map (put k d) (fields_data a fs)) (a x.1)) (utf8_of x.0) ms f in
    let d = chained (λ d. option_map (put k.0 d) (fields_data a fs)) (a x.1) ms k.2 in
    let more = mapped (put k.0 d.0) (fields_data a fs) ms d.2 in
    let m = chained (λ k. option_and_then (λ d. option_map (put k d) (fields_data b gs)) (b y.1)) (utf8_of y.0) ns g in
    let e = chained (λ d. option_map (put m.0 d) (fields_data b gs)) (b y.1) ns m.2 in
    let rest = mapped (put m.0 e.0) (fields_data b gs) ns e.2 in
    let first : x.0 ≡ y.0 = cc in
    let later : names_of fs ≡ names_of gs = cc in
    let keys : k.0 ≡ m.0 = sym (utf8_is x.0 k.0 k.1).0 ∙ (first ∙ (utf8_is y.0 m.0 m.1).0) in
    let tails : more.0 ≡ rest.0 = fields_same a b fs gs more.0 rest.0 more.1 rest.1 later (λ j. h (suc j)) in
    sym more.2 ∙ (ap (λ z. put z d.0 more.0) keys ∙ (ap (λ z. put m.0 z more.0) (h zero x.1 y.1 d.0 e.0 refl refl d.1 e.1) ∙ (ap (put m.0 e.0) tails ∙ rest.2)))

pub sorted_fields : (a : Value → Option Data) (fs : List (List ℕ × Value)) (ms : Members) → fields_data a fs ≡ Some ms → Rises ms
sorted_fields a [] ms f = let e : no_members ≡ ms = cc in subst Rises e tt
sorted_fields a (x ∷ fs) ms f =
    let k = chained (λ k. option_and_then (λ d. option_map (put k d) (fields_data a fs)) (a x.1)) (utf8_of x.0) ms f in
    let d = chained (λ d. option_map (put k.0 d) (fields_data a fs)) (a x.1) ms k.2 in
    let rest = mapped (put k.0 d.0) (fields_data a fs) ms d.2 in
    subst Rises rest.2 (rises_put k.0 d.0 rest.0 (sorted_fields a fs rest.0 rest.1))

-- the entries are those of a row of members, each put before the members of the later ones
record Entered (look : Value → Option Cell) (a : Value → Option Data) (x : Value × Value) (xs : List (Value × Value)) (ms : Members) : Type 0 where
  key : List ℕ
  value : Data
  others : Members
  text : text_in (cell_of look x.0) ≡ Some key
  is_data : a x.1 ≡ Some value
  rest : entries_data look a xs ≡ Some others
  all : put key value others ≡ ms

entered_by : (look : Value → Option Cell) (a : Value → Option Data) (x : Value × Value) (xs : List (Value × Value)) (ms : Members) → entries_data look a (x ∷ xs) ≡ Some ms → Entered look a x xs ms
entered_by look a x xs ms f =
    let k = chained (λ k. option_and_then (λ d. option_map (put k d) (entries_data look a xs)) (a x.1)) (key_in (cell_of look x.0)) ms f in
    let d = chained (λ d. option_map (put k.0 d) (entries_data look a xs)) (a x.1) ms k.2 in
    let rest = mapped (put k.0 d.0) (entries_data look a xs) ms d.2 in
    record { key = k.0; value = d.0; others = rest.0; text = (key_is (cell_of look x.0) k.0 k.1).0; is_data = d.1; rest = rest.1; all = rest.2 }

pub sorted_entries : (look : Value → Option Cell) (a : Value → Option Data) (xs : List (Value × Value)) (ms : Members) → entries_data look a xs ≡ Some ms → Rises ms
sorted_entries look a [] ms f = let e : no_members ≡ ms = cc in subst Rises e tt
sorted_entries look a (x ∷ xs) ms f =
    let it = entered_by look a x xs ms f in
    subst Rises it.all (rises_put it.key it.value it.others (sorted_entries look a xs it.others it.rest))

at_most : (look : Value → Option Cell) (a : Value → Option Data) (xs : List (Value × Value)) (ms : Members) → entries_data look a xs ≡ Some ms → member_count ms ≤ length xs
at_most look a [] ms f = let e : no_members ≡ ms = cc in subst (λ z. member_count z ≤ 0) e (omega arith)
at_most look a (x ∷ xs) ms f =
    let it = entered_by look a x xs ms f in
    let less = at_most look a xs it.others it.rest in
    let one = count_put it.key it.value it.others in
    subst (λ z. member_count z ≤ suc (length xs)) it.all (omega (arith, less, one))

-- no later entry has the key: it is not among the keys of their members
absent : (look : Value → Option Cell) (a : Value → Option Data) (xs : List (Value × Value)) (ms : Members) (t : List ℕ) → entries_data look a xs ≡ Some ms → ((j : ℕ) (y : Value × Value) → slice_get xs j ≡ Some y → text_in (cell_of look y.0) ≡ Some t → ⊥) → get_member t ms ≡ None
absent look a [] ms t f never = let e : no_members ≡ ms = cc in subst (λ z. get_member t z ≡ None) e refl
absent look a (x ∷ xs) ms t f never =
    let it = entered_by look a x xs ms f in
    let other : t ≡ it.key → ⊥ = λ e. never zero x refl (it.text ∙ ap Some (sym e)) in
    ap (get_member t) (sym it.all) ∙ (get_member-put_other t it.key it.value it.others other ∙ absent look a xs it.others t it.rest (λ j y at. never (suc j) y at))

-- each key occurs once among the entries
abbrev Once : (Value → Option Cell) → List (Value × Value) → Type 0
Once look es = (i j : ℕ) (x y : Value × Value) (t : List ℕ) → slice_get es i ≡ Some x → slice_get es j ≡ Some y → text_in (cell_of look x.0) ≡ Some t → text_in (cell_of look y.0) ≡ Some t → i ≡ j

once_rest : (look : Value → Option Cell) (x : Value × Value) (xs : List (Value × Value)) → Once look (x ∷ xs) → Once look xs
once_rest look x xs once i j y z t p q e g = let both : suc i ≡ suc j = once (suc i) (suc j) y z t p q e g in omega (arith, both)

counted : (look : Value → Option Cell) (a : Value → Option Data) (xs : List (Value × Value)) (ms : Members) → Once look xs → entries_data look a xs ≡ Some ms → member_count ms ≡ length xs
counted look a [] ms once f = let e : no_members ≡ ms = cc in subst (λ z. member_count z ≡ 0) e refl
counted look a (x ∷ xs) ms once f =
    let it = entered_by look a x xs ms f in
    let none = absent look a xs it.others it.key it.rest (λ j y at is. (let both : zero ≡ suc j = once zero (suc j) x y it.key refl at it.text is in let no : ⊥ = omega (arith, both) in no)) in
    ap member_count (sym it.all) ∙ (count_new it.key it.value it.others none ∙ ap suc (counted look a xs it.others (once_rest look x xs once) it.rest))

-- each member comes from an entry
members_in : (look : Value → Option Cell) (a : Value → Option Data) (xs : List (Value × Value)) (ms ns : Members) → entries_data look a xs ≡ Some ms
    → ((j : ℕ) (x : Value × Value) (t : List ℕ) (d : Data) → slice_get xs j ≡ Some x → text_in (cell_of look x.0) ≡ Some t → a x.1 ≡ Some d → get_member t ns ≡ Some d) → (t : List ℕ) (d : Data) → get_member t ms ≡ Some d → get_member t ns ≡ Some d
members_in look a [] ms ns f h t d is = absurd (let e : no_members ≡ ms = cc in let no : None ≡ Some d = ap (get_member t) e ∙ is in let none : ⊥ = cc in none)
members_in look a (x ∷ xs) ms ns f h t d is = turn (slice_cmp nat_cmp t it.key) refl (λ os g same. members_in look a xs os ns g (λ j. h (suc j)) t d same)
  where
    it : Entered look a x xs ms
    it = entered_by look a x xs ms f

    put_is : get_member t (put it.key it.value it.others) ≡ Some d
    put_is = ap (get_member t) it.all ∙ is

    other : ((os : Members) → entries_data look a xs ≡ Some os → get_member t os ≡ Some d → get_member t ns ≡ Some d) → (t ≡ it.key → ⊥) → get_member t ns ≡ Some d
    other later ne = later it.others it.rest (sym (get_member-put_other t it.key it.value it.others ne) ∙ put_is)

    turn : (o : Ordering) → slice_cmp nat_cmp t it.key ≡ o → ((os : Members) → entries_data look a xs ≡ Some os → get_member t os ≡ Some d → get_member t ns ≡ Some d) → get_member t ns ≡ Some d
    turn Equal e later =
        let same : t ≡ it.key = exact_bytes t it.key e in
        let both : Some it.value ≡ Some d = sym (get_member-put it.key it.value it.others) ∙ (ap (λ k. get_member k (put it.key it.value it.others)) (sym same) ∙ put_is) in
        ap (λ k. get_member k ns) same ∙ (h zero x it.key it.value refl it.text it.is_data ∙ both)
    turn Less e later = other later (λ same. less_not (sym e ∙ (ap (λ k. slice_cmp nat_cmp k it.key) same ∙ equal_bytes it.key)))
      where
        less_not : Less ≡ Equal → ⊥
        less_not clash = cc
    turn Greater e later = other later (λ same. more_not (sym e ∙ (ap (λ k. slice_cmp nat_cmp k it.key) same ∙ equal_bytes it.key)))
      where
        more_not : Greater ≡ Equal → ⊥
        more_not clash = cc

-- ---- a member by its key

found : (look : Value → Option Cell) (b : Value → Option Data) (ys : List (Value × Value)) (ns : Members) → entries_data look b ys ≡ Some ns → (t : List ℕ) (i : ℕ) (y : Value × Value) → slice_get ys i ≡ Some y → text_in (cell_of look y.0) ≡ Some t
    → ((j : ℕ) (z : Value × Value) → j < i → slice_get ys j ≡ Some z → text_in (cell_of look z.0) ≡ Some t → ⊥) → (d : Data) × (get_member t ns ≡ Some d) × (b y.1 ≡ Some d)
found look b [] ns f t i y at is before = absurd (let no : ⊥ = cc in no)
found look b (x ∷ ys) ns f t zero y at is before =
    let it = entered_by look b x ys ns f in
    let same : x ≡ y = cc in
    let here : text_in (cell_of look x.0) ≡ Some t = ap (λ (z : Value × Value). text_in (cell_of look z.0)) same ∙ is in
    let texts : Some it.key ≡ Some t = sym it.text ∙ here in
    let key : it.key ≡ t = cc in
    (it.value, ap (get_member t) (sym it.all) ∙ (ap (λ k. get_member k (put it.key it.value it.others)) (sym key) ∙ get_member-put it.key it.value it.others), ap (λ (z : Value × Value). b z.1) (sym same) ∙ it.is_data)
found look b (x ∷ ys) ns f t (suc i) y at is before =
    let it = entered_by look b x ys ns f in
    let more = found look b ys it.others it.rest t i y at is (λ j z less. before (suc j) z (omega (arith, less))) in
    let other : t ≡ it.key → ⊥ = λ e. before zero x (omega arith) refl (it.text ∙ ap Some (sym e)) in
    (more.0, ap (get_member t) (sym it.all) ∙ (get_member-put_other t it.key it.value it.others other ∙ more.1), more.2)

text_keys : (look : Value → Option Cell) (n : ℕ) (x y : Value) (t u : List ℕ) → text_in (cell_of look x) ≡ Some t → text_in (cell_of look y) ≡ Some u → same_key look (suc n) x y ≡ pointwise nat_eq t u
unfolding same_key
text_keys look n (value.Ref h a) (value.Ref k b) t u e g =
    ap (λ c. same_key_cell (same_key look n) c (look (value.Ref k b))) (is_text (look (value.Ref h a)) t e) ∙ ap (λ c. same_key_cell (same_key look n) (Some (cell.Text t)) c) (is_text (look (value.Ref k b)) u g)
text_keys look n (value.Ref h a) _ t u e g = absurd (let no : ⊥ = cc in no)
text_keys look n _ y t u e g = absurd (let no : ⊥ = cc in no)

got : {A : Type 0} (xs : List A) (i : ℕ) (x d : A) → slice_get xs i ≡ Some x → get_or xs i d ≡ x
got [] i x d e = absurd (let no : ⊥ = cc in no)
got (y ∷ xs) zero x d e = cc
got (y ∷ xs) (suc i) x d e = got xs i x d e

by_key : (look : Value → Option Cell) (b : Value → Option Data) (ys : List (Value × Value)) (ns : Members) → entries_data look b ys ≡ Some ns → (key v : Value) (t : List ℕ) → text_in (cell_of look key) ≡ Some t → value_of look key ys ≡ Some v
    → ((i : ℕ) (y : Value × Value) → slice_get ys i ≡ Some y → (u : List ℕ) × (text_in (cell_of look y.0) ≡ Some u)) → (d : Data) × (get_member t ns ≡ Some d) × (b v ≡ Some d)
by_key look b ys ns f key v t is h texts =
    let place = chained (λ i. option_map (λ (e : Value × Value). e.1) (slice_get ys i)) (place_of look key ys) v h in
    let entry = mapped (λ (e : Value × Value). e.1) (slice_get ys place.0) v place.2 in
    let first = position-Some (λ (e : Value × Value). same_key look key_levels key e.0) ys place.0 entry.0 place.1 in
    let text = texts place.0 entry.0 entry.1 in
    let same : same_key look key_levels key (entry.0).0 ≡ true = ap (λ (z : Value × Value). same_key look key_levels key z.0) (sym (got ys place.0 entry.0 entry.0 entry.1)) ∙ first.1 in
    let bytes : t ≡ text.0 = same_bytes t text.0 (sym (text_keys look 400 key (entry.0).0 t text.0 is text.1) ∙ same) in
    let member = found look b ys ns f t place.0 entry.0 entry.1 (text.1 ∙ ap Some (sym bytes)) (λ j z less at u. clash (same_key look key_levels key z.0) (text_keys look 400 key z.0 t t is u ∙ own_bytes t) (ap (λ (q : Value × Value). same_key look key_levels key q.0) (sym (got ys j z entry.0 at)) ∙ first.2 j less)) in
    (member.0, member.1, ap b (sym entry.2) ∙ member.2)
  where
    clash : (b : Bool) → b ≡ true → b ≡ false → ⊥
    clash true e g = cc
    clash false e g = cc

-- ---- cells and values

-- a comparison that passes makes the data the same, if one of the two values is of some kind
abbrev Below : (Value → Type 0) → (Value → Value → Spend Bool) → (Value → Option Data) → (Value → Option Data) → Type 0
Below p f a b = (x y : Value) (d e : Data) → p x → Passes (f x y) → a x ≡ Some d → b y ≡ Some e → d ≡ e

-- all values of a row are of some kind
abbrev AllAre : (Value → Type 0) → List Value → Type 0
AllAre p xs = (j : ℕ) (x : Value) → slice_get xs j ≡ Some x → p x

pair_is : (f : Value → Value → Spend Bool) (xs ys : List Value) (j : ℕ) (x y : Value) → slice_get xs j ≡ Some x → slice_get ys j ≡ Some y → same_place f xs ys j ≡ f x y
pair_is f xs ys j x y e g = ap (λ o. same_pair f o (slice_get ys j)) e ∙ ap (λ o. same_pair f (Some x) o) g

listed : (k : Value → Type 0) (f : Value → Value → Spend Bool) (a b : Value → Option Data) → Below k f a b → (xs ys : List Value) (n left : ℕ) → AllAre k xs → same_items f xs ys n ≡ Enough true left → (d e : Data) → option_map array (items_data a xs) ≡ Some d → option_map array (items_data b ys) ≡ Some e → d ≡ e
listed k f a b h xs ys n left parts is d e p q =
    let ds = mapped array (items_data a xs) d p in
    let es = mapped array (items_data b ys) e q in
    let rows = rows_pass (same_place f xs ys) (length xs) (length ys) n left is in
    let all : ds.0 ≡ es.0 = items_same a b xs ys ds.0 es.0 ds.1 es.1 rows.0 (λ j x y u v at there. h x y u v (parts j x at) (subst Passes (pair_is f xs ys j x y at there) (rows.1 j (within xs j x at)))) in
    sym ds.2 ∙ (ap array all ∙ es.2)

fielded : (k : Value → Type 0) (f : Value → Value → Spend Bool) (a b : Value → Option Data) → Below k f a b → (fs gs : List (List ℕ × Value)) (n left : ℕ) → AllAre k (values_of fs) → same_fields f fs gs n ≡ Enough true left → (d e : Data) → option_map object (fields_data a fs) ≡ Some d → option_map object (fields_data b gs) ≡ Some e → d ≡ e
fielded k f a b h fs gs n left parts is d e p q = split (same_names (names_of fs) (names_of gs)) refl is
  where
    split : (c : Bool) → same_names (names_of fs) (names_of gs) ≡ c → (let o : Spend Bool = if c then same_items f (values_of fs) (values_of gs) else answer false in o) n ≡ Enough true left → d ≡ e
    split false names passed = absurd (let no : ⊥ = cc in no)
    split true names passed =
        let ms = mapped object (fields_data a fs) d p in
        let ns = mapped object (fields_data b gs) e q in
        let xs = values_of fs in
        let ys = values_of gs in
        let rows = rows_pass (same_place f xs ys) (length xs) (length ys) n left passed in
        let all : ms.0 ≡ ns.0 = fields_same a b fs gs ms.0 ns.0 ms.1 ns.1 (same_rows (names_of fs) (names_of gs) names) (λ j x y u v at there. h x y u v (parts j x at) (subst Passes (pair_is f xs ys j x y at there) (rows.1 j (within xs j x at)))) in
        sym ms.2 ∙ (ap object all ∙ ns.2)

found_passes : (f : Value → Value → Spend Bool) (x : Value) (o : Option Value) → Passes (same_found f x o) → (v : Value) × (o ≡ Some v) × Passes (f x v)
found_passes f x None (n, left, e) = absurd (let no : ⊥ = cc in no)
found_passes f x (Some v) h = (v, refl, h)

entered : (look : Value → Option Cell) (k : Value → Type 0) (f : Value → Value → Spend Bool) (a b : Value → Option Data) → Below k f a b → (xs ys : List (Value × Value)) (n left : ℕ) → Once look xs → ((j : ℕ) (x : Value × Value) → slice_get xs j ≡ Some x → k x.1) → same_entries look f xs ys n ≡ Enough true left → (d e : Data) → option_map object (entries_data look a xs) ≡ Some d → option_map object (entries_data look b ys) ≡ Some e → d ≡ e
entered look k f a b h xs ys n left once parts is d e p q =
    let ms = mapped object (entries_data look a xs) d p in
    let ns = mapped object (entries_data look b ys) e q in
    let rows = rows_pass (same_entry look f xs ys) (length xs) (length ys) n left is in
    let all = members_in look a xs ms.0 ns.0 ms.1 (λ j x t u at is dx. (
    let passes : Passes (same_found f x.1 (value_of look x.0 ys)) = subst Passes (ap (same_pairs look f ys) at) (rows.1 j (within xs j x at)) in
    let v = found_passes f x.1 (value_of look x.0 ys) passes in
    let m = by_key look b ys ns.0 ns.1 x.0 v.0 t is v.1 (λ i y there. (let key = (entry-data look b ys ns.0 ns.1 i y there).0 in (key.0, (key_is (cell_of look y.0) key.0 key.1).0))) in
    m.1 ∙ ap Some (sym (h x.1 v.0 u m.0 (parts j x at) v.2 dx m.2))
    )) in
    let mine = counted look a xs ms.0 once ms.1 in
    let yours = at_most look b ys ns.0 ns.1 in
    let lengths = rows.0 in
    sym ms.2 ∙ (ap object (same_members ms.0 ns.0 (sorted_entries look a xs ms.0 ms.1) (sorted_entries look b ys ns.0 ns.1) all (omega (arith, mine, yours, lengths))) ∙ ns.2)

data_is : (x y d e : Data) → Some x ≡ Some d → Some y ≡ Some e → x ≡ y → d ≡ e
data_is x y d e p q h = cc

-- the entries of a dictionary in a place have each key once
abbrev OnceIn : (Value → Option Cell) → Option Cell → Type 0
OnceIn look c = (es : List (Value × Value)) → c ≡ Some (cell.Dict es) → Once look es

-- and a place has no set
abbrev IsNoSet : Option Cell → Type 0
IsNoSet c = (es : List (Value × Value)) → c ≡ Some (cell.Set es) → ⊥

cells : (look : Value → Option Cell) (v : Value) (f : Value → Value → Spend Bool) (a b : Value → Option Data) → Below (IsPart look v) f a b → (one : Bool) (x y : Option Cell) (n left : ℕ) → cell_of look v ≡ x → OnceIn look x → IsNoSet x → same_cells look f one x y n ≡ Enough true left → (d e : Data) → cell_data look a x ≡ Some d → cell_data look b y ≡ Some e → d ≡ e
cells look v f a b h one (Some (cell.Text t)) (Some (cell.Text u)) n left here once off is d e p q =
    let equal : pointwise nat_eq t u ≡ true = cc in
    sym (string_is t d p).0 ∙ (ap string (same_bytes t u equal) ∙ (string_is u e q).0)
cells look v f a b h one (Some (cell.Tuple xs)) (Some (cell.Tuple ys)) n left here once off is d e p q = listed (IsPart look v) f a b h xs ys n left (λ j x at. in_tuple xs j here at) is d e p q
cells look v f a b h one (Some (cell.List xs)) (Some (cell.List ys)) n left here once off is d e p q = listed (IsPart look v) f a b h xs ys n left (λ j x at. in_list xs j here at) is d e p q
cells look v f a b h one (Some (cell.Dict xs)) (Some (cell.Dict ys)) n left here once off is d e p q = entered look (IsPart look v) f a b h xs ys n left (once xs refl) (λ j x at. in_dict xs j x.0 here at) is d e p q
cells look v f a b h one (Some (cell.Struct fs)) (Some (cell.Struct gs)) n left here once off is d e p q = fielded (IsPart look v) f a b h fs gs n left (λ j x at. (let field = field_at fs j x at in in_struct fs j field.0 here field.1)) is d e p q
cells look v f a b h one (Some (cell.Set es)) y n left here once off is d e p q = absurd (off es refl)
cells look v f a b h one (Some (cell.Range r)) y n left here once off is d e p q = absurd (let no : ⊥ = cc in no)
cells look v f a b h one (Some (cell.Func r)) y n left here once off is d e p q = absurd (let no : ⊥ = cc in no)
cells look v f a b h one (Some (cell.Frame r)) y n left here once off is d e p q = absurd (let no : ⊥ = cc in no)
cells look v f a b h one (Some (cell.Bound m r)) y n left here once off is d e p q = absurd (let no : ⊥ = cc in no)
cells look v f a b h one None y n left here once off is d e p q = absurd (let no : ⊥ = cc in no)
cells look v f a b h one x y n left here once off is d e p q = absurd (let no : ⊥ = cc in no)

same_bool : (b c : Bool) → beq b c ≡ true → b ≡ c
same_bool true true e = refl
same_bool false false e = refl
same_bool true false e = absurd (let no : ⊥ = cc in no)
same_bool false true e = absurd (let no : ⊥ = cc in no)

values : (look : Value → Option Cell) (x y : Value) (f : Value → Value → Spend Bool) (a b : Value → Option Data) → KeysStandOnce look → IsNoSet (cell_of look x) → Below (IsPart look x) f a b → (n left : ℕ) → same_values look f x y n ≡ Enough true left → (d e : Data) → value_data look a x ≡ Some d → value_data look b y ≡ Some e → d ≡ e
values look value.NoneValue value.NoneValue f a b once off h n left is d e p q = data_is null null d e p q refl
values look (value.Bool u) (value.Bool v) f a b once off h n left is d e p q =
    let equal : beq u v ≡ true = cc in
    data_is (boolean u) (boolean v) d e p q (ap boolean (same_bool u v equal))
values look (value.Int u) (value.Int v) f a b once off h n left is d e p q =
    let equal : int_eq u v ≡ true = cc in
    let one = int_is u d p in
    let two = int_is v e q in
    sym one.1 ∙ (ap (λ z. number (of_integer z)) ((Decides-int_eq u v).0 equal) ∙ two.1)
values look (value.Ref k i) (value.Ref l j) f a b once off h n left is d e p q = cells look (value.Ref k i) f a b h (nat_eq k l && nat_eq i j) (look (value.Ref k i)) (look (value.Ref l j)) n left refl (once (value.Ref k i)) off is d e p q
values look (value.Builtin u) y f a b once off h n left is d e p q = absurd (let no : ⊥ = cc in no)
values look x y f a b once off h n left is d e p q = absurd (let no : ⊥ = cc in no)

-- no set is inside of a part of a value that has none
part_none : (look : Value → Option Cell) (x u : Value) → HasNoSet look x → IsPart look x u → HasNoSet look u
part_none look x u off part k v es stands is = off (suc k) v es (u, part, stands) is

pub equal_are_same : EqualAreSame
unfolding same data_of
equal_are_same look once zero steps left n m x y d e off is p q = absurd (let no : ⊥ = cc in no)
equal_are_same look once (suc levels) steps left zero m x y d e off is p q = absurd (let no : ⊥ = cc in no)
equal_are_same look once (suc levels) steps left (suc n) zero x y d e off is p q = absurd (let no : ⊥ = cc in no)
equal_are_same look once (suc levels) steps left (suc n) (suc m) x y d e off is p q =
    let passes : Passes (same_values look (same look levels) x y) = unvisited (same_values look (same look levels) x y) steps left is in
    values look x y (same look levels) (data_of look n) (data_of look m) once (λ es here. off zero x es refl here)
    (λ u v c g part t. equal_are_same look once levels t.0 t.1 n m u v c g (part_none look x u off part) t.2) passes.0 passes.1 passes.2 d e p q
