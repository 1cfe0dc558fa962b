-- A program writes the JSON of a value as the report has it.
use Rattle.std.proofs.Common.{arith, ◌≡◌, ◌+◌, ◌-◌, ℕ, zero, suc, Bool, true, false, not, nat_eq, nat_lt, if◌then◌else◌, List, [], ◌∷◌, ◌++◌, length, map, Option, Some, None, refl, ap, sym, subst, ◌∙◌, inl, inr, append_assoc}
use Rattle.std.specs.Prelude.{codes, slice_get}
use Rattle.std.specs.Option.{option_and_then, option_map}
use Rattle.std.specs.Ordering.{is_lt, match_ordering, nat_cmp, ordering_reverse}
use Rattle.std.specs.Cmp.Lexicographic.{slice_cmp}
use Rattle.std.specs.declared.cmp.Ordering.{Ordering}
use Rattle.std.specs.declared.cmp.Ordering.TheVariants.{Less, Equal, Greater}
use Rattle.std.proofs.lemmas.Bool.{and_parts, ne_eqb}
use Rattle.std.proofs.lemmas.Cmp.{nat_list_cmp_total}
use Rattle.std.proofs.lemmas.Map.Lookups.{exact_bytes}
use Rattle.json.specs.Print.{quoted}
use Rattle.serde_json.specs.Data.{Data, Items, Members, array, boolean, item, member, no_items, no_members, null, object, put}
use Rattle.serde_json.specs.Written.{comma_if, compact_text, items_text, members_text}
use Rattle.star_store.specs.declared.fault.StoreFault.TheVariants.{Steps}
use Rattle.star_store.specs.declared.layout.Layout.TheVariants as layout
use Rattle.star_store.specs.declared.values.Value.{Value}
use Rattle.star_store.specs.declared.values.Value.TheVariants as value
use Rattle.star_store.specs.declared.values.Cell.{Cell}
use Rattle.star_store.specs.declared.values.Cell.TheVariants as cell
use Rattle.star_store.specs.Fields.{Fields, below_next, is_before, names_of, rises}
use Rattle.star_store.specs.Json.{closing, comma, json, line, name_in, named, put_array, put_cell, put_member, put_object, put_place, put_set, put_value}
use Rattle.star_store.specs.Sorting.{in_order, placed}
use Rattle.star_store.specs.Spend.{Enough, Lacks, Spend, Spent, spend_then}
use Rattle.star_store.specs.Text.{Say, all_said, say}
use Rattle.star_data.specs.Data.{cell_data, cell_of, data_of, entries_data, fields_data, items_data, key_in, text_in, utf8_of, value_data}
use Rattle.star_data.specs.Laws.{KeysStandOnce, NamesRise, OneJson, SaysOnly}
use Rattle.star_data.proofs.Elements.{set_as_array}
use Rattle.star_data.proofs.Fields.{put_first}
use Rattle.star_data.proofs.Ints.{int_is}
use Rattle.star_data.proofs.Options.{chained, mapped}
use Rattle.star_data.proofs.Parts.{is_text}
use Rattle.star_data.proofs.Sent.{int_text}
use Rattle.star_data.proofs.Strings.{key_is, string_is, utf8_is}

-- ---- one text after another

then_only : (o : Spent (List ℕ)) (t u : List ℕ) (b : Say) → SaysOnly o t → ((left : ℕ) → SaysOnly (b t left) u) → SaysOnly (spend_then o b) u
then_only (Enough x left) t u b h k = subst (λ z. SaysOnly (b z left) u) (sym h) (k left)
then_only (Lacks f left) t u b h k = h

then_assoc : (o : Spent (List ℕ)) (a b : Say) → spend_then (spend_then o a) b ≡ spend_then o (λ t left. spend_then (a t left) b)
then_assoc (Enough x left) a b = refl
then_assoc (Lacks f left) a b = refl

-- what is put for values that are data
abbrev PutsData : (Value → Say) → (Value → Option Data) → Type 0
PutsData f g = (x : Value) (d : Data) → g x ≡ Some d → (out : List ℕ) (steps : ℕ) → SaysOnly (f x out steps) (out ++ compact_text d)

abbrev later : ℕ → Bool
later i = not (nat_eq i 0)

later_more : (i : ℕ) → later (i + 1) ≡ true
later_more i = ap not (ne_eqb (i + 1) 0 (λ e. omega (arith, e)))

comma_by : (b : Bool) → (if b then [] else codes ",") ++ [] ≡ comma_if (not b)
comma_by true = refl
comma_by false = refl

comma_is : (i : ℕ) → comma i ++ [] ≡ comma_if (later i)
comma_is i = comma_by (nat_eq i 0)

nothing_by : (b : Bool) → (if b then line layout.Compact 0 else line layout.Compact 0) ≡ []
nothing_by true = refl
nothing_by false = refl

nothing_more : (n count : ℕ) → closing layout.Compact n count ≡ []
nothing_more n count = nothing_by (nat_eq count 0)

-- the rest of a row from a place on
abbrev RestFrom : {A : Type 0} → List A → List A → ℕ → Type 0
RestFrom xs rest i = (j : ℕ) → slice_get rest j ≡ slice_get xs (j + i)

rest_next : {A : Type 0} (xs : List A) (x : A) (rest : List A) (i : ℕ) → RestFrom xs (x ∷ rest) i → RestFrom xs rest (i + 1)
rest_next xs x rest i h = λ j. h (suc j) ∙ ap (slice_get xs) (let e : suc j + i ≡ j + (i + 1) = omega arith in e)

rest_all : {A : Type 0} (xs : List A) → RestFrom xs xs 0
rest_all xs = λ j. ap (slice_get xs) (let e : j ≡ j + 0 = omega arith in e)

-- ---- arrays

pieces : (out c d rest all : List ℕ) → c ++ (d ++ rest) ≡ all → ((out ++ c) ++ d) ++ rest ≡ out ++ all
pieces out c d rest all h = append_assoc (out ++ c) d rest ∙ append_assoc out c (d ++ rest) ∙ ap (λ z. out ++ z) h

items_only : (f : Value → Say) (g : Value → Option Data) → PutsData f g → (n : ℕ) (end : List ℕ) → end ≡ 93 ∷ [] → (xs rest : List Value) (i : ℕ) → RestFrom xs rest i → (ds : Items) → items_data g rest ≡ Some ds → (out : List ℕ) (steps : ℕ)
    → SaysOnly (spend_then (all_said (put_place layout.Compact n f xs) (length rest) i out steps) (say end)) (out ++ items_text (later i) ds)
items_only f g h n end e xs [] i at ds are out steps = let same : no_items ≡ ds = cc in subst (λ z. out ++ end ≡ out ++ items_text (later i) z) same (ap (λ z. out ++ z) e)
items_only f g h n end e xs (x ∷ rest) i at ds are out steps =
    let d = chained (λ d. option_map (item d) (items_data g rest)) (g x) ds are in
    let more = mapped (item d.0) (items_data g rest) ds d.2 in
    let front = out ++ (comma i ++ []) in
    let there : Some x ≡ slice_get xs i = at 0 ∙ ap (slice_get xs) (let z : 0 + i ≡ i = omega arith in z) in
    let one : SaysOnly (put_place layout.Compact n f xs i out steps) (front ++ compact_text d.0) = rw (← there) (h x d.0 d.1 front steps) in
    let goal_is : (front ++ compact_text d.0) ++ items_text (later (i + 1)) more.0 ≡ out ++ items_text (later i) ds =
    ap (λ b. (front ++ compact_text d.0) ++ items_text b more.0) (later_more i)
    ∙ pieces out (comma i ++ []) (compact_text d.0) (items_text true more.0) (items_text (later i) (item d.0 more.0)) (ap (λ c. c ++ (compact_text d.0 ++ items_text true more.0)) (comma_is i))
    ∙ ap (λ z. out ++ items_text (later i) z) more.2 in
    subst (SaysOnly _) goal_is
    (subst (λ o. SaysOnly o ((front ++ compact_text d.0) ++ items_text (later (i + 1)) more.0)) (sym (then_assoc (put_place layout.Compact n f xs i out steps) (all_said (put_place layout.Compact n f xs) (length rest) (i + 1)) (say end)))
    (then_only (put_place layout.Compact n f xs i out steps) (front ++ compact_text d.0) _ _ one
    (λ left. items_only f g h n end e xs rest (i + 1) (rest_next xs x rest i at) more.0 more.1 (front ++ compact_text d.0) left)))

array_only : (f : Value → Say) (g : Value → Option Data) → PutsData f g → (n : ℕ) (xs : List Value) (ds : Items) → items_data g xs ≡ Some ds → (out : List ℕ) (steps : ℕ) → SaysOnly (put_array layout.Compact n f xs out steps) (out ++ compact_text (array ds))
array_only f g h n xs ds are out steps =
    subst (SaysOnly _) (append_assoc out (91 ∷ []) (items_text false ds))
    (items_only f g h (n + 1) (closing layout.Compact n (length xs) ++ codes "]") (ap (λ z. z ++ codes "]") (nothing_more n (length xs))) xs xs 0 (rest_all xs) ds are (out ++ codes "[") steps)

-- ---- objects

-- fields whose values are all data, in their order
abbrev row_of : (Value → Option Data) → Fields → Option Members
row_of g [] = Some no_members
row_of g (e ∷ es) = option_and_then (λ d. option_map (member e.0 d) (row_of g es)) (g e.1)

members_only : (f : Value → Say) (g : Value → Option Data) → PutsData f g → (n : ℕ) (end : List ℕ) → end ≡ 125 ∷ [] → (fs rest : Fields) (i : ℕ) → RestFrom fs rest i → (ms : Members) → row_of g rest ≡ Some ms → (out : List ℕ) (steps : ℕ)
    → SaysOnly (spend_then (all_said (put_member layout.Compact n f fs) (length rest) i out steps) (say end)) (out ++ members_text (later i) ms)
members_only f g h n end e fs [] i at ms are out steps = let same : no_members ≡ ms = cc in subst (λ z. out ++ end ≡ out ++ members_text (later i) z) same (ap (λ z. out ++ z) e)
members_only f g h n end e fs (x ∷ rest) i at ms are out steps =
    let d = chained (λ d. option_map (member x.0 d) (row_of g rest)) (g x.1) ms are in
    let more = mapped (member x.0 d.0) (row_of g rest) ms d.2 in
    let front = (out ++ (comma i ++ [])) ++ (quoted x.0 ++ codes ":") in
    let there : Some x ≡ slice_get fs i = at 0 ∙ ap (slice_get fs) (let z : 0 + i ≡ i = omega arith in z) in
    let one : SaysOnly (put_member layout.Compact n f fs i out steps) (front ++ compact_text d.0) = rw (← there) (h x.1 d.0 d.1 front steps) in
    let rest_text = compact_text d.0 ++ members_text true more.0 in
    let goal_is : (front ++ compact_text d.0) ++ members_text (later (i + 1)) more.0 ≡ out ++ members_text (later i) ms =
    ap (λ b. (front ++ compact_text d.0) ++ members_text b more.0) (later_more i)
    ∙ pieces (out ++ (comma i ++ [])) (quoted x.0 ++ codes ":") (compact_text d.0) (members_text true more.0) (quoted x.0 ++ 58 ∷ rest_text) (append_assoc (quoted x.0) (codes ":") rest_text)
    ∙ append_assoc out (comma i ++ []) (quoted x.0 ++ 58 ∷ rest_text)
    ∙ ap (λ c. out ++ (c ++ (quoted x.0 ++ 58 ∷ rest_text))) (comma_is i)
    ∙ ap (λ z. out ++ members_text (later i) z) more.2 in
    subst (SaysOnly _) goal_is
    (subst (λ o. SaysOnly o ((front ++ compact_text d.0) ++ members_text (later (i + 1)) more.0)) (sym (then_assoc (put_member layout.Compact n f fs i out steps) (all_said (put_member layout.Compact n f fs) (length rest) (i + 1)) (say end)))
    (then_only (put_member layout.Compact n f fs i out steps) (front ++ compact_text d.0) _ _ one
    (λ left. members_only f g h n end e fs rest (i + 1) (rest_next fs x rest i at) more.0 more.1 (front ++ compact_text d.0) left)))

object_only : (f : Value → Say) (g : Value → Option Data) → PutsData f g → (n : ℕ) (fs : Fields) (ms : Members) → row_of g fs ≡ Some ms → (out : List ℕ) (steps : ℕ) → SaysOnly (put_object layout.Compact n f fs out steps) (out ++ compact_text (object ms))
object_only f g h n fs ms are out steps =
    subst (SaysOnly _) (append_assoc out (123 ∷ []) (members_text false ms))
    (members_only f g h (n + 1) (closing layout.Compact n (length fs) ++ codes "}") (ap (λ z. z ++ codes "}") (nothing_more n (length fs))) fs fs 0 (rest_all fs) ms are (out ++ codes "{") steps)

-- ---- structs: their names rise

struct_row : (g : Value → Option Data) (fs : Fields) (ms : Members) → rises (names_of fs) ≡ true → fields_data g fs ≡ Some ms → row_of g fs ≡ Some ms
struct_row g [] ms r e = e
struct_row g (x ∷ fs) ms r e =
    let k = chained (λ k. option_and_then (λ d. option_map (put k d) (fields_data g fs)) (g x.1)) (utf8_of x.0) ms e in
    let d = chained (λ d. option_map (put k.0 d) (fields_data g fs)) (g x.1) ms k.2 in
    let rest = mapped (put k.0 d.0) (fields_data g fs) ms d.2 in
    let own : x.0 ≡ k.0 = (utf8_is x.0 k.0 k.1).0 in
    let both = and_parts (below_next x.0 (names_of fs)) (rises (names_of fs)) r in
    let first : member x.0 d.0 rest.0 ≡ ms = sym (put_first g x.0 d.0 fs rest.0 r rest.1) ∙ ap (λ z. put z d.0 rest.0) own ∙ rest.2 in
    ap (option_and_then (λ d. option_map (member x.0 d) (row_of g fs))) d.1 ∙ ap (option_map (member x.0 d.0)) (struct_row g fs rest.0 both.1 rest.1) ∙ ap Some first

-- ---- dictionaries: no string is a key twice

-- no field has this name
abbrev None_is : List ℕ → Fields → Type 0
None_is n [] = Unit {0}
None_is n (f ∷ fs) = (f.0 ≡ n → ⊥) × None_is n fs

none_choice : (n : List ℕ) (b : Bool) (fs gs : Fields) → None_is n fs → None_is n gs → None_is n (if b then fs else gs)
none_choice n true fs gs h k = h
none_choice n false fs gs h k = k

none_placed : (n : List ℕ) (e : List ℕ × Value) (fs : Fields) → (e.0 ≡ n → ⊥) → None_is n fs → None_is n (placed is_before e fs)
none_placed n e [] h k = (h, tt)
none_placed n e (x ∷ fs) h k = none_choice n (is_before x e) (x ∷ placed is_before e fs) (e ∷ x ∷ fs) (k.0, none_placed n e fs h k.1) (h, k)

none_ordered : (n : List ℕ) (fs : Fields) → None_is n fs → None_is n (in_order is_before fs)
none_ordered n [] k = tt
none_ordered n (x ∷ fs) k = none_placed n x (in_order is_before fs) k.0 (none_ordered n fs k.1)

row_more : (g : Value → Option Data) (e : List ℕ × Value) (d : Data) (fs : Fields) (ms : Members) → g e.1 ≡ Some d → row_of g fs ≡ Some ms → row_of g (e ∷ fs) ≡ Some (member e.0 d ms)
row_more g e d fs ms some are = ap (option_and_then (λ d. option_map (member e.0 d) (row_of g fs))) some ∙ ap (option_map (member e.0 d)) are

placed_row : (g : Value → Option Data) (e : List ℕ × Value) (d : Data) (fs : Fields) (ms : Members) → g e.1 ≡ Some d → row_of g fs ≡ Some ms → None_is e.0 fs → row_of g (placed is_before e fs) ≡ Some (put e.0 d ms)
placed_row g e d [] ms some are none = let same : no_members ≡ ms = cc in subst (λ z. row_of g (e ∷ []) ≡ Some (put e.0 d z)) same (row_more g e d [] no_members some refl)
placed_row g e d (x ∷ fs) ms some are none =
    let c = chained (λ c. option_map (member x.0 c) (row_of g fs)) (g x.1) ms are in
    let rest = mapped (member x.0 c.0) (row_of g fs) ms c.2 in
    subst (λ z. row_of g (placed is_before e (x ∷ fs)) ≡ Some (put e.0 d z)) rest.2
    (turn c.0 rest.0 (slice_cmp nat_cmp x.0 e.0) refl c.1 rest.1 (placed_row g e d fs rest.0 some rest.1 none.1))
  where
    turn : (c : Data) (rest : Members) (o : Ordering) → slice_cmp nat_cmp x.0 e.0 ≡ o → g x.1 ≡ Some c → row_of g fs ≡ Some rest → row_of g (placed is_before e fs) ≡ Some (put e.0 d rest)
        → row_of g (placed is_before e (x ∷ fs)) ≡ Some (put e.0 d (member x.0 c rest))
    turn c rest Less is one are more =
        ap (λ b. row_of g (if b then x ∷ placed is_before e fs else e ∷ x ∷ fs)) (ap is_lt is)
        ∙ row_more g x c (placed is_before e fs) (put e.0 d rest) one more
        ∙ ap (λ o. Some (match_ordering o (member e.0 d (member x.0 c rest)) (member x.0 d rest) (member x.0 c (put e.0 d rest)))) (sym (nat_list_cmp_total.antisymm e.0 x.0 ∙ ap ordering_reverse is))
    turn c rest Equal is one are more = absurd (none.0 (exact_bytes x.0 e.0 is))
    turn c rest Greater is one are more =
        ap (λ b. row_of g (if b then x ∷ placed is_before e fs else e ∷ x ∷ fs)) (ap is_lt is)
        ∙ row_more g e d (x ∷ fs) (member x.0 c rest) some (row_more g x c fs rest one are)
        ∙ ap (λ o. Some (match_ordering o (member e.0 d (member x.0 c rest)) (member x.0 d rest) (member x.0 c (put e.0 d rest)))) (sym (nat_list_cmp_total.antisymm e.0 x.0 ∙ ap ordering_reverse is))

-- no string is the key of two of these entries
abbrev OnceIn : (Value → Option Cell) → List (Value × Value) → Type 0
OnceIn look es = (i j : ℕ) (x y : Value × Value) (t : List ℕ) → slice_get es i ≡ Some x → slice_get es j ≡ Some y → text_in (cell_of look x.0) ≡ Some t → text_in (cell_of look y.0) ≡ Some t → i ≡ j

-- a string is the key of none of them
abbrev NotIn : (Value → Option Cell) → List ℕ → List (Value × Value) → Type 0
NotIn look n es = (j : ℕ) (y : Value × Value) → slice_get es j ≡ Some y → text_in (cell_of look y.0) ≡ Some n → ⊥

name_of_cell : (look : Value → Option Cell) (v : Value) (t : List ℕ) → cell_of look v ≡ Some (cell.Text t) → name_in (look v) ≡ Some t
name_of_cell look (value.Ref h a) t e = ap name_in e
name_of_cell look value.NoneValue t e = absurd (let no : ⊥ = cc in no)
name_of_cell look (value.Bool b) t e = absurd (let no : ⊥ = cc in no)
name_of_cell look (value.Int n) t e = absurd (let no : ⊥ = cc in no)
name_of_cell look (value.Builtin b) t e = absurd (let no : ⊥ = cc in no)

dict_row : (look : Value → Option Cell) (g : Value → Option Data) (es : List (Value × Value)) (ms : Members) → entries_data look g es ≡ Some ms → OnceIn look es
    → (fs : Fields) × (named look es ≡ Some fs) × (row_of g (in_order is_before fs) ≡ Some ms) × ((n : List ℕ) → NotIn look n es → None_is n fs)
dict_row look g [] ms e once = ([], refl, e, λ n h. tt)
dict_row look g (e ∷ es) ms are once =
    let k = chained (λ k. option_and_then (λ d. option_map (put k d) (entries_data look g es)) (g e.1)) (key_in (cell_of look e.0)) ms are in
    let d = chained (λ d. option_map (put k.0 d) (entries_data look g es)) (g e.1) ms k.2 in
    let rest = mapped (put k.0 d.0) (entries_data look g es) ms d.2 in
    let text : text_in (cell_of look e.0) ≡ Some k.0 = (key_is (cell_of look e.0) k.0 k.1).0 in
    let name : name_in (look e.0) ≡ Some k.0 = name_of_cell look e.0 k.0 (is_text (cell_of look e.0) k.0 text) in
    let more = dict_row look g es rest.0 rest.1 (λ i j x y t p q r s. let n : suc i ≡ suc j = once (suc i) (suc j) x y t p q r s in omega (arith, n)) in
    let free : NotIn look k.0 es = λ j y at is. let n : 0 ≡ suc j = once 0 (suc j) e y k.0 refl at text is in cc in (
      (k.0, e.1) ∷ more.0,
      ap (λ o. option_and_then (λ n. option_map (λ fs. (n, e.1) ∷ fs) (named look es)) o) name ∙ ap (option_map (λ fs. (k.0, e.1) ∷ fs)) more.1,
      placed_row g (k.0, e.1) d.0 (in_order is_before more.0) rest.0 d.1 more.2 (none_ordered k.0 more.0 (more.3 k.0 free)) ∙ ap Some rest.2,
      λ n h. ((λ same. h 0 e refl (text ∙ ap Some same)), more.3 n (λ j y at is. h (suc j) y at is)),
    )

-- ---- values

cell_only : (look : Value → Option Cell) → KeysStandOnce look → NamesRise look → (f : ℕ → Value → Say) (g : Value → Option Data) → ((n : ℕ) → PutsData (f n) g) → (n : ℕ) (v : Value) (o : Option Cell) → look v ≡ o → (d : Data) → cell_data look g o ≡ Some d → (out : List ℕ) (steps : ℕ)
    → SaysOnly (put_cell look layout.Compact n f o out steps) (out ++ compact_text d)
cell_only look keys rise f g h n v (Some (cell.Text t)) at d e out steps = ap (λ z. out ++ compact_text z) (string_is t d e).0
cell_only look keys rise f g h n v (Some (cell.Tuple xs)) at d e out steps =
    let ds = mapped array (items_data g xs) d e in
    subst (λ z. SaysOnly (put_array layout.Compact n (f (n + 1)) xs out steps) (out ++ compact_text z)) ds.2 (array_only (f (n + 1)) g (h (n + 1)) n xs ds.0 ds.1 out steps)
cell_only look keys rise f g h n v (Some (cell.List xs)) at d e out steps =
    let ds = mapped array (items_data g xs) d e in
    subst (λ z. SaysOnly (put_array layout.Compact n (f (n + 1)) xs out steps) (out ++ compact_text z)) ds.2 (array_only (f (n + 1)) g (h (n + 1)) n xs ds.0 ds.1 out steps)
cell_only look keys rise f g h n v (Some (cell.Dict es)) at d e out steps =
    let ms = mapped object (entries_data look g es) d e in
    let row = dict_row look g es ms.0 ms.1 (keys v es at) in
    rw row.1 (subst (λ z. SaysOnly (put_object layout.Compact n (f (n + 1)) (in_order is_before row.0) out steps) (out ++ compact_text z)) ms.2 (object_only (f (n + 1)) g (h (n + 1)) n (in_order is_before row.0) ms.0 row.2 out steps))
cell_only look keys rise f g h n v (Some (cell.Struct fs)) at d e out steps =
    let ms = mapped object (fields_data g fs) d e in
    subst (λ z. SaysOnly (put_object layout.Compact n (f (n + 1)) fs out steps) (out ++ compact_text z)) ms.2 (object_only (f (n + 1)) g (h (n + 1)) n fs ms.0 (struct_row g fs ms.0 (rise v fs at) ms.1) out steps)
cell_only look keys rise f g h n v (Some (cell.Set es)) at d e out steps =
    let xs = map (λ (z : Value × Value). z.0) es in
    let ds = mapped array (items_data g xs) d e in
    let same : put_set layout.Compact n (f (n + 1)) es ≡ put_array layout.Compact n (f (n + 1)) xs = set_as_array layout.Compact n (f (n + 1)) es in
    subst (λ (m : Say). SaysOnly (m out steps) (out ++ compact_text d)) (sym same)
    (subst (λ z. SaysOnly (put_array layout.Compact n (f (n + 1)) xs out steps) (out ++ compact_text z)) ds.2 (array_only (f (n + 1)) g (h (n + 1)) n xs ds.0 ds.1 out steps))
cell_only look keys rise f g h n v (Some (cell.Range r)) at d e out steps = absurd (let no : ⊥ = cc in no)
cell_only look keys rise f g h n v (Some (cell.Func r)) at d e out steps = absurd (let no : ⊥ = cc in no)
cell_only look keys rise f g h n v (Some (cell.Frame r)) at d e out steps = absurd (let no : ⊥ = cc in no)
cell_only look keys rise f g h n v (Some (cell.Bound m x)) at d e out steps = absurd (let no : ⊥ = cc in no)
cell_only look keys rise f g h n v None at d e out steps = absurd (let no : ⊥ = cc in no)

none_only : (d : Data) (out : List ℕ) → Some null ≡ Some d → out ++ codes "null" ≡ out ++ compact_text d
none_only d out e = let same : null ≡ d = cc in ap (λ z. out ++ compact_text z) same

bool_only : (b : Bool) (d : Data) (out : List ℕ) → Some (boolean b) ≡ Some d → out ++ (if b then codes "true" else codes "false") ≡ out ++ compact_text d
bool_only true d out e = let same : boolean true ≡ d = cc in ap (λ z. out ++ compact_text z) same
bool_only false d out e = let same : boolean false ≡ d = cc in ap (λ z. out ++ compact_text z) same

value_only : (look : Value → Option Cell) → KeysStandOnce look → NamesRise look → (f : ℕ → Value → Say) (g : Value → Option Data) → ((n : ℕ) → PutsData (f n) g) → (n : ℕ) (v : Value) (d : Data) → value_data look g v ≡ Some d → (out : List ℕ) (steps : ℕ)
    → SaysOnly (put_value look layout.Compact n f v out steps) (out ++ compact_text d)
value_only look keys rise f g h n value.NoneValue d e out steps = none_only d out e
value_only look keys rise f g h n (value.Bool b) d e out steps = bool_only b d out e
value_only look keys rise f g h n (value.Int z) d e out steps = ap (λ t. out ++ t) (sym (int_text z)) ∙ ap (λ c. out ++ compact_text c) (int_is z d e).1
value_only look keys rise f g h n (value.Builtin b) d e out steps = absurd (let no : ⊥ = cc in no)
value_only look keys rise f g h n (value.Ref home a) d e out steps = cell_only look keys rise f g h n (value.Ref home a) (look (value.Ref home a)) refl d e out steps

visited_only : (m : Spend (List ℕ)) (u : List ℕ) (steps : ℕ) (b : Bool) → nat_lt steps 1 ≡ b → ((left : ℕ) → SaysOnly (m left) u) → SaysOnly (if b then Lacks Steps steps else m (steps - 1)) u
visited_only m u steps true e h = inr refl
visited_only m u steps false e h = h (steps - 1)

at_levels : (look : Value → Option Cell) → KeysStandOnce look → NamesRise look → (levels k n : ℕ) → PutsData (json look layout.Compact levels n) (data_of look k)
unfolding json data_of
at_levels look keys rise zero k n v d e out steps = inl refl
at_levels look keys rise (suc levels) zero n v d e out steps = absurd (let no : ⊥ = cc in no)
at_levels look keys rise (suc levels) (suc k) n v d e out steps =
    visited_only (put_value look layout.Compact n (json look layout.Compact levels) v out) (out ++ compact_text d) steps (nat_lt steps 1) refl
    (λ left. value_only look keys rise (json look layout.Compact levels) (data_of look k) (λ m. at_levels look keys rise levels k m) n v d e out left)

pub one_json : OneJson
one_json look keys rise levels steps n v d e = at_levels look keys rise levels n 0 v d e [] steps
