-- The data of a value comes back from its text.
use Rattle.std.proofs.Common.{arith, ltb-true, ◌≡◌, ◌^◌, max, ℕ, zero, suc, ℤ, pos, negsuc, true, List, [], ◌∷◌, map, Option, Some, None, refl, ap, sym, subst, ◌∙◌}
use Rattle.std.specs.Prelude.{slice_get}
use Rattle.std.specs.Option.{option_and_then, option_map}
use Rattle.json.specs.Tree as tree
use Rattle.serde_json.specs.Data.{Data, Items, Members, array, boolean, depth, item, items_depth, member, members_depth, no_items, no_members, null, number, object, put, string}
use Rattle.serde_json.specs.Find.{of_integer}
use Rattle.serde_json.specs.Read.{max_depth}
use Rattle.serde_json.specs.Written.{items_outline, members_outline, outline}
use Rattle.star_store.specs.Arithmetic.{fits}
use Rattle.star_store.specs.declared.values.Value.{Value}
use Rattle.star_store.specs.declared.values.Value.TheVariants as value
use Rattle.star_store.specs.declared.values.Cell.{Cell}
use Rattle.star_store.specs.declared.values.Cell.TheVariants as cell
use Rattle.star_data.specs.Data.{cell_data, cell_of, data_of, entries_data, fields_data, items_data, key_in, utf8_of, value_data}
use Rattle.star_data.specs.Laws.{ReadsBack, SerdeReadsBack, TextTells}
use Rattle.star_data.specs.Parts.{IsPart, in_dict, in_list, in_set, in_struct, in_tuple}
use Rattle.star_data.specs.Reading.{read_within}
use Rattle.star_data.proofs.Ints.{int_is}
use Rattle.star_data.proofs.Back.{ComesBack, ItemsComeBack, MembersComeBack, array_back, boolean_back, negative_back, null_back, object_back, put_back, read_back, string_back, unsigned_back}
use Rattle.star_data.proofs.Equal.{sorted_entries, sorted_fields}
use Rattle.star_data.proofs.Options.{chained, mapped}
use Rattle.star_data.proofs.Strings.{string_is}

int_back : (n : ℕ) (z : ℤ) → fits z ≡ true → ComesBack n (number (of_integer z))
int_back n (pos m) h = unsigned_back n m (ltb-true m (2 ^ 63) h)
int_back n (negsuc m) h = negative_back n m (ltb-true m (2 ^ 63) h)

-- each part that is data comes back
abbrev PartsComeBack : (Value → Option Cell) → (Value → Option Data) → ℕ → Value → Type 0
PartsComeBack look f n v = (x : Value) (d : Data) → IsPart look v x → f x ≡ Some d → ComesBack n d

items_come : (f : Value → Option Data) (n : ℕ) (xs : List Value) (ds : Items) → ((i : ℕ) (x : Value) (d : Data) → slice_get xs i ≡ Some x → f x ≡ Some d → ComesBack n d) → items_data f xs ≡ Some ds → ItemsComeBack n ds
items_come f n [] ds h e = subst (ItemsComeBack n) (let same : no_items ≡ ds = cc in same) tt
items_come f n (x ∷ xs) ds h e =
    let first = chained (λ d. option_map (item d) (items_data f xs)) (f x) ds e in
    let rest = mapped (item first.0) (items_data f xs) ds first.2 in
    subst (ItemsComeBack n) rest.2 (h 0 x first.0 refl first.1, items_come f n xs rest.0 (λ i. h (suc i)) rest.1)

members_come : (look : Value → Option Cell) (f : Value → Option Data) (n : ℕ) (es : List (Value × Value)) (ms : Members) → ((i : ℕ) (e : Value × Value) (d : Data) → slice_get es i ≡ Some e → f e.1 ≡ Some d → ComesBack n d) → entries_data look f es ≡ Some ms → MembersComeBack n ms
members_come look f n [] ms h e = subst (MembersComeBack n) (let same : no_members ≡ ms = cc in same) tt
members_come look f n (x ∷ es) ms h e =
    let k = chained (λ k. option_and_then (λ d. option_map (put k d) (entries_data look f es)) (f x.1)) (key_in (cell_of look x.0)) ms e in
    let d = chained (λ d. option_map (put k.0 d) (entries_data look f es)) (f x.1) ms k.2 in
    let rest = mapped (put k.0 d.0) (entries_data look f es) ms d.2 in
    subst (MembersComeBack n) rest.2 (put_back n k.0 d.0 rest.0 (h 0 x d.0 refl d.1) (members_come look f n es rest.0 (λ i. h (suc i)) rest.1))

fields_come : (f : Value → Option Data) (n : ℕ) (fs : List (List ℕ × Value)) (ms : Members) → ((i : ℕ) (e : List ℕ × Value) (d : Data) → slice_get fs i ≡ Some e → f e.1 ≡ Some d → ComesBack n d) → fields_data f fs ≡ Some ms → MembersComeBack n ms
fields_come f n [] ms h e = subst (MembersComeBack n) (let same : no_members ≡ ms = cc in same) tt
fields_come f n (x ∷ fs) ms h e =
    let k = chained (λ k. option_and_then (λ d. option_map (put k d) (fields_data f fs)) (f x.1)) (utf8_of x.0) ms e in
    let d = chained (λ d. option_map (put k.0 d) (fields_data f fs)) (f x.1) ms k.2 in
    let rest = mapped (put k.0 d.0) (fields_data f fs) ms d.2 in
    subst (MembersComeBack n) rest.2 (put_back n k.0 d.0 rest.0 (h 0 x d.0 refl d.1) (fields_come f n fs rest.0 (λ i. h (suc i)) rest.1))

cell_back : (look : Value → Option Cell) (f : Value → Option Data) (n : ℕ) (v : Value) (c : Option Cell) (d : Data) → cell_of look v ≡ c → PartsComeBack look f n v → cell_data look f c ≡ Some d → ComesBack (suc n) d
cell_back look f n v (Some (cell.Text t)) d is parts e = subst (ComesBack (suc n)) (string_is t d e).0 (string_back (suc n) t)
cell_back look f n v (Some (cell.Tuple xs)) d is parts e =
    let all = mapped array (items_data f xs) d e in
    subst (ComesBack (suc n)) all.2 (array_back n all.0 (items_come f n xs all.0 (λ i x y at some. parts x y (in_tuple xs i is at) some) all.1))
cell_back look f n v (Some (cell.List xs)) d is parts e =
    let all = mapped array (items_data f xs) d e in
    subst (ComesBack (suc n)) all.2 (array_back n all.0 (items_come f n xs all.0 (λ i x y at some. parts x y (in_list xs i is at) some) all.1))
cell_back look f n v (Some (cell.Dict es)) d is parts e =
    let all = mapped object (entries_data look f es) d e in
    subst (ComesBack (suc n)) all.2 (object_back n all.0 (members_come look f n es all.0 (λ i x y at some. parts x.1 y (in_dict es i x.0 is at) some) all.1) (sorted_entries look f es all.0 all.1))
cell_back look f n v (Some (cell.Range r)) d is parts e = absurd (let no : ⊥ = cc in no)
cell_back look f n v (Some (cell.Func r)) d is parts e = absurd (let no : ⊥ = cc in no)
cell_back look f n v (Some (cell.Frame r)) d is parts e = absurd (let no : ⊥ = cc in no)
cell_back look f n v (Some (cell.Bound m r)) d is parts e = absurd (let no : ⊥ = cc in no)
cell_back look f n v (Some (cell.Struct fs)) d is parts e =
    let all = mapped object (fields_data f fs) d e in
    subst (ComesBack (suc n)) all.2 (object_back n all.0 (fields_come f n fs all.0 (λ i x y at some. parts x.1 y (in_struct fs i x.0 is at) some) all.1) (sorted_fields f fs all.0 all.1))
cell_back look f n v (Some (cell.Set es)) d is parts e =
    let all = mapped array (items_data f (map (λ (z : Value × Value). z.0) es)) d e in
    subst (ComesBack (suc n)) all.2 (array_back n all.0 (items_come f n (map (λ (z : Value × Value). z.0) es) all.0 (λ i x y at some. parts x y (in_set es i is at) some) all.1))
cell_back look f n v None d is parts e = absurd (let no : ⊥ = cc in no)

value_back : (look : Value → Option Cell) (f : Value → Option Data) (n : ℕ) (v : Value) (d : Data) → PartsComeBack look f n v → value_data look f v ≡ Some d → ComesBack (suc n) d
value_back look f n value.NoneValue d parts e = subst (ComesBack (suc n)) (let same : null ≡ d = cc in same) (null_back (suc n))
value_back look f n (value.Bool b) d parts e = subst (ComesBack (suc n)) (let same : boolean b ≡ d = cc in same) (boolean_back (suc n) b)
value_back look f n (value.Int z) d parts e = let int = int_is z d e in subst (ComesBack (suc n)) int.1 (int_back (suc n) z int.0)
value_back look f n (value.Ref h a) d parts e = cell_back look f n (value.Ref h a) (look (value.Ref h a)) d refl parts e
value_back look f n (value.Builtin b) d parts e = absurd (let no : ⊥ = cc in no)

pub comes_back : (look : Value → Option Cell) (n : ℕ) (v : Value) (d : Data) → data_of look n v ≡ Some d → ComesBack n d
unfolding data_of
comes_back look zero v d e = absurd (let no : ⊥ = cc in no)
comes_back look (suc n) v d e = value_back look (data_of look n) n v d (λ x y part some. comes_back look n x y some) e

pub reads_back : ReadsBack
reads_back look n m v d e le = read_back n m d (comes_back look n v d e) le

pub text_tells : TextTells
text_tells look see n m v w d e p q same =
    let one = reads_back look n (max n m) v d p (omega arith) in
    let other = reads_back see m (max n m) w e q (omega arith) in
    let both : Some d ≡ Some e = sym one ∙ (ap (read_within (max n m)) same ∙ other) in
    cc

-- ---- as deep as the data

mutual
  outline_deep : (d : Data) → tree.depth (outline d) ≡ depth d
  outline_deep null = refl
  outline_deep (boolean b) = refl
  outline_deep (number n) = refl
  outline_deep (string s) = refl
  outline_deep (array ds) = ap suc (items_outline_deep ds)
  outline_deep (object ms) = ap suc (members_outline_deep ms)

  items_outline_deep : (ds : Items) → tree.items_depth (items_outline ds) ≡ items_depth ds
  items_outline_deep no_items = refl
  items_outline_deep (item d ds) = ap (λ a. max a (tree.items_depth (items_outline ds))) (outline_deep d) ∙ ap (max (depth d)) (items_outline_deep ds)

  members_outline_deep : (ms : Members) → tree.members_depth (members_outline ms) ≡ members_depth ms
  members_outline_deep no_members = refl
  members_outline_deep (member k d ms) = ap (λ a. max a (tree.members_depth (members_outline ms))) (outline_deep d) ∙ ap (max (depth d)) (members_outline_deep ms)

pub serde_reads_back : SerdeReadsBack
serde_reads_back look n v d e shallow =
    let it = comes_back look n v d e in
    let deep = outline_deep d in
    read_back max_depth max_depth d (record { back = it.back; numbers = it.numbers; deep = omega (arith, deep, shallow) }) (omega arith)
