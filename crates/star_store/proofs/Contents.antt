-- Contents of keys: their levels, additions to a list, and when two are the same.
use Rattle.std.proofs.Common.{◌≡◌, ℕ, zero, suc, ◌+◌, ◌-◌, ◌<◌, Bool, true, false, ◌&&◌, ◌||◌, nat_eq, List, [], ◌∷◌, ◌++◌, length, if◌then◌else◌, Option, Some, None, is_some, refl, ap, sym, ◌∙◌, arith}
use Rattle.std.specs.List.{list_all}
use Rattle.std.specs.Option.{option_map}
use Rattle.std.specs.Cmp.Lexicographic.{pointwise}
use Rattle.std.proofs.lemmas.Bool.{eqb-true}
use Rattle.std.proofs.lemmas.List.{append_assoc, append-nil}
use Rattle.star_store.specs.declared.values.Value.{Value}
use Rattle.star_store.specs.declared.values.Value.TheVariants as value
use Rattle.star_store.specs.declared.values.Cell.{Cell}
use Rattle.star_store.specs.declared.values.Cell.TheVariants as cell
use Rattle.star_store.specs.declared.content.Atom.{Atom}
use Rattle.star_store.specs.declared.content.Atom.TheVariants as atom
use Rattle.star_store.specs.Content.{KeepsKeys, after, atom_in, content, content_cell, content_each, content_row, content_value, join, only_atom, same_atom, same_content}
use Rattle.star_store.specs.Fields.{Fields, names_of, same_names, values_of}
use Rattle.star_store.specs.Key.{all_pass, is_key, key_cell, key_value, same_key, same_key_cell, same_key_fields, same_key_items, same_key_place, same_key_value}

pub content_at_none : (look : Value → Option Cell) (v : Value) → content look 0 v ≡ None
unfolding content
content_at_none look v = refl

pub content_at : (look : Value → Option Cell) (n : ℕ) (v : Value) → 0 < n → content look n v ≡ content_value look (content look (n - 1)) v
unfolding content
content_at look zero v h = absurd (omega arith)
content_at look (suc n) v h = ap (λ k. content_value look (content look k) v) (let e : n ≡ suc n - 1 = omega arith in e)

-- the content of a tuple
pub content_items : (look : Value → Option Cell) (n : ℕ) (v : Value) (h a : ℕ) (xs : List Value) → 0 < n → v ≡ value.Ref h a → look v ≡ Some (cell.Tuple xs) → content look n v ≡ content_row (content look (n - 1)) xs
content_items look n v h a xs deep is read =
    let f = content look (n - 1) in
    content_at look n v deep ∙ ap (content_value look f) is ∙ ap (content_cell f) (ap look (sym is) ∙ read)

-- one atom is the whole content
pub only_atom_is : (look : Value → Option Cell) (n : ℕ) (v : Value) (a : Atom) → 0 < n → only_atom look v ≡ Some a → content look n v ≡ Some (a ∷ [])
only_atom_is look n v a h e = content_at look n v h ∙ one v e
  where
    in_cell : (c : Option Cell) → atom_in c ≡ Some a → content_cell (content look (n - 1)) c ≡ Some (a ∷ [])
    in_cell (Some (cell.Text t)) e = ap (option_map (λ b. b ∷ [])) e
    in_cell _ e = cc

    one : (v : Value) → only_atom look v ≡ Some a → content_value look (content look (n - 1)) v ≡ Some (a ∷ [])
    one value.NoneValue e = ap (option_map (λ b. b ∷ [])) e
    one (value.Bool b) e = ap (option_map (λ b. b ∷ [])) e
    one (value.Int k) e = ap (option_map (λ b. b ∷ [])) e
    one (value.Builtin f) e = cc
    one (value.Ref h a) e = in_cell (look (value.Ref h a)) e

-- a content that was added whole, and the next one
pub after_next : (xs ys : List Atom) (a b : Option (List Atom)) → after xs a ≡ Some ys → after xs (join a b) ≡ after ys b
after_next xs ys (Some ks) (Some bs) h = ap Some (sym (append_assoc xs ks bs)) ∙ ap (λ (o : Option (List Atom)). join o (Some bs)) h
after_next xs ys (Some ks) None h = refl
after_next xs ys None b h = cc

-- the head of a row, or of a struct, was added
pub head_added : (xs ys : List Atom) (a : Atom) (b : Option (List Atom)) → ys ≡ xs ++ a ∷ [] → after ys b ≡ after xs (join (Some (a ∷ [])) b)
head_added xs ys a b h = sym (after_next xs ys (Some (a ∷ [])) b (ap Some (sym h)))

-- joining

join_start : (o : Option (List Atom)) → join (Some []) o ≡ o
join_start (Some xs) = refl
join_start None = refl

join_end : (o : Option (List Atom)) → join o (Some []) ≡ o
join_end (Some xs) = ap Some (append-nil xs)
join_end None = refl

join_assoc : (a b c : Option (List Atom)) → join (join a b) c ≡ join a (join b c)
join_assoc (Some xs) (Some ys) (Some zs) = ap Some (append_assoc xs ys zs)
join_assoc (Some xs) (Some ys) None = refl
join_assoc (Some xs) None c = refl
join_assoc None b c = refl

some_join : (a b : Option (List Atom)) → is_some (join a b) ≡ (is_some a && is_some b)
some_join (Some xs) (Some ys) = refl
some_join (Some xs) None = refl
some_join None b = refl

-- truth

pub and_false : (b : Bool) → (b && false) ≡ false
and_false true = refl
and_false false = refl

pub and_true : (b : Bool) → (b && true) ≡ b
and_true true = refl
and_true false = refl

pub or_false : (b : Bool) → (b || false) ≡ b
or_false true = refl
or_false false = refl

and_assoc : (a b c : Bool) → ((a && b) && c) ≡ (a && (b && c))
and_assoc true b c = refl
and_assoc false b c = refl

if_and : (b c : Bool) → (if b then c else false) ≡ (b && c)
if_and true c = refl
if_and false c = refl

-- when two contents are the same, with something after each

none_right : (o : Option (List Atom)) → same_content o None ≡ false
none_right (Some xs) = refl
none_right None = refl

one : (a b : Atom) (o p : Option (List Atom)) → same_content (join (Some (a ∷ [])) o) (join (Some (b ∷ [])) p) ≡ (same_atom a b && same_content o p)
one a b (Some xs) (Some ys) = refl
one a b (Some xs) None = sym (and_false (same_atom a b))
one a b None p = sym (and_false (same_atom a b))

-- a cell has no content, a string's, a tuple's or a struct's
shape : (P : Option (List Atom) → Type 0) → P None → ((t : List ℕ) → P (Some (atom.Text t ∷ []))) → ((n : ℕ) (e : Option (List Atom)) → P (join (Some (atom.Row n ∷ [])) e)) → ((ns : List (List ℕ)) (e : Option (List Atom)) → P (join (Some (atom.Names ns ∷ [])) e)) → (f : Value → Option (List Atom)) (c : Option Cell) → P (content_cell f c)
shape P hn ht hr hs f (Some (cell.Text t)) = ht t
shape P hn ht hr hs f (Some (cell.Tuple xs)) = hr (length xs) (content_each f xs)
shape P hn ht hr hs f (Some (cell.Struct fs)) = hs (names_of fs) (content_row f (values_of fs))
shape P hn ht hr hs f (Some (cell.Range r)) = hn
shape P hn ht hr hs f (Some (cell.List xs)) = hn
shape P hn ht hr hs f (Some (cell.Dict es)) = hn
shape P hn ht hr hs f (Some (cell.Set es)) = hn
shape P hn ht hr hs f (Some (cell.Func g)) = hn
shape P hn ht hr hs f (Some (cell.Frame g)) = hn
shape P hn ht hr hs f (Some (cell.Bound m v)) = hn
shape P hn ht hr hs f None = hn

head_right : (a b : Atom) (e o p : Option (List Atom)) → same_content (join (Some (a ∷ [])) o) (join (join (Some (b ∷ [])) e) p) ≡ (same_atom a b && same_content o (join e p))
head_right a b e o p = ap (same_content (join (Some (a ∷ [])) o)) (join_assoc (Some (b ∷ [])) e p) ∙ one a b o (join e p)

head_left : (a b : Atom) (e o p : Option (List Atom)) → same_content (join (join (Some (b ∷ [])) e) p) (join (Some (a ∷ [])) o) ≡ (same_atom b a && same_content (join e p) o)
head_left a b e o p = ap (λ q. same_content q (join (Some (a ∷ [])) o)) (join_assoc (Some (b ∷ [])) e p) ∙ one b a (join e p) o

-- each has a head
heads_same : (a b : Atom) (e d o p : Option (List Atom)) → same_content (join (join (Some (a ∷ [])) e) o) (join (join (Some (b ∷ [])) d) p) ≡ (same_atom a b && same_content (join e o) (join d p))
heads_same a b e d o p =
    ap (λ q. same_content q (join (join (Some (b ∷ [])) d) p)) (join_assoc (Some (a ∷ [])) e o)
    ∙ head_right a b d (join e o) p

pub false_and : (b c : Bool) → b ≡ false → (b && c) ≡ false
false_and b c h = ap (λ d. d && c) h

-- an atom that is neither a string nor the head of a row or a struct is not the content of a cell
apart_right : (a : Atom) → ((t : List ℕ) → same_atom a (atom.Text t) ≡ false) → ((n : ℕ) → same_atom a (atom.Row n) ≡ false) → ((ns : List (List ℕ)) → same_atom a (atom.Names ns) ≡ false) → (f : Value → Option (List Atom)) (c : Option Cell) (o p : Option (List Atom)) → same_content (join (Some (a ∷ [])) o) (join (content_cell f c) p) ≡ false
apart_right a ht hr hs f c o p =
    shape (λ q. same_content (join (Some (a ∷ [])) o) (join q p) ≡ false)
    (none_right (join (Some (a ∷ [])) o))
    (λ t. one a (atom.Text t) o p ∙ false_and (same_atom a (atom.Text t)) (same_content o p) (ht t))
    (λ n e. head_right a (atom.Row n) e o p ∙ false_and (same_atom a (atom.Row n)) (same_content o (join e p)) (hr n))
    (λ ns e. head_right a (atom.Names ns) e o p ∙ false_and (same_atom a (atom.Names ns)) (same_content o (join e p)) (hs ns))
    f c

apart_left : (a : Atom) → ((t : List ℕ) → same_atom (atom.Text t) a ≡ false) → ((n : ℕ) → same_atom (atom.Row n) a ≡ false) → ((ns : List (List ℕ)) → same_atom (atom.Names ns) a ≡ false) → (f : Value → Option (List Atom)) (c : Option Cell) (o p : Option (List Atom)) → same_content (join (content_cell f c) p) (join (Some (a ∷ [])) o) ≡ false
apart_left a ht hr hs f c o p =
    shape (λ q. same_content (join q p) (join (Some (a ∷ [])) o) ≡ false)
    refl
    (λ t. one (atom.Text t) a p o ∙ false_and (same_atom (atom.Text t) a) (same_content p o) (ht t))
    (λ n e. head_left a (atom.Row n) e o p ∙ false_and (same_atom (atom.Row n) a) (same_content (join e p) o) (hr n))
    (λ ns e. head_left a (atom.Names ns) e o p ∙ false_and (same_atom (atom.Names ns) a) (same_content (join e p) o) (hs ns))
    f c

-- items

item_shift : (s : Value → Value → Bool) (x y : Value) (xs ys : List Value) (n i : ℕ) → all_pass (same_key_place s (x ∷ xs) (y ∷ ys)) n (suc i) ≡ all_pass (same_key_place s xs ys) n i
item_shift s x y xs ys zero i = refl
item_shift s x y xs ys (suc n) i =
    ap (λ (k : ℕ). if same_key_place s xs ys i then all_pass (same_key_place s (x ∷ xs) (y ∷ ys)) n k else false) (let e : suc i + 1 ≡ suc (i + 1) = omega arith in e)
    ∙ ap (λ (b : Bool). if same_key_place s xs ys i then b else false) (item_shift s x y xs ys n (i + 1))

items_pass : (s : Value → Value → Bool) (xs ys : List Value) → length xs ≡ length ys → all_pass (same_key_place s xs ys) (length xs) 0 ≡ pointwise s xs ys
items_pass s [] [] h = refl
items_pass s [] (y ∷ ys) h = absurd (omega arith)
items_pass s (x ∷ xs) [] h = absurd (omega arith)
items_pass s (x ∷ xs) (y ∷ ys) h =
    ap (λ (b : Bool). if s x y then b else false) (item_shift s x y xs ys (length xs) 0 ∙ items_pass s xs ys (omega arith))
    ∙ if_and (s x y) (pointwise s xs ys)

-- a test of keys, and contents that it decides with something after them
Decides : (Value → Option (List Atom)) → (Value → Value → Bool) → Type 0
Decides f s = (x y : Value) (o p : Option (List Atom)) → same_content (join (f x) o) (join (f y) p) ≡ (s x y && same_content o p)

rows_same : (f : Value → Option (List Atom)) (s : Value → Value → Bool) → Decides f s → (xs ys : List Value) (o p : Option (List Atom)) → length xs ≡ length ys → same_content (join (content_each f xs) o) (join (content_each f ys) p) ≡ (pointwise s xs ys && same_content o p)
unfolding Decides
rows_same f s d [] [] o p h = ap (λ q. same_content q (join (Some []) p)) (join_start o) ∙ ap (same_content o) (join_start p)
rows_same f s d [] (y ∷ ys) o p h = absurd (omega arith)
rows_same f s d (x ∷ xs) [] o p h = absurd (omega arith)
rows_same f s d (x ∷ xs) (y ∷ ys) o p h =
    ap (λ q. same_content q (join (join (f y) (content_each f ys)) p)) (join_assoc (f x) (content_each f xs) o)
    ∙ ap (same_content (join (f x) (join (content_each f xs) o))) (join_assoc (f y) (content_each f ys) p)
    ∙ d x y (join (content_each f xs) o) (join (content_each f ys) p)
    ∙ ap (λ (b : Bool). s x y && b) (rows_same f s d xs ys o p (omega arith))
    ∙ sym (and_assoc (s x y) (pointwise s xs ys) (same_content o p))

tuples_same : (f : Value → Option (List Atom)) (s : Value → Value → Bool) → Decides f s → (xs ys : List Value) (o p : Option (List Atom)) → same_content (join (content_cell f (Some (cell.Tuple xs))) o) (join (content_cell f (Some (cell.Tuple ys))) p) ≡ (same_key_items s xs ys && same_content o p)
tuples_same f s d xs ys o p =
    heads_same (atom.Row (length xs)) (atom.Row (length ys)) (content_each f xs) (content_each f ys) o p
    ∙ by (nat_eq (length xs) (length ys)) refl
  where
    by : (b : Bool) → nat_eq (length xs) (length ys) ≡ b → (nat_eq (length xs) (length ys) && same_content (join (content_each f xs) o) (join (content_each f ys) p)) ≡ (same_key_items s xs ys && same_content o p)
    by true e =
        ap (λ b. b && same_content (join (content_each f xs) o) (join (content_each f ys) p)) e
        ∙ rows_same f s d xs ys o p (eqb-true (length xs) (length ys) e)
        ∙ ap (λ b. b && same_content o p) (sym (items_pass s xs ys (eqb-true (length xs) (length ys) e)))
        ∙ ap (λ b. (if b then all_pass (same_key_place s xs ys) (length xs) 0 else false) && same_content o p) (sym e)
    by false e =
        ap (λ b. b && same_content (join (content_each f xs) o) (join (content_each f ys) p)) e
        ∙ ap (λ b. (if b then all_pass (same_key_place s xs ys) (length xs) 0 else false) && same_content o p) (sym e)

structs_same : (f : Value → Option (List Atom)) (s : Value → Value → Bool) → Decides f s → (xs ys : Fields) (o p : Option (List Atom)) → same_content (join (content_cell f (Some (cell.Struct xs))) o) (join (content_cell f (Some (cell.Struct ys))) p) ≡ (same_key_fields s xs ys && same_content o p)
structs_same f s d xs ys o p =
    heads_same (atom.Names (names_of xs)) (atom.Names (names_of ys)) (content_row f (values_of xs)) (content_row f (values_of ys)) o p
    ∙ ap (λ (b : Bool). same_names (names_of xs) (names_of ys) && b) (tuples_same f s d (values_of xs) (values_of ys) o p)
    ∙ sym (and_assoc (same_names (names_of xs) (names_of ys)) (same_key_items s (values_of xs) (values_of ys)) (same_content o p))

-- cells

cells_same : (f : Value → Option (List Atom)) (s : Value → Value → Bool) → Decides f s → (a b : Option Cell) (o p : Option (List Atom)) → same_content (join (content_cell f a) o) (join (content_cell f b) p) ≡ (same_key_cell s a b && same_content o p)
cells_same f s d (Some (cell.Text t)) (Some (cell.Text u)) o p = one (atom.Text t) (atom.Text u) o p
cells_same f s d (Some (cell.Text t)) (Some (cell.Tuple ys)) o p = head_right (atom.Text t) (atom.Row (length ys)) (content_each f ys) o p
cells_same f s d (Some (cell.Text t)) (Some (cell.Struct ys)) o p = head_right (atom.Text t) (atom.Names (names_of ys)) (content_row f (values_of ys)) o p
cells_same f s d (Some (cell.Text t)) (Some (cell.Range r)) o p = none_right (join (Some (atom.Text t ∷ [])) o)
cells_same f s d (Some (cell.Text t)) (Some (cell.List ys)) o p = none_right (join (Some (atom.Text t ∷ [])) o)
cells_same f s d (Some (cell.Text t)) (Some (cell.Dict es)) o p = none_right (join (Some (atom.Text t ∷ [])) o)
cells_same f s d (Some (cell.Text t)) (Some (cell.Set es)) o p = none_right (join (Some (atom.Text t ∷ [])) o)
cells_same f s d (Some (cell.Text t)) (Some (cell.Func g)) o p = none_right (join (Some (atom.Text t ∷ [])) o)
cells_same f s d (Some (cell.Text t)) (Some (cell.Frame g)) o p = none_right (join (Some (atom.Text t ∷ [])) o)
cells_same f s d (Some (cell.Text t)) (Some (cell.Bound m v)) o p = none_right (join (Some (atom.Text t ∷ [])) o)
cells_same f s d (Some (cell.Text t)) None o p = none_right (join (Some (atom.Text t ∷ [])) o)
cells_same f s d (Some (cell.Tuple xs)) (Some (cell.Tuple ys)) o p = tuples_same f s d xs ys o p
cells_same f s d (Some (cell.Tuple xs)) (Some (cell.Text u)) o p = head_left (atom.Text u) (atom.Row (length xs)) (content_each f xs) p o
cells_same f s d (Some (cell.Tuple xs)) (Some (cell.Struct ys)) o p = heads_same (atom.Row (length xs)) (atom.Names (names_of ys)) (content_each f xs) (content_row f (values_of ys)) o p
cells_same f s d (Some (cell.Tuple xs)) (Some (cell.Range r)) o p = none_right (join (content_cell f (Some (cell.Tuple xs))) o)
cells_same f s d (Some (cell.Tuple xs)) (Some (cell.List ys)) o p = none_right (join (content_cell f (Some (cell.Tuple xs))) o)
cells_same f s d (Some (cell.Tuple xs)) (Some (cell.Dict es)) o p = none_right (join (content_cell f (Some (cell.Tuple xs))) o)
cells_same f s d (Some (cell.Tuple xs)) (Some (cell.Set es)) o p = none_right (join (content_cell f (Some (cell.Tuple xs))) o)
cells_same f s d (Some (cell.Tuple xs)) (Some (cell.Func g)) o p = none_right (join (content_cell f (Some (cell.Tuple xs))) o)
cells_same f s d (Some (cell.Tuple xs)) (Some (cell.Frame g)) o p = none_right (join (content_cell f (Some (cell.Tuple xs))) o)
cells_same f s d (Some (cell.Tuple xs)) (Some (cell.Bound m v)) o p = none_right (join (content_cell f (Some (cell.Tuple xs))) o)
cells_same f s d (Some (cell.Tuple xs)) None o p = none_right (join (content_cell f (Some (cell.Tuple xs))) o)
cells_same f s d (Some (cell.Struct xs)) (Some (cell.Struct ys)) o p = structs_same f s d xs ys o p
cells_same f s d (Some (cell.Struct xs)) (Some (cell.Text u)) o p = head_left (atom.Text u) (atom.Names (names_of xs)) (content_row f (values_of xs)) p o
cells_same f s d (Some (cell.Struct xs)) (Some (cell.Tuple ys)) o p = heads_same (atom.Names (names_of xs)) (atom.Row (length ys)) (content_row f (values_of xs)) (content_each f ys) o p
cells_same f s d (Some (cell.Struct xs)) (Some (cell.Range r)) o p = none_right (join (content_cell f (Some (cell.Struct xs))) o)
cells_same f s d (Some (cell.Struct xs)) (Some (cell.List ys)) o p = none_right (join (content_cell f (Some (cell.Struct xs))) o)
cells_same f s d (Some (cell.Struct xs)) (Some (cell.Dict es)) o p = none_right (join (content_cell f (Some (cell.Struct xs))) o)
cells_same f s d (Some (cell.Struct xs)) (Some (cell.Set es)) o p = none_right (join (content_cell f (Some (cell.Struct xs))) o)
cells_same f s d (Some (cell.Struct xs)) (Some (cell.Func g)) o p = none_right (join (content_cell f (Some (cell.Struct xs))) o)
cells_same f s d (Some (cell.Struct xs)) (Some (cell.Frame g)) o p = none_right (join (content_cell f (Some (cell.Struct xs))) o)
cells_same f s d (Some (cell.Struct xs)) (Some (cell.Bound m v)) o p = none_right (join (content_cell f (Some (cell.Struct xs))) o)
cells_same f s d (Some (cell.Struct xs)) None o p = none_right (join (content_cell f (Some (cell.Struct xs))) o)
cells_same f s d (Some (cell.Range r)) b o p = refl
cells_same f s d (Some (cell.List xs)) b o p = refl
cells_same f s d (Some (cell.Dict es)) b o p = refl
cells_same f s d (Some (cell.Set es)) b o p = refl
cells_same f s d (Some (cell.Func g)) b o p = refl
cells_same f s d (Some (cell.Frame g)) b o p = refl
cells_same f s d (Some (cell.Bound m v)) b o p = refl
cells_same f s d None b o p = refl

-- values

values_same : (look : Value → Option Cell) (f : Value → Option (List Atom)) (s : Value → Value → Bool) → Decides f s → (x y : Value) (o p : Option (List Atom)) → same_content (join (content_value look f x) o) (join (content_value look f y) p) ≡ (same_key_value look s x y && same_content o p)
values_same look f s d value.NoneValue value.NoneValue o p = one atom.Nothing atom.Nothing o p
values_same look f s d value.NoneValue (value.Bool c) o p = one atom.Nothing (atom.Bool c) o p
values_same look f s d value.NoneValue (value.Int n) o p = one atom.Nothing (atom.Int n) o p
values_same look f s d value.NoneValue (value.Builtin b) o p = none_right (join (Some (atom.Nothing ∷ [])) o)
values_same look f s d value.NoneValue (value.Ref h a) o p = apart_right atom.Nothing (λ t. refl) (λ n. refl) (λ ns. refl) f (look (value.Ref h a)) o p
values_same look f s d (value.Bool b) value.NoneValue o p = one (atom.Bool b) atom.Nothing o p
values_same look f s d (value.Bool b) (value.Bool c) o p = one (atom.Bool b) (atom.Bool c) o p
values_same look f s d (value.Bool b) (value.Int n) o p = one (atom.Bool b) (atom.Int n) o p
values_same look f s d (value.Bool b) (value.Builtin c) o p = none_right (join (Some (atom.Bool b ∷ [])) o)
values_same look f s d (value.Bool b) (value.Ref h a) o p = apart_right (atom.Bool b) (λ t. refl) (λ n. refl) (λ ns. refl) f (look (value.Ref h a)) o p
values_same look f s d (value.Int m) value.NoneValue o p = one (atom.Int m) atom.Nothing o p
values_same look f s d (value.Int m) (value.Bool c) o p = one (atom.Int m) (atom.Bool c) o p
values_same look f s d (value.Int m) (value.Int n) o p = one (atom.Int m) (atom.Int n) o p
values_same look f s d (value.Int m) (value.Builtin c) o p = none_right (join (Some (atom.Int m ∷ [])) o)
values_same look f s d (value.Int m) (value.Ref h a) o p = apart_right (atom.Int m) (λ t. refl) (λ n. refl) (λ ns. refl) f (look (value.Ref h a)) o p
values_same look f s d (value.Builtin b) y o p = refl
values_same look f s d (value.Ref h a) value.NoneValue o p = apart_left atom.Nothing (λ t. refl) (λ n. refl) (λ ns. refl) f (look (value.Ref h a)) p o
values_same look f s d (value.Ref h a) (value.Bool c) o p = apart_left (atom.Bool c) (λ t. refl) (λ n. refl) (λ ns. refl) f (look (value.Ref h a)) p o
values_same look f s d (value.Ref h a) (value.Int n) o p = apart_left (atom.Int n) (λ t. refl) (λ n. refl) (λ ns. refl) f (look (value.Ref h a)) p o
values_same look f s d (value.Ref h a) (value.Builtin c) o p = none_right (join (content_cell f (look (value.Ref h a))) o)
values_same look f s d (value.Ref h a) (value.Ref k b) o p = cells_same f s d (look (value.Ref h a)) (look (value.Ref k b)) o p

-- at every level

decided : (look : Value → Option Cell) (n : ℕ) → Decides (content look n) (same_key look n)
unfolding Decides content same_key
decided look zero x y o p = refl
decided look (suc n) x y o p = values_same look (content look n) (same_key look n) (decided look n) x y o p

pub same_keys : (look : Value → Option Cell) (n : ℕ) (x y : Value) → same_key look n x y ≡ same_content (content look n x) (content look n y)
unfolding Decides
same_keys look n x y =
    sym (and_true (same_key look n x y))
    ∙ sym (decided look n x y (Some []) (Some []))
    ∙ ap (λ q. same_content q (join (content look n y) (Some []))) (join_end (content look n x))
    ∙ ap (same_content (content look n x)) (join_end (content look n y))

-- a key has a content

items_have : (g : Value → Bool) (f : Value → Option (List Atom)) → ((v : Value) → g v ≡ is_some (f v)) → (xs : List Value) → list_all g xs ≡ is_some (content_each f xs)
items_have g f h [] = refl
items_have g f h (x ∷ xs) = ap (λ b. b && list_all g xs) (h x) ∙ ap (λ (b : Bool). is_some (f x) && b) (items_have g f h xs) ∙ sym (some_join (f x) (content_each f xs))

cells_have : (g : Value → Bool) (f : Value → Option (List Atom)) → ((v : Value) → g v ≡ is_some (f v)) → (c : Option Cell) → key_cell g c ≡ is_some (content_cell f c)
cells_have g f h (Some (cell.Tuple xs)) = items_have g f h xs ∙ sym (some_join (Some (atom.Row (length xs) ∷ [])) (content_each f xs))
cells_have g f h (Some (cell.Struct fs)) =
    items_have g f h (values_of fs) ∙ sym (some_join (Some (atom.Row (length (values_of fs)) ∷ [])) (content_each f (values_of fs)))
    ∙ sym (some_join (Some (atom.Names (names_of fs) ∷ [])) (content_row f (values_of fs)))
cells_have g f h _ = refl

values_have : (look : Value → Option Cell) (g : Value → Bool) (f : Value → Option (List Atom)) → ((v : Value) → g v ≡ is_some (f v)) → (v : Value) → key_value look g v ≡ is_some (content_value look f v)
values_have look g f h value.NoneValue = refl
values_have look g f h (value.Bool b) = refl
values_have look g f h (value.Int n) = refl
values_have look g f h (value.Builtin b) = refl
values_have look g f h (value.Ref m a) = cells_have g f h (look (value.Ref m a))

pub keys_have : (look : Value → Option Cell) (n : ℕ) (v : Value) → is_key look n v ≡ is_some (content look n v)
unfolding content is_key
keys_have look zero v = refl
keys_have look (suc n) v = values_have look (is_key look n) (content look n) (keys_have look n) v

-- contents stay

Follows : Option (List Atom) → Option (List Atom) → Type 0
Follows o p = (atoms : List Atom) → o ≡ Some atoms → p ≡ Some atoms

join_follows : (a b c d : Option (List Atom)) → Follows a c → Follows b d → Follows (join a b) (join c d)
unfolding Follows
join_follows (Some xs) (Some ys) c d h k atoms e = ap (λ q. join q d) (h xs refl) ∙ ap (join (Some xs)) (k ys refl) ∙ e
join_follows (Some xs) None c d h k atoms e = cc
join_follows None b c d h k atoms e = cc

items_follow : (f g : Value → Option (List Atom)) → ((v : Value) → Follows (f v) (g v)) → (xs : List Value) → Follows (content_each f xs) (content_each g xs)
unfolding Follows
items_follow f g h [] = λ atoms e. e
items_follow f g h (x ∷ xs) = join_follows (f x) (content_each f xs) (g x) (content_each g xs) (h x) (items_follow f g h xs)

row_follows : (f g : Value → Option (List Atom)) → ((v : Value) → Follows (f v) (g v)) → (xs : List Value) → Follows (content_row f xs) (content_row g xs)
unfolding Follows
row_follows f g h xs =
    join_follows (Some (atom.Row (length xs) ∷ [])) (content_each f xs) (Some (atom.Row (length xs) ∷ [])) (content_each g xs) (λ ks e. e) (items_follow f g h xs)

cells_follow : (f g : Value → Option (List Atom)) → ((v : Value) → Follows (f v) (g v)) → (c d : Option Cell) → ((t : List ℕ) → c ≡ Some (cell.Text t) → d ≡ Some (cell.Text t)) → ((xs : List Value) → c ≡ Some (cell.Tuple xs) → d ≡ Some (cell.Tuple xs)) → ((fs : Fields) → c ≡ Some (cell.Struct fs) → d ≡ Some (cell.Struct fs)) → Follows (content_cell f c) (content_cell g d)
unfolding Follows
cells_follow f g h (Some (cell.Text t)) d ht hx hs atoms e = ap (content_cell g) (ht t refl) ∙ e
cells_follow f g h (Some (cell.Tuple xs)) d ht hx hs atoms e = ap (content_cell g) (hx xs refl) ∙ row_follows f g h xs atoms e
cells_follow f g h (Some (cell.Struct fs)) d ht hx hs atoms e =
    ap (content_cell g) (hs fs refl)
    ∙ join_follows (Some (atom.Names (names_of fs) ∷ [])) (content_row f (values_of fs)) (Some (atom.Names (names_of fs) ∷ [])) (content_row g (values_of fs)) (λ ks e. e) (row_follows f g h (values_of fs)) atoms e
cells_follow f g h (Some (cell.Range r)) d ht hx hs atoms e = cc
cells_follow f g h (Some (cell.List xs)) d ht hx hs atoms e = cc
cells_follow f g h (Some (cell.Dict es)) d ht hx hs atoms e = cc
cells_follow f g h (Some (cell.Set es)) d ht hx hs atoms e = cc
cells_follow f g h (Some (cell.Func r)) d ht hx hs atoms e = cc
cells_follow f g h (Some (cell.Frame r)) d ht hx hs atoms e = cc
cells_follow f g h (Some (cell.Bound m v)) d ht hx hs atoms e = cc
cells_follow f g h None d ht hx hs atoms e = cc

values_follow : (look later : Value → Option Cell) → KeepsKeys look later → (f g : Value → Option (List Atom)) → ((v : Value) → Follows (f v) (g v)) → (v : Value) → Follows (content_value look f v) (content_value later g v)
unfolding Follows
values_follow look later k f g h value.NoneValue = λ atoms e. e
values_follow look later k f g h (value.Bool b) = λ atoms e. e
values_follow look later k f g h (value.Int n) = λ atoms e. e
values_follow look later k f g h (value.Builtin b) = λ atoms e. e
values_follow look later k f g h (value.Ref m a) = cells_follow f g h (look (value.Ref m a)) (later (value.Ref m a)) (k.texts (value.Ref m a)) (k.tuples (value.Ref m a)) (k.structs (value.Ref m a))

followed : (look later : Value → Option Cell) → KeepsKeys look later → (n : ℕ) (v : Value) → Follows (content look n v) (content later n v)
unfolding content Follows
followed look later k zero v = λ atoms e. e
followed look later k (suc n) v = values_follow look later k (content look n) (content later n) (followed look later k n) v

pub contents_stay : (look later : Value → Option Cell) (n : ℕ) (v : Value) (atoms : List Atom) → KeepsKeys look later → content look n v ≡ Some atoms → content later n v ≡ Some atoms
unfolding Follows
contents_stay look later n v atoms k e = followed look later k n v atoms e
