-- The tokens that a writer got for rows of values.
use Rattle.std.proofs.Common.{◌≡◌, ℕ, zero, suc, ℤ, pos, negsuc, Bool, true, false, List, [], ◌∷◌, ◌++◌, length, map, take, Option, Some, None, refl, ap, sym, subst, ◌∙◌, append_assoc, append-nil, if◌then◌else◌}
use denote.Ref.{Bor}
use Rattle.std.specs.Prelude.{slice_get}
use Rattle.std.specs.Option.{option_and_then, option_map}
use Rattle.std.specs.declared.cmp.Ordering.{Ordering}
use Rattle.std.specs.declared.cmp.Ordering.TheVariants.{Less, Equal, Greater}
use Rattle.std.specs.Ordering.{is_eq, match_ordering, nat_cmp}
use Rattle.std.specs.Cmp.Lexicographic.{slice_cmp}
use Rattle.std.specs.BTreeMap.{insert_entry, is_at}
use Rattle.std.specs.Map.{lookup}
use Rattle.std.specs.Fmt.{signed_decimal}
use Rattle.json.specs.Token.{Token, begin_array, begin_object, end_array, end_object, key}
use Rattle.json.specs.Print.{print}
use Rattle.json.specs.Tree.{items_tokens, json_tokens, members_tokens}
use Rattle.serde_json.specs.Data.{Data, Members, array, member, no_members, object, put}
use Rattle.serde_json.specs.Find.{of_integer}
use Rattle.serde_json.specs.View.{items_of}
use Rattle.serde_json.specs.Written.{items_outline, members_outline, number_text, outline}
use Rattle.serde_json.proofs.Texts.{print-outline}
use Rattle.star_store.specs.declared.values.Value.{Value}
use Rattle.star_store.specs.declared.values.Cell.{Cell}
use Rattle.star_data.specs.Data.{cell_of, entries_data, items_data, key_in}
use Rattle.star_data.specs.Paths.{AllStandInEach, StandsInEach}
use Rattle.star_data.specs.Texts.{IsJson, Says, Sends, row_data}
use Rattle.star_data.proofs.Builds.{items_push}

-- ---- items

-- the tokens of items, without the bracket after them
abbrev pub open_tokens : List Data → List Token
open_tokens [] = []
open_tokens (d ∷ ds) = json_tokens (outline d) ++ open_tokens ds

open_push : (ds : List Data) (d : Data) → open_tokens (ds ++ d ∷ []) ≡ open_tokens ds ++ json_tokens (outline d)
open_push [] d = append-nil (json_tokens (outline d))
open_push (c ∷ ds) d = ap (λ ts. json_tokens (outline c) ++ ts) (open_push ds d) ∙ sym (append_assoc (json_tokens (outline c)) (open_tokens ds) (json_tokens (outline d)))

open_end : (ds : List Data) → items_tokens (items_outline (items_of ds)) ≡ open_tokens ds ++ end_array ∷ []
open_end [] = refl
open_end (d ∷ ds) = ap (λ ts. json_tokens (outline d) ++ ts) (open_end ds) ∙ sym (append_assoc (json_tokens (outline d)) (open_tokens ds) (end_array ∷ []))

-- the items so far are data, and their tokens come after a bracket
pub record SentItems (f : Value → Option Data) (xs : List Value) (old new : List Token) : Type 0 where
  pub ds : List Data
  pub are : items_data f xs ≡ Some (items_of ds)
  pub tokens : new ≡ old ++ begin_array ∷ open_tokens ds

pub items_begin : (f : Value → Option Data) (old new : List Token) → new ≡ old ++ begin_array ∷ [] → SentItems f [] old new
items_begin f old new e = record { ds = []; are = refl; tokens = e }

pub items_more : (f : Value → Option Data) (xs : List Value) (x : Value) (d : Data) (old before new : List Token) → SentItems f xs old before → f x ≡ Some d → new ≡ before ++ json_tokens (outline d) → SentItems f (xs ++ x ∷ []) old new
items_more f xs x d old before new was some e = record {
  ds = was.ds ++ d ∷ [];
  are = items_push f xs was.ds x d was.are some;
  tokens = e ∙ (ap (λ ts. ts ++ json_tokens (outline d)) was.tokens ∙ (append_assoc old (begin_array ∷ open_tokens was.ds) (json_tokens (outline d)) ∙ ap (λ ts. old ++ begin_array ∷ ts) (sym (open_push was.ds d))));
}

pub items_end : (f : Value → Option Data) (xs : List Value) (old before new : List Token) → SentItems f xs old before → new ≡ before ++ end_array ∷ [] → Sends (option_map array (items_data f xs)) true old new
items_end f xs old before new s e = subst (λ o. Sends (option_map array o) true old new) (sym s.are) (
  refl,
  e ∙ (ap (λ ts. ts ++ end_array ∷ []) s.tokens ∙ (append_assoc old (begin_array ∷ open_tokens s.ds) (end_array ∷ []) ∙ ap (λ ts. old ++ begin_array ∷ ts) (sym (open_end s.ds)))),
)

-- ---- members

abbrev pub Row : Type 0
Row = List (Bor (List ℕ) × Value)

-- the rest of a row: tokens that end the object well from here end it well from the start, and if the rest is not data,
-- nor is the row
pub record LeftMembers (f : Value → Option Data) (es left : Row) (old now : List Token) : Type 0 where
  pub some : (ms : Members) → row_data f left ≡ Some ms → (all : Members) × (row_data f es ≡ Some all)
      × (old ++ begin_object ∷ members_tokens (members_outline all) ≡ now ++ members_tokens (members_outline ms))
  pub none : row_data f left ≡ None → row_data f es ≡ None

pub members_begin : (f : Value → Option Data) (es : Row) (old new : List Token) → new ≡ old ++ begin_object ∷ [] → LeftMembers f es es old new
members_begin f es old new e = record {
  some = λ ms are. (ms, are, sym (ap (λ ts. ts ++ members_tokens (members_outline ms)) e ∙ append_assoc old (begin_object ∷ []) (members_tokens (members_outline ms))));
  none = λ h. h;
}

one_member : (f : Value → Option Data) (e : Bor (List ℕ) × Value) (left : Row) (d : Data) (ms : Members) → f e.1 ≡ Some d → row_data f left ≡ Some ms → row_data f (e ∷ left) ≡ Some (member e.0.now d ms)
one_member f e left d ms some are = ap (option_and_then (λ c. option_map (member e.0.now c) (row_data f left))) some ∙ ap (option_map (member e.0.now d)) are

none_row : (f : Value → Option Data) (x : Bor (List ℕ) × Value) (es : Row) → row_data f es ≡ None → row_data f (x ∷ es) ≡ None
none_row f x es e = by (f x.1)
  where
    by : (o : Option Data) → option_and_then (λ d. option_map (member x.0.now d) (row_data f es)) o ≡ None
    by None = refl
    by (Some d) = ap (option_map (member x.0.now d)) e

pub members_more : (f : Value → Option Data) (es : Row) (e : Bor (List ℕ) × Value) (left rest : Row) (d : Data) (old before named new : List Token) → LeftMembers f es rest old before → rest ≡ e ∷ left → f e.1 ≡ Some d
    → named ≡ before ++ key e.0.now ∷ [] → new ≡ named ++ json_tokens (outline d) → LeftMembers f es left old new
members_more f es e left rest d old before named new was at some name value = record {
  some = λ ms are. (
      let whole = was.some (member e.0.now d ms) (ap (row_data f) at ∙ one_member f e left d ms some are) in
      let rest_tokens : List Token = members_tokens (members_outline ms) in
      let tokens : new ++ rest_tokens ≡ before ++ key e.0.now ∷ (json_tokens (outline d) ++ rest_tokens) =
      ap (λ ts. ts ++ rest_tokens) (value ∙ ap (λ ts. ts ++ json_tokens (outline d)) name)
      ∙ (append_assoc (before ++ key e.0.now ∷ []) (json_tokens (outline d)) rest_tokens ∙ append_assoc before (key e.0.now ∷ []) (json_tokens (outline d) ++ rest_tokens)) in
      (whole.0, whole.1, whole.2 ∙ sym tokens)
      );
  none = λ h. was.none (ap (row_data f) at ∙ none_row f e left h);
}

-- a value that is not data
pub members_none : (f : Value → Option Data) (es : Row) (e : Bor (List ℕ) × Value) (left rest : Row) (old before : List Token) → LeftMembers f es rest old before → rest ≡ e ∷ left → f e.1 ≡ None → row_data f es ≡ None
members_none f es e left rest old before was at none = was.none (ap (row_data f) at ∙ ap (option_and_then (λ c. option_map (member e.0.now c) (row_data f left))) none)

pub members_end : (f : Value → Option Data) (es rest : Row) (old before new : List Token) → LeftMembers f es rest old before → rest ≡ [] → new ≡ before ++ end_object ∷ [] → Sends (option_map object (row_data f es)) true old new
members_end f es rest old before new was at e =
    let whole = was.some no_members (ap (row_data f) at) in
    subst (λ o. Sends (option_map object o) true old new) (sym whole.1) (refl, e ∙ sym whole.2)

-- ---- a row in which each name is put

abbrev pub key_cmp : Bor (List ℕ) → Bor (List ℕ) → Ordering
key_cmp x y = slice_cmp nat_cmp x.now y.now

-- a value that is put at a name already in the row must replace data
abbrev pub HidesData : (Value → Option Data) → Option Value → Type 0
HidesData f None = Unit {0}
HidesData f (Some v) = (d : Data) × (f v ≡ Some d)

module _ (f : Value → Option Data) (k : Bor (List ℕ)) (v : Value) where
  -- the members with one more
  abbrev pub with_one : Option Members → Option Members
  with_one ms = option_and_then (λ d. option_map (put k.now d) ms) (f v)

  pub at_less : (x : Bor (List ℕ) × Value) (es : Row) (o : Option Data) (p : Option Data) (q : Option Members) → key_cmp k x.0 ≡ Less
      → option_and_then (λ d. option_map (member k.now d) (option_and_then (λ c. option_map (member x.0.now c) q) p)) o ≡ option_and_then (λ d. option_map (put k.now d) (option_and_then (λ c. option_map (member x.0.now c) q) p)) o
  at_less x es None p q less = refl
  at_less x es (Some d) None q less = refl
  at_less x es (Some d) (Some c) None less = refl
  at_less x es (Some d) (Some c) (Some ms) less = ap (λ r. Some (match_ordering r (member k.now d (member x.0.now c ms)) (member x.0.now d ms) (member x.0.now c (put k.now d ms)))) (sym less)

  at_equal : (x : Bor (List ℕ) × Value) (o : Option Data) (c : Data) (q : Option Members) → key_cmp k x.0 ≡ Equal
      → option_and_then (λ d. option_map (member x.0.now d) q) o ≡ option_and_then (λ d. option_map (put k.now d) (option_map (member x.0.now c) q)) o
  at_equal x None c q same = refl
  at_equal x (Some d) c None same = refl
  at_equal x (Some d) c (Some ms) same = ap (λ r. Some (match_ordering r (member k.now d (member x.0.now c ms)) (member x.0.now d ms) (member x.0.now c (put k.now d ms)))) (sym same)

  pub at_greater : (x : Bor (List ℕ) × Value) (o : Option Data) (p : Option Data) (q : Option Members) → key_cmp k x.0 ≡ Greater
      → option_and_then (λ c. option_map (member x.0.now c) (option_and_then (λ d. option_map (put k.now d) q) o)) p ≡ option_and_then (λ d. option_map (put k.now d) (option_and_then (λ c. option_map (member x.0.now c) q) p)) o
  at_greater x None None q more = refl
  at_greater x None (Some c) q more = refl
  at_greater x (Some d) None q more = refl
  at_greater x (Some d) (Some c) None more = refl
  at_greater x (Some d) (Some c) (Some ms) more = ap (λ r. Some (match_ordering r (member k.now d (member x.0.now c ms)) (member x.0.now d ms) (member x.0.now c (put k.now d ms)))) (sym more)

  row_turn : (x : Bor (List ℕ) × Value) (es : Row) → HidesData f (lookup (is_at (key_cmp k)) (x ∷ es)) → (HidesData f (lookup (is_at (key_cmp k)) es) → row_data f (insert_entry key_cmp es k v) ≡ with_one (row_data f es))
      → (o : Ordering) → key_cmp k x.0 ≡ o → row_data f (match_ordering o ((k, v) ∷ x ∷ es) ((x.0, v) ∷ es) (x ∷ insert_entry key_cmp es k v)) ≡ with_one (row_data f (x ∷ es))
  row_turn x es hides rest Less is = at_less x es (f v) (f x.1) (row_data f es) is
  row_turn x es hides rest Equal is =
      let there : lookup (is_at (key_cmp k)) (x ∷ es) ≡ Some x.1 = ap (λ o. if is_eq o then Some x.1 else lookup (is_at (key_cmp k)) es) is in
      let d : (d : Data) × (f x.1 ≡ Some d) = subst (HidesData f) there hides in
      at_equal x (f v) d.0 (row_data f es) is ∙ sym (ap (λ p. with_one (option_and_then (λ c. option_map (member x.0.now c) (row_data f es)) p)) d.1)
  row_turn x es hides rest Greater is =
      let there : lookup (is_at (key_cmp k)) (x ∷ es) ≡ lookup (is_at (key_cmp k)) es = ap (λ o. if is_eq o then Some x.1 else lookup (is_at (key_cmp k)) es) is in
      let more : row_data f (insert_entry key_cmp es k v) ≡ with_one (row_data f es) = rest (subst (HidesData f) there hides) in
      ap (λ q. option_and_then (λ c. option_map (member x.0.now c) q) (f x.1)) more ∙ at_greater x (f v) (f x.1) (row_data f es) is

  pub row_insert : (es : Row) → HidesData f (lookup (is_at (key_cmp k)) es) → row_data f (insert_entry key_cmp es k v) ≡ with_one (row_data f es)
  row_insert [] hides = refl
  row_insert (x ∷ es) hides = row_turn x es hides (row_insert es) (key_cmp k x.0) refl

-- one entry more
pub entry_more : (look : Value → Option Cell) (f : Value → Option Data) (es left : List (Value × Value)) (e : Value × Value) (k : Bor (List ℕ)) (row new : Row) → es ≡ e ∷ left → key_in (cell_of look e.0) ≡ Some k.now
    → entries_data look f left ≡ row_data f row → HidesData f (lookup (is_at (key_cmp k)) row) → new ≡ insert_entry key_cmp row k e.1 → entries_data look f es ≡ row_data f new
entry_more look f es left e k row new at text was hides is =
    ap (entries_data look f) at
    ∙ (ap (option_and_then (λ n. option_and_then (λ d. option_map (put n d) (entries_data look f left)) (f e.1))) text
    ∙ (ap (λ ms. option_and_then (λ d. option_map (put k.now d) ms) (f e.1)) was ∙ (sym (row_insert f k e.1 row hides) ∙ ap (row_data f) (sym is))))

-- if the value at a name is not data, the row is not
pub entry_hides_none : (f : Value → Option Data) (k : Bor (List ℕ)) (row : Row) (v : Value) → lookup (is_at (key_cmp k)) row ≡ Some v → f v ≡ None → row_data f row ≡ None
entry_hides_none f k [] v at none = absurd (let no : ⊥ = cc in no)
entry_hides_none f k (x ∷ row) v at none = turn (λ there. entry_hides_none f k row v there none) (is_eq (key_cmp k x.0)) at
  where
    turn : (lookup (is_at (key_cmp k)) row ≡ Some v → row_data f row ≡ None) → (b : Bool) → (if b then Some x.1 else lookup (is_at (key_cmp k)) row) ≡ Some v → row_data f (x ∷ row) ≡ None
    turn rest true here =
        let same : x.1 ≡ v = cc in
        ap (option_and_then (λ c. option_map (member x.0.now c) (row_data f row))) (ap f same ∙ none)
    turn rest false there = none_row f x row (rest there)

-- if the values of a row, and one more, are inside of the values of a path, so are the values of the row with this one
pub stand_insert : (look : Value → Option Cell) (path : List Value) (row : Row) (k : Bor (List ℕ)) (v : Value) → AllStandInEach look path (map (λ (e : Bor (List ℕ) × Value). e.1) row) → StandsInEach look path v
    → AllStandInEach look path (map (λ (e : Bor (List ℕ) × Value). e.1) (insert_entry key_cmp row k v))
stand_insert look path [] k v all one = record { all = λ i x at. only i x at }
  where
    only : (i : ℕ) (x : Value) → slice_get (v ∷ []) i ≡ Some x → StandsInEach look path x
    only zero x at = subst (StandsInEach look path) (let same : v ≡ x = cc in same) one
    only (suc i) x at = absurd (let no : ⊥ = cc in no)
stand_insert look path (y ∷ row) k v all one = turn (λ later. stand_insert look path row k v later one) (key_cmp k y.0)
  where
    ahead : (w : Value) (vs : List Value) → StandsInEach look path w → AllStandInEach look path vs → AllStandInEach look path (w ∷ vs)
    ahead w vs h rest = record { all = λ i x at. by i x at }
      where
        by : (i : ℕ) (x : Value) → slice_get (w ∷ vs) i ≡ Some x → StandsInEach look path x
        by zero x at = subst (StandsInEach look path) (let same : w ≡ x = cc in same) h
        by (suc i) x at = rest.all i x at

    later : AllStandInEach look path (map (λ (e : Bor (List ℕ) × Value). e.1) row)
    later = record { all = λ i x at. all.all (suc i) x at }

    turn : (AllStandInEach look path (map (λ (e : Bor (List ℕ) × Value). e.1) row) → AllStandInEach look path (map (λ (e : Bor (List ℕ) × Value). e.1) (insert_entry key_cmp row k v)))
        → (o : Ordering) → AllStandInEach look path (map (λ (e : Bor (List ℕ) × Value). e.1) (match_ordering o ((k, v) ∷ y ∷ row) ((y.0, v) ∷ row) (y ∷ insert_entry key_cmp row k v)))
    turn rest Less = ahead v (y.1 ∷ map (λ (e : Bor (List ℕ) × Value). e.1) row) one all
    turn rest Equal = ahead v (map (λ (e : Bor (List ℕ) × Value). e.1) row) one later
    turn rest Greater = ahead y.1 (map (λ (e : Bor (List ℕ) × Value). e.1) (insert_entry key_cmp row k v)) (all.all 0 y.1 refl) (rest later)

-- if the values of a row are inside of the values of a path, so is the one at a name
pub found_stands : (look : Value → Option Cell) (path : List Value) (k : Bor (List ℕ)) (row : Row) (v : Value) → lookup (is_at (key_cmp k)) row ≡ Some v → AllStandInEach look path (map (λ (e : Bor (List ℕ) × Value). e.1) row) → StandsInEach look path v
found_stands look path k [] v at all = absurd (let no : ⊥ = cc in no)
found_stands look path k (x ∷ row) v at all = turn (λ there. found_stands look path k row v there (record { all = λ i y found. all.all (suc i) y found })) (is_eq (key_cmp k x.0)) at
  where
    turn : (lookup (is_at (key_cmp k)) row ≡ Some v → StandsInEach look path v) → (b : Bool) → (if b then Some x.1 else lookup (is_at (key_cmp k)) row) ≡ Some v → StandsInEach look path v
    turn rest true here = all.all 0 v here
    turn rest false there = rest there

-- ---- the tokens that are sent

pub sends_none : (o : Option Data) (a b : List Token) → o ≡ None → Sends o false a b
sends_none o a b e = subst (λ p. Sends p false a b) (sym e) refl

pub none_sent : (o : Option Data) (b : Bool) (old new : List Token) → Sends o b old new → b ≡ false → o ≡ None
none_sent None b old new h e = refl
none_sent (Some d) b old new h e = absurd (let no : true ≡ false = sym h.0 ∙ e in let none : ⊥ = cc in none)

pub some_sent : (o : Option Data) (b : Bool) (old new : List Token) → Sends o b old new → b ≡ true → (d : Data) × (o ≡ Some d) × (new ≡ old ++ json_tokens (outline d))
some_sent None b old new h e = absurd (let no : true ≡ false = sym e ∙ h in let none : ⊥ = cc in none)
some_sent (Some d) b old new h e = (d, refl, h.1)

pub sends_some : (o : Option Data) (d : Data) (old new : List Token) → o ≡ Some d → new ≡ old ++ json_tokens (outline d) → Sends o true old new
sends_some o d old new e h = subst (λ p. Sends p true old new) (sym e) (refl, h)

pub sent_as : (o p : Option Data) (b : Bool) (old new : List Token) → o ≡ p → Sends o b old new → Sends p b old new
sent_as o p b old new e h = subst (λ q. Sends q b old new) e h

pub says_none : (o : Option Data) (b : Bool) → Says o b → b ≡ false → o ≡ None
says_none None b h e = refl
says_none (Some d) b h e = absurd (let no : true ≡ false = sym h ∙ e in let none : ⊥ = cc in none)

pub says_some : (o : Option Data) (b : Bool) → Says o b → b ≡ true → (d : Data) × (o ≡ Some d)
says_some None b h e = absurd (let no : true ≡ false = sym e ∙ h in let none : ⊥ = cc in none)
says_some (Some d) b h e = (d, refl)

-- the digits of an int
pub int_text : (n : ℤ) → number_text (of_integer n) ≡ signed_decimal n
int_text (pos n) = refl
int_text (negsuc n) = refl

-- ---- the text

pub text_is : (o : Option Data) (b : Bool) (old text : List ℕ) (sent : List Token) → Sends o b [] sent → b ≡ true → text ≡ old ++ print sent → IsJson o old true text
text_is o b old text sent h some_data e =
    let some = some_sent o b [] sent h some_data in
    subst (λ p. IsJson p old true text) (sym some.1) (refl, e ∙ ap (λ t. old ++ t) (ap print some.2 ∙ print-outline some.0))

pub no_text : (o : Option Data) (b : Bool) (old text : List ℕ) (sent : List Token) → Sends o b [] sent → b ≡ false → text ≡ old → IsJson o old false text
no_text o b old text sent h none e = subst (λ p. IsJson p old false text) (sym (none_sent o b [] sent h none)) (refl, e)

-- the text before
pub front : (old more : List ℕ) (n : ℕ) → n ≡ length old → take n (old ++ more) ≡ old
front old more n e = ap (λ k. take k (old ++ more)) e ∙ go old
  where
    go : (xs : List ℕ) → take (length xs) (xs ++ more) ≡ xs
    go [] = refl
    go (x ∷ xs) = ap (λ ys. x ∷ ys) (go xs)
