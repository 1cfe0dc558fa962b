-- Calls of functions whose parameters have a layout: the bound values.
use Rattle.std.proofs.Common.{◌≡◌, ◌<◌, ◌≤◌, ◌⊎◌, inl, inr, ℕ, zero, suc, nat_eq, Bool, true, false, ◌||◌, ◌&&◌, not, List, [], ◌∷◌, length, drop, take, slice_get, Option, Some, None, if◌then◌else◌, cond, refl, ap, sym, ◌∙◌, arith, eq-eqb, eqb-true, le-ltb, lt-ltb, ne_eqb}
use Rattle.std.specs.Prelude.{is_some, nat_lt}
use Rattle.std.specs.List.{find, list_any}
use Rattle.std.specs.Option.{option_and_then, option_flatten, option_map, option_or}
use Rattle.std.proofs.lemmas.List.{length-take}
use Rattle.std.proofs.lemmas.Option.{slice_get_past}
use Rattle.std.proofs.lemmas.Slice.Eq.{bytes_eq-Decides}
use Rattle.star_store.specs.declared.values.Value.{Value}
use Rattle.star_store.specs.Slots.{default_at}
use Rattle.star_tree.specs.declared.tree.Expression.{Expression}
use Rattle.star_tree.specs.declared.tree.Name.{Name}
use Rattle.star_tree.specs.declared.tree.Parameter.{Parameter}
use Rattle.star_tree.specs.declared.tree.Argument.TheOpen as tree
use Rattle.star_outline.specs.Names.{Names, same_name, slot_of}
use Rattle.star_scope.specs.Places.{Spots}
use Rattle.star_outline.specs.Syntax.{ParameterForm, parameter}
use Rattle.star_outline.proofs.Numbers.{position_next}
use Rattle.star_meaning.specs.declared.given.Arguments.{Arguments}
use Rattle.star_meaning.specs.declared.given.KeywordArgument.{KeywordArgument}
use Rattle.star_meaning.specs.Arguments.{is_given}
use Rattle.star_meaning.specs.Binding.{BindingState, BoundArgument, also, before_names, bound_to, else_default, first_of_row, is_extra, keyword_of, keywords_of, rest_of_row, argument_by, argument_of, shared, shares, step, takes_names, extra_keywords, value_named}
use Rattle.star_meaning.specs.Binding as share
use Rattle.star_world.specs.declared.layouts.Cursor.{Cursor}
use Rattle.star_world.specs.declared.layouts.Stage.{Stage}
use Rattle.star_world.specs.declared.layouts.Stage.TheVariants as stage
use Rattle.star_world.specs.Orders.{InOrder, Layout, MayEnd, MayStand, PlacesAreOver, PlacesEnd, StandsAt, after, is_at, takes_keyword, start}
use Rattle.star_enter.specs.Ordered.{AreTaken, FitsLayout, IsTaken, bound_at, named_at, own_in, keyword_slot, placed, extra_in_order, unplaced}

-- ---- slots of names

there : (b : Bool) (o : Option ℕ) (i : ℕ) (n name : List ℕ) (ns : Names) → same_name name n ≡ b → (if b then Some 0 else option_map (λ i. suc i) o) ≡ Some i
    → ((j : ℕ) → o ≡ Some j → slice_get ns j ≡ Some name) → slice_get (n ∷ ns) i ≡ Some name
there true o zero n name ns e h k = ap Some (sym ((bytes_eq-Decides name n).0 e))
there true o (suc i) n name ns e h k = absurd cc
there false None i n name ns e h k = absurd cc
there false (Some j) zero n name ns e h k = absurd cc
there false (Some j) (suc i) n name ns e h k = let q : j ≡ i = cc in k i (ap Some q)

-- a name is at its slot
slot_there : (names : Names) (name : List ℕ) (i : ℕ) → slot_of name names ≡ Some i → slice_get names i ≡ Some name
slot_there [] name i h = absurd cc
slot_there (n ∷ ns) name i h = there (same_name name n) (slot_of name ns) i n name ns refl (sym (position_next (same_name name) n ns) ∙ h) (λ j e. slot_there ns name j e)

-- names with one slot are one name
same_slot : (names : Names) (a b : List ℕ) (i : ℕ) → slot_of a names ≡ Some i → slot_of b names ≡ Some i → a ≡ b
same_slot names a b i h k = let e : Some a ≡ Some b = sym (slot_there names a i h) ∙ slot_there names b i k in cc

-- another name has a slot exactly if it is the name with that slot
alike_by : (names : Names) (name other : List ℕ) (i : ℕ) (b : Bool) (o : Option ℕ) → slot_of name names ≡ Some i → same_name other name ≡ b → slot_of other names ≡ o → b ≡ is_at o i
alike_by names name other i true o h e f =
    let q : o ≡ Some i = sym f ∙ ap (λ x. slot_of x names) ((bytes_eq-Decides other name).0 e) ∙ h in
    sym (ap (λ x. is_at x i) q ∙ eq-eqb i i refl)
alike_by names name other i false None h e f = refl
alike_by names name other i false (Some j) h e f = by (nat_eq j i) refl
  where
    by : (b : Bool) → nat_eq j i ≡ b → false ≡ nat_eq j i
    by false q = sym q
    by true q =
        let s : slot_of other names ≡ Some i = f ∙ ap Some (eqb-true j i q) in
        let t : same_name other name ≡ true = (bytes_eq-Decides other name).1 (same_slot names other name i s h) in
        absurd cc

alike : (names : Names) (name other : List ℕ) (i : ℕ) → slot_of name names ≡ Some i → same_name other name ≡ is_at (slot_of other names) i
alike names name other i h = alike_by names name other i (same_name other name) (slot_of other names) h refl refl

-- the name with the slot of a parameter takes a keyword argument
own_same : (l : Layout) (o : Option ℕ) (i : ℕ) → takes_keyword l i ≡ true → is_at o i ≡ is_at (own_in l o) i
own_same l None i h = refl
own_same l (Some j) i h = by (nat_eq j i) (takes_keyword l j) refl refl
  where
    by : (b c : Bool) → nat_eq j i ≡ b → takes_keyword l j ≡ c → nat_eq j i ≡ is_at (if takes_keyword l j then Some j else None) i
    by b true e k = sym (ap (λ c. is_at (if c then Some j else None) i) k)
    by false false e k = e ∙ sym (ap (λ c. is_at (if c then Some j else None) i) k)
    by true false e k = let q : takes_keyword l j ≡ true = ap (takes_keyword l) (eqb-true j i e) ∙ h in absurd cc

alike_own : (l : Layout) (names : Names) (name : List ℕ) (m : KeywordArgument) (i : ℕ) → slot_of name names ≡ Some i → takes_keyword l i ≡ true → same_name m.name name ≡ is_at (keyword_slot l names m) i
alike_own l names name m i h k = alike names name m.name i h ∙ own_same l (slot_of m.name names) i k

-- the value that is given by a name is the one for its slot
find_same : {A : Type 0} (f g : A → Bool) (xs : List A) → ((x : A) → f x ≡ g x) → find f xs ≡ find g xs
find_same f g [] h = refl
find_same f g (x ∷ xs) h = ap (λ b. cond b (Some x) (find f xs)) (h x) ∙ ap (λ o. cond (g x) (Some x) o) (find_same f g xs h)

value_there : (l : Layout) (names : Names) (name : List ℕ) (i : ℕ) (ns : List KeywordArgument) → slot_of name names ≡ Some i → takes_keyword l i ≡ true → value_named name ns ≡ named_at l names ns i
value_there l names name i ns h k =
    ap (option_map (λ n. n.value)) (find_same (λ (n : KeywordArgument). same_name n.name name) (λ (n : KeywordArgument). is_at (keyword_slot l names n) i) ns (λ n. alike_own l names name n i h k))

-- no keyword value is for a slot that has a positional one
before_all : (l : Layout) (o : Option ℕ) (from i : ℕ) → IsTaken l from o → i < from → is_at o i ≡ false
before_all l None from i h k = refl
before_all l (Some j) from i h k = ne_eqb j i (λ e. omega (arith, e, h, k))

not_given : (l : Layout) (names : Names) (name : List ℕ) (from i : ℕ) (ns : List KeywordArgument) → AreTaken l names from ns → slot_of name names ≡ Some i → takes_keyword l i ≡ true → i < from → is_given name ns ≡ false
not_given l names name from i [] h s o k = refl
not_given l names name from i (n ∷ ns) h s o k =
    ap (λ b. b || is_given name ns) (alike_own l names name n i s o ∙ before_all l (keyword_slot l names n) from i h.0 k) ∙ not_given l names name from i ns h.1 s o k

-- ---- which keyword values are some parameter's

-- whether a slot from a number on belongs to a parameter that takes a keyword argument
own_from : Layout → ℕ → Option ℕ → Bool
own_from l i None = false
own_from l i (Some j) = not (nat_lt j i) && takes_keyword l j

and_false : (b : Bool) → (b && false) ≡ false
and_false true = refl
and_false false = refl

pub side : (i k : ℕ) → (i < k) ⊎ (k ≤ i)
side zero zero = inr (omega arith)
side zero (suc m) = inl (omega arith)
side (suc i) zero = inr (omega arith)
side (suc i) (suc m) = next (side i m)
  where
    next : (i < m) ⊎ (m ≤ i) → (suc i < suc m) ⊎ (suc m ≤ suc i)
    next (inl e) = inl (omega arith)
    next (inr e) = inr (omega arith)

-- whether it is this slot or a later one
own_here : (l : Layout) (i : ℕ) (o : Option ℕ) → takes_keyword l i ≡ true → (is_at o i || own_from l (suc i) o) ≡ own_from l i o
unfolding own_from
own_here l i None h = refl
own_here l i (Some j) h = by (side j i)
  where
    later : (i ≡ j) ⊎ (suc i ≤ j) → i ≤ j → (nat_eq j i || (not (nat_lt j (suc i)) && takes_keyword l j)) ≡ (not (nat_lt j i) && takes_keyword l j)
    later (inl e) k =
        ap (λ b. b || (not (nat_lt j (suc i)) && takes_keyword l j)) (eq-eqb j i (sym e))
        ∙ sym (ap (λ b. not b && takes_keyword l j) (le-ltb j i k) ∙ ap (takes_keyword l) (sym e) ∙ h)
    later (inr e) k =
        ap (λ b. b || (not (nat_lt j (suc i)) && takes_keyword l j)) (ne_eqb j i (λ q. omega (arith, q, e)))
        ∙ ap (λ b. not b && takes_keyword l j) (le-ltb j (suc i) e ∙ sym (le-ltb j i k))

    same_or_more : i ≤ j → (i ≡ j) ⊎ (suc i ≤ j)
    same_or_more k = next (side i j)
      where
        next : (i < j) ⊎ (j ≤ i) → (i ≡ j) ⊎ (suc i ≤ j)
        next (inl e) = inr (omega (arith, e))
        next (inr e) = inl (omega (arith, e, k))

    by : (j < i) ⊎ (i ≤ j) → (nat_eq j i || (not (nat_lt j (suc i)) && takes_keyword l j)) ≡ (not (nat_lt j i) && takes_keyword l j)
    by (inl e) =
        ap (λ b. b || (not (nat_lt j (suc i)) && takes_keyword l j)) (ne_eqb j i (λ q. omega (arith, q, e)))
        ∙ ap (λ b. not b && takes_keyword l j) (lt-ltb j (suc i) (omega (arith, e)) ∙ sym (lt-ltb j i e))
    by (inr e) = later (same_or_more e) e

-- a slot that is not such a parameter's
own_past : (l : Layout) (i : ℕ) (o : Option ℕ) → takes_keyword l i ≡ false → own_from l (suc i) o ≡ own_from l i o
unfolding own_from
own_past l i None h = refl
own_past l i (Some j) h = by (nat_eq j i) refl
  where
    by : (b : Bool) → nat_eq j i ≡ b → (not (nat_lt j (suc i)) && takes_keyword l j) ≡ (not (nat_lt j i) && takes_keyword l j)
    by true e =
        let q : takes_keyword l j ≡ false = ap (takes_keyword l) (eqb-true j i e) ∙ h in
        ap (λ b. not (nat_lt j (suc i)) && b) q ∙ and_false (not (nat_lt j (suc i))) ∙ sym (ap (λ b. not (nat_lt j i) && b) q ∙ and_false (not (nat_lt j i)))
    by false e = ap (λ b. not b && takes_keyword l j) (other (side j i))
      where
        other : (j < i) ⊎ (i ≤ j) → nat_lt j (suc i) ≡ nat_lt j i
        other (inl k) = lt-ltb j (suc i) (omega (arith, k)) ∙ sym (lt-ltb j i k)
        other (inr k) = le-ltb j (suc i) (more (side i j)) ∙ sym (le-ltb j i k)
          where
            more : (i < j) ⊎ (j ≤ i) → suc i ≤ j
            more (inl d) = omega (arith, d)
            more (inr d) = let z : nat_eq j i ≡ true = eq-eqb j i (omega (arith, k, d)) in absurd cc

own_none : (l : Layout) (o : Option ℕ) → own_from l l.count o ≡ false
unfolding own_from
own_none l None = refl
own_none l (Some j) = by (nat_lt j l.count) refl
  where
    by : (b : Bool) → nat_lt j l.count ≡ b → (not (nat_lt j l.count) && takes_keyword l j) ≡ false
    by true e = ap (λ b. not b && takes_keyword l j) e
    by false e = ap (λ b. not (nat_lt j l.count) && (b && (not (is_at l.rest j) && not (is_at l.names j)))) e ∙ and_false (not (nat_lt j l.count))

own_all : (l : Layout) (o : Option ℕ) → own_from l 0 o ≡ is_some (own_in l o)
unfolding own_from
own_all l None = refl
own_all l (Some j) = ap (λ b. not b && takes_keyword l j) (le-ltb j 0 (omega arith)) ∙ by (takes_keyword l j) refl
  where
    by : (b : Bool) → takes_keyword l j ≡ b → takes_keyword l j ≡ is_some (if takes_keyword l j then Some j else None)
    by true e = e ∙ sym (ap (λ b. is_some (if b then Some j else None)) e)
    by false e = e ∙ sym (ap (λ b. is_some (if b then Some j else None)) e)

rest_is_no_own : (l : Layout) (i : ℕ) → l.rest ≡ Some i → takes_keyword l i ≡ false
rest_is_no_own l i h =
    ap (λ b. nat_lt i l.count && (not b && not (is_at l.names i))) (ap (λ o. is_at o i) h ∙ eq-eqb i i refl) ∙ and_false (nat_lt i l.count)

names_are_no_own : (l : Layout) (i : ℕ) → l.names ≡ Some i → takes_keyword l i ≡ false
names_are_no_own l i h =
    ap (λ b. nat_lt i l.count && (not (is_at l.rest i) && not b)) (ap (λ o. is_at o i) h ∙ eq-eqb i i refl)
    ∙ ap (λ b. nat_lt i l.count && b) (and_false (not (is_at l.rest i))) ∙ and_false (nat_lt i l.count)

-- at the end of those that take positional values, a layout has this slot of `*name`, or none
pub places_end : (l : Layout) (s : Stage) (i : ℕ) (o : Option ℕ) → PlacesEnd l s i o → l.rest ≡ o
places_end l stage.Positional i o h = h.1
places_end l stage.ByName i o h = absurd h
places_end l stage.Ended i o h = absurd h

own_step : (spots : Spots) (names : Names) (l : Layout) (c : Cursor) (f : ParameterForm) (name : List ℕ) (more : Names) → StandsAt spots names l c f
    → list_any (same_name name) more ≡ own_from l (after c f).slot (slot_of name names) → list_any (same_name name) (before_names (keyword_of f) more) ≡ own_from l c.slot (slot_of name names)
own_step spots names l c (tree.Plain n) name more h k =
    ap (λ b. b || list_any (same_name name) more) (alike names n.text name c.slot h.1.1) ∙ ap (λ b. is_at (slot_of name names) c.slot || b) k ∙ own_here l c.slot (slot_of name names) h.2
own_step spots names l c (tree.Default n e) name more h k =
    ap (λ b. b || list_any (same_name name) more) (alike names n.text name c.slot h.1.1) ∙ ap (λ b. is_at (slot_of name names) c.slot || b) k ∙ own_here l c.slot (slot_of name names) h.2
own_step spots names l c (tree.Parameter-F.Parameter::Star n) name more h k =
    k ∙ own_past l c.slot (slot_of name names) (rest_is_no_own l c.slot (places_end l c.stage c.slot (Some c.slot) h.0))
own_step spots names l c tree.BareStar name more h k = k
own_step spots names l c (tree.Parameter-F.Parameter::StarStar n) name more h k = k ∙ own_past l c.slot (slot_of name names) (names_are_no_own l c.slot h.3)

own_any : (spots : Spots) (names : Names) (l : Layout) (c : Cursor) (ps : List Parameter) (name : List ℕ) → InOrder spots names l c ps → list_any (same_name name) (keywords_of ps) ≡ own_from l c.slot (slot_of name names)
own_any spots names l c [] name h = sym (ap (λ i. own_from l i (slot_of name names)) h.0 ∙ own_none l (slot_of name names))
own_any spots names l c (p ∷ ps) name h = own_step spots names l c (parameter p) name (keywords_of ps) h.0 (own_any spots names l (after c (parameter p)) ps name h.1)

-- the keyword values that are not a parameter's are those without such a slot
extra_keywords_are : (spots : Spots) (names : Names) (l : Layout) (ps : List Parameter) (ns : List KeywordArgument) → InOrder spots names l start ps → extra_keywords ps ns ≡ extra_in_order l names ns
extra_keywords_are spots names l ps [] h = refl
extra_keywords_are spots names l ps (n ∷ ns) h =
    ap (λ b. cond (not b) (n ∷ extra_keywords ps ns) (extra_keywords ps ns)) (own_any spots names l start ps n.name h ∙ own_all l (slot_of n.name names))
    ∙ ap (λ us. cond (not (is_some (keyword_slot l names n))) (n ∷ us) us) (extra_keywords_are spots names l ps ns h)

-- ---- whether the keyword values are taken

some_names : (i : ℕ) (o : Option ℕ) → o ≡ Some i → o ≡ None → ⊥
some_names i o h k = let e : Some i ≡ None = sym h ∙ k in cc

pub all_own : (l : Layout) (names : Names) (from : ℕ) (ns : List KeywordArgument) → l.names ≡ None → AreTaken l names from ns → extra_in_order l names ns ≡ []
all_own l names from [] e h = refl
all_own l names from (n ∷ ns) e h = by (keyword_slot l names n) h.0 ∙ all_own l names from ns e h.1
  where
    by : (o : Option ℕ) → IsTaken l from o → cond (not (is_some o)) (n ∷ extra_in_order l names ns) (extra_in_order l names ns) ≡ extra_in_order l names ns
    by None k = let q : is_some l.names ≡ false = ap (λ (o : Option ℕ). is_some o) e in absurd cc
    by (Some i) k = refl

abbrev IsOpen : Stage → Type 0
IsOpen stage.Positional = Unit {0}
IsOpen stage.ByName = Unit {0}
IsOpen stage.Ended = ⊥

never_ends : (l : Layout) (s : Stage) (i j : ℕ) → IsOpen s → MayEnd l s i → l.names ≡ Some j → ⊥
never_ends l stage.Positional i j o h k = some_names j l.names k h.2
never_ends l stage.ByName i j o h k = some_names j l.names k h
never_ends l stage.Ended i j o h k = o

names_next : (spots : Spots) (names : Names) (l : Layout) (c : Cursor) (f : ParameterForm) (b : Bool) → IsOpen c.stage → (IsOpen (after c f).stage → b ≡ true) → (takes_names f || b) ≡ true
names_next spots names l c (tree.Plain n) b o k = k o
names_next spots names l c (tree.Default n e) b o k = k o
names_next spots names l c (tree.Parameter-F.Parameter::Star n) b o k = k tt
names_next spots names l c tree.BareStar b o k = k tt
names_next spots names l c (tree.Parameter-F.Parameter::StarStar n) b o k = refl

names_taken : (spots : Spots) (names : Names) (l : Layout) (c : Cursor) (ps : List Parameter) (j : ℕ) → IsOpen c.stage → InOrder spots names l c ps → l.names ≡ Some j
    → list_any (λ p. takes_names (parameter p)) ps ≡ true
names_taken spots names l c [] j o h k = absurd (never_ends l c.stage c.slot j o h.1 k)
names_taken spots names l c (p ∷ ps) j o h k =
    names_next spots names l c (parameter p) (list_any (λ p. takes_names (parameter p)) ps) o (λ q. names_taken spots names l (after c (parameter p)) ps j q h.1 k)

-- `*name` and `**name` have two slots
two_next : (spots : Spots) (names : Names) (l : Layout) (c : Cursor) (f : ParameterForm) (j : ℕ) → IsOpen c.stage → StandsAt spots names l c f → l.names ≡ Some j → (IsOpen (after c f).stage → is_at l.rest j ≡ false) → is_at l.rest j ≡ false
two_next spots names l c (tree.Plain n) j o h e k = k o
two_next spots names l c (tree.Default n x) j o h e k = k o
two_next spots names l c (tree.Parameter-F.Parameter::Star n) j o h e k = k tt
two_next spots names l c tree.BareStar j o h e k = k tt
two_next spots names l c (tree.Parameter-F.Parameter::StarStar n) j o h e k =
    let both : Some j ≡ Some c.slot = sym e ∙ h.3 in
    let same : j ≡ c.slot = cc in
    ap (is_at l.rest) same ∙ h.2

pub two_slots : (spots : Spots) (names : Names) (l : Layout) (c : Cursor) (ps : List Parameter) (j : ℕ) → IsOpen c.stage → InOrder spots names l c ps → l.names ≡ Some j → is_at l.rest j ≡ false
two_slots spots names l c [] j o h e = absurd (never_ends l c.stage c.slot j o h.1 e)
two_slots spots names l c (p ∷ ps) j o h e = two_next spots names l c (parameter p) j o h.0 e (λ q. two_slots spots names l (after c (parameter p)) ps j q h.1 e)

or_true : (a : Bool) → (a || true) ≡ true
or_true true = refl
or_true false = refl

are_taken : (spots : Spots) (names : Names) (l : Layout) (from : ℕ) (ps : List Parameter) (ns : List KeywordArgument) → InOrder spots names l start ps → AreTaken l names from ns
    → (nat_eq (length (extra_in_order l names ns)) 0 || list_any (λ p. takes_names (parameter p)) ps) ≡ true
are_taken spots names l from ps ns h k = by l.names refl
  where
    by : (o : Option ℕ) → l.names ≡ o → (nat_eq (length (extra_in_order l names ns)) 0 || list_any (λ p. takes_names (parameter p)) ps) ≡ true
    by None e = ap (λ (us : List KeywordArgument). nat_eq (length us) 0 || list_any (λ p. takes_names (parameter p)) ps) (all_own l names from ns e k)
    by (Some j) e =
        ap (λ b. nat_eq (length (extra_in_order l names ns)) 0 || b) (names_taken spots names l start ps j tt h e) ∙ or_true (nat_eq (length (extra_in_order l names ns)) 0)

-- ---- rows from a place on

drop_here : (xs : List Value) (i : ℕ) (y : Value) (ys : List Value) → drop i xs ≡ y ∷ ys → (slice_get xs i ≡ Some y) × (drop (suc i) xs ≡ ys) × (i < length xs)
drop_here [] zero y ys h = absurd cc
drop_here [] (suc i) y ys h = absurd cc
drop_here (x ∷ xs) zero y ys h = (cc, cc, omega arith)
drop_here (x ∷ xs) (suc i) y ys h = let q = drop_here xs i y ys h in (q.0, q.1, omega (arith, q.2))

drop_end : (xs : List Value) (i : ℕ) → drop i xs ≡ [] → (slice_get xs i ≡ None) × (drop (suc i) xs ≡ [])
drop_end [] zero h = (refl, refl)
drop_end [] (suc i) h = (refl, refl)
drop_end (x ∷ xs) zero h = absurd cc
drop_end (x ∷ xs) (suc i) h = drop_end xs i h

first_dropped : (xs : List Value) (i : ℕ) → first_of_row (drop i xs) ≡ slice_get xs i
first_dropped [] zero = refl
first_dropped [] (suc i) = refl
first_dropped (x ∷ xs) zero = refl
first_dropped (x ∷ xs) (suc i) = first_dropped xs i

rest_dropped : (xs : List Value) (i : ℕ) → rest_of_row (drop i xs) ≡ drop (suc i) xs
rest_dropped [] zero = refl
rest_dropped [] (suc i) = refl
rest_dropped (x ∷ xs) zero = refl
rest_dropped (x ∷ xs) (suc i) = rest_dropped xs i

taken_here : (xs : List Value) (n i : ℕ) → i < n → slice_get (take n xs) i ≡ slice_get xs i
taken_here xs zero i h = absurd (omega arith)
taken_here [] (suc n) i h = refl
taken_here (x ∷ xs) (suc n) zero h = refl
taken_here (x ∷ xs) (suc n) (suc i) h = taken_here xs n i (omega arith)

pub few_taken : (xs : List Value) (n : ℕ) → length (take n xs) ≤ n
few_taken xs n = omega (arith, length-take n xs)

taken_past : (xs : List Value) (n i : ℕ) → n ≤ i → slice_get (take n xs) i ≡ None
taken_past xs n i h = slice_get_past (take n xs) i (omega (arith, few_taken xs n, h))

within_taken : (xs : List Value) (n i : ℕ) → i < n → i < length xs → i < length (take n xs)
within_taken xs n i h k = omega (arith, length-take n xs, h, k)

-- ---- the share of a parameter with a name

either : (a b : Option Value) → else_default a b ≡ option_or a b
either None b = refl
either (Some v) b = refl

-- in its turn, positional
share_at : (l : Layout) (names : Names) (g : Arguments) (i : ℕ) (n : Name) (d : Option Value) (es xs : List Value) (v : Value) → AreTaken l names (length (placed l g)) g.named
    → slot_of n.text names ≡ Some i → takes_keyword l i ≡ true → i < l.positional → drop i g.positional ≡ xs
    → option_or (slice_get (placed l g) i) (option_or (named_at l names g.named i) d) ≡ Some v
    → argument_by n g.named d (record { by_name = false; positional = xs; defaults = es }) ≡ Some ((n, share.One v) ∷ [], record { by_name = false; positional = drop (suc i) g.positional; defaults = es })
share_at l names g i n d es [] v known s o k e b =
    let q = drop_end g.positional i e in
    let none = taken_here g.positional l.positional i k ∙ q.0 in
    let named : else_default (value_named n.text g.named) d ≡ Some v =
    ap (λ o. else_default o d) (value_there l names n.text i g.named s o) ∙ either (named_at l names g.named i) d ∙ ap (λ o. option_or o (option_or (named_at l names g.named i) d)) (sym none) ∙ b in
    ap (shared n (record { by_name = false; positional = []; defaults = es })) named ∙ ap (λ xs. Some ((n, share.One v) ∷ [], record { by_name = false; positional = xs; defaults = es })) (sym q.1)
share_at l names g i n d es (x ∷ xs) v known s o k e b =
    let q = drop_here g.positional i x xs e in
    let here = taken_here g.positional l.positional i k ∙ q.0 in
    let first : Some x ≡ Some v = ap (λ o. option_or o (option_or (named_at l names g.named i) d)) (sym here) ∙ b in
    let same : x ≡ v = cc in
    ap (λ c. if c then None else Some ((n, share.One x) ∷ [], record { by_name = false; positional = xs; defaults = es })) (not_given l names n.text (length (placed l g)) i g.named known s o (within_taken g.positional l.positional i k q.2))
    ∙ ap (λ y. Some ((n, share.One y) ∷ [], record { by_name = false; positional = xs; defaults = es })) same
    ∙ ap (λ ys. Some ((n, share.One v) ∷ [], record { by_name = false; positional = ys; defaults = es })) (sym q.1)

-- a keyword one
share_named : (l : Layout) (names : Names) (g : Arguments) (i : ℕ) (n : Name) (d : Option Value) (es : List Value) (v : Value) → slot_of n.text names ≡ Some i → takes_keyword l i ≡ true → l.positional ≤ i
    → option_or (slice_get (placed l g) i) (option_or (named_at l names g.named i) d) ≡ Some v
    → argument_by n g.named d (record { by_name = true; positional = []; defaults = es }) ≡ Some ((n, share.One v) ∷ [], record { by_name = true; positional = []; defaults = es })
share_named l names g i n d es v s o k b =
    let named : else_default (value_named n.text g.named) d ≡ Some v =
    ap (λ o. else_default o d) (value_there l names n.text i g.named s o) ∙ either (named_at l names g.named i) d
    ∙ ap (λ o. option_or o (option_or (named_at l names g.named i) d)) (sym (taken_past g.positional l.positional i k)) ∙ b in
    ap (shared n (record { by_name = true; positional = []; defaults = es })) named

-- ---- the value of a parameter with a name

some_default : (ds : List Value) (i : ℕ) → i < length ds → is_some (slice_get ds i) ≡ true
some_default [] i h = absurd (omega arith)
some_default (d ∷ ds) zero h = refl
some_default (d ∷ ds) (suc i) h = some_default ds i (omega arith)

or_some : (a b c : Option Value) → is_some c ≡ true → is_some (option_or a (option_or b c)) ≡ true
or_some (Some x) b c h = refl
or_some None (Some x) c h = refl
or_some None None c h = h

value_in : (o : Option Value) → is_some o ≡ true → (v : Value) × (o ≡ Some v)
value_in (Some v) h = (v, refl)
value_in None h = absurd cc

abbrev default_for : List Value → Option (Option ℕ) → Option Value
default_for ds o = option_and_then (λ rank. slice_get ds rank) (option_flatten o)

gets_default : (l : Layout) (names : Names) (ds : List Value) (g : Arguments) (i r : ℕ) → FitsLayout l names ds g → slice_get l.ranks i ≡ Some (Some r) → r < l.defaults → is_some (bound_at l names ds g i) ≡ true
gets_default l names ds g i r f e k =
    or_some (slice_get (placed l g) i) (named_at l names g.named i) (default_at l.ranks ds i)
    (ap (λ o. is_some (default_for ds o)) e ∙ some_default ds r (omega (arith, k, f.defaults)))

-- ---- the shares of parameters

abbrev pub share_name : ParameterForm → Option Value → List Value → List KeywordArgument → List (Name × BoundArgument) → List (Name × BoundArgument)
share_name (tree.Plain n) (Some v) rest left more = (n, share.One v) ∷ more
share_name (tree.Plain n) None rest left more = more
share_name (tree.Default n e) (Some v) rest left more = (n, share.One v) ∷ more
share_name (tree.Default n e) None rest left more = more
share_name (tree.Parameter-F.Parameter::Star n) o rest left more = (n, share.Rest rest) ∷ more
share_name tree.BareStar o rest left more = more
share_name (tree.Parameter-F.Parameter::StarStar n) o rest left more = (n, share.Names left) ∷ more

-- the names of parameters from the cursor on, each with its share: the value for its slot, the positional values that
-- are left, or the keyword values that are not a parameter's
abbrev pub share_names : (ℕ → Option Value) → List Value → List KeywordArgument → Cursor → List Parameter → List (Name × BoundArgument)
share_names f rest left c [] = []
share_names f rest left c (p ∷ ps) = share_name (parameter p) (f c.slot) rest left (share_names f rest left (after c (parameter p)) ps)

-- the state of binding before a parameter, with these positional values and these defaults left
abbrev stands : Stage → List Value → List Value → BindingState
stands stage.Positional xs es = record { by_name = false; positional = xs; defaults = es }
stands stage.ByName xs es = record { by_name = true; positional = []; defaults = es }
stands stage.Ended xs es = record { by_name = true; positional = []; defaults = es }

abbrev Stands : Stage → List Value → List Value → BindingState → Type 0
Stands stage.Positional xs es q = q ≡ record { by_name = false; positional = xs; defaults = es }
Stands stage.ByName xs es q = q ≡ record { by_name = true; positional = []; defaults = es }
Stands stage.Ended xs es q = q.positional ≡ []

stands_is : (l : Layout) (s : Stage) (i : ℕ) (xs es : List Value) (q : BindingState) → MayStand l s i → Stands s xs es q → q ≡ stands s xs es
stands_is l stage.Positional i xs es q m h = h
stands_is l stage.ByName i xs es q m h = h
stands_is l stage.Ended i xs es q m h = absurd m

so_stands : (s : Stage) (xs es : List Value) → Stands s xs es (stands s xs es)
so_stands stage.Positional xs es = refl
so_stands stage.ByName xs es = refl
so_stands stage.Ended xs es = refl

with_defaults : (s : Stage) (xs es fs : List Value) → record (stands s xs es) { defaults = fs } ≡ stands s xs fs
with_defaults stage.Positional xs es fs = refl
with_defaults stage.ByName xs es fs = refl
with_defaults stage.Ended xs es fs = refl

own_defaults : (s : Stage) (xs es : List Value) → (stands s xs es).defaults ≡ es
own_defaults stage.Positional xs es = refl
own_defaults stage.ByName xs es = refl
own_defaults stage.Ended xs es = refl

-- no positional value is left if none may be
none_left : (l : Layout) (names : Names) (ds : List Value) (g : Arguments) (i : ℕ) → FitsLayout l names ds g → i ≡ l.positional → l.rest ≡ None → drop i g.positional ≡ []
none_left l names ds g i f e h = ap (λ j. drop j g.positional) e ∙ f.places h

none_over : (l : Layout) (names : Names) (ds : List Value) (g : Arguments) (s : Stage) (i : ℕ) (es : List Value) (q : BindingState) → FitsLayout l names ds g → PlacesAreOver l s i → Stands s (drop i g.positional) es q → q.positional ≡ []
none_over l names ds g stage.Positional i es q f o h = ap (λ (q : BindingState). q.positional) h ∙ none_left l names ds g i f o.0 o.1
none_over l names ds g stage.ByName i es q f o h = ap (λ (q : BindingState). q.positional) h
none_over l names ds g stage.Ended i es q f o h = absurd o

none_after : (l : Layout) (names : Names) (ds : List Value) (g : Arguments) (s : Stage) (i : ℕ) (es : List Value) (q : BindingState) → FitsLayout l names ds g → MayEnd l s i → Stands s (drop i g.positional) es q → q.positional ≡ []
none_after l names ds g stage.Positional i es q f o h = ap (λ (q : BindingState). q.positional) h ∙ none_left l names ds g i f o.0 o.1
none_after l names ds g stage.ByName i es q f o h = ap (λ (q : BindingState). q.positional) h
none_after l names ds g stage.Ended i es q f o h = h

-- the steps of parameters
share_in : (l : Layout) (names : Names) (g : Arguments) (s : Stage) (i : ℕ) (n : Name) (d : Option Value) (es : List Value) (v : Value) → AreTaken l names (length (placed l g)) g.named
    → MayStand l s i → slot_of n.text names ≡ Some i → takes_keyword l i ≡ true
    → option_or (slice_get (placed l g) i) (option_or (named_at l names g.named i) d) ≡ Some v
    → argument_by n g.named d (stands s (drop i g.positional) es) ≡ Some ((n, share.One v) ∷ [], stands s (drop (suc i) g.positional) es)
share_in l names g stage.Positional i n d es v known m s o b = share_at l names g i n d es (drop i g.positional) v known s o m refl b
share_in l names g stage.ByName i n d es v known m s o b = share_named l names g i n d es v s o m b
share_in l names g stage.Ended i n d es v known m s o b = absurd m

step_plain : (spots : Spots) (names : Names) (l : Layout) (ds : List Value) (g : Arguments) (left : List KeywordArgument) (c : Cursor) (n : Name) (v : Value) (q : BindingState) → StandsAt spots names l c (tree.Plain n) → FitsLayout l names ds g
    → Stands c.stage (drop c.slot g.positional) (drop c.rank ds) q → bound_at l names ds g c.slot ≡ Some v
    → step g.named left q (tree.Plain n) ≡ Some ((n, share.One v) ∷ [], stands c.stage (drop (suc c.slot) g.positional) (drop c.rank ds))
step_plain spots names l ds g left c n v q h f e b =
    let value = ap (λ d. option_or (slice_get (placed l g) c.slot) (option_or (named_at l names g.named c.slot) d)) (sym (ap (default_for ds) h.3)) ∙ b in
    ap (argument_by n g.named None) (stands_is l c.stage c.slot (drop c.slot g.positional) (drop c.rank ds) q h.0 e)
    ∙ share_in l names g c.stage c.slot n None (drop c.rank ds) v f.taken h.0 h.1.1 h.2 value

step_default : (spots : Spots) (names : Names) (l : Layout) (ds : List Value) (g : Arguments) (left : List KeywordArgument) (c : Cursor) (n : Name) (x : Expression) (v : Value) (q : BindingState) → StandsAt spots names l c (tree.Default n x) → FitsLayout l names ds g
    → Stands c.stage (drop c.slot g.positional) (drop c.rank ds) q → bound_at l names ds g c.slot ≡ Some v
    → step g.named left q (tree.Default n x) ≡ Some ((n, share.One v) ∷ [], stands c.stage (drop (suc c.slot) g.positional) (drop (suc c.rank) ds))
step_default spots names l ds g left c n x v q h f e b =
    let xs = drop c.slot g.positional in
    let es = drop c.rank ds in
    let first : first_of_row es ≡ default_at l.ranks ds c.slot = first_dropped ds c.rank ∙ sym (ap (default_for ds) h.3) in
    let value = ap (λ d. option_or (slice_get (placed l g) c.slot) (option_or (named_at l names g.named c.slot) d)) first ∙ b in
    ap (λ (q : BindingState). argument_by n g.named (first_of_row q.defaults) (record q { defaults = rest_of_row q.defaults })) (stands_is l c.stage c.slot xs es q h.0 e)
    ∙ ap (λ fs. argument_by n g.named (first_of_row fs) (record (stands c.stage xs es) { defaults = rest_of_row fs })) (own_defaults c.stage xs es)
    ∙ ap (argument_by n g.named (first_of_row es)) (with_defaults c.stage xs es (rest_of_row es))
    ∙ share_in l names g c.stage c.slot n (first_of_row es) (rest_of_row es) v f.taken h.0 h.1.1 h.2 value
    ∙ ap (λ fs. Some ((n, share.One v) ∷ [], stands c.stage (drop (suc c.slot) g.positional) fs)) (rest_dropped ds c.rank)

step_star : (l : Layout) (g : Arguments) (ns left : List KeywordArgument) (s : Stage) (i : ℕ) (es : List Value) (n : Name) (q : BindingState) → PlacesEnd l s i (Some i) → Stands s (drop i g.positional) es q
    → step ns left q (tree.Parameter-F.Parameter::Star n) ≡ Some ((n, share.Rest (unplaced l g)) ∷ [], record { by_name = true; positional = []; defaults = es })
step_star l g ns left stage.Positional i es n q p h =
    ap (λ (q : BindingState). step ns left q (tree.Parameter-F.Parameter::Star n)) h
    ∙ ap (λ j. step ns left (record { by_name = false; positional = drop j g.positional; defaults = es }) (tree.Parameter-F.Parameter::Star n)) p.0
step_star l g ns left stage.ByName i es n q p h = absurd p
step_star l g ns left stage.Ended i es n q p h = absurd p

step_bare : (l : Layout) (names : Names) (ds : List Value) (g : Arguments) (ns left : List KeywordArgument) (s : Stage) (i : ℕ) (es : List Value) (q : BindingState) → FitsLayout l names ds g → PlacesEnd l s i None → Stands s (drop i g.positional) es q
    → step ns left q tree.BareStar ≡ Some ([], record { by_name = true; positional = []; defaults = es })
step_bare l names ds g ns left stage.Positional i es q f p h =
    ap (λ (q : BindingState). step ns left q tree.BareStar) h
    ∙ ap (λ xs. step ns left (record { by_name = false; positional = xs; defaults = es }) tree.BareStar) (none_left l names ds g i f p.0 p.1)
step_bare l names ds g ns left stage.ByName i es q f p h = absurd p
step_bare l names ds g ns left stage.Ended i es q f p h = absurd p

-- the shares from a cursor on, if `rest` makes those after the next parameter
also_more : (o : Option (List (Name × BoundArgument) × BindingState)) (xs more : List (Name × BoundArgument)) (q : BindingState) (rest : BindingState → Option (List (Name × BoundArgument))) → o ≡ Some (xs, q) → rest q ≡ Some more
    → option_and_then (λ r. also r.0 (rest r.1)) o ≡ also xs (Some more)
also_more o xs more q rest h k = ap (option_and_then (λ r. also r.0 (rest r.1))) h ∙ ap (also xs) k

stepped : (spots : Spots) (names : Names) (l : Layout) (ds : List Value) (g : Arguments) (left : List KeywordArgument) (c : Cursor) (f : ParameterForm) (more : List (Name × BoundArgument)) (q : BindingState)
    → StandsAt spots names l c f → FitsLayout l names ds g → Stands c.stage (drop c.slot g.positional) (drop c.rank ds) q
    → (rest : BindingState → Option (List (Name × BoundArgument))) → ((u : BindingState) → Stands (after c f).stage (drop (after c f).slot g.positional) (drop (after c f).rank ds) u → rest u ≡ Some more)
    → option_and_then (λ r. also r.0 (rest r.1)) (step g.named left q f) ≡ Some (share_name f (bound_at l names ds g c.slot) (unplaced l g) left more)
stepped spots names l ds g left c (tree.Plain n) more q h f e rest k =
    let v = value_in (bound_at l names ds g c.slot) (f.needed c.needed c.slot h.4) in
    let u = stands c.stage (drop (suc c.slot) g.positional) (drop c.rank ds) in
    also_more (step g.named left q (tree.Plain n)) ((n, share.One v.0) ∷ []) more u rest (step_plain spots names l ds g left c n v.0 q h f e v.1) (k u (so_stands c.stage (drop (suc c.slot) g.positional) (drop c.rank ds)))
    ∙ ap (λ o. Some (share_name (tree.Plain n) o (unplaced l g) left more)) (sym v.1)
stepped spots names l ds g left c (tree.Default n x) more q h f e rest k =
    let v = value_in (bound_at l names ds g c.slot) (gets_default l names ds g c.slot c.rank f h.3 h.4) in
    let u = stands c.stage (drop (suc c.slot) g.positional) (drop (suc c.rank) ds) in
    also_more (step g.named left q (tree.Default n x)) ((n, share.One v.0) ∷ []) more u rest (step_default spots names l ds g left c n x v.0 q h f e v.1) (k u (so_stands c.stage (drop (suc c.slot) g.positional) (drop (suc c.rank) ds)))
    ∙ ap (λ o. Some (share_name (tree.Default n x) o (unplaced l g) left more)) (sym v.1)
stepped spots names l ds g left c (tree.Parameter-F.Parameter::Star n) more q h f e rest k =
    also_more (step g.named left q (tree.Parameter-F.Parameter::Star n)) ((n, share.Rest (unplaced l g)) ∷ []) more (record { by_name = true; positional = []; defaults = drop c.rank ds }) rest
    (step_star l g g.named left c.stage c.slot (drop c.rank ds) n q h.0 e) (k (record { by_name = true; positional = []; defaults = drop c.rank ds }) refl)
stepped spots names l ds g left c tree.BareStar more q h f e rest k =
    also_more (step g.named left q tree.BareStar) [] more (record { by_name = true; positional = []; defaults = drop c.rank ds }) rest
    (step_bare l names ds g g.named left c.stage c.slot (drop c.rank ds) q f h e) (k (record { by_name = true; positional = []; defaults = drop c.rank ds }) refl)
stepped spots names l ds g left c (tree.Parameter-F.Parameter::StarStar n) more q h f e rest k =
    also_more (step g.named left q (tree.Parameter-F.Parameter::StarStar n)) ((n, share.Names left) ∷ []) more q rest refl (k q (none_over l names ds g c.stage c.slot (drop c.rank ds) q f h.0 e))

shares_from : (spots : Spots) (names : Names) (l : Layout) (ds : List Value) (g : Arguments) (left : List KeywordArgument) (c : Cursor) (ps : List Parameter) (q : BindingState)
    → InOrder spots names l c ps → FitsLayout l names ds g → Stands c.stage (drop c.slot g.positional) (drop c.rank ds) q
    → shares g.named left ps q ≡ Some (share_names (bound_at l names ds g) (unplaced l g) left c ps)
shares_from spots names l ds g left c [] q h f e =
    ap (λ (xs : List Value). if nat_eq (length xs) 0 then Some [] else None) (none_after l names ds g c.stage c.slot (drop c.rank ds) q f h.1 e)
shares_from spots names l ds g left c (p ∷ ps) q h f e =
    stepped spots names l ds g left c (parameter p) (share_names (bound_at l names ds g) (unplaced l g) left (after c (parameter p)) ps) q h.0 f e
    (λ u. shares g.named left ps u) (λ u k. shares_from spots names l ds g left (after c (parameter p)) ps u h.1 f k)

-- the arguments are bound to the parameters
pub shares_bound : (spots : Spots) (names : Names) (l : Layout) (ps : List Parameter) (ds : List Value) (g : Arguments) → InOrder spots names l start ps → FitsLayout l names ds g
    → bound_to ps ds g ≡ Some (share_names (bound_at l names ds g) (unplaced l g) (extra_in_order l names g.named) start ps)
unfolding bound_to
shares_bound spots names l ps ds g h f =
    ap (λ us. if nat_eq (length us) 0 || list_any (λ p. takes_names (parameter p)) ps then shares g.named us ps (record { by_name = false; positional = g.positional; defaults = ds }) else None)
    (extra_keywords_are spots names l ps g.named h)
    ∙ ap (λ b. if b then shares g.named (extra_in_order l names g.named) ps (record { by_name = false; positional = g.positional; defaults = ds }) else None) (are_taken spots names l (length (placed l g)) ps g.named h f.taken)
    ∙ shares_from spots names l ds g (extra_in_order l names g.named) start ps (record { by_name = false; positional = g.positional; defaults = ds }) h f refl
