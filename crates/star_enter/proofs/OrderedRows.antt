-- Calls of functions whose parameters have a layout: slots over the defaults, with keyword and positional values.
use Rattle.std.proofs.Common.{◌≡◌, ◌<◌, ◌≤◌, ◌⊎◌, inl, inr, ℕ, zero, suc, ◌-◌, nat_eq, Bool, true, false, List, [], ◌∷◌, ◌++◌, drop, length, take, slice_get, slice_set, Option, Some, None, if◌then◌else◌, cond, refl, ap, sym, subst, ◌∙◌, arith, ◌&&◌, eq-eqb, eqb-true, ne_eqb, le-ltb, lt-ltb}
use Rattle.std.specs.Prelude.{is_some, nat_lt}
use Rattle.std.specs.List.{find, list_all}
use Rattle.std.specs.Option.{option_map, option_or}
use Rattle.star_store.specs.declared.values.Value.{Value}
use Rattle.star_store.specs.Slots.{default_at, row}
use Rattle.star_store.proofs.Rows.{row_at, row_past, row_same, row_set}
use Rattle.star_outline.specs.Names.{Names}
use Rattle.star_meaning.specs.declared.given.Arguments.{Arguments}
use Rattle.star_meaning.specs.declared.given.KeywordArgument.{KeywordArgument}
use Rattle.star_meaning.specs.Places.{joined}
use Rattle.star_world.specs.Orders.{Layout, is_at}
use Rattle.star_enter.specs.Ordered.{AreTaken, FitsLayout, IsTaken, bound_at, bound_row, is_set, named_at, keyword_slot, placed, unplaced, with_named, with_plain, with_slot}
use Rattle.star_enter.proofs.OrderedMade.{with_made, with_value}
use Rattle.star_enter.proofs.OrderedShares.{side}

-- one slot, if there is such
value_row : (o : Option ℕ) (v : Option Value) (f : ℕ → Option Value) (n : ℕ) → with_value o v (row f n) ≡ row (λ i. if is_at o i then v else f i) n
value_row None v f n = row_same f (λ i. if is_at None i then v else f i) n (λ i. refl)
value_row (Some j) v f n =
    row_set f (λ i. if nat_eq j i then v else f i) n j v
    (ap (λ b. if b then v else f j) (eq-eqb j j refl))
    (λ i d. ap (λ b. if b then v else f i) (ne_eqb j i (λ e. d (sym e))))

slot_row : (o : Option ℕ) (v : Value) (f : ℕ → Option Value) (n : ℕ) → with_slot o v (row f n) ≡ row (λ i. if is_at o i then Some v else f i) n
slot_row None v f n = value_row None (Some v) f n
slot_row (Some j) v f n = value_row (Some j) (Some v) f n

-- keyword values
named_first : (b : Bool) (m : KeywordArgument) (o : Option KeywordArgument) (x : Option Value)
    → (if b then Some m.value else option_or (option_map (λ n. n.value) o) x) ≡ option_or (option_map (λ n. n.value) (cond b (Some m) o)) x
named_first true m o x = refl
named_first false m o x = refl

named_row : (l : Layout) (names : Names) (ns : List KeywordArgument) (f : ℕ → Option Value) (n : ℕ) → with_named l names ns (row f n) ≡ row (λ i. option_or (named_at l names ns i) (f i)) n
named_row l names [] f n = row_same f (λ i. option_or (named_at l names [] i) (f i)) n (λ i. refl)
named_row l names (m ∷ ns) f n =
    let rest : ℕ → Option Value = λ i. option_or (named_at l names ns i) (f i) in
    ap (with_slot (keyword_slot l names m) m.value) (named_row l names ns f n)
    ∙ slot_row (keyword_slot l names m) m.value rest n
    ∙ row_same (λ i. if is_at (keyword_slot l names m) i then Some m.value else rest i) (λ i. option_or (named_at l names (m ∷ ns) i) (f i)) n
    (λ i. named_first (is_at (keyword_slot l names m) i) m (find (λ n. is_at (keyword_slot l names n) i) ns) (f i))

-- positional values
get_from : ℕ → List Value → ℕ → Option Value
get_from k vs i = if nat_lt i k then None else slice_get vs (i - k)

abbrev no_values : List Value
no_values = []

nothing : (b : Bool) (m : ℕ) (x : Option Value) → x ≡ option_or (if b then None else slice_get no_values m) x
nothing true m x = refl
nothing false m x = refl

plain_from : (k : ℕ) (vs : List Value) (f : ℕ → Option Value) (n : ℕ) → with_plain k vs (row f n) ≡ row (λ i. option_or (get_from k vs i) (f i)) n
unfolding get_from
plain_from k [] f n = row_same f (λ i. option_or (get_from k [] i) (f i)) n (λ i. nothing (nat_lt i k) (i - k) (f i))
plain_from k (v ∷ vs) f n =
    let more : ℕ → Option Value = λ i. if nat_eq i k then Some v else f i in
    ap (with_plain (suc k) vs)
    (row_set f more n k (Some v) (ap (λ b. if b then Some v else f k) (eq-eqb k k refl)) (λ i d. ap (λ b. if b then Some v else f i) (ne_eqb i k d)))
    ∙ plain_from (suc k) vs more n
    ∙ row_same (λ i. option_or (get_from (suc k) vs i) (more i)) (λ i. option_or (get_from k (v ∷ vs) i) (f i)) n (λ i. by i (side i k))
  where
    later : (i : ℕ) → (i ≡ k) ⊎ (k < i) → option_or (get_from (suc k) vs i) (if nat_eq i k then Some v else f i) ≡ option_or (get_from k (v ∷ vs) i) (f i)
    later i (inl e) =
        ap (λ b. option_or (if b then None else slice_get vs (i - suc k)) (if nat_eq i k then Some v else f i)) (lt-ltb i (suc k) (omega (arith, e)))
        ∙ ap (λ b. if b then Some v else f i) (eq-eqb i k e)
        ∙ ap (λ m. option_or (slice_get (v ∷ vs) m) (f i)) (let z : 0 ≡ i - k = omega (arith, e) in z)
        ∙ ap (λ b. option_or (if b then None else slice_get (v ∷ vs) (i - k)) (f i)) (sym (le-ltb i k (omega (arith, e))))
    later i (inr e) =
        ap (λ b. option_or (if b then None else slice_get vs (i - suc k)) (if nat_eq i k then Some v else f i)) (le-ltb i (suc k) (omega (arith, e)))
        ∙ ap (λ b. option_or (slice_get vs (i - suc k)) (if b then Some v else f i)) (ne_eqb i k (λ q. omega (arith, e, q)))
        ∙ ap (λ m. option_or (slice_get (v ∷ vs) m) (f i)) (let z : suc (i - suc k) ≡ i - k = omega (arith, e) in z)
        ∙ ap (λ b. option_or (if b then None else slice_get (v ∷ vs) (i - k)) (f i)) (sym (le-ltb i k (omega (arith, e))))

    same_or_more : (i : ℕ) → k ≤ i → (i ≡ k) ⊎ (k < i)
    same_or_more i h = next (side k i)
      where
        next : (k < i) ⊎ (i ≤ k) → (i ≡ k) ⊎ (k < i)
        next (inl e) = inr e
        next (inr e) = inl (omega (arith, h, e))

    by : (i : ℕ) → (i < k) ⊎ (k ≤ i) → option_or (get_from (suc k) vs i) (if nat_eq i k then Some v else f i) ≡ option_or (get_from k (v ∷ vs) i) (f i)
    by i (inl e) =
        ap (λ b. option_or (if b then None else slice_get vs (i - suc k)) (if nat_eq i k then Some v else f i)) (lt-ltb i (suc k) (omega (arith, e)))
        ∙ ap (λ b. if b then Some v else f i) (ne_eqb i k (λ q. omega (arith, e, q)))
        ∙ ap (λ b. option_or (if b then None else slice_get (v ∷ vs) (i - k)) (f i)) (sym (lt-ltb i k e))
    by i (inr e) = later i (same_or_more i e)

plain_row : (vs : List Value) (f : ℕ → Option Value) (n : ℕ) → with_plain 0 vs (row f n) ≡ row (λ i. option_or (slice_get vs i) (f i)) n
unfolding get_from
plain_row vs f n = plain_from 0 vs f n ∙ row_same (λ i. option_or (get_from 0 vs i) (f i)) (λ i. option_or (slice_get vs i) (f i)) n (λ i.
    ap (λ b. option_or (if b then None else slice_get vs (i - 0)) (f i)) (le-ltb i 0 (omega arith)) ∙ ap (λ m. option_or (slice_get vs m) (f i)) (let z : i - 0 ≡ i = omega arith in z))

-- defaults, then keyword values, then positional ones
pub bound_slots : (l : Layout) (names : Names) (ds : List Value) (g : Arguments) → with_plain 0 (placed l g) (with_named l names g.named (row (default_at l.ranks ds) (length names))) ≡ bound_row l names ds g
bound_slots l names ds g =
    ap (with_plain 0 (placed l g)) (named_row l names g.named (default_at l.ranks ds) (length names))
    ∙ plain_row (placed l g) (λ i. option_or (named_at l names g.named i) (default_at l.ranks ds i)) (length names)

-- then the values of `*name` and `**name`, which have two slots
pub made_slots : (l : Layout) (t d : Option Value) (f : ℕ → Option Value) (n : ℕ) → ((i : ℕ) → l.names ≡ Some i → is_at l.rest i ≡ false)
    → with_value l.names d (with_value l.rest t (row f n)) ≡ row (with_made l t d f) n
made_slots l t d f n h =
    ap (with_value l.names d) (value_row l.rest t f n)
    ∙ value_row l.names d (λ i. if is_at l.rest i then t else f i) n
    ∙ row_same (λ i. if is_at l.names i then d else (if is_at l.rest i then t else f i)) (with_made l t d f) n (λ i. by l.names i refl)
  where
    two : (b c : Bool) (t d x : Option Value) → (b ≡ true → c ≡ false) → (if b then d else (if c then t else x)) ≡ (if c then t else (if b then d else x))
    two true true t d x h = let q = h refl in absurd cc
    two true false t d x h = refl
    two false c t d x h = refl

    by : (o : Option ℕ) (i : ℕ) → l.names ≡ o → (if is_at l.names i then d else (if is_at l.rest i then t else f i)) ≡ with_made l t d f i
    by None i e = two (is_at l.names i) (is_at l.rest i) t d (f i) (λ q. let z : is_at l.names i ≡ false = ap (λ o. is_at o i) e in absurd cc)
    by (Some j) i e =
        two (is_at l.names i) (is_at l.rest i) t d (f i) (λ q. let same : j ≡ i = eqb-true j i (sym (ap (λ o. is_at o i) e) ∙ q) in h i (e ∙ ap Some same))

set_in : (f : ℕ → Option Value) (n i : ℕ) → is_set (row f n) i ≡ true → is_some (f i) ≡ true
set_in f n i h = by (side i n)
  where
    by : (i < n) ⊎ (n ≤ i) → is_some (f i) ≡ true
    by (inl e) = ap (λ o. is_some (joined o)) (sym (row_at f n i e)) ∙ h
    by (inr e) = let q : is_set (row f n) i ≡ false = ap (λ o. is_some (joined o)) (row_past f n i e) in absurd cc

first_set : (a b : Bool) → (a && b) ≡ true → (a ≡ true) × (b ≡ true)
first_set true b h = (refl, h)
first_set false b h = absurd cc

all_set : (test : ℕ → Bool) (is : List ℕ) → list_all test is ≡ true → (k i : ℕ) → slice_get is k ≡ Some i → test i ≡ true
all_set test [] h k i e = absurd cc
all_set test (j ∷ js) h zero i e = let same : j ≡ i = cc in ap test (sym same) ∙ (first_set (test j) (list_all test js) h).0
all_set test (j ∷ js) h (suc k) i e = all_set test js (first_set (test j) (list_all test js) h).1 k i e

pub fits : (l : Layout) (names : Names) (ds : List Value) (g : Arguments) → (l.rest ≡ None → unplaced l g ≡ []) → AreTaken l names (length (placed l g)) g.named → l.defaults ≤ length ds
    → list_all (is_set (bound_row l names ds g)) l.needed ≡ true → FitsLayout l names ds g
fits l names ds g h k d s =
    record { places = h; taken = k; defaults = d; needed = λ k i e. set_in (bound_at l names ds g) (length names) i (all_set (is_set (bound_row l names ds g)) l.needed s k i e) }

-- the last keyword value is given its slot first, if it has one
pub named_end : (l : Layout) (names : Names) (before : List KeywordArgument) (m : KeywordArgument) (i : ℕ) (xs : List (Option Value)) → keyword_slot l names m ≡ Some i
    → with_named l names (before ++ m ∷ []) xs ≡ with_named l names before (slice_set xs i (Some m.value))
named_end l names [] m i xs h = ap (λ o. with_slot o m.value xs) h
named_end l names (n ∷ ns) m i xs h = ap (with_slot (keyword_slot l names n) n.value) (named_end l names ns m i xs h)

pub unnamed_end : (l : Layout) (names : Names) (before : List KeywordArgument) (m : KeywordArgument) (xs : List (Option Value)) → keyword_slot l names m ≡ None
    → with_named l names (before ++ m ∷ []) xs ≡ with_named l names before xs
unnamed_end l names [] m xs h = ap (λ o. with_slot o m.value xs) h
unnamed_end l names (n ∷ ns) m xs h = ap (with_slot (keyword_slot l names n) n.value) (unnamed_end l names ns m xs h)

taken_last : (l : Layout) (names : Names) (from : ℕ) (before : List KeywordArgument) (m : KeywordArgument) → IsTaken l from (keyword_slot l names m) → AreTaken l names from before → AreTaken l names from (before ++ m ∷ [])
taken_last l names from [] m h b = (h, tt)
taken_last l names from (n ∷ ns) m h b = (b.0, taken_last l names from ns m h b.1)

pub taken_end : (l : Layout) (names : Names) (from : ℕ) (before : List KeywordArgument) (m : KeywordArgument) (i : ℕ) → keyword_slot l names m ≡ Some i → from ≤ i
    → AreTaken l names from before → AreTaken l names from (before ++ m ∷ [])
taken_end l names from before m i h k b = taken_last l names from before m (subst (IsTaken l from) (sym h) k) b

pub untaken_end : (l : Layout) (names : Names) (from : ℕ) (before : List KeywordArgument) (m : KeywordArgument) → keyword_slot l names m ≡ None → is_some l.names ≡ true
    → AreTaken l names from before → AreTaken l names from (before ++ m ∷ [])
untaken_end l names from before m h k b = taken_last l names from before m (subst (IsTaken l from) (sym h) k) b

-- if there are fewer positional values than parameters that take them
pub all_placed : (vs : List Value) (n : ℕ) → length vs < n → (vs ≡ take n vs) × ([] ≡ drop n vs)
all_placed [] zero h = (refl, refl)
all_placed [] (suc n) h = (refl, refl)
all_placed (v ∷ vs) zero h = absurd (omega arith)
all_placed (v ∷ vs) (suc n) h = let q = all_placed vs n (omega arith) in (ap (λ xs. v ∷ xs) q.0, q.1)
