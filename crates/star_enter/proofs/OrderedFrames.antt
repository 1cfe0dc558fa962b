-- Calls of functions whose parameters have a layout: the frame that has the slots of its parameters from the start.
use Rattle.std.proofs.Common.{◌≡◌, ◌≢◌, ◌<◌, ◌≤◌, ◌⊎◌, inl, inr, ℕ, suc, ◌+◌, Bool, true, false, List, [], ◌∷◌, ◌++◌, ◌&&◌, cond, length, not, replicate, slice_get, slice_set, Option, Some, None, Result, Ok, Err, if◌then◌else◌, refl, ap, sym, subst, ◌∙◌, arith, eq-eqb, le-ltb, lt-ltb, ne_eqb}
use Rattle.std.specs.Prelude.{nat_lt, IfOk, IfSome}
use Rattle.std.specs.List.{find}
use Rattle.std.specs.Option.{option_and_then, option_flatten, option_map, option_or}
use Rattle.std.proofs.lemmas.Option.{slice_get_past}
use Rattle.star_store.specs.declared.values.Value.{Value}
use Rattle.star_store.specs.declared.values.Cell.TheVariants as cell
use Rattle.star_store.specs.declared.values.HeapCell.{HeapCell}
use Rattle.star_store.specs.declared.values.Frame.{Frame}
use Rattle.star_store.specs.declared.values.Function.{Function}
use Rattle.star_store.specs.Slots.{default_at, row}
use Rattle.star_store.specs.Store.{Store, bound, bound_cell, changed_at, made, next_value}
use Rattle.star_store.proofs.Rows.{row_all, row_same, row_set}
use Rattle.star_tree.specs.declared.tree.Expression.{Expression}
use Rattle.star_tree.specs.declared.tree.Name.{Name}
use Rattle.star_tree.specs.declared.tree.Parameter.{Parameter}
use Rattle.star_tree.specs.declared.tree.Argument.TheOpen as tree
use Rattle.star_outline.specs.Definitions.{Definition}
use Rattle.star_outline.specs.Names.{Names, slot_of}
use Rattle.star_outline.specs.Syntax.{ParameterForm, parameter}
use Rattle.star_meaning.specs.declared.given.Arguments.{Arguments}
use Rattle.star_meaning.specs.declared.site.Site.{Site}
use Rattle.star_meaning.specs.declared.given.KeywordArgument.{KeywordArgument}
use Rattle.star_meaning.specs.Binding.{BoundArgument, bound_to}
use Rattle.star_meaning.specs.Binding as share
use Rattle.star_meaning.specs.Calls.{run}
use Rattle.star_meaning.specs.Semantics.{Semantics}
use Rattle.star_meaning.specs.Places.{bind_spot, new_slots, own_spot}
use Rattle.star_meaning.specs.Programs.{tables_of}
use Rattle.star_meaning.specs.Run.{Action, Done, Failed, Outcome, State, and_then, ◌>>=◌, build, give, make, pay}
use Rattle.star_meaning.specs.Variables.{bind_at}
use Rattle.star_world.specs.declared.layouts.Cursor.{Cursor}
use Rattle.star_world.specs.Orders.{AreLaidOut, InOrder, IsBelow, IsBounded, IsSlot, Layout, StandsAt, after, is_at, takes_keyword, start}
use Rattle.star_world.specs.World.{World, variables}
use Rattle.star_enter.specs.Entering.{begin, bind_all, entering, framed, left, within}
use Rattle.star_call.specs.BoundArguments.{all_named}
use Rattle.star_enter.specs.declared.ordered.Bound.{Bound}
use Rattle.star_enter.specs.Ordered.{AreBound, HasBound, IsBoundBy, bound_at, bound_row, entering_bound, entering_with, named_at, own_in, keyword_slot, placed, extra_in_order, unplaced, with_share}
use Rattle.star_enter.proofs.Entering.{run_is}
use Rattle.star_enter.proofs.OrderedMade.{bound_name, bound_names, made_share, share_set, shares_made, with_made, with_value}
use Rattle.star_enter.proofs.OrderedRows.{made_slots}
use Rattle.star_enter.proofs.OrderedShares.{few_taken, share_names, shares_bound, side, two_slots}

-- ---- rows whose first slots are bound

abbrev first_of : (ℕ → Option Value) → ℕ → ℕ → Option Value
first_of f i j = if nat_lt j i then f j else None

row_none : (f : ℕ → Option Value) (n : ℕ) → row (first_of f 0) n ≡ replicate n None
row_none f n = row_all (first_of f 0) None n (λ j. ap (λ b. if b then f j else None) (le-ltb j 0 (omega arith)))

one_more : (f : ℕ → Option Value) (n i : ℕ) (v : Value) → f i ≡ Some v → slice_set (row (first_of f i) n) i (Some v) ≡ row (first_of f (suc i)) n
one_more f n i v h =
    row_set (first_of f i) (first_of f (suc i)) n i (Some v)
    (ap (λ b. if b then f i else None) (lt-ltb i (suc i) (omega arith)) ∙ h)
    (λ j d. ap (λ b. if b then f j else None) (same j d))
  where
    same : (j : ℕ) → j ≢ i → nat_lt j (suc i) ≡ nat_lt j i
    same j d = by (side j i)
      where
        by : (j < i) ⊎ (i ≤ j) → nat_lt j (suc i) ≡ nat_lt j i
        by (inl e) = lt-ltb j (suc i) (omega (arith, e)) ∙ sym (lt-ltb j i e)
        by (inr e) = le-ltb j (suc i) (omega (arith, e, d)) ∙ sym (le-ltb j i e)

row_whole : (f : ℕ → Option Value) (n k : ℕ) → ((j : ℕ) → k ≤ j → f j ≡ None) → row (first_of f k) n ≡ row f n
row_whole f n k h = row_same (first_of f k) f n (λ j. by j (side j k))
  where
    by : (j : ℕ) → (j < k) ⊎ (k ≤ j) → first_of f k j ≡ f j
    by j (inl e) = ap (λ b. if b then f j else None) (lt-ltb j k e)
    by j (inr e) = ap (λ b. if b then f j else None) (le-ltb j k e) ∙ sym (h j e)

-- ---- the frame that was made last

last_changed : (g : HeapCell → HeapCell) (es : List HeapCell) (e : HeapCell) → changed_at g (es ++ e ∷ []) (length es) ≡ es ++ g e ∷ []
last_changed g [] e = refl
last_changed g (x ∷ es) e = ap (λ ys. x ∷ ys) (last_changed g es e)

abbrev with_slots : ℕ → ℕ → Option Value → List (Option Value) → Frame
with_slots file block parent slots = record { file = file; block = block; parent = parent; slots = slots }

bound_last : (s : Store) (file block : ℕ) (parent : Option Value) (slots : List (Option Value)) (i : ℕ) (v : Value)
    → bound (next_value s) i v (made (cell.Frame (with_slots file block parent slots)) s) ≡ made (cell.Frame (with_slots file block parent (slice_set slots i (Some v)))) s
bound_last s file block parent slots i v =
    let old : HeapCell = record { iterations = 0; cell = cell.Frame (with_slots file block parent slots) } in
    ap (λ b. if b then record s { cells = changed_at (λ e. record e { cell = bound_cell i v e.cell }) (s.cells ++ old ∷ []) (length s.cells) } else made (cell.Frame (with_slots file block parent slots)) s) (eq-eqb s.home s.home refl)
    ∙ ap (λ cs. record s { cells = cs }) (last_changed (λ e. record e { cell = bound_cell i v e.cell }) s.cells old)

-- the state with these slots of it
abbrev framed_state : State → ℕ → ℕ → Option Value → List (Option Value) → State
framed_state s file block parent slots = record s { store = made (cell.Frame (with_slots file block parent slots)) s.store }

slot_bound : (w : World) (q : Site) (s : State) (block : ℕ) (parent : Option Value) (slots : List (Option Value)) (n : Name) (i : ℕ) (v : Value)
    → q.frame ≡ next_value s.store → own_spot ((tables_of w.files).spots q.file n.position.token) ≡ Some i
    → bind_spot (tables_of w.files) q n v (framed_state s q.file block parent slots) ≡ Done tt (framed_state s q.file block parent (slice_set slots i (Some v)))
unfolding bind_spot
slot_bound w q s block parent slots n i v e h =
    ap (λ o. bind_at q.frame v o (framed_state s q.file block parent slots)) h
    ∙ ap (λ frame. bind_at frame v (Some i) (framed_state s q.file block parent slots)) e
    ∙ ap (λ st. Done tt (record s { store = st })) (bound_last s.store q.file block parent slots i v)

-- a slot that gets nothing
none_more : (f : ℕ → Option Value) (n i : ℕ) → f i ≡ None → row (first_of f i) n ≡ row (first_of f (suc i)) n
none_more f n i h = row_same (first_of f i) (first_of f (suc i)) n (λ j. by j (side j i))
  where
    here : (j : ℕ) → i ≤ j → first_of f i j ≡ first_of f (suc i) j
    here j k = next (side j (suc i))
      where
        next : (j < suc i) ⊎ (suc i ≤ j) → first_of f i j ≡ first_of f (suc i) j
        next (inl e) =
            let same : i ≡ j = omega (arith, k, e) in
            ap (λ b. if b then f j else None) (le-ltb j i k) ∙ sym (ap (λ b. if b then f j else None) (lt-ltb j (suc i) e) ∙ ap f (sym same) ∙ h)
        next (inr e) = ap (λ b. if b then f j else None) (le-ltb j i k ∙ sym (le-ltb j (suc i) e))

    by : (j : ℕ) → (j < i) ⊎ (i ≤ j) → first_of f i j ≡ first_of f (suc i) j
    by j (inl e) = ap (λ b. if b then f j else None) (lt-ltb j i e ∙ sym (lt-ltb j (suc i) (omega (arith, e))))
    by j (inr e) = here j e

-- a name with the next slot is bound to the value of the slot
abbrev before_value : Name → Option Value → List (Name × Value) → List (Name × Value)
before_value n (Some v) more = (n, v) ∷ more
before_value n None more = more

name_bound : (w : World) (names : Names) (q : Site) (s : State) (block : ℕ) (parent : Option Value) (f : ℕ → Option Value) (count i : ℕ) (n : Name) (o : Option Value) (more : List (Name × Value))
    → IsSlot ((tables_of w.files).spots q.file) names i n → f i ≡ o → q.frame ≡ next_value s.store
    → bind_all w q (before_value n o more) (framed_state s q.file block parent (row (first_of f i) count)) ≡ bind_all w q more (framed_state s q.file block parent (row (first_of f (suc i)) count))
name_bound w names q s block parent f count i n (Some v) more h b e =
    ap (λ (r : Outcome (Unit {0})). and_then r (λ _. bind_all w q more)) (slot_bound w q s block parent (row (first_of f i) count) n i v e h.0)
    ∙ ap (λ r. bind_all w q more (framed_state s q.file block parent r)) (one_more f count i v b)
name_bound w names q s block parent f count i n None more h b e = ap (λ r. bind_all w q more (framed_state s q.file block parent r)) (none_more f count i b)

as_plain : (n : Name) (o : Option Value) (more : List (Name × Value)) → bound_name (tree.Plain n) o more ≡ before_value n o more
as_plain n None more = refl
as_plain n (Some v) more = refl

as_default : (n : Name) (x : Expression) (o : Option Value) (more : List (Name × Value)) → bound_name (tree.Default n x) o more ≡ before_value n o more
as_default n x None more = refl
as_default n x (Some v) more = refl

as_star : (n : Name) (o : Option Value) (more : List (Name × Value)) → bound_name (tree.Parameter-F.Parameter::Star n) o more ≡ before_value n o more
as_star n None more = refl
as_star n (Some v) more = refl

as_double : (n : Name) (o : Option Value) (more : List (Name × Value)) → bound_name (tree.Parameter-F.Parameter::StarStar n) o more ≡ before_value n o more
as_double n None more = refl
as_double n (Some v) more = refl

bound_next : (w : World) (names : Names) (l : Layout) (q : Site) (s : State) (block : ℕ) (parent : Option Value) (f : ℕ → Option Value) (count : ℕ) (c : Cursor) (p : ParameterForm) (more : List (Name × Value))
    → StandsAt ((tables_of w.files).spots q.file) names l c p → q.frame ≡ next_value s.store
    → bind_all w q (bound_name p (f c.slot) more) (framed_state s q.file block parent (row (first_of f c.slot) count)) ≡ bind_all w q more (framed_state s q.file block parent (row (first_of f (after c p).slot) count))
bound_next w names l q s block parent f count c (tree.Plain n) more h e =
    ap (λ xs. bind_all w q xs (framed_state s q.file block parent (row (first_of f c.slot) count))) (as_plain n (f c.slot) more) ∙ name_bound w names q s block parent f count c.slot n (f c.slot) more h.1 refl e
bound_next w names l q s block parent f count c (tree.Default n x) more h e =
    ap (λ xs. bind_all w q xs (framed_state s q.file block parent (row (first_of f c.slot) count))) (as_default n x (f c.slot) more) ∙ name_bound w names q s block parent f count c.slot n (f c.slot) more h.1 refl e
bound_next w names l q s block parent f count c (tree.Parameter-F.Parameter::Star n) more h e =
    ap (λ xs. bind_all w q xs (framed_state s q.file block parent (row (first_of f c.slot) count))) (as_star n (f c.slot) more) ∙ name_bound w names q s block parent f count c.slot n (f c.slot) more h.1 refl e
bound_next w names l q s block parent f count c tree.BareStar more h e = refl
bound_next w names l q s block parent f count c (tree.Parameter-F.Parameter::StarStar n) more h e =
    ap (λ xs. bind_all w q xs (framed_state s q.file block parent (row (first_of f c.slot) count))) (as_double n (f c.slot) more) ∙ name_bound w names q s block parent f count c.slot n (f c.slot) more h.1 refl e

all_bound : (w : World) (names : Names) (l : Layout) (q : Site) (s : State) (block : ℕ) (parent : Option Value) (f : ℕ → Option Value) (count : ℕ) (c : Cursor) (ps : List Parameter)
    → InOrder ((tables_of w.files).spots q.file) names l c ps → q.frame ≡ next_value s.store
    → bind_all w q (bound_names f c ps) (framed_state s q.file block parent (row (first_of f c.slot) count)) ≡ Done tt (framed_state s q.file block parent (row (first_of f l.count) count))
all_bound w names l q s block parent f count c [] h e = ap (λ m. Done tt (framed_state s q.file block parent (row (first_of f m) count))) h.0
all_bound w names l q s block parent f count c (p ∷ ps) h e =
    bound_next w names l q s block parent f count c (parameter p) (bound_names f (after c (parameter p)) ps) h.0 e
    ∙ all_bound w names l q s block parent f count (after c (parameter p)) ps h.1 e

-- ---- slots after the slots of the parameters

not_at : (o : Option ℕ) (n i : ℕ) → IsBelow o n → n ≤ i → is_at o i ≡ false
not_at None n i h k = refl
not_at (Some j) n i h k = ne_eqb j i (λ e. omega (arith, e, h, k))

own_below : (l : Layout) (o : Option ℕ) → IsBelow (own_in l o) l.count
own_below l None = tt
own_below l (Some j) = by (takes_keyword l j) refl
  where
    first_true : (a b : Bool) → (a && b) ≡ true → a ≡ true
    first_true true b h = refl
    first_true false b h = absurd cc

    below : (j < l.count) ⊎ (l.count ≤ j) → nat_lt j l.count ≡ true → j < l.count
    below (inl k) e = k
    below (inr k) e = let q : nat_lt j l.count ≡ false = le-ltb j l.count k in absurd cc

    by : (b : Bool) → takes_keyword l j ≡ b → IsBelow (if takes_keyword l j then Some j else None) l.count
    by true e = subst (λ b. IsBelow (if b then Some j else None) l.count) (sym e) (below (side j l.count) (first_true (nat_lt j l.count) (not (is_at l.rest j) && not (is_at l.names j)) e))
    by false e = subst (λ b. IsBelow (if b then Some j else None) l.count) (sym e) tt

none_named : (l : Layout) (names : Names) (ns : List KeywordArgument) (i : ℕ) → l.count ≤ i → named_at l names ns i ≡ None
none_named l names [] i h = refl
none_named l names (n ∷ ns) i h =
    ap (λ b. option_map (λ (n : KeywordArgument). n.value) (cond b (Some n) (find (λ n. is_at (keyword_slot l names n) i) ns))) (not_at (keyword_slot l names n) l.count i (own_below l (slot_of n.name names)) h) ∙ none_named l names ns i h

-- they get nothing
nothing_after : (l : Layout) (names : Names) (ds : List Value) (g : Arguments) (t d : Option Value) → IsBounded l → (i : ℕ) → l.count ≤ i → with_made l t d (bound_at l names ds g) i ≡ None
nothing_after l names ds g t d h i k =
    ap (λ b. if b then t else (if is_at l.names i then d else bound_at l names ds g i)) (not_at l.rest l.count i h.rest k)
    ∙ ap (λ b. if b then d else bound_at l names ds g i) (not_at l.names l.count i h.names k)
    ∙ ap (λ o. option_or o (option_or (named_at l names g.named i) (default_at l.ranks ds i))) (slice_get_past (placed l g) i (omega (arith, few_taken g.positional l.positional, h.places, k)))
    ∙ ap (λ o. option_or o (default_at l.ranks ds i)) (none_named l names g.named i k)
    ∙ ap (λ o. option_and_then (λ rank. slice_get ds rank) (option_flatten o)) (slice_get_past l.ranks i (omega (arith, h.ranks, k)))

-- ---- the whole entering

abbrev begun : ℕ → ℕ → Site → Action Site
begun file number q = λ t. and_then (begin file number t) (λ _. give q)

abbrev place_at : ℕ → ℕ → Value → Site
place_at line file frame = record { file = file; frame = frame; line = line }

within_is : (w : World) (names : Names) (l : Layout) (line file number : ℕ) (parent : Value) (ps : List Parameter) (f : ℕ → Option Value) (s : State)
    → InOrder ((tables_of w.files).spots file) names l start ps → ((i : ℕ) → l.count ≤ i → f i ≡ None) → length names ≡ (tables_of w.files).slots file (1 + number)
    → and_then ((variables w).frame file (1 + number) (Some parent) s) (λ frame. within w (place_at line file frame) number (bound_names f start ps) give)
    ≡ and_then (make (cell.Frame (with_slots file (1 + number) (Some parent) (row f (length names)))) s) (λ frame. begun file number (place_at line file frame))
unfolding new_slots make
within_is w names l line file number parent ps f s h none c =
    let q : Site = place_at line file (next_value s.store) in
    ap (λ n. within w q number (bound_names f start ps) give (framed_state s file (1 + number) (Some parent) (replicate n None))) (sym c)
    ∙ ap (λ r. within w q number (bound_names f start ps) give (framed_state s file (1 + number) (Some parent) r)) (sym (row_none f (length names)))
    ∙ ap (λ (r : Outcome (Unit {0})). and_then r (λ _. begun file number q)) (all_bound w names l q s (1 + number) (Some parent) f (length names) start ps h refl)
    ∙ ap (λ r. begun file number q (framed_state s file (1 + number) (Some parent) r)) (row_whole f (length names) l.count none)

framed_is : (w : World) (names : Names) (l : Layout) (line file number : ℕ) (parent : Value) (ps : List Parameter) (f : ℕ → Option Value) (s : State)
    → InOrder ((tables_of w.files).spots file) names l start ps → ((i : ℕ) → l.count ≤ i → f i ≡ None) → length names ≡ (tables_of w.files).slots file (1 + number)
    → framed w line file number parent (bound_names f start ps) give s ≡ entering_with line file number parent (row f (length names)) give s
unfolding build
framed_is w names l line file number parent ps f s h none c = by (pay line 1 s)
  where
    by : (o : Outcome (Unit {0})) → and_then o (λ _ t. and_then ((variables w).frame file (1 + number) (Some parent) t) (λ frame. within w (place_at line file frame) number (bound_names f start ps) give))
        ≡ and_then (and_then o (λ _. make (cell.Frame (with_slots file (1 + number) (Some parent) (row f (length names)))))) (λ frame. begun file number (place_at line file frame))
    by (Done x t) = within_is w names l line file number parent ps f t h none c
    by (Failed e lines) = refl

-- a frame with the values made for `*name` and `**name`
made_bound : (w : World) (names : Names) (l : Layout) (line file number : ℕ) (parent : Value) (ps : List Parameter) (ds : List Value) (g : Arguments) (t d : Option Value) (s : State)
    → AreLaidOut ((tables_of w.files).spots file) names l ps → length names ≡ (tables_of w.files).slots file (1 + number)
    → framed w line file number parent (bound_names (with_made l t d (bound_at l names ds g)) start ps) give s
    ≡ entering_with line file number parent (with_value l.names d (with_value l.rest t (bound_row l names ds g))) give s
made_bound w names l line file number parent ps ds g t d s h c =
    framed_is w names l line file number parent ps (with_made l t d (bound_at l names ds g)) s h.0 (nothing_after l names ds g t d h.1) c
    ∙ ap (λ r. entering_with line file number parent r give s)
    (sym (made_slots l t d (bound_at l names ds g) (length names) (λ i e. two_slots ((tables_of w.files).spots file) names l start ps i tt h.0 e)))

-- an action after a share is set
set_before : {A : Type 0} (line : ℕ) (o : Option ℕ) (x : BoundArgument) (slots : List (Option Value)) (k : List (Option Value) → Action A) (s : State)
    → and_then (with_share line o x slots s) k ≡ and_then (made_share line o x s) (λ v. k (with_value o v slots))
set_before line o x slots k s = ap (λ r. and_then r k) (share_set line o x slots s) ∙ by (made_share line o x s)
  where
    by : (r : Outcome (Option Value)) → and_then (and_then r (λ v. give (with_value o v slots))) k ≡ and_then r (λ v. k (with_value o v slots))
    by (Done v t) = refl
    by (Failed e ls) = refl

-- a call whose parameters get these shares is entered with their values
laid_out : (w : World) (names : Names) (l : Layout) (line file number : ℕ) (parent : Value) (ps : List Parameter) (ds : List Value) (g : Arguments) (s : State)
    → AreLaidOut ((tables_of w.files).spots file) names l ps → length names ≡ (tables_of w.files).slots file (1 + number)
    → entering w line file number parent (share_names (bound_at l names ds g) (unplaced l g) (extra_in_order l names g.named) start ps) give s
    ≡ and_then (with_share line l.rest (share.Rest (unplaced l g)) (bound_row l names ds g) s) (λ slots.
    with_share line l.names (share.Names (extra_in_order l names g.named)) slots >>= λ all. entering_with line file number parent all give)
laid_out w names l line file number parent ps ds g s h c =
    ap (λ (r : Outcome (List (Name × Value))). and_then r (λ xs. framed w line file number parent xs give))
    (shares_made ((tables_of w.files).spots file) names l line (bound_at l names ds g) (unplaced l g) (extra_in_order l names g.named) ps s h.0)
    ∙ outer (made_share line l.rest (share.Rest (unplaced l g)) s)
    ∙ sym (set_before line l.rest (share.Rest (unplaced l g)) (bound_row l names ds g) (λ slots. with_share line l.names (share.Names (extra_in_order l names g.named)) slots >>= λ all. entering_with line file number parent all give) s)
  where
    inner : (t : Option Value) (r : Outcome (Option Value)) → and_then (and_then r (λ d. give (bound_names (with_made l t d (bound_at l names ds g)) start ps))) (λ xs. framed w line file number parent xs give)
        ≡ and_then r (λ d. entering_with line file number parent (with_value l.names d (with_value l.rest t (bound_row l names ds g))) give)
    inner t (Done d st) = made_bound w names l line file number parent ps ds g t d st h c
    inner t (Failed e ls) = refl

    outer : (r : Outcome (Option Value))
        → and_then (and_then r (λ t. made_share line l.names (share.Names (extra_in_order l names g.named)) >>= λ d. give (bound_names (with_made l t d (bound_at l names ds g)) start ps))) (λ xs. framed w line file number parent xs give)
        ≡ and_then r (λ t. with_share line l.names (share.Names (extra_in_order l names g.named)) (with_value l.rest t (bound_row l names ds g)) >>= λ all. entering_with line file number parent all give)
    outer (Done t st) =
        inner t (made_share line l.names (share.Names (extra_in_order l names g.named)) st)
        ∙ sym (set_before line l.names (share.Names (extra_in_order l names g.named)) (with_value l.rest t (bound_row l names ds g)) (λ all. entering_with line file number parent all give) st)
    outer (Failed e ls) = refl

-- the rest after the share of `*name` is set
abbrev then_names : ℕ → ℕ → ℕ → Value → Option ℕ → List KeywordArgument → List (Option Value) → Action Site
then_names line file number parent o ns slots = with_share line o (share.Names ns) slots >>= λ all. entering_with line file number parent all give

-- so is one with that bound
pub are_bound : (w : World) (names : Names) (l : Layout) (file number : ℕ) (parent : Value) (ps : List Parameter) (ds : List Value) (g : Arguments) (b : Bound)
    → AreLaidOut ((tables_of w.files).spots file) names l ps → length names ≡ (tables_of w.files).slots file (1 + number) → IsBoundBy l names ds g b
    → AreBound w file number parent ps ds g b
are_bound w names l file number parent ps ds g b h c k = (
  share_names (bound_at l names ds g) (unplaced l g) (extra_in_order l names g.named) start ps,
  shares_bound ((tables_of w.files).spots file) names l ps ds g h.0 k.fits,
  λ line s.
      laid_out w names l line file number parent ps ds g s h c
      ∙ ap (λ r. and_then (with_share line l.rest (share.Rest (unplaced l g)) r s) (then_names line file number parent l.names (extra_in_order l names g.named))) (sym k.slots)
      ∙ ap (λ xs. and_then (with_share line l.rest (share.Rest xs) b.slots s) (then_names line file number parent l.names (extra_in_order l names g.named))) (sym k.more)
      ∙ ap (λ o. and_then (with_share line o (share.Rest b.more.now) b.slots s) (then_names line file number parent l.names (extra_in_order l names g.named))) (sym k.rest)
      ∙ ap (λ ns. and_then (with_share line b.rest (share.Rest b.more.now) b.slots s) (then_names line file number parent l.names ns)) (sym k.left)
      ∙ ap (λ o. and_then (with_share line b.rest (share.Rest b.more.now) b.slots s) (then_names line file number parent o (all_named b.left.items))) (sym k.others),
)

-- a call that is entered so is the call
pub run_bound_is : (w : World) (m : Semantics) (p : Site) (f : Function) (d : Definition) (shares : List (Name × BoundArgument)) (b : Bound) (s : State)
    → HasBound w f.file f.definition f.frame shares b
    → run (variables w) m p f d shares s ≡ and_then (entering_bound p.line f.file f.definition f.frame b give s) (left m d)
run_bound_is w m p f d shares b s h = run_is w m p f d shares s ∙ ap (λ (r : Outcome Site). and_then r (left m d)) (h p.line s)

-- the bound value, if there was one
pub bound_there : {E : Type 0} (w : World) (names : Names) (l : Layout) (file number : ℕ) (parent : Value) (ps : List Parameter) (ds es : List Value) (g : Arguments) (r : Result (Option Bound) E)
    → AreLaidOut ((tables_of w.files).spots file) names l ps → length names ≡ (tables_of w.files).slots file (1 + number) → es ≡ ds
    → IfOk r (λ o. IfSome o (IsBoundBy l names es g)) → IfOk r (λ o. IfSome o (AreBound w file number parent ps ds g))
bound_there w names l file number parent ps ds es g (Ok None) h c e k = tt
bound_there w names l file number parent ps ds es g (Ok (Some b)) h c e k = subst (λ ys. AreBound w file number parent ps ys g b) e (are_bound w names l file number parent ps es g b h c k)
bound_there w names l file number parent ps ds es g (Err x) h c e k = tt
