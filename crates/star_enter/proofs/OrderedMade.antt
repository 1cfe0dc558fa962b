-- Calls of functions whose parameters have a layout: the values of `*name` and `**name` are made, and with them the
-- shares are values.
use Rattle.std.proofs.Common.{◌≡◌, ℕ, Bool, true, false, not, ◌&&◌, List, [], ◌∷◌, Option, Some, None, if◌then◌else◌, refl, ap, sym, ◌∙◌, eq-eqb}
use Rattle.std.specs.Prelude.{nat_lt, slice_set}
use Rattle.star_store.specs.declared.values.Value.{Value}
use Rattle.star_tree.specs.declared.tree.Expression.{Expression}
use Rattle.star_tree.specs.declared.tree.Name.{Name}
use Rattle.star_tree.specs.declared.tree.Parameter.{Parameter}
use Rattle.star_tree.specs.declared.tree.Argument.TheOpen as tree
use Rattle.star_outline.specs.Names.{Names}
use Rattle.star_scope.specs.Places.{Spots}
use Rattle.star_outline.specs.Syntax.{ParameterForm, parameter}
use Rattle.star_meaning.specs.declared.given.KeywordArgument.{KeywordArgument}
use Rattle.star_meaning.specs.Binding.{BoundArgument, build_argument, build_arguments}
use Rattle.star_meaning.specs.Binding as share
use Rattle.star_meaning.specs.Run.{Action, Done, Failed, Outcome, State, ◌>>=◌, and_then, each, give}
use Rattle.star_world.specs.declared.layouts.Cursor.{Cursor}
use Rattle.star_world.specs.declared.layouts.Stage.{Stage}
use Rattle.star_world.specs.declared.layouts.Stage.TheVariants as stage
use Rattle.star_world.specs.Orders.{InOrder, Layout, MayEnd, PlacesAreOver, PlacesEnd, StandsAt, after, is_at, takes_keyword, start}
use Rattle.star_enter.specs.Ordered.{with_share}
use Rattle.star_enter.proofs.OrderedShares.{places_end, share_name, share_names}

-- a share that is made for a slot, if there is such a slot
abbrev pub made_share : ℕ → Option ℕ → BoundArgument → Action (Option Value)
made_share line None x = give None
made_share line (Some i) x = build_argument line x >>= λ v. give (Some v)

-- the values of slots, with the values of `*name` and `**name`
abbrev pub with_made : Layout → Option Value → Option Value → (ℕ → Option Value) → ℕ → Option Value
with_made l rest names f i = if is_at l.rest i then rest else (if is_at l.names i then names else f i)

-- the names of parameters from the cursor on, each with the value of its slot
abbrev pub bound_name : ParameterForm → Option Value → List (Name × Value) → List (Name × Value)
bound_name (tree.Plain n) (Some v) more = (n, v) ∷ more
bound_name (tree.Plain n) None more = more
bound_name (tree.Default n e) (Some v) more = (n, v) ∷ more
bound_name (tree.Default n e) None more = more
bound_name (tree.Parameter-F.Parameter::Star n) (Some v) more = (n, v) ∷ more
bound_name (tree.Parameter-F.Parameter::Star n) None more = more
bound_name tree.BareStar o more = more
bound_name (tree.Parameter-F.Parameter::StarStar n) (Some v) more = (n, v) ∷ more
bound_name (tree.Parameter-F.Parameter::StarStar n) None more = more

abbrev pub bound_names : (ℕ → Option Value) → Cursor → List Parameter → List (Name × Value)
bound_names f c [] = []
bound_names f c (p ∷ ps) = bound_name (parameter p) (f c.slot) (bound_names f (after c (parameter p)) ps)

-- ---- the value of a slot among these

not_true : (b c : Bool) → (not b && c) ≡ true → b ≡ false
not_true false c h = refl
not_true true c h = absurd cc

last_true : (a b : Bool) → (a && b) ≡ true → b ≡ true
last_true true b h = h
last_true false b h = absurd cc

not_false : (b : Bool) → not b ≡ true → b ≡ false
not_false false h = refl
not_false true h = absurd cc

own_has : (l : Layout) (t d : Option Value) (f : ℕ → Option Value) (i : ℕ) → takes_keyword l i ≡ true → with_made l t d f i ≡ f i
own_has l t d f i h =
    let both = last_true (nat_lt i l.count) (not (is_at l.rest i) && not (is_at l.names i)) h in
    ap (λ b. if b then t else (if is_at l.names i then d else f i)) (not_true (is_at l.rest i) (not (is_at l.names i)) both)
    ∙ ap (λ b. if b then d else f i) (not_false (is_at l.names i) (last_true (not (is_at l.rest i)) (not (is_at l.names i)) both))

rest_has : (l : Layout) (t d : Option Value) (f : ℕ → Option Value) (i : ℕ) → l.rest ≡ Some i → with_made l t d f i ≡ t
rest_has l t d f i h = ap (λ b. if b then t else (if is_at l.names i then d else f i)) (ap (λ o. is_at o i) h ∙ eq-eqb i i refl)

names_have : (l : Layout) (t d : Option Value) (f : ℕ → Option Value) (i : ℕ) → is_at l.rest i ≡ false → l.names ≡ Some i → with_made l t d f i ≡ d
names_have l t d f i e h =
    ap (λ b. if b then t else (if is_at l.names i then d else f i)) e ∙ ap (λ b. if b then d else f i) (ap (λ o. is_at o i) h ∙ eq-eqb i i refl)

-- ---- the shares as values, in order

abbrev build_each : ℕ → List (Name × BoundArgument) → Action (List (Name × Value))
build_each line xs = each (λ x. build_argument line x.1 >>= λ v. give (x.0, v)) xs

-- a value more before the values that an outcome has
one_more : {A : Type 0} (o : Outcome A) (f : A → Action (List (Name × Value))) (x : Name × Value)
    → and_then (and_then o f) (λ ys. give (x ∷ ys)) ≡ and_then o (λ a s. and_then (f a s) (λ ys. give (x ∷ ys)))
one_more (Done a s) f x = refl
one_more (Failed e ls) f x = refl

-- outcomes with the same rest
same_after : {A B : Type 0} (o : Outcome A) (f g : A → Action B) → ((a : A) (s : State) → f a s ≡ g a s) → and_then o f ≡ and_then o g
same_after (Done a s) f g h = h a s
same_after (Failed e ls) f g h = refl

-- the values of `*name` and `**name` that are not made yet before a parameter
abbrev made_from : Layout → ℕ → List Value → List KeywordArgument → Stage → Option Value → Option Value → Action (Option Value × Option Value)
made_from l line rest left stage.Positional t d = made_share line l.rest (share.Rest rest) >>= λ u. made_share line l.names (share.Names left) >>= λ v. give (u, v)
made_from l line rest left stage.ByName t d = made_share line l.names (share.Names left) >>= λ v. give (t, v)
made_from l line rest left stage.Ended t d = give (t, d)

rest_made : (l : Layout) (line : ℕ) (rest : List Value) (left : List KeywordArgument) (s : Stage) (i : ℕ) (t d : Option Value) (st : State) → PlacesEnd l s i (Some i)
    → made_from l line rest left s t d st ≡ and_then (and_then (build_argument line (share.Rest rest) st) (λ v. give (Some v))) (λ u. made_share line l.names (share.Names left) >>= λ v. give (u, v))
rest_made l line rest left stage.Positional i t d st h = ap (λ o. and_then (made_share line o (share.Rest rest) st) (λ u. made_share line l.names (share.Names left) >>= λ v. give (u, v))) h.1
rest_made l line rest left stage.ByName i t d st h = absurd h
rest_made l line rest left stage.Ended i t d st h = absurd h

bare_made : (l : Layout) (line : ℕ) (rest : List Value) (left : List KeywordArgument) (s : Stage) (i : ℕ) (t d : Option Value) (st : State) → PlacesEnd l s i None
    → made_from l line rest left s t d st ≡ made_from l line rest left stage.ByName None d st
bare_made l line rest left stage.Positional i t d st h = ap (λ o. and_then (made_share line o (share.Rest rest) st) (λ u. made_share line l.names (share.Names left) >>= λ v. give (u, v))) h.1
bare_made l line rest left stage.ByName i t d st h = absurd h
bare_made l line rest left stage.Ended i t d st h = absurd h

-- the value of `*name` if only `**name` may follow
abbrev rest_then : Stage → Option Value → Option Value
rest_then stage.Positional t = None
rest_then stage.ByName t = t
rest_then stage.Ended t = t

names_made : (l : Layout) (line : ℕ) (rest : List Value) (left : List KeywordArgument) (s : Stage) (i : ℕ) (t d : Option Value) (st : State) → PlacesAreOver l s i → l.names ≡ Some i
    → made_from l line rest left s t d st ≡ and_then (and_then (build_argument line (share.Names left) st) (λ v. give (Some v))) (λ v. give (rest_then s t, v))
names_made l line rest left stage.Positional i t d st h e =
    ap (λ o. and_then (made_share line o (share.Rest rest) st) (λ u. made_share line l.names (share.Names left) >>= λ v. give (u, v))) h.1
    ∙ ap (λ o. and_then (made_share line o (share.Names left) st) (λ v. give (None, v))) e
names_made l line rest left stage.ByName i t d st h e = ap (λ o. and_then (made_share line o (share.Names left) st) (λ v. give (t, v))) e
names_made l line rest left stage.Ended i t d st h e = absurd h

abbrev Pair : Type 0
Pair = Option Value × Option Value

abbrev nothing_made : Action (List (Name × Value))
nothing_made = give []

abbrev none_after : Outcome Pair → Outcome (List (Name × Value))
none_after o = and_then o (λ x. give [])

abbrev with_rest : Option Value → Outcome (Option Value) → Outcome Pair
with_rest t o = and_then o (λ v. give (t, v))

end_made : (l : Layout) (line : ℕ) (rest : List Value) (left : List KeywordArgument) (s : Stage) (i : ℕ) (t d : Option Value) (st : State) → MayEnd l s i
    → nothing_made st ≡ none_after (made_from l line rest left s t d st)
end_made l line rest left stage.Positional i t d st h =
    sym (ap (λ o. none_after (and_then (made_share line o (share.Rest rest) st) (λ u. made_share line l.names (share.Names left) >>= λ v. give (u, v)))) h.1
    ∙ ap (λ o. none_after (with_rest None (made_share line o (share.Names left) st))) h.2)
end_made l line rest left stage.ByName i t d st h = sym (ap (λ o. none_after (with_rest t (made_share line o (share.Names left) st))) h)
end_made l line rest left stage.Ended i t d st h = refl

-- a parameter with a name
own_next : (l : Layout) (n : Name) (f : ℕ → Option Value) (i : ℕ) (v : Value) (o : Outcome Pair) (more : Pair → List (Name × Value)) (made : Outcome (List (Name × Value))) → takes_keyword l i ≡ true → f i ≡ Some v
    → made ≡ and_then o (λ x. give (more x))
    → and_then made (λ ys. give ((n, v) ∷ ys)) ≡ and_then o (λ x. give (bound_name (tree.Plain n) (with_made l x.0 x.1 f i) (more x)))
own_next l n f i v o more made h e k =
    ap (λ (m : Outcome (List (Name × Value))). and_then m (λ ys. give ((n, v) ∷ ys))) k
    ∙ one_more o (λ x. give (more x)) (n, v)
    ∙ same_after o (λ x s. and_then (give (more x) s) (λ ys. give ((n, v) ∷ ys))) (λ x. give (bound_name (tree.Plain n) (with_made l x.0 x.1 f i) (more x)))
    (λ x s. ap (λ b. give (bound_name (tree.Plain n) b (more x)) s) (sym (own_has l x.0 x.1 f i h ∙ e)))

own_skipped : (l : Layout) (n : Name) (f : ℕ → Option Value) (i : ℕ) (o : Outcome Pair) (more : Pair → List (Name × Value)) (made : Outcome (List (Name × Value))) → takes_keyword l i ≡ true → f i ≡ None
    → made ≡ and_then o (λ x. give (more x)) → made ≡ and_then o (λ x. give (bound_name (tree.Plain n) (with_made l x.0 x.1 f i) (more x)))
own_skipped l n f i o more made h e k =
    k ∙ same_after o (λ x. give (more x)) (λ x. give (bound_name (tree.Plain n) (with_made l x.0 x.1 f i) (more x))) (λ x s. ap (λ b. give (bound_name (tree.Plain n) b (more x)) s) (sym (own_has l x.0 x.1 f i h ∙ e)))

own_made : (l : Layout) (line : ℕ) (n : Name) (f : ℕ → Option Value) (rest : List Value) (left : List KeywordArgument) (i : ℕ) (b : Option Value) (o : Outcome Pair) (more : Pair → List (Name × Value)) (shares : List (Name × BoundArgument)) (st : State) → takes_keyword l i ≡ true → f i ≡ b
    → build_each line shares st ≡ and_then o (λ x. give (more x))
    → build_each line (share_name (tree.Plain n) b rest left shares) st ≡ and_then o (λ x. give (bound_name (tree.Plain n) (with_made l x.0 x.1 f i) (more x)))
own_made l line n f rest left i (Some v) o more shares st h e k = own_next l n f i v o more (build_each line shares st) h e k
own_made l line n f rest left i None o more shares st h e k = own_skipped l n f i o more (build_each line shares st) h e k

as_plain : (n : Name) (x : Expression) (b : Option Value) (more : List (Name × Value)) → bound_name (tree.Plain n) b more ≡ bound_name (tree.Default n x) b more
as_plain n x None more = refl
as_plain n x (Some v) more = refl

share_plain : (n : Name) (x : Expression) (b : Option Value) (rest : List Value) (left : List KeywordArgument) (more : List (Name × BoundArgument)) → share_name (tree.Default n x) b rest left more ≡ share_name (tree.Plain n) b rest left more
share_plain n x None rest left more = refl
share_plain n x (Some v) rest left more = refl

-- `*name`
star_named : (l : Layout) (n : Name) (f : ℕ → Option Value) (i : ℕ) (v : Value) (o : Outcome (Option Value)) (more : Pair → List (Name × Value)) → l.rest ≡ Some i
    → and_then (and_then (and_then o (λ d. give (Some v, d))) (λ x. give (more x))) (λ ys. give ((n, v) ∷ ys))
    ≡ and_then (and_then o (λ d. give (Some v, d))) (λ x. give (bound_name (tree.Parameter-F.Parameter::Star n) (with_made l x.0 x.1 f i) (more x)))
star_named l n f i v (Done d s) more h = ap (λ b. give (bound_name (tree.Parameter-F.Parameter::Star n) b (more (Some v, d))) s) (sym (rest_has l (Some v) d f i h))
star_named l n f i v (Failed e ls) more h = refl

star_made : (l : Layout) (line : ℕ) (n : Name) (f : ℕ → Option Value) (rest : List Value) (left : List KeywordArgument) (i : ℕ) (o : Outcome Value) (more : Pair → List (Name × Value)) (shares : List (Name × BoundArgument)) → l.rest ≡ Some i
    → ((v : Value) (s : State) → build_each line shares s ≡ and_then (and_then (made_share line l.names (share.Names left) s) (λ d. give (Some v, d))) (λ x. give (more x)))
    → and_then (and_then o (λ v. give (n, v))) (λ y. build_each line shares >>= λ ys. give (y ∷ ys))
    ≡ and_then (and_then (and_then o (λ v. give (Some v))) (λ u. made_share line l.names (share.Names left) >>= λ v. give (u, v))) (λ x. give (bound_name (tree.Parameter-F.Parameter::Star n) (with_made l x.0 x.1 f i) (more x)))
star_made l line n f rest left i (Done v s) more shares h k =
    ap (λ (m : Outcome (List (Name × Value))). and_then m (λ ys. give ((n, v) ∷ ys))) (k v s) ∙ star_named l n f i v (made_share line l.names (share.Names left) s) more h
star_made l line n f rest left i (Failed e ls) more shares h k = refl

-- `**name`
double_made : (l : Layout) (line : ℕ) (n : Name) (f : ℕ → Option Value) (t : Option Value) (i : ℕ) (o : Outcome Value) (more : Pair → List (Name × Value)) (shares : List (Name × BoundArgument)) → is_at l.rest i ≡ false → l.names ≡ Some i
    → ((d : Option Value) (s : State) → build_each line shares s ≡ give (more (t, d)) s)
    → and_then (and_then o (λ v. give (n, v))) (λ y. build_each line shares >>= λ ys. give (y ∷ ys))
    ≡ and_then (and_then (and_then o (λ v. give (Some v))) (λ v. give (t, v))) (λ x. give (bound_name (tree.Parameter-F.Parameter::StarStar n) (with_made l x.0 x.1 f i) (more x)))
double_made l line n f t i (Done v s) more shares e h k =
    ap (λ (m : Outcome (List (Name × Value))). and_then m (λ ys. give ((n, v) ∷ ys))) (k (Some v) s)
    ∙ ap (λ b. give (bound_name (tree.Parameter-F.Parameter::StarStar n) b (more (t, Some v))) s) (sym (names_have l t (Some v) f i e h))
double_made l line n f t i (Failed e ls) more shares q h k = refl

-- one parameter, and then the others
made_next : (spots : Spots) (names : Names) (l : Layout) (line : ℕ) (f : ℕ → Option Value) (rest : List Value) (left : List KeywordArgument) (c : Cursor) (p : ParameterForm) (t d : Option Value) (st : State)
    (shares : List (Name × BoundArgument)) (more : Pair → List (Name × Value)) → StandsAt spots names l c p
    → ((t d : Option Value) (s : State) → build_each line shares s ≡ and_then (made_from l line rest left (after c p).stage t d s) (λ x. give (more x)))
    → build_each line (share_name p (f c.slot) rest left shares) st ≡ and_then (made_from l line rest left c.stage t d st) (λ x. give (bound_name p (with_made l x.0 x.1 f c.slot) (more x)))
made_next spots names l line f rest left c (tree.Plain n) t d st shares more h k = own_made l line n f rest left c.slot (f c.slot) (made_from l line rest left c.stage t d st) more shares st h.2 refl (k t d st)
made_next spots names l line f rest left c (tree.Default n x) t d st shares more h k =
    ap (λ xs. build_each line xs st) (share_plain n x (f c.slot) rest left shares)
    ∙ own_made l line n f rest left c.slot (f c.slot) (made_from l line rest left c.stage t d st) more shares st h.2 refl (k t d st)
    ∙ same_after (made_from l line rest left c.stage t d st) (λ y. give (bound_name (tree.Plain n) (with_made l y.0 y.1 f c.slot) (more y))) (λ y. give (bound_name (tree.Default n x) (with_made l y.0 y.1 f c.slot) (more y)))
    (λ y s. ap (λ xs. give xs s) (as_plain n x (with_made l y.0 y.1 f c.slot) (more y)))
made_next spots names l line f rest left c (tree.Parameter-F.Parameter::Star n) t d st shares more h k =
    star_made l line n f rest left c.slot (build_argument line (share.Rest rest) st) more shares (places_end l c.stage c.slot (Some c.slot) h.0) (λ v s. k (Some v) None s)
    ∙ ap (λ (o : Outcome Pair). and_then o (λ x. give (bound_name (tree.Parameter-F.Parameter::Star n) (with_made l x.0 x.1 f c.slot) (more x)))) (sym (rest_made l line rest left c.stage c.slot t d st h.0))
made_next spots names l line f rest left c tree.BareStar t d st shares more h k =
    k None d st ∙ ap (λ (o : Outcome Pair). and_then o (λ x. give (more x))) (sym (bare_made l line rest left c.stage c.slot t d st h))
made_next spots names l line f rest left c (tree.Parameter-F.Parameter::StarStar n) t d st shares more h k =
    double_made l line n f (rest_then c.stage t) c.slot (build_argument line (share.Names left) st) more shares h.2 h.3 (λ d s. k (rest_then c.stage t) d s)
    ∙ ap (λ (o : Outcome Pair). and_then o (λ x. give (bound_name (tree.Parameter-F.Parameter::StarStar n) (with_made l x.0 x.1 f c.slot) (more x)))) (sym (names_made l line rest left c.stage c.slot t d st h.0 h.3))

made_all : (spots : Spots) (names : Names) (l : Layout) (line : ℕ) (f : ℕ → Option Value) (rest : List Value) (left : List KeywordArgument) (c : Cursor) (ps : List Parameter) (t d : Option Value) (st : State) → InOrder spots names l c ps
    → build_each line (share_names f rest left c ps) st ≡ and_then (made_from l line rest left c.stage t d st) (λ x. give (bound_names (with_made l x.0 x.1 f) c ps))
made_all spots names l line f rest left c [] t d st h = end_made l line rest left c.stage c.slot t d st h.1
made_all spots names l line f rest left c (p ∷ ps) t d st h =
    made_next spots names l line f rest left c (parameter p) t d st (share_names f rest left (after c (parameter p)) ps) (λ x. bound_names (with_made l x.0 x.1 f) (after c (parameter p)) ps) h.0
    (λ t d s. made_all spots names l line f rest left (after c (parameter p)) ps t d s h.1)

-- the shares of all parameters are made if the values of `*name` and `**name` are
pub shares_made : (spots : Spots) (names : Names) (l : Layout) (line : ℕ) (f : ℕ → Option Value) (rest : List Value) (left : List KeywordArgument) (ps : List Parameter) (st : State) → InOrder spots names l start ps
    → build_arguments line (share_names f rest left start ps) st
    ≡ and_then (made_share line l.rest (share.Rest rest) st) (λ t. made_share line l.names (share.Names left) >>= λ d. give (bound_names (with_made l t d f) start ps))
unfolding build_arguments
shares_made spots names l line f rest left ps st h =
    made_all spots names l line f rest left start ps None None st h ∙ by (made_share line l.rest (share.Rest rest) st)
  where
    inner : (t : Option Value) (o : Outcome (Option Value)) → and_then {A = Pair} (and_then o (λ v. give (t, v))) (λ x. give (bound_names (with_made l x.0 x.1 f) start ps)) ≡ and_then o (λ d. give (bound_names (with_made l t d f) start ps))
    inner t (Done d s) = refl
    inner t (Failed e ls) = refl

    by : (o : Outcome (Option Value)) → and_then {A = Pair} (and_then o (λ u. made_share line l.names (share.Names left) >>= λ v. give (u, v))) (λ x. give (bound_names (with_made l x.0 x.1 f) start ps))
        ≡ and_then o (λ t. made_share line l.names (share.Names left) >>= λ d. give (bound_names (with_made l t d f) start ps))
    by (Done t s) = inner t (made_share line l.names (share.Names left) s)
    by (Failed e ls) = refl

-- slots with the value made for one of them
abbrev pub with_value : Option ℕ → Option Value → List (Option Value) → List (Option Value)
with_value None v xs = xs
with_value (Some i) v xs = slice_set xs i v

pub share_set : (line : ℕ) (o : Option ℕ) (x : BoundArgument) (slots : List (Option Value)) (s : State) → with_share line o x slots s ≡ and_then (made_share line o x s) (λ v. give (with_value o v slots))
share_set line None x slots s = refl
share_set line (Some i) x slots s = by (build_argument line x s)
  where
    by : (o : Outcome Value) → and_then o (λ v. give (slice_set slots i (Some v))) ≡ and_then (and_then o (λ v. give (Some v))) (λ v. give (slice_set slots i v))
    by (Done v t) = refl
    by (Failed e ls) = refl
