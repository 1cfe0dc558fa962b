-- Calls: the argument that each parameter gets.
use Rattle.std.proofs.Common.{◌≡◌, ℕ, zero, suc, ◌+◌, ◌++◌, nat_eq, Bool, true, false, ◌||◌, List, [], ◌∷◌, length, take, drop, slice_get, Option, Some, None, if◌then◌else◌, cond, refl, ap, sym, subst, ◌∙◌, arith}
use Rattle.std.specs.List.{list_any, filter}
use Rattle.std.proofs.lemmas.List.{length-append}
use Rattle.star_store.specs.declared.values.Value.{Value}
use Rattle.star_tree.specs.declared.tree.Name.{Name}
use Rattle.star_tree.specs.declared.tree.Parameter.{Parameter}
use Rattle.star_tree.specs.declared.tree.Argument.TheOpen as tree
use Rattle.star_outline.specs.Syntax.{ParameterForm, parameter}
use Rattle.star_meaning.specs.declared.given.Arguments.{Arguments}
use Rattle.star_meaning.specs.declared.given.KeywordArgument.{KeywordArgument}
use Rattle.star_meaning.specs.Arguments.{is_given}
use Rattle.star_meaning.specs.Binding.{Names, One, BindingState, Rest, BoundArgument, also, before_names, bound_to, else_default, first_of_row, keyword_of, keywords_of, rest_of_row, argument_by, shared, shares, step, takes_names, extra_keywords, value_named}
use Rattle.star_laws.specs.Calls.{has_default, is_star, parameter_at, takes_rest}
use Rattle.star_laws.specs.BoundArguments.{Gets, gets_some, place_at, single}
use Rattle.star_laws.proofs.Calls.{After, Goes, Placed, by_form, closed_out, empty_out, goes_bare, goes_closed, goes_empty, goes_past, goes_star, goes_taken, no_star, none_open, open_of, prog}

names_at : List Parameter → ℕ → ℕ
names_at ps i = length (keywords_of (take i ps))

defaults_at : List Parameter → ℕ → ℕ
defaults_at ps i = length (filter (λ p. has_default (parameter p)) (take i ps))

OneFrom : List KeywordArgument → Bool → List Parameter → List Value → ℕ → Name → Option Value → Option (Name × BoundArgument) → Type 0
OneFrom ns b ps vs i n d x = (Placed b ps vs i → x ≡ single n (slice_get vs (names_at ps i))) × ((Placed b ps vs i → ⊥) → x ≡ single n (else_default (value_named n.text ns) d))

-- as `Gets`, from some parameter on
From : List KeywordArgument → List KeywordArgument → Bool → List Parameter → List Value → List Value → ℕ → ParameterForm → Option (Name × BoundArgument) → Type 0
From ns left b ps vs ds i (tree.Plain n) x = OneFrom ns b ps vs i n None x
From ns left b ps vs ds i (tree.Default n e) x = OneFrom ns b ps vs i n (slice_get ds (defaults_at ps i)) x
From ns left b ps vs ds i (tree.Parameter-F.Parameter::Star n) x = i ≡ length (open_of b ps) → x ≡ Some (n, Rest (drop (names_at ps i) vs))
From ns left b ps vs ds i tree.BareStar x = Unit {0}
From ns left b ps vs ds i (tree.Parameter-F.Parameter::StarStar n) x = x ≡ Some (n, Names left)

Each : List KeywordArgument → List KeywordArgument → Bool → List Parameter → List Value → List Value → List (Name × BoundArgument) → Type 0
Each ns left b ps vs ds xs = (i : ℕ) (f : ParameterForm) → parameter_at ps i ≡ Some f → From ns left b ps vs ds i f (slice_get xs (place_at ps i))

-- how it goes on after a parameter
record Moves (p : Parameter) (ps : List Parameter) (b c : Bool) (vs ws ds es : List Value) (xs ys : List (Name × BoundArgument)) : Type 0 where
  goes : Goes p ps b c vs ws
  values : (i : ℕ) → Placed c ps ws i → slice_get vs (names_at (p ∷ ps) (suc i)) ≡ slice_get ws (names_at ps i)
  defaults : (i : ℕ) → slice_get ds (defaults_at (p ∷ ps) (suc i)) ≡ slice_get es (defaults_at ps i)
  places : (i : ℕ) → slice_get xs (place_at (p ∷ ps) (suc i)) ≡ slice_get ys (place_at ps i)
  star : (i : ℕ) → suc i ≡ length (open_of b (p ∷ ps)) → (i ≡ length (open_of c ps)) × (drop (names_at (p ∷ ps) (suc i)) vs ≡ drop (names_at ps i) ws)

shift : (ns left : List KeywordArgument) (p : Parameter) (ps : List Parameter) (b c : Bool) (vs ws ds es : List Value) (xs ys : List (Name × BoundArgument)) → Moves p ps b c vs ws ds es xs ys → (i : ℕ) (f : ParameterForm) → From ns left c ps ws es i f (slice_get ys (place_at ps i)) → From ns left b (p ∷ ps) vs ds (suc i) f (slice_get xs (place_at (p ∷ ps) (suc i)))
unfolding From OneFrom
shift ns left p ps b c vs ws ds es xs ys m i (tree.Plain n) r = ((λ q. m.places i ∙ r.0 (m.goes.down i q) ∙ ap (λ o. single n o) (sym (m.values i (m.goes.down i q)))), (λ k. m.places i ∙ r.1 (λ q. k (m.goes.up i q))))
shift ns left p ps b c vs ws ds es xs ys m i (tree.Default n e) r = ((λ q. m.places i ∙ r.0 (m.goes.down i q) ∙ ap (λ o. single n o) (sym (m.values i (m.goes.down i q)))), (λ k. m.places i ∙ r.1 (λ q. k (m.goes.up i q)) ∙ ap (λ d. single n (else_default (value_named n.text ns) d)) (sym (m.defaults i))))
shift ns left p ps b c vs ws ds es xs ys m i (tree.Parameter-F.Parameter::Star n) r = λ e. m.places i ∙ r ((m.star i e).0) ∙ ap (λ (l : List Value). Some (n, Rest l)) (sym ((m.star i e).1))
shift ns left p ps b c vs ws ds es xs ys m i tree.BareStar r = tt
shift ns left p ps b c vs ws ds es xs ys m i (tree.Parameter-F.Parameter::StarStar n) r = m.places i ∙ r

joined : (ns left : List KeywordArgument) (p : Parameter) (ps : List Parameter) (b c : Bool) (vs ws ds es : List Value) (xs ys : List (Name × BoundArgument)) (h : ParameterForm) → parameter p ≡ h → Moves p ps b c vs ws ds es xs ys → From ns left b (p ∷ ps) vs ds 0 h (slice_get xs 0) → Each ns left c ps ws es ys → Each ns left b (p ∷ ps) vs ds xs
unfolding Each
joined ns left p ps b c vs ws ds es xs ys h e m first r zero f k = let s : h ≡ f = cc in subst (λ f. From ns left b (p ∷ ps) vs ds 0 f (slice_get xs 0)) s first
joined ns left p ps b c vs ws ds es xs ys h e m first r (suc i) f k = shift ns left p ps b c vs ws ds es xs ys m i f (r i f k)

-- numbers of names, defaults and shares

one_name : (p : Parameter) (ps : List Parameter) (name : List ℕ) (i : ℕ) → keyword_of (parameter p) ≡ Some name → names_at (p ∷ ps) (suc i) ≡ suc (names_at ps i)
unfolding names_at
one_name p ps name i k = ap (λ o. length (before_names o (keywords_of (take i ps)))) k

no_name : (p : Parameter) (ps : List Parameter) (i : ℕ) → keyword_of (parameter p) ≡ None → names_at (p ∷ ps) (suc i) ≡ names_at ps i
unfolding names_at
no_name p ps i k = ap (λ o. length (before_names o (keywords_of (take i ps)))) k

no_default : (p : Parameter) (ps : List Parameter) (i : ℕ) → has_default (parameter p) ≡ false → defaults_at (p ∷ ps) (suc i) ≡ defaults_at ps i
unfolding defaults_at
no_default p ps i k = ap (λ b. length (cond b (p ∷ filter (λ p. has_default (parameter p)) (take i ps)) (filter (λ p. has_default (parameter p)) (take i ps)))) k

one_default : (p : Parameter) (ps : List Parameter) (i : ℕ) → has_default (parameter p) ≡ true → defaults_at (p ∷ ps) (suc i) ≡ suc (defaults_at ps i)
unfolding defaults_at
one_default p ps i k = ap (λ b. length (cond b (p ∷ filter (λ p. has_default (parameter p)) (take i ps)) (filter (λ p. has_default (parameter p)) (take i ps)))) k

one_share : (p : Parameter) (ps : List Parameter) (i : ℕ) → gets_some (parameter p) ≡ true → place_at (p ∷ ps) (suc i) ≡ suc (place_at ps i)
one_share p ps i k = ap (λ b. length (cond b (p ∷ filter (λ p. gets_some (parameter p)) (take i ps)) (filter (λ p. gets_some (parameter p)) (take i ps)))) k

no_share : (p : Parameter) (ps : List Parameter) (i : ℕ) → gets_some (parameter p) ≡ false → place_at (p ∷ ps) (suc i) ≡ place_at ps i
no_share p ps i k = ap (λ b. length (cond b (p ∷ filter (λ p. gets_some (parameter p)) (take i ps)) (filter (λ p. gets_some (parameter p)) (take i ps)))) k

later_default : (ds : List Value) (k : ℕ) → slice_get ds (suc k) ≡ slice_get (rest_of_row ds) k
later_default [] k = refl
later_default (d ∷ ds) k = refl

first_default : (ds : List Value) → first_of_row ds ≡ slice_get ds 0
first_default [] = refl
first_default (d ∷ ds) = refl

nothing_dropped : (k m : ℕ) → drop {A = Value} k [] ≡ drop m []
nothing_dropped zero zero = refl
nothing_dropped zero (suc m) = refl
nothing_dropped (suc k) zero = refl
nothing_dropped (suc k) (suc m) = refl

-- the defaults and the shares that are left, in the two cases

Defaults : Parameter → List Parameter → List Value → List Value → Type 0
Defaults p ps ds es = (i : ℕ) → slice_get ds (defaults_at (p ∷ ps) (suc i)) ≡ slice_get es (defaults_at ps i)

Places : Parameter → List Parameter → List (Name × BoundArgument) → List (Name × BoundArgument) → Type 0
Places p ps xs ys = (i : ℕ) → slice_get xs (place_at (p ∷ ps) (suc i)) ≡ slice_get ys (place_at ps i)

same_defaults : (p : Parameter) (ps : List Parameter) (ds : List Value) → has_default (parameter p) ≡ false → Defaults p ps ds ds
unfolding Defaults
same_defaults p ps ds k i = ap (λ j. slice_get ds j) (no_default p ps i k)

fewer_defaults : (p : Parameter) (ps : List Parameter) (ds : List Value) → has_default (parameter p) ≡ true → Defaults p ps ds (rest_of_row ds)
unfolding Defaults
fewer_defaults p ps ds k i = ap (λ j. slice_get ds j) (one_default p ps i k) ∙ later_default ds (defaults_at ps i)

more_shares : (p : Parameter) (ps : List Parameter) (x : Name × BoundArgument) (ys : List (Name × BoundArgument)) → gets_some (parameter p) ≡ true → Places p ps (x ∷ ys) ys
unfolding Places
more_shares p ps x ys k i = ap (λ j. slice_get (x ∷ ys) j) (one_share p ps i k)

same_shares : (p : Parameter) (ps : List Parameter) (ys : List (Name × BoundArgument)) → gets_some (parameter p) ≡ false → Places p ps ys ys
unfolding Places
same_shares p ps ys k i = ap (λ j. slice_get ys j) (no_share p ps i k)

moves_taken : (p : Parameter) (ps : List Parameter) (v : Value) (vs ds es : List Value) (xs ys : List (Name × BoundArgument)) (name : List ℕ) → keyword_of (parameter p) ≡ Some name → is_star (parameter p) ≡ false → takes_rest (parameter p) ≡ false → Defaults p ps ds es → Places p ps xs ys → Moves p ps false false (v ∷ vs) vs ds es xs ys
unfolding Defaults Places open_of
moves_taken p ps v vs ds es xs ys name k h t d l = record {
  goes = goes_taken p ps v vs name k h t;
  values = λ i q. ap (λ j. slice_get (v ∷ vs) j) (one_name p ps name i k);
  defaults = d;
  places = l;
  star = λ i e. (omega (arith, ap (λ (xs : List Parameter). length xs) (no_star p ps h)), ap (λ j. drop j (v ∷ vs)) (one_name p ps name i k));
}

moves_empty : (p : Parameter) (ps : List Parameter) (ds es : List Value) (xs ys : List (Name × BoundArgument)) → is_star (parameter p) ≡ false → Defaults p ps ds es → Places p ps xs ys → Moves p ps false false [] [] ds es xs ys
unfolding Defaults Places open_of
moves_empty p ps ds es xs ys h d l = record {
  goes = goes_empty p ps false;
  values = λ i q. absurd (empty_out false ps i q);
  defaults = d;
  places = l;
  star = λ i e. (omega (arith, ap (λ (xs : List Parameter). length xs) (no_star p ps h)), nothing_dropped (names_at (p ∷ ps) (suc i)) (names_at ps i));
}

moves_closed : (p : Parameter) (ps : List Parameter) (vs ds es : List Value) (xs ys : List (Name × BoundArgument)) → takes_rest (parameter p) ≡ false → Defaults p ps ds es → Places p ps xs ys → Moves p ps true true vs vs ds es xs ys
unfolding Defaults Places open_of
moves_closed p ps vs ds es xs ys t d l = record {
  goes = goes_closed p ps vs t;
  values = λ i q. absurd (closed_out ps vs i q);
  defaults = d;
  places = l;
  star = λ i e. absurd (omega arith);
}

moves_star : (p : Parameter) (ps : List Parameter) (b : Bool) (vs ds es : List Value) (xs ys : List (Name × BoundArgument)) → is_star (parameter p) ≡ true → takes_rest (parameter p) ≡ true → Defaults p ps ds es → Places p ps xs ys → Moves p ps b true vs [] ds es xs ys
unfolding Defaults Places
moves_star p ps b vs ds es xs ys h t d l = record {
  goes = goes_star p ps b vs h t;
  values = λ i q. absurd (closed_out ps [] i q);
  defaults = d;
  places = l;
  star = λ i e. absurd (omega (arith, none_open b p ps h));
}

moves_bare : (p : Parameter) (ps : List Parameter) (vs ds es : List Value) (xs ys : List (Name × BoundArgument)) → is_star (parameter p) ≡ true → takes_rest (parameter p) ≡ false → Defaults p ps ds es → Places p ps xs ys → Moves p ps false true vs vs ds es xs ys
unfolding Defaults Places
moves_bare p ps vs ds es xs ys h t d l = record {
  goes = goes_bare p ps vs h t;
  values = λ i q. absurd (closed_out ps vs i q);
  defaults = d;
  places = l;
  star = λ i e. absurd (omega (arith, none_open false p ps h));
}

moves_past : (p : Parameter) (ps : List Parameter) (vs ds es : List Value) (xs ys : List (Name × BoundArgument)) → keyword_of (parameter p) ≡ None → is_star (parameter p) ≡ false → takes_rest (parameter p) ≡ false → Defaults p ps ds es → Places p ps xs ys → Moves p ps false false vs vs ds es xs ys
unfolding Defaults Places open_of
moves_past p ps vs ds es xs ys k h t d l = record {
  goes = goes_past p ps vs k h t;
  values = λ i q. ap (λ j. slice_get vs j) (no_name p ps i k);
  defaults = d;
  places = l;
  star = λ i e. (omega (arith, ap (λ (xs : List Parameter). length xs) (no_star p ps h)), ap (λ j. drop j vs) (no_name p ps i k));
}

-- a step that was made

Opens : List KeywordArgument → List KeywordArgument → List Parameter → BindingState → Name × BoundArgument → List (Name × BoundArgument) → Type 0
Opens ns left ps q x xs = (ys : List (Name × BoundArgument)) × (shares ns left ps q ≡ Some ys) × (xs ≡ x ∷ ys)

opened : (x : Name × BoundArgument) (xs : List (Name × BoundArgument)) (o : Option (List (Name × BoundArgument))) → also (x ∷ []) o ≡ Some xs → (ys : List (Name × BoundArgument)) × (o ≡ Some ys) × (xs ≡ x ∷ ys)
opened x xs (Some ys) h = (ys, refl, cc)
opened x xs None h = absurd cc

same_also : (xs : List (Name × BoundArgument)) (o : Option (List (Name × BoundArgument))) → also [] o ≡ Some xs → o ≡ Some xs
same_also xs (Some ys) h = h
same_also xs None h = absurd cc

some_opens : (ns left : List KeywordArgument) (ps : List Parameter) (x : Name × BoundArgument) (q : BindingState) (xs : List (Name × BoundArgument)) → After ns left ps (Some (x ∷ [], q)) ≡ Some xs → Opens ns left ps q x xs
unfolding After Opens
some_opens ns left ps x q xs h = opened x xs (shares ns left ps q) h

none_opens : (ns left : List KeywordArgument) (ps : List Parameter) (q : BindingState) (xs : List (Name × BoundArgument)) → After ns left ps (Some ([], q)) ≡ Some xs → shares ns left ps q ≡ Some xs
unfolding After
none_opens ns left ps q xs h = same_also xs (shares ns left ps q) h

shared_opens : (ns left : List KeywordArgument) (ps : List Parameter) (n : Name) (q : BindingState) (o : Option Value) (xs : List (Name × BoundArgument)) → After ns left ps (shared n q o) ≡ Some xs → (v : Value) × (o ≡ Some v) × Opens ns left ps q (n, One v) xs
unfolding After
shared_opens ns left ps n q (Some v) xs h = (v, refl, some_opens ns left ps (n, One v) q xs h)
shared_opens ns left ps n q None xs h = absurd cc

given_opens : (ns left : List KeywordArgument) (ps : List Parameter) (n : Name) (v : Value) (q : BindingState) (b : Bool) (xs : List (Name × BoundArgument)) → After ns left ps (if b then None else Some ((n, One v) ∷ [], q)) ≡ Some xs → Opens ns left ps q (n, One v) xs
unfolding After
given_opens ns left ps n v q true xs h = absurd cc
given_opens ns left ps n v q false xs h = some_opens ns left ps (n, One v) q xs h

first_placed : (p : Parameter) (ps : List Parameter) (v : Value) (vs : List Value) → is_star (parameter p) ≡ false → Placed false (p ∷ ps) (v ∷ vs) 0
unfolding Placed open_of
first_placed p ps v vs h = (omega (arith, ap (λ (xs : List Parameter). length xs) (no_star p ps h)), omega arith)

-- a parameter that takes the next positional argument
next_value : (ns : List KeywordArgument) (p : Parameter) (ps : List Parameter) (v : Value) (vs : List Value) (n : Name) (d : Option Value) (xs ys : List (Name × BoundArgument)) → is_star (parameter p) ≡ false → xs ≡ (n, One v) ∷ ys → OneFrom ns false (p ∷ ps) (v ∷ vs) 0 n d (slice_get xs 0)
unfolding OneFrom names_at
next_value ns p ps v vs n d xs ys h e = ((λ q. ap (λ xs. slice_get xs 0) e), (λ k. absurd (k (first_placed p ps v vs h))))

-- a parameter that takes no positional argument
other_value : (ns : List KeywordArgument) (b : Bool) (p : Parameter) (ps : List Parameter) (vs : List Value) (n : Name) (d : Option Value) (v : Value) (xs ys : List (Name × BoundArgument)) → (Placed b (p ∷ ps) vs 0 → ⊥) → else_default (value_named n.text ns) d ≡ Some v → xs ≡ (n, One v) ∷ ys → OneFrom ns b (p ∷ ps) vs 0 n d (slice_get xs 0)
unfolding OneFrom
other_value ns b p ps vs n d v xs ys k f e = ((λ q. absurd (k q)), (λ l. ap (λ xs. slice_get xs 0) e ∙ ap (λ o. single n o) (sym f)))

Rule : List KeywordArgument → List KeywordArgument → List Parameter → Type 0
Rule ns left ps = (c : Bool) (ws es : List Value) (ys : List (Name × BoundArgument)) → shares ns left ps (prog c ws es) ≡ Some ys → Each ns left c ps ws es ys

positional : (ns left : List KeywordArgument) (p : Parameter) (ps : List Parameter) (v : Value) (vs ds es : List Value) (n : Name) (d : Option Value) (xs : List (Name × BoundArgument)) (f : ParameterForm) → parameter p ≡ f → keyword_of (parameter p) ≡ Some n.text → is_star (parameter p) ≡ false → takes_rest (parameter p) ≡ false → gets_some (parameter p) ≡ true → Defaults p ps ds es → Rule ns left ps
    → Opens ns left ps (prog false vs es) (n, One v) xs → (OneFrom ns false (p ∷ ps) (v ∷ vs) 0 n d (slice_get xs 0) → From ns left false (p ∷ ps) (v ∷ vs) ds 0 f (slice_get xs 0)) → Each ns left false (p ∷ ps) (v ∷ vs) ds xs
unfolding Rule Opens
positional ns left p ps v vs ds es n d xs f e k h t g q r o first =
    joined ns left p ps false false (v ∷ vs) vs ds es xs (o.0) f e (moves_taken p ps v vs ds es xs (o.0) n.text k h t q (subst (λ xs. Places p ps xs (o.0)) (sym (o.2)) (more_shares p ps (n, One v) (o.0) g)))
    (first (next_value ns p ps v vs n d xs (o.0) h (o.2)))
    (r false vs es (o.0) (o.1))

by_name : (ns left : List KeywordArgument) (p : Parameter) (ps : List Parameter) (b : Bool) (vs ds es : List Value) (n : Name) (d : Option Value) (v : Value) (xs : List (Name × BoundArgument)) (f : ParameterForm) → parameter p ≡ f → gets_some (parameter p) ≡ true → (Placed b (p ∷ ps) vs 0 → ⊥) → else_default (value_named n.text ns) d ≡ Some v → ((ys : List (Name × BoundArgument)) → Places p ps xs ys → Moves p ps b b vs vs ds es xs ys) → Rule ns left ps
    → Opens ns left ps (prog b vs es) (n, One v) xs → (OneFrom ns b (p ∷ ps) vs 0 n d (slice_get xs 0) → From ns left b (p ∷ ps) vs ds 0 f (slice_get xs 0)) → Each ns left b (p ∷ ps) vs ds xs
unfolding Rule Opens
by_name ns left p ps b vs ds es n d v xs f e g k q m r o first =
    joined ns left p ps b b vs vs ds es xs (o.0) f e (m (o.0) (subst (λ xs. Places p ps xs (o.0)) (sym (o.2)) (more_shares p ps (n, One v) (o.0) g)))
    (first (other_value ns b p ps vs n d v xs (o.0) k q (o.2)))
    (r b vs es (o.0) (o.1))

by_rest : (ns left : List KeywordArgument) (p : Parameter) (ps : List Parameter) (b c : Bool) (vs ws ds : List Value) (x : Name × BoundArgument) (xs : List (Name × BoundArgument)) (f : ParameterForm) → parameter p ≡ f → gets_some (parameter p) ≡ true → ((ys : List (Name × BoundArgument)) → Places p ps xs ys → Moves p ps b c vs ws ds ds xs ys) → Rule ns left ps
    → Opens ns left ps (prog c ws ds) x xs → (slice_get xs 0 ≡ Some x → From ns left b (p ∷ ps) vs ds 0 f (slice_get xs 0)) → Each ns left b (p ∷ ps) vs ds xs
unfolding Rule Opens
by_rest ns left p ps b c vs ws ds x xs f e g m r o first =
    joined ns left p ps b c vs ws ds ds xs (o.0) f e (m (o.0) (subst (λ xs. Places p ps xs (o.0)) (sym (o.2)) (more_shares p ps x (o.0) g)))
    (first (ap (λ xs. slice_get xs 0) (o.2)))
    (r c ws ds (o.0) (o.1))

one : (ns left : List KeywordArgument) (p : Parameter) (ps : List Parameter) (b : Bool) (vs ds : List Value) (xs : List (Name × BoundArgument)) → Rule ns left ps → (f : ParameterForm) → parameter p ≡ f → After ns left ps (step ns left (prog b vs ds) f) ≡ Some xs → Each ns left b (p ∷ ps) vs ds xs
unfolding prog From Rule names_at defaults_at
one ns left p ps false (v ∷ vs) ds xs r (tree.Plain n) e h =
    positional ns left p ps v vs ds ds n None xs (tree.Plain n) e (ap keyword_of e) (ap is_star e) (ap takes_rest e) (ap gets_some e) (same_defaults p ps ds (ap has_default e)) r
    (given_opens ns left ps n v (prog false vs ds) (is_given n.text ns) xs h) (λ q. q)
one ns left p ps false [] ds xs r (tree.Plain n) e h =
    let o = shared_opens ns left ps n (prog false [] ds) (else_default (value_named n.text ns) None) xs h in
    by_name ns left p ps false [] ds ds n None (o.0) xs (tree.Plain n) e (ap gets_some e) (empty_out false (p ∷ ps) 0) (o.1) (λ ys l. moves_empty p ps ds ds xs ys (ap is_star e) (same_defaults p ps ds (ap has_default e)) l) r (o.2) (λ q. q)
one ns left p ps true vs ds xs r (tree.Plain n) e h =
    let o = shared_opens ns left ps n (prog true vs ds) (else_default (value_named n.text ns) None) xs h in
    by_name ns left p ps true vs ds ds n None (o.0) xs (tree.Plain n) e (ap gets_some e) (closed_out (p ∷ ps) vs 0) (o.1) (λ ys l. moves_closed p ps vs ds ds xs ys (ap takes_rest e) (same_defaults p ps ds (ap has_default e)) l) r (o.2) (λ q. q)
one ns left p ps false (v ∷ vs) ds xs r (tree.Default n x) e h =
    positional ns left p ps v vs ds (rest_of_row ds) n (slice_get ds 0) xs (tree.Default n x) e (ap keyword_of e) (ap is_star e) (ap takes_rest e) (ap gets_some e) (fewer_defaults p ps ds (ap has_default e)) r
    (given_opens ns left ps n v (prog false vs (rest_of_row ds)) (is_given n.text ns) xs h) (λ q. q)
one ns left p ps false [] ds xs r (tree.Default n x) e h =
    let o = shared_opens ns left ps n (prog false [] (rest_of_row ds)) (else_default (value_named n.text ns) (first_of_row ds)) xs h in
    by_name ns left p ps false [] ds (rest_of_row ds) n (slice_get ds 0) (o.0) xs (tree.Default n x) e (ap gets_some e) (empty_out false (p ∷ ps) 0) (ap (λ d. else_default (value_named n.text ns) d) (sym (first_default ds)) ∙ o.1) (λ ys l. moves_empty p ps ds (rest_of_row ds) xs ys (ap is_star e) (fewer_defaults p ps ds (ap has_default e)) l) r (o.2) (λ q. q)
one ns left p ps true vs ds xs r (tree.Default n x) e h =
    let o = shared_opens ns left ps n (prog true vs (rest_of_row ds)) (else_default (value_named n.text ns) (first_of_row ds)) xs h in
    by_name ns left p ps true vs ds (rest_of_row ds) n (slice_get ds 0) (o.0) xs (tree.Default n x) e (ap gets_some e) (closed_out (p ∷ ps) vs 0) (ap (λ d. else_default (value_named n.text ns) d) (sym (first_default ds)) ∙ o.1) (λ ys l. moves_closed p ps vs ds (rest_of_row ds) xs ys (ap takes_rest e) (fewer_defaults p ps ds (ap has_default e)) l) r (o.2) (λ q. q)
one ns left p ps b vs ds xs r (tree.Parameter-F.Parameter::Star n) e h =
    by_rest ns left p ps b true vs [] ds (n, Rest vs) xs (tree.Parameter-F.Parameter::Star n) e (ap gets_some e) (λ ys l. moves_star p ps b vs ds ds xs ys (ap is_star e) (ap takes_rest e) (same_defaults p ps ds (ap has_default e)) l) r
    (some_opens ns left ps (n, Rest vs) (prog true [] ds) xs h) (λ q k. q)
one ns left p ps false vs ds xs r tree.BareStar e h =
    joined ns left p ps false true vs vs ds ds xs xs tree.BareStar e (moves_bare p ps vs ds ds xs xs (ap is_star e) (ap takes_rest e) (same_defaults p ps ds (ap has_default e)) (same_shares p ps xs (ap gets_some e))) tt
    (r true vs ds xs (none_opens ns left ps (prog true vs ds) xs h))
one ns left p ps true vs ds xs r tree.BareStar e h =
    joined ns left p ps true true vs vs ds ds xs xs tree.BareStar e (moves_closed p ps vs ds ds xs xs (ap takes_rest e) (same_defaults p ps ds (ap has_default e)) (same_shares p ps xs (ap gets_some e))) tt
    (r true vs ds xs (none_opens ns left ps (prog true vs ds) xs h))
one ns left p ps false vs ds xs r (tree.Parameter-F.Parameter::StarStar n) e h =
    by_rest ns left p ps false false vs vs ds (n, Names left) xs (tree.Parameter-F.Parameter::StarStar n) e (ap gets_some e) (λ ys l. moves_past p ps vs ds ds xs ys (ap keyword_of e) (ap is_star e) (ap takes_rest e) (same_defaults p ps ds (ap has_default e)) l) r
    (some_opens ns left ps (n, Names left) (prog false vs ds) xs h) (λ q. q)
one ns left p ps true vs ds xs r (tree.Parameter-F.Parameter::StarStar n) e h =
    by_rest ns left p ps true true vs vs ds (n, Names left) xs (tree.Parameter-F.Parameter::StarStar n) e (ap gets_some e) (λ ys l. moves_closed p ps vs ds ds xs ys (ap takes_rest e) (same_defaults p ps ds (ap has_default e)) l) r
    (some_opens ns left ps (n, Names left) (prog true vs ds) xs h) (λ q. q)

all_get : (ns left : List KeywordArgument) (ps : List Parameter) (b : Bool) (vs ds : List Value) (xs : List (Name × BoundArgument)) → shares ns left ps (prog b vs ds) ≡ Some xs → Each ns left b ps vs ds xs
unfolding Rule Each
all_get ns left [] b vs ds xs h i f e = absurd cc
all_get ns left (p ∷ ps) b vs ds xs h i f e = one ns left p ps b vs ds xs (λ c ws es ys k. all_get ns left ps c ws es ys k) (parameter p) refl (sym (by_form ns left p ps (prog b vs ds) (parameter p) refl) ∙ h) i f e

kept : (c : Bool) (o : Option (List (Name × BoundArgument))) (xs : List (Name × BoundArgument)) → (if c then o else None) ≡ Some xs → o ≡ Some xs
kept true o xs h = h
kept false o xs h = absurd cc

bound_shares : (ps : List Parameter) (ds : List Value) (g : Arguments) (xs : List (Name × BoundArgument)) → bound_to ps ds g ≡ Some xs → shares g.named (extra_keywords ps g.named) ps (prog false g.positional ds) ≡ Some xs
unfolding bound_to prog
bound_shares ps ds g xs h = kept (nat_eq (length (extra_keywords ps g.named)) 0 || list_any (λ p. takes_names (parameter p)) ps) (shares g.named (extra_keywords ps g.named) ps (record { by_name = false; positional = g.positional; defaults = ds })) xs h

whole : (ps : List Parameter) (ds : List Value) (g : Arguments) (i : ℕ) (f : ParameterForm) (x : Option (Name × BoundArgument)) → From g.named (extra_keywords ps g.named) false ps g.positional ds i f x → Gets ps ds g i f x
unfolding From OneFrom Placed open_of names_at defaults_at
whole ps ds g i (tree.Plain n) x r = r
whole ps ds g i (tree.Default n e) x r = r
whole ps ds g i (tree.Parameter-F.Parameter::Star n) x r = r
whole ps ds g i tree.BareStar x r = tt
whole ps ds g i (tree.Parameter-F.Parameter::StarStar n) x r = r

-- one share for each parameter but a bare `*`

share_front : (n : Name) (q : BindingState) (o : Option Value) (r : List (Name × BoundArgument) × BindingState) → shared n q o ≡ Some r → length r.0 ≡ 1
share_front n q (Some v) r h = let e : ((n, One v) ∷ [], q) ≡ r = cc in ap (λ (r : List (Name × BoundArgument) × BindingState). length r.0) (sym e)
share_front n q None r h = absurd cc

given_front : (n : Name) (v : Value) (q : BindingState) (b : Bool) (r : List (Name × BoundArgument) × BindingState) → (if b then None else Some ((n, One v) ∷ [], q)) ≡ Some r → length r.0 ≡ 1
given_front n v q true r h = absurd cc
given_front n v q false r h = let e : ((n, One v) ∷ [], q) ≡ r = cc in ap (λ (r : List (Name × BoundArgument) × BindingState). length r.0) (sym e)

named_front : (n : Name) (ns : List KeywordArgument) (d : Option Value) (b : Bool) (vs ds : List Value) (r : List (Name × BoundArgument) × BindingState) → argument_by n ns d (prog b vs ds) ≡ Some r → length r.0 ≡ 1
unfolding prog
named_front n ns d true vs ds r h = share_front n (prog true vs ds) (else_default (value_named n.text ns) d) r h
named_front n ns d false [] ds r h = share_front n (prog false [] ds) (else_default (value_named n.text ns) d) r h
named_front n ns d false (v ∷ vs) ds r h = given_front n v (prog false vs ds) (is_given n.text ns) r h

one_or_none : Bool → ℕ
one_or_none b = if b then 1 else 0

step_front : (ns left : List KeywordArgument) (b : Bool) (vs ds : List Value) (f : ParameterForm) (r : List (Name × BoundArgument) × BindingState) → step ns left (prog b vs ds) f ≡ Some r → length r.0 ≡ one_or_none (gets_some f)
unfolding prog one_or_none
step_front ns left b vs ds (tree.Plain n) r h = named_front n ns None b vs ds r h
step_front ns left b vs ds (tree.Default n x) r h = named_front n ns (first_of_row ds) b vs (rest_of_row ds) r h
step_front ns left b vs ds (tree.Parameter-F.Parameter::Star n) r h = let e : ((n, Rest vs) ∷ [], prog true [] ds) ≡ r = cc in ap (λ (r : List (Name × BoundArgument) × BindingState). length r.0) (sym e)
step_front ns left b vs ds tree.BareStar r h = let e : ([], prog true vs ds) ≡ r = cc in ap (λ (r : List (Name × BoundArgument) × BindingState). length r.0) (sym e)
step_front ns left b vs ds (tree.Parameter-F.Parameter::StarStar n) r h = let e : ((n, Names left) ∷ [], prog b vs ds) ≡ r = cc in ap (λ (r : List (Name × BoundArgument) × BindingState). length r.0) (sym e)

also_length : (front xs : List (Name × BoundArgument)) (o : Option (List (Name × BoundArgument))) (k : ℕ) → ((ys : List (Name × BoundArgument)) → o ≡ Some ys → length ys ≡ k) → also front o ≡ Some xs → length xs ≡ length front + k
also_length front xs (Some ys) k h e = let s : front ++ ys ≡ xs = cc in omega (arith, ap (λ (l : List (Name × BoundArgument)). length l) (sym s), length-append front ys, h ys refl)
also_length front xs None k h e = absurd cc

getters : List Parameter → ℕ
getters ps = length (filter (λ p. gets_some (parameter p)) ps)

more_getters : (p : Parameter) (ps : List Parameter) (b : Bool) → gets_some (parameter p) ≡ b → getters (p ∷ ps) ≡ one_or_none b + getters ps
unfolding getters one_or_none
more_getters p ps true e = ap (λ b. length (cond b (p ∷ filter (λ p. gets_some (parameter p)) ps) (filter (λ p. gets_some (parameter p)) ps))) e ∙ (let w : suc (length (filter (λ p. gets_some (parameter p)) ps)) ≡ 1 + length (filter (λ p. gets_some (parameter p)) ps) = omega arith in w)
more_getters p ps false e = ap (λ b. length (cond b (p ∷ filter (λ p. gets_some (parameter p)) ps) (filter (λ p. gets_some (parameter p)) ps))) e ∙ (let w : length (filter (λ p. gets_some (parameter p)) ps) ≡ 0 + length (filter (λ p. gets_some (parameter p)) ps) = omega arith in w)

counted : (ns left : List KeywordArgument) (p : Parameter) (ps : List Parameter) (b : Bool) (vs ds : List Value) (xs : List (Name × BoundArgument)) → ((q : BindingState) (ys : List (Name × BoundArgument)) → shares ns left ps q ≡ Some ys → length ys ≡ getters ps) → (o : Option (List (Name × BoundArgument) × BindingState)) → step ns left (prog b vs ds) (parameter p) ≡ o → After ns left ps o ≡ Some xs → length xs ≡ getters (p ∷ ps)
unfolding After
counted ns left p ps b vs ds xs r (Some (front, q)) e h = omega (arith, also_length front xs (shares ns left ps q) (getters ps) (λ ys k. r q ys k) h, step_front ns left b vs ds (parameter p) (front, q) e, more_getters p ps (gets_some (parameter p)) refl)
counted ns left p ps b vs ds xs r None e h = absurd cc

none_counted : (b : Bool) (xs : List (Name × BoundArgument)) → (if b then Some [] else None) ≡ Some xs → length xs ≡ 0
none_counted true xs h = let e : [] ≡ xs = cc in ap (λ (l : List (Name × BoundArgument)). length l) (sym e)
none_counted false xs h = absurd cc

as_many : (ns left : List KeywordArgument) (ps : List Parameter) (q : BindingState) (xs : List (Name × BoundArgument)) → shares ns left ps q ≡ Some xs → length xs ≡ getters ps
unfolding prog getters
as_many ns left [] q xs h = none_counted (nat_eq (length q.positional) 0) xs h
as_many ns left (p ∷ ps) q xs h = counted ns left p ps q.by_name q.positional q.defaults xs (λ q ys k. as_many ns left ps q ys k) (step ns left q (parameter p)) refl (sym (by_form ns left p ps q (parameter p) refl) ∙ h)

pub bound_as_given : (ps : List Parameter) (defaults : List Value) (g : Arguments) (xs : List (Name × BoundArgument)) → bound_to ps defaults g ≡ Some xs
    → (length xs ≡ length (filter (λ p. gets_some (parameter p)) ps)) × ((i : ℕ) (f : ParameterForm) → parameter_at ps i ≡ Some f → Gets ps defaults g i f (slice_get xs (place_at ps i)))
unfolding Each getters
bound_as_given ps defaults g xs h =
    let k = bound_shares ps defaults g xs h in
    (as_many g.named (extra_keywords ps g.named) ps (prog false g.positional defaults) xs k, (λ i f e. whole ps defaults g i f (slice_get xs (place_at ps i)) (all_get g.named (extra_keywords ps g.named) ps false g.positional defaults xs k i f e)))
