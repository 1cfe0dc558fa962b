-- Calls: when the arguments of a call fit the parameters of a function.
use Rattle.std.proofs.Common.{◌≡◌, ◌≢◌, ◌⊎◌, ◌↔◌, inl, inr, ℕ, zero, suc, ◌+◌, ◌<◌, ◌≤◌, nat_eq, Bool, true, false, not, ◌&&◌, ◌||◌, List, [], ◌∷◌, length, take, slice_get, Option, Some, None, is_some, if◌then◌else◌, cond, refl, ap, sym, ◌∙◌, arith}
use Rattle.std.specs.List.{list_any, filter, find}
use Rattle.std.specs.Option.{option_map, option_and_then}
use Rattle.std.proofs.lemmas.Bool.{eq-eqb, eqb-true}
use Rattle.std.proofs.lemmas.Slice.Eq.{bytes_eq-Decides}
use Rattle.star_store.specs.declared.values.Value.{Value}
use Rattle.star_tree.specs.declared.tree.Name.{Name}
use Rattle.star_tree.specs.declared.tree.Parameter.{Parameter}
use Rattle.star_tree.specs.declared.tree.Argument.TheOpen as tree
use Rattle.star_outline.specs.Syntax.{ParameterForm, parameter}
use Rattle.star_outline.specs.Names.{same_name}
use Rattle.star_meaning.specs.declared.given.Arguments.{Arguments}
use Rattle.star_meaning.specs.declared.given.KeywordArgument.{KeywordArgument}
use Rattle.star_meaning.specs.Arguments.{is_given}
use Rattle.star_meaning.specs.Binding.{Names, One, BindingState, Rest, BoundArgument, also, before_names, bound_to, else_default, first_of_row, is_extra, keyword_of, keywords_of, rest_of_row, shared, shares, step, takes_names, extra_keywords, value_named}
use Rattle.star_laws.specs.Calls.{Fits, before_star, has_default, is_star, named_at, parameter_at, takes_rest}

-- tests

both : (a b : Bool) → (a && b) ≡ true → (a ≡ true) × (b ≡ true)
both true b h = (refl, h)
both false b h = absurd cc

and_both : (a b : Bool) → a ≡ true → b ≡ true → (a && b) ≡ true
and_both true b h k = k
and_both false b h k = h

or_right : (a b : Bool) → b ≡ true → (a || b) ≡ true
or_right true b h = refl
or_right false b h = h

or_left : (a b : Bool) → a ≡ true → (a || b) ≡ true
or_left true b h = refl
or_left false b h = absurd cc

or_rest : (a b : Bool) → (a || b) ≡ true → a ≡ false → b ≡ true
or_rest true b h k = absurd cc
or_rest false b h k = h

or_false : (a : Bool) → (a || false) ≡ a
or_false true = refl
or_false false = refl

-- the parameters that may still get a positional argument: none after a star

unfoldable pub open_of : Bool → List Parameter → List Parameter
open_of true ps = []
open_of false ps = before_star ps

unfoldable pub Placed : Bool → List Parameter → List Value → ℕ → Type 0
Placed b ps vs i = (i < length (open_of b ps)) × (length (keywords_of (take i ps)) < length vs)

unfoldable pub Room : Bool → List Parameter → List Value → Type 0
Room b ps vs = (length vs ≤ length (keywords_of (open_of b ps))) ⊎ (list_any (λ p. takes_rest (parameter p)) ps ≡ true)

-- as `Fits`, from some parameter on
record FitsFrom (ns : List KeywordArgument) (b : Bool) (ps : List Parameter) (vs : List Value) : Type 0 where
  needed : (i : ℕ) (n : Name) → parameter_at ps i ≡ Some (tree.Plain n) → Placed b ps vs i ⊎ (is_given n.text ns ≡ true)
  once : (i : ℕ) (name : List ℕ) → named_at ps i ≡ Some name → Placed b ps vs i → is_given name ns ≡ false
  room : Room b ps vs

-- `FitsFrom`, for the first parameter
record Head (ns : List KeywordArgument) (b : Bool) (p : Parameter) (ps : List Parameter) (vs : List Value) : Type 0 where
  needed : (n : Name) → parameter p ≡ tree.Plain n → Placed b (p ∷ ps) vs 0 ⊎ (is_given n.text ns ≡ true)
  once : (name : List ℕ) → keyword_of (parameter p) ≡ Some name → Placed b (p ∷ ps) vs 0 → is_given name ns ≡ false

-- a step from the first parameter to those after it, and to the arguments left for them
pub record Goes (p : Parameter) (ps : List Parameter) (b c : Bool) (vs ws : List Value) : Type 0 where
  pub down : (i : ℕ) → Placed b (p ∷ ps) vs (suc i) → Placed c ps ws i
  pub up : (i : ℕ) → Placed c ps ws i → Placed b (p ∷ ps) vs (suc i)
  pub lower : Room b (p ∷ ps) vs → Room c ps ws
  pub higher : Room c ps ws → Room b (p ∷ ps) vs

cons : (ns : List KeywordArgument) (p : Parameter) (ps : List Parameter) (b c : Bool) (vs ws : List Value) → Goes p ps b c vs ws → Head ns b p ps vs → FitsFrom ns c ps ws → FitsFrom ns b (p ∷ ps) vs
cons ns p ps b c vs ws g h r = record { needed = needed; once = once; room = g.higher r.room }
  where
    needed : (i : ℕ) (n : Name) → parameter_at (p ∷ ps) i ≡ Some (tree.Plain n) → Placed b (p ∷ ps) vs i ⊎ (is_given n.text ns ≡ true)
    needed zero n e = h.needed n cc
    needed (suc i) n e = by (r.needed i n e)
      where
        by : Placed c ps ws i ⊎ (is_given n.text ns ≡ true) → Placed b (p ∷ ps) vs (suc i) ⊎ (is_given n.text ns ≡ true)
        by (inl q) = inl (g.up i q)
        by (inr q) = inr q

    once : (i : ℕ) (name : List ℕ) → named_at (p ∷ ps) i ≡ Some name → Placed b (p ∷ ps) vs i → is_given name ns ≡ false
    once zero name e q = h.once name e q
    once (suc i) name e q = r.once i name e (g.down i q)

head_of : (ns : List KeywordArgument) (p : Parameter) (ps : List Parameter) (b : Bool) (vs : List Value) → FitsFrom ns b (p ∷ ps) vs → Head ns b p ps vs
head_of ns p ps b vs r = record { needed = λ n e. r.needed 0 n (ap Some e); once = λ name e q. r.once 0 name e q }

tail_of : (ns : List KeywordArgument) (p : Parameter) (ps : List Parameter) (b c : Bool) (vs ws : List Value) → Goes p ps b c vs ws → FitsFrom ns b (p ∷ ps) vs → FitsFrom ns c ps ws
tail_of ns p ps b c vs ws g r = record { needed = λ i n e. by i n (r.needed (suc i) n e); once = λ i name e q. r.once (suc i) name e (g.up i q); room = g.lower r.room }
  where
    by : (i : ℕ) (n : Name) → Placed b (p ∷ ps) vs (suc i) ⊎ (is_given n.text ns ≡ true) → Placed c ps ws i ⊎ (is_given n.text ns ≡ true)
    by i n (inl q) = inl (g.down i q)
    by i n (inr q) = inr q

-- how it goes on

pub no_star : (p : Parameter) (ps : List Parameter) → is_star (parameter p) ≡ false → before_star (p ∷ ps) ≡ p ∷ before_star ps
no_star p ps h = ap (λ b. if b then [] else p ∷ before_star ps) h

star : (p : Parameter) (ps : List Parameter) → is_star (parameter p) ≡ true → before_star (p ∷ ps) ≡ []
star p ps h = ap (λ b. if b then [] else p ∷ before_star ps) h

-- the room for the arguments that are left, past a parameter that takes no rest

left_room : {A B : Type 0} (p : Parameter) (ps : List Parameter) → takes_rest (parameter p) ≡ false → (A → B) → A ⊎ (list_any (λ p. takes_rest (parameter p)) (p ∷ ps) ≡ true) → B ⊎ (list_any (λ p. takes_rest (parameter p)) ps ≡ true)
left_room p ps t f (inl q) = inl (f q)
left_room p ps t f (inr q) = inr (or_rest (takes_rest (parameter p)) (list_any (λ p. takes_rest (parameter p)) ps) q t)

more_room : {A B : Type 0} (p : Parameter) (ps : List Parameter) → (A → B) → A ⊎ (list_any (λ p. takes_rest (parameter p)) ps ≡ true) → B ⊎ (list_any (λ p. takes_rest (parameter p)) (p ∷ ps) ≡ true)
more_room p ps f (inl q) = inl (f q)
more_room p ps f (inr q) = inr (or_right (takes_rest (parameter p)) (list_any (λ p. takes_rest (parameter p)) ps) q)

-- past a parameter that is not a star and takes no rest, and that has as many names as arguments go to it
goes_along : (p : Parameter) (ps : List Parameter) (vs ws : List Value) (k : ℕ) → length vs ≡ k + length ws → ((xs : List (List ℕ)) → length (before_names (keyword_of (parameter p)) xs) ≡ k + length xs) → is_star (parameter p) ≡ false → takes_rest (parameter p) ≡ false → Goes p ps false false vs ws
unfolding Placed Room open_of
goes_along p ps vs ws k e named h t = record {
  down = λ i q. (omega (arith, a, q.0), omega (arith, c i, e, q.1));
  up = λ i q. (omega (arith, a, q.0), omega (arith, c i, e, q.1));
  lower = left_room p ps t (λ q. omega (arith, d, e));
  higher = more_room p ps (λ q. omega (arith, d, e));
}
  where
    a : length (before_star (p ∷ ps)) ≡ suc (length (before_star ps))
    a = ap (λ (xs : List Parameter). length xs) (no_star p ps h)

    c : (i : ℕ) → length (keywords_of (take (suc i) (p ∷ ps))) ≡ k + length (keywords_of (take i ps))
    c i = named (keywords_of (take i ps))

    d : length (keywords_of (before_star (p ∷ ps))) ≡ k + length (keywords_of (before_star ps))
    d = ap (λ xs. length (keywords_of xs)) (no_star p ps h) ∙ named (keywords_of (before_star ps))

pub goes_taken : (p : Parameter) (ps : List Parameter) (v : Value) (vs : List Value) (name : List ℕ) → keyword_of (parameter p) ≡ Some name → is_star (parameter p) ≡ false → takes_rest (parameter p) ≡ false → Goes p ps false false (v ∷ vs) vs
goes_taken p ps v vs name k h t = goes_along p ps (v ∷ vs) vs 1 (omega arith) (λ xs. let one : length (before_names (keyword_of (parameter p)) xs) ≡ suc (length xs) = ap (λ o. length (before_names o xs)) k in omega (arith, one)) h t

pub goes_empty : (p : Parameter) (ps : List Parameter) (b : Bool) → Goes p ps b b [] []
unfolding Placed Room
goes_empty p ps b = record {
  down = λ i q. absurd (omega (arith, q.1));
  up = λ i q. absurd (omega (arith, q.1));
  lower = λ q. inl (omega arith);
  higher = λ q. inl (omega arith);
}

pub goes_closed : (p : Parameter) (ps : List Parameter) (vs : List Value) → takes_rest (parameter p) ≡ false → Goes p ps true true vs vs
unfolding Placed Room open_of
goes_closed p ps vs t = record {
  down = λ i q. absurd (omega (arith, q.0));
  up = λ i q. absurd (omega (arith, q.0));
  lower = left_room p ps t (λ q. q);
  higher = more_room p ps (λ q. q);
}

pub none_open : (b : Bool) (p : Parameter) (ps : List Parameter) → is_star (parameter p) ≡ true → length (open_of b (p ∷ ps)) ≡ 0
unfolding open_of
none_open true p ps h = refl
none_open false p ps h = ap (λ (xs : List Parameter). length xs) (star p ps h)

pub goes_star : (p : Parameter) (ps : List Parameter) (b : Bool) (vs : List Value) → is_star (parameter p) ≡ true → takes_rest (parameter p) ≡ true → Goes p ps b true vs []
unfolding Placed Room
goes_star p ps b vs h t = record {
  down = λ i q. absurd (omega (arith, none_open b p ps h, q.0));
  up = λ i q. absurd (omega (arith, q.1));
  lower = λ q. inl (omega arith);
  higher = λ q. inr (or_left (takes_rest (parameter p)) (list_any (λ p. takes_rest (parameter p)) ps) t);
}

pub goes_bare : (p : Parameter) (ps : List Parameter) (vs : List Value) → is_star (parameter p) ≡ true → takes_rest (parameter p) ≡ false → Goes p ps false true vs vs
unfolding Placed Room open_of
goes_bare p ps vs h t = record {
  down = λ i q. absurd (omega (arith, none_open false p ps h, q.0));
  up = λ i q. absurd (omega (arith, q.0));
  lower = left_room p ps t (λ q. omega (arith, d));
  higher = more_room p ps (λ q. omega (arith, d));
}
  where
    d : length (keywords_of (before_star (p ∷ ps))) ≡ 0
    d = ap (λ xs. length (keywords_of xs)) (star p ps h)

pub goes_past : (p : Parameter) (ps : List Parameter) (vs : List Value) → keyword_of (parameter p) ≡ None → is_star (parameter p) ≡ false → takes_rest (parameter p) ≡ false → Goes p ps false false vs vs
goes_past p ps vs k h t = goes_along p ps vs vs 0 (omega arith) (λ xs. let none : length (before_names (keyword_of (parameter p)) xs) ≡ length xs = ap (λ o. length (before_names o xs)) k in omega (arith, none)) h t

-- one parameter's share

unfoldable pub prog : Bool → List Value → List Value → BindingState
prog b vs ds = record { by_name = b; positional = vs; defaults = ds }

also_some : (xs : List (Name × BoundArgument)) (o : Option (List (Name × BoundArgument))) → is_some (also xs o) ≡ is_some o
also_some xs (Some ys) = refl
also_some xs None = refl

-- the shares after a step
unfoldable pub After : List KeywordArgument → List KeywordArgument → List Parameter → Option (List (Name × BoundArgument) × BindingState) → Option (List (Name × BoundArgument))
After ns left ps o = option_and_then (λ r. also r.0 (shares ns left ps r.1)) o

pub by_form : (ns left : List KeywordArgument) (p : Parameter) (ps : List Parameter) (q : BindingState) (f : ParameterForm) → parameter p ≡ f → shares ns left (p ∷ ps) q ≡ After ns left ps (step ns left q f)
unfolding After
by_form ns left p ps q f e = ap (λ f. After ns left ps (step ns left q f)) e

after_some : (ns left : List KeywordArgument) (ps : List Parameter) (xs : List (Name × BoundArgument)) (q : BindingState) → is_some (After ns left ps (Some (xs, q))) ≡ is_some (shares ns left ps q)
unfolding After
after_some ns left ps xs q = also_some xs (shares ns left ps q)

after_shared : (ns left : List KeywordArgument) (ps : List Parameter) (n : Name) (q : BindingState) (o : Option Value) → is_some (After ns left ps (shared n q o)) ≡ (is_some o && is_some (shares ns left ps q))
unfolding After
after_shared ns left ps n q (Some v) = also_some ((n, One v) ∷ []) (shares ns left ps q)
after_shared ns left ps n q None = refl

after_given : (ns left : List KeywordArgument) (ps : List Parameter) (n : Name) (v : Value) (q : BindingState) (b : Bool) → is_some (After ns left ps (if b then None else Some ((n, One v) ∷ [], q))) ≡ (not b && is_some (shares ns left ps q))
unfolding After
after_given ns left ps n v q true = refl
after_given ns left ps n v q false = also_some ((n, One v) ∷ []) (shares ns left ps q)

found_any : (name : List ℕ) (n : KeywordArgument) (ns : List KeywordArgument) (b : Bool) → is_some (option_map (λ (m : KeywordArgument). m.value) (find (λ m. same_name m.name name) ns)) ≡ is_given name ns → is_some (option_map (λ (m : KeywordArgument). m.value) (cond b (Some n) (find (λ m. same_name m.name name) ns))) ≡ (b || is_given name ns)
found_any name n ns true h = refl
found_any name n ns false h = h

named_is_given : (name : List ℕ) (ns : List KeywordArgument) → is_some (value_named name ns) ≡ is_given name ns
named_is_given name [] = refl
named_is_given name (n ∷ ns) = found_any name n ns (same_name n.name name) (named_is_given name ns)

given_alone : (o : Option Value) → is_some (else_default o None) ≡ is_some o
given_alone (Some v) = refl
given_alone None = refl

given_or : (o d : Option Value) → is_some d ≡ true → is_some (else_default o d) ≡ true
given_or (Some v) d h = refl
given_or None d h = h

-- arguments are bound exactly if they fit

Suits : List KeywordArgument → List KeywordArgument → List Parameter → Bool → List Value → List Value → Type 0
Suits ns left ps b vs ds = (is_some (shares ns left ps (prog b vs ds)) ≡ true) ↔ FitsFrom ns b ps vs

next : (ns left : List KeywordArgument) (p : Parameter) (ps : List Parameter) (b c : Bool) (vs ws ds es : List Value) (head : Bool) → Goes p ps b c vs ws
    → is_some (shares ns left (p ∷ ps) (prog b vs ds)) ≡ (head && is_some (shares ns left ps (prog c ws es))) → (head ≡ true → Head ns b p ps vs) → (Head ns b p ps vs → head ≡ true) → Suits ns left ps c ws es → Suits ns left (p ∷ ps) b vs ds
unfolding Suits
next ns left p ps b c vs ws ds es head g e to from r = (
  (λ h. let w : (head ≡ true) × (is_some (shares ns left ps (prog c ws es)) ≡ true) = both head (is_some (shares ns left ps (prog c ws es))) (sym e ∙ h) in cons ns p ps b c vs ws g (to (w.0)) (r.0 (w.1))),
  (λ f. e ∙ and_both head (is_some (shares ns left ps (prog c ws es))) (from (head_of ns p ps b vs f)) (r.1 (tail_of ns p ps b c vs ws g f))),
)

-- a parameter that has no name, or does not need one
free_head : (ns : List KeywordArgument) (p : Parameter) (ps : List Parameter) (b : Bool) (vs : List Value) → ((n : Name) → parameter p ≢ tree.Plain n) → ((name : List ℕ) → keyword_of (parameter p) ≡ Some name → Placed b (p ∷ ps) vs 0 → ⊥) → Head ns b p ps vs
free_head ns p ps b vs h k = record { needed = λ n e. absurd (h n e); once = λ name e q. absurd (k name e q) }

not_true : (b : Bool) → b ≡ false → not b ≡ true
not_true b h = ap not h

true_not : (b : Bool) → not b ≡ true → b ≡ false
true_not true h = absurd cc
true_not false h = refl

-- a parameter that takes the next positional argument
taken_head : (ns : List KeywordArgument) (p : Parameter) (ps : List Parameter) (v : Value) (vs : List Value) (name : List ℕ) → keyword_of (parameter p) ≡ Some name → is_star (parameter p) ≡ false → (not (is_given name ns) ≡ true → Head ns false p ps (v ∷ vs)) × (Head ns false p ps (v ∷ vs) → not (is_given name ns) ≡ true)
unfolding Placed open_of
taken_head ns p ps v vs name k h = (there, (λ r. not_true (is_given name ns) (r.once name k at)))
  where
    a : length (before_star (p ∷ ps)) ≡ suc (length (before_star ps))
    a = ap (λ (xs : List Parameter). length xs) (no_star p ps h)

    at : (0 < length (before_star (p ∷ ps))) × (length (keywords_of (take 0 (p ∷ ps))) < length (v ∷ vs))
    at = (omega (arith, a), omega arith)

    there : not (is_given name ns) ≡ true → Head ns false p ps (v ∷ vs)
    there q = record { needed = λ n e. inl at; once = λ m e r. let s : name ≡ m = cc in ap (λ m. is_given m ns) (sym s) ∙ true_not (is_given name ns) q }

-- a parameter without a default, when no positional argument is left for it
plain_head : (ns : List KeywordArgument) (p : Parameter) (ps : List Parameter) (b : Bool) (vs : List Value) (n : Name) → parameter p ≡ tree.Plain n → (Placed b (p ∷ ps) vs 0 → ⊥) → (is_given n.text ns ≡ true → Head ns b p ps vs) × (Head ns b p ps vs → is_given n.text ns ≡ true)
plain_head ns p ps b vs n e k = (there, (λ r. by (r.needed n e)))
  where
    there : is_given n.text ns ≡ true → Head ns b p ps vs
    there q = record { needed = λ m f. let s : n ≡ m = cc in inr (ap (λ (m : Name). is_given m.text ns) (sym s) ∙ q); once = λ m f r. absurd (k r) }

    by : Placed b (p ∷ ps) vs 0 ⊎ (is_given n.text ns ≡ true) → is_given n.text ns ≡ true
    by (inl q) = absurd (k q)
    by (inr q) = q

pub closed_out : (ps : List Parameter) (vs : List Value) (i : ℕ) → Placed true ps vs i → ⊥
unfolding Placed open_of
closed_out ps vs i q = omega (arith, q.0)

pub empty_out : (b : Bool) (ps : List Parameter) (i : ℕ) → Placed b ps [] i → ⊥
unfolding Placed
empty_out b ps i q = omega (arith, q.1)

first_there : (ds : List Value) → 0 < length ds → is_some (first_of_row ds) ≡ true
first_there [] h = absurd (omega arith)
first_there (d ∷ ds) h = refl

rest_length : (ds : List Value) → length ds ≤ suc (length (rest_of_row ds))
rest_length [] = omega arith
rest_length (d ∷ ds) = omega arith

Enough : List Parameter → List Value → Type 0
Enough ps ds = length (filter (λ p. has_default (parameter p)) ps) ≤ length ds

fewer : (p : Parameter) (ps : List Parameter) (ds : List Value) → has_default (parameter p) ≡ false → Enough (p ∷ ps) ds → Enough ps ds
unfolding Enough
fewer p ps ds e h = let w : length (filter (λ p. has_default (parameter p)) (p ∷ ps)) ≡ length (filter (λ p. has_default (parameter p)) ps) = ap (λ b. length (cond b (p ∷ filter (λ p. has_default (parameter p)) ps) (filter (λ p. has_default (parameter p)) ps))) e in omega (arith, w)

one_fewer : (p : Parameter) (ps : List Parameter) (ds : List Value) → has_default (parameter p) ≡ true → Enough (p ∷ ps) ds → (0 < length ds) × Enough ps (rest_of_row ds)
unfolding Enough
one_fewer p ps ds e h = let w : length (filter (λ p. has_default (parameter p)) (p ∷ ps)) ≡ suc (length (filter (λ p. has_default (parameter p)) ps)) = ap (λ b. length (cond b (p ∷ filter (λ p. has_default (parameter p)) ps) (filter (λ p. has_default (parameter p)) ps))) e in (omega (arith, w), omega (arith, w, rest_length ds))

none_named : (b : Bool) → length (keywords_of (open_of b [])) ≡ 0
unfolding open_of
none_named true = refl
none_named false = refl

some_if : Bool → Option (List (Name × BoundArgument))
some_if b = if b then Some [] else None

ended_there : (ns left : List KeywordArgument) (b : Bool) (vs ds : List Value) → is_some (shares ns left [] (prog b vs ds)) ≡ true → length vs ≡ 0
unfolding prog some_if
ended_there ns left b vs ds h = by (nat_eq (length vs) 0) refl h
  where
    by : (c : Bool) → nat_eq (length vs) 0 ≡ c → is_some (some_if c) ≡ true → length vs ≡ 0
    by true f k = eqb-true (length vs) 0 f
    by false f k = absurd cc

ended_back : (ns left : List KeywordArgument) (b : Bool) (vs ds : List Value) → length vs ≡ 0 → is_some (shares ns left [] (prog b vs ds)) ≡ true
unfolding prog some_if
ended_back ns left b vs ds h = ap (λ c. is_some (some_if c)) (eq-eqb (length vs) 0 h)

room_none : (b : Bool) (vs : List Value) → Room b [] vs → length vs ≡ 0
unfolding Room
room_none b vs (inl h) = omega (arith, none_named b)
room_none b vs (inr h) = absurd cc

none_room : (b : Bool) (vs : List Value) → length vs ≡ 0 → Room b [] vs
unfolding Room
none_room b vs h = inl (omega arith)

ended : (ns left : List KeywordArgument) (b : Bool) (vs ds : List Value) → Suits ns left [] b vs ds
unfolding Suits
ended ns left b vs ds = (
  (λ h. record { needed = λ i n f. absurd cc; once = λ i name f q. absurd cc; room = none_room b vs (ended_there ns left b vs ds h) }),
  (λ f. ended_back ns left b vs ds (room_none b vs f.room)),
)

nameless : (p : Parameter) (name : List ℕ) → keyword_of (parameter p) ≡ None → keyword_of (parameter p) ≡ Some name → ⊥
nameless p name h k = cc

one : (ns left : List KeywordArgument) (p : Parameter) (ps : List Parameter) (b : Bool) (vs ds : List Value) → ((c : Bool) (ws es : List Value) → Enough ps es → Suits ns left ps c ws es) → Enough (p ∷ ps) ds → (f : ParameterForm) → parameter p ≡ f → Suits ns left (p ∷ ps) b vs ds
unfolding prog
one ns left p ps false (v ∷ vs) ds r h (tree.Plain n) e =
    let w = taken_head ns p ps v vs n.text (ap keyword_of e) (ap is_star e) in
    next ns left p ps false false (v ∷ vs) vs ds ds (not (is_given n.text ns)) (goes_taken p ps v vs n.text (ap keyword_of e) (ap is_star e) (ap takes_rest e))
    (ap (λ o. is_some o) (by_form ns left p ps (prog false (v ∷ vs) ds) (tree.Plain n) e) ∙ after_given ns left ps n v (prog false vs ds) (is_given n.text ns))
    (w.0) (w.1) (r false vs ds (fewer p ps ds (ap has_default e) h))
one ns left p ps false [] ds r h (tree.Plain n) e =
    let w = plain_head ns p ps false [] n e (empty_out false (p ∷ ps) 0) in
    next ns left p ps false false [] [] ds ds (is_given n.text ns) (goes_empty p ps false)
    (ap (λ o. is_some o) (by_form ns left p ps (prog false [] ds) (tree.Plain n) e) ∙ after_shared ns left ps n (prog false [] ds) (else_default (value_named n.text ns) None) ∙ ap (λ b. b && is_some (shares ns left ps (prog false [] ds))) (given_alone (value_named n.text ns) ∙ named_is_given n.text ns))
    (w.0) (w.1) (r false [] ds (fewer p ps ds (ap has_default e) h))
one ns left p ps true vs ds r h (tree.Plain n) e =
    let w = plain_head ns p ps true vs n e (closed_out (p ∷ ps) vs 0) in
    next ns left p ps true true vs vs ds ds (is_given n.text ns) (goes_closed p ps vs (ap takes_rest e))
    (ap (λ o. is_some o) (by_form ns left p ps (prog true vs ds) (tree.Plain n) e) ∙ after_shared ns left ps n (prog true vs ds) (else_default (value_named n.text ns) None) ∙ ap (λ b. b && is_some (shares ns left ps (prog true vs ds))) (given_alone (value_named n.text ns) ∙ named_is_given n.text ns))
    (w.0) (w.1) (r true vs ds (fewer p ps ds (ap has_default e) h))
one ns left p ps false (v ∷ vs) ds r h (tree.Default n x) e =
    let w = taken_head ns p ps v vs n.text (ap keyword_of e) (ap is_star e) in
    next ns left p ps false false (v ∷ vs) vs ds (rest_of_row ds) (not (is_given n.text ns)) (goes_taken p ps v vs n.text (ap keyword_of e) (ap is_star e) (ap takes_rest e))
    (ap (λ o. is_some o) (by_form ns left p ps (prog false (v ∷ vs) ds) (tree.Default n x) e) ∙ after_given ns left ps n v (prog false vs (rest_of_row ds)) (is_given n.text ns))
    (w.0) (w.1) (r false vs (rest_of_row ds) ((one_fewer p ps ds (ap has_default e) h).1))
one ns left p ps false [] ds r h (tree.Default n x) e =
    let k = one_fewer p ps ds (ap has_default e) h in
    next ns left p ps false false [] [] ds (rest_of_row ds) (is_some (else_default (value_named n.text ns) (first_of_row ds))) (goes_empty p ps false)
    (ap (λ o. is_some o) (by_form ns left p ps (prog false [] ds) (tree.Default n x) e) ∙ after_shared ns left ps n (prog false [] (rest_of_row ds)) (else_default (value_named n.text ns) (first_of_row ds)))
    (λ q. free_head ns p ps false [] (λ m f. cc) (λ name f q. empty_out false (p ∷ ps) 0 q)) (λ q. given_or (value_named n.text ns) (first_of_row ds) (first_there ds (k.0))) (r false [] (rest_of_row ds) (k.1))
one ns left p ps true vs ds r h (tree.Default n x) e =
    let k = one_fewer p ps ds (ap has_default e) h in
    next ns left p ps true true vs vs ds (rest_of_row ds) (is_some (else_default (value_named n.text ns) (first_of_row ds))) (goes_closed p ps vs (ap takes_rest e))
    (ap (λ o. is_some o) (by_form ns left p ps (prog true vs ds) (tree.Default n x) e) ∙ after_shared ns left ps n (prog true vs (rest_of_row ds)) (else_default (value_named n.text ns) (first_of_row ds)))
    (λ q. free_head ns p ps true vs (λ m f. cc) (λ name f q. closed_out (p ∷ ps) vs 0 q)) (λ q. given_or (value_named n.text ns) (first_of_row ds) (first_there ds (k.0))) (r true vs (rest_of_row ds) (k.1))
one ns left p ps b vs ds r h (tree.Parameter-F.Parameter::Star n) e =
    next ns left p ps b true vs [] ds ds true (goes_star p ps b vs (ap is_star e) (ap takes_rest e))
    (ap (λ o. is_some o) (by_form ns left p ps (prog b vs ds) (tree.Parameter-F.Parameter::Star n) e) ∙ after_some ns left ps ((n, Rest vs) ∷ []) (prog true [] ds))
    (λ q. free_head ns p ps b vs (λ m f. cc) (λ name f q. nameless p name (ap keyword_of e) f)) (λ q. refl) (r true [] ds (fewer p ps ds (ap has_default e) h))
one ns left p ps false vs ds r h tree.BareStar e =
    next ns left p ps false true vs vs ds ds true (goes_bare p ps vs (ap is_star e) (ap takes_rest e))
    (ap (λ o. is_some o) (by_form ns left p ps (prog false vs ds) tree.BareStar e) ∙ after_some ns left ps [] (prog true vs ds))
    (λ q. free_head ns p ps false vs (λ m f. cc) (λ name f q. nameless p name (ap keyword_of e) f)) (λ q. refl) (r true vs ds (fewer p ps ds (ap has_default e) h))
one ns left p ps true vs ds r h tree.BareStar e =
    next ns left p ps true true vs vs ds ds true (goes_closed p ps vs (ap takes_rest e))
    (ap (λ o. is_some o) (by_form ns left p ps (prog true vs ds) tree.BareStar e) ∙ after_some ns left ps [] (prog true vs ds))
    (λ q. free_head ns p ps true vs (λ m f. cc) (λ name f q. nameless p name (ap keyword_of e) f)) (λ q. refl) (r true vs ds (fewer p ps ds (ap has_default e) h))
one ns left p ps false vs ds r h (tree.Parameter-F.Parameter::StarStar n) e =
    next ns left p ps false false vs vs ds ds true (goes_past p ps vs (ap keyword_of e) (ap is_star e) (ap takes_rest e))
    (ap (λ o. is_some o) (by_form ns left p ps (prog false vs ds) (tree.Parameter-F.Parameter::StarStar n) e) ∙ after_some ns left ps ((n, Names left) ∷ []) (prog false vs ds))
    (λ q. free_head ns p ps false vs (λ m f. cc) (λ name f q. nameless p name (ap keyword_of e) f)) (λ q. refl) (r false vs ds (fewer p ps ds (ap has_default e) h))
one ns left p ps true vs ds r h (tree.Parameter-F.Parameter::StarStar n) e =
    next ns left p ps true true vs vs ds ds true (goes_closed p ps vs (ap takes_rest e))
    (ap (λ o. is_some o) (by_form ns left p ps (prog true vs ds) (tree.Parameter-F.Parameter::StarStar n) e) ∙ after_some ns left ps ((n, Names left) ∷ []) (prog true vs ds))
    (λ q. free_head ns p ps true vs (λ m f. cc) (λ name f q. nameless p name (ap keyword_of e) f)) (λ q. refl) (r true vs ds (fewer p ps ds (ap has_default e) h))

suits : (ns left : List KeywordArgument) (ps : List Parameter) (b : Bool) (vs ds : List Value) → Enough ps ds → Suits ns left ps b vs ds
suits ns left [] b vs ds h = ended ns left b vs ds
suits ns left (p ∷ ps) b vs ds h = one ns left p ps b vs ds (λ c ws es k. suits ns left ps c ws es k) h (parameter p) refl

-- keyword arguments

named_before : (o : Option (List ℕ)) (name : List ℕ) (p : Parameter) (ps : List Parameter) → keyword_of (parameter p) ≡ o → (list_any (same_name name) (keywords_of ps) ≡ true → (i : ℕ) × (named_at ps i ≡ Some name)) → list_any (same_name name) (before_names o (keywords_of ps)) ≡ true → (i : ℕ) × (named_at (p ∷ ps) i ≡ Some name)
named_before None name p ps e r h = let w : (i : ℕ) × (named_at ps i ≡ Some name) = r h in (suc (w.0), w.1)
named_before (Some m) name p ps e r h = by (same_name name m) refl h
  where
    by : (b : Bool) → same_name name m ≡ b → (b || list_any (same_name name) (keywords_of ps)) ≡ true → (i : ℕ) × (named_at (p ∷ ps) i ≡ Some name)
    by true f k = (0, e ∙ ap Some (sym ((bytes_eq-Decides name m).0 f)))
    by false f k = let w : (i : ℕ) × (named_at ps i ≡ Some name) = r k in (suc (w.0), w.1)

own_somewhere : (ps : List Parameter) (name : List ℕ) → list_any (same_name name) (keywords_of ps) ≡ true → (i : ℕ) × (named_at ps i ≡ Some name)
own_somewhere [] name h = absurd cc
own_somewhere (p ∷ ps) name h = named_before (keyword_of (parameter p)) name p ps refl (own_somewhere ps name) h

more_names : (o : Option (List ℕ)) (name : List ℕ) (names : List (List ℕ)) → list_any (same_name name) names ≡ true → list_any (same_name name) (before_names o names) ≡ true
more_names None name names h = h
more_names (Some m) name names h = or_right (same_name name m) (list_any (same_name name) names) h

somewhere_own : (ps : List Parameter) (name : List ℕ) (i : ℕ) → named_at ps i ≡ Some name → list_any (same_name name) (keywords_of ps) ≡ true
somewhere_own [] name i h = absurd cc
somewhere_own (p ∷ ps) name zero h = ap (λ o. list_any (same_name name) (before_names o (keywords_of ps))) h ∙ or_left (same_name name name) (list_any (same_name name) (keywords_of ps)) ((bytes_eq-Decides name name).1 refl)
somewhere_own (p ∷ ps) name (suc i) h = more_names (keyword_of (parameter p)) name (keywords_of ps) (somewhere_own ps name i h)

not_false : (b : Bool) → not b ≡ false → b ≡ true
not_false true h = refl
not_false false h = absurd cc

claimed_first : (b : Bool) (m : KeywordArgument) (ms : List KeywordArgument) → length (cond b (m ∷ ms) ms) ≡ 0 → (b ≡ false) × (length ms ≡ 0)
claimed_first true m ms h = absurd (omega arith)
claimed_first false m ms h = (refl, h)

all_claimed : (names : List (List ℕ)) (ns : List KeywordArgument) → length (filter (is_extra names) ns) ≡ 0 → (j : ℕ) (n : KeywordArgument) → slice_get ns j ≡ Some n → list_any (same_name n.name) names ≡ true
all_claimed names [] h j n e = absurd cc
all_claimed names (m ∷ ms) h zero n e =
    let w : (is_extra names m ≡ false) × (length (filter (is_extra names) ms) ≡ 0) = claimed_first (is_extra names m) m (filter (is_extra names) ms) h in
    let s : m ≡ n = cc in
    ap (λ (n : KeywordArgument). list_any (same_name n.name) names) (sym s) ∙ not_false (list_any (same_name m.name) names) (w.0)
all_claimed names (m ∷ ms) h (suc j) n e = all_claimed names ms ((claimed_first (is_extra names m) m (filter (is_extra names) ms) h).1) j n e

claimed_all : (names : List (List ℕ)) (ns : List KeywordArgument) → ((j : ℕ) (n : KeywordArgument) → slice_get ns j ≡ Some n → list_any (same_name n.name) names ≡ true) → length (filter (is_extra names) ns) ≡ 0
claimed_all names [] h = refl
claimed_all names (m ∷ ms) h = ap (λ b. length (cond b (m ∷ filter (is_extra names) ms) (filter (is_extra names) ms))) (ap not (h 0 m refl)) ∙ claimed_all names ms (λ j n e. h (suc j) n e)

Known : List Parameter → List KeywordArgument → Type 0
Known ps ns = ((j : ℕ) (n : KeywordArgument) → slice_get ns j ≡ Some n → (i : ℕ) × (named_at ps i ≡ Some n.name)) ⊎ (list_any (λ p. takes_names (parameter p)) ps ≡ true)

known_there : (ps : List Parameter) (ns : List KeywordArgument) → (nat_eq (length (extra_keywords ps ns)) 0 || list_any (λ p. takes_names (parameter p)) ps) ≡ true → Known ps ns
unfolding Known
known_there ps ns h = by (nat_eq (length (extra_keywords ps ns)) 0) refl h
  where
    by : (b : Bool) → nat_eq (length (extra_keywords ps ns)) 0 ≡ b → (b || list_any (λ p. takes_names (parameter p)) ps) ≡ true → ((j : ℕ) (n : KeywordArgument) → slice_get ns j ≡ Some n → (i : ℕ) × (named_at ps i ≡ Some n.name)) ⊎ (list_any (λ p. takes_names (parameter p)) ps ≡ true)
    by true f k = inl (λ j n e. own_somewhere ps n.name (all_claimed (keywords_of ps) ns (eqb-true (length (extra_keywords ps ns)) 0 f) j n e))
    by false f k = inr k

known_back : (ps : List Parameter) (ns : List KeywordArgument) → Known ps ns → (nat_eq (length (extra_keywords ps ns)) 0 || list_any (λ p. takes_names (parameter p)) ps) ≡ true
unfolding Known
known_back ps ns (inl h) = or_left (nat_eq (length (extra_keywords ps ns)) 0) (list_any (λ p. takes_names (parameter p)) ps) (eq-eqb (length (extra_keywords ps ns)) 0 (claimed_all (keywords_of ps) ns (λ j n e. let w : (i : ℕ) × (named_at ps i ≡ Some n.name) = h j n e in somewhere_own ps n.name (w.0) (w.1))))
known_back ps ns (inr h) = or_right (nat_eq (length (extra_keywords ps ns)) 0) (list_any (λ p. takes_names (parameter p)) ps) h

where_known : (c : Bool) (o : Option (List (Name × BoundArgument))) → is_some (if c then o else None) ≡ (c && is_some o)
where_known true o = refl
where_known false o = refl

bound_is : (ps : List Parameter) (ds : List Value) (g : Arguments) → is_some (bound_to ps ds g) ≡ ((nat_eq (length (extra_keywords ps g.named)) 0 || list_any (λ p. takes_names (parameter p)) ps) && is_some (shares g.named (extra_keywords ps g.named) ps (prog false g.positional ds)))
unfolding bound_to prog
bound_is ps ds g = where_known (nat_eq (length (extra_keywords ps g.named)) 0 || list_any (λ p. takes_names (parameter p)) ps) (shares g.named (extra_keywords ps g.named) ps (record { by_name = false; positional = g.positional; defaults = ds }))

whole : (ps : List Parameter) (g : Arguments) → Known ps g.named → FitsFrom g.named false ps g.positional → Fits ps g
unfolding Known Placed Room open_of
whole ps g k f = record { needed = f.needed; once = f.once; placed = f.room; known = k }

parts : (ps : List Parameter) (g : Arguments) → Fits ps g → Known ps g.named × FitsFrom g.named false ps g.positional
unfolding Known Placed Room open_of
parts ps g f = (f.known, record { needed = f.needed; once = f.once; room = f.placed })

pub bound_where_they_fit : (ps : List Parameter) (defaults : List Value) (g : Arguments) → length (filter (λ p. has_default (parameter p)) ps) ≤ length defaults → is_some (bound_to ps defaults g) ≡ true ↔ Fits ps g
unfolding Suits Enough
bound_where_they_fit ps defaults g h = (there, back)
  where
    r : (is_some (shares g.named (extra_keywords ps g.named) ps (prog false g.positional defaults)) ≡ true) ↔ FitsFrom g.named false ps g.positional
    r = suits g.named (extra_keywords ps g.named) ps false g.positional defaults h

    there : is_some (bound_to ps defaults g) ≡ true → Fits ps g
    there q =
        let w = both (nat_eq (length (extra_keywords ps g.named)) 0 || list_any (λ p. takes_names (parameter p)) ps) (is_some (shares g.named (extra_keywords ps g.named) ps (prog false g.positional defaults))) (sym (bound_is ps defaults g) ∙ q) in
        whole ps g (known_there ps g.named (w.0)) (r.0 (w.1))

    back : Fits ps g → is_some (bound_to ps defaults g) ≡ true
    back f =
        bound_is ps defaults g
        ∙ and_both (nat_eq (length (extra_keywords ps g.named)) 0 || list_any (λ p. takes_names (parameter p)) ps) (is_some (shares g.named (extra_keywords ps g.named) ps (prog false g.positional defaults))) (known_back ps g.named ((parts ps g f).0)) (r.1 ((parts ps g f).1))
