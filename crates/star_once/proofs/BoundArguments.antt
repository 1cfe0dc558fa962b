-- Values by name: the strings of their names are there, and no name comes twice.
use Rattle.std.proofs.Common.{◌≡◌, ℕ, Bool, true, false, ◌||◌, List, [], ◌∷◌, ◌++◌, Option, Some, None, if◌then◌else◌, refl, ap, sym, subst, ◌∙◌, nat_eq, length}
use Rattle.std.specs.List.{filter, list_any}
use Rattle.std.specs.Option.{option_and_then}
use Rattle.std.proofs.lemmas.Slice.Eq.{bytes_eq-Decides}
use Rattle.star_store.specs.declared.values.Value.{Value}
use Rattle.star_store.specs.declared.values.Value.TheVariants as value
use Rattle.star_store.specs.declared.values.Cell.{Cell}
use Rattle.star_store.specs.declared.values.Cell.TheVariants as cell
use Rattle.star_tree.specs.declared.tree.Name.{Name}
use Rattle.star_tree.specs.declared.tree.Parameter.{Parameter}
use Rattle.star_tree.specs.declared.tree.Argument.TheOpen as tree
use Rattle.star_outline.specs.Names.{same_name}
use Rattle.star_outline.specs.Syntax.{ParameterForm, parameter}
use Rattle.star_meaning.specs.declared.given.Arguments.{Arguments}
use Rattle.star_meaning.specs.declared.given.KeywordArgument.{KeywordArgument}
use Rattle.star_meaning.specs.Arguments.{comes_twice, is_given}
use Rattle.star_meaning.specs.Binding.{Names, One, BindingState, Rest, BoundArgument, also, bound_to, else_default, first_of_row, rest_of_row, argument_by, argument_of, shared, shares, step, takes_names, extra_keywords, value_named}
use Rattle.star_data.specs.Data.{cell_of, text_in}
use Rattle.star_once.specs.Keys.{Apart, ApartFrom, Differ, IsThere, LeadsToFixed}
use Rattle.star_once.proofs.Keys.{Stay, with_or_without}

-- a value leads to a string
abbrev pub IsText : (Value → Option Cell) → Value → List ℕ → Type 0
IsText look k t = look k ≡ Some (cell.Text t)

abbrev pub KeyIsText : (Value → Option Cell) → Option Value → List ℕ → Type 0
KeyIsText look None t = Unit {0}
KeyIsText look (Some k) t = IsText look k t

-- each key that is given is the string of its name
abbrev pub NamedAll : (Value → Option Cell) → List KeywordArgument → Type 0
NamedAll look [] = Unit {0}
NamedAll look (n ∷ ns) = KeyIsText look n.key n.name × NamedAll look ns

-- and no name comes twice
abbrev pub NamedOnce : (Value → Option Cell) → List KeywordArgument → Type 0
NamedOnce look ns = NamedAll look ns × (comes_twice ns ≡ false)

abbrev pub ShareOnce : (Value → Option Cell) → BoundArgument → Type 0
ShareOnce look (One v) = Unit {0}
ShareOnce look (Rest xs) = Unit {0}
ShareOnce look (Names ns) = NamedOnce look ns

abbrev pub SharesOnce : (Value → Option Cell) → List (Name × BoundArgument) → Type 0
SharesOnce look [] = Unit {0}
SharesOnce look (x ∷ xs) = ShareOnce look x.1 × SharesOnce look xs

-- ---- so it stays where strings stay

key_stays : (look see : Value → Option Cell) → Stay look see → (o : Option Value) (t : List ℕ) → KeyIsText look o t → KeyIsText see o t
key_stays look see k None t h = tt
key_stays look see k (Some v) t h = k v (cell.Text t) h tt

pub named_stays : (look see : Value → Option Cell) → Stay look see → (ns : List KeywordArgument) → NamedAll look ns → NamedAll see ns
named_stays look see k [] h = tt
named_stays look see k (n ∷ ns) h = (key_stays look see k n.key n.name h.0, named_stays look see k ns h.1)

share_stays : (look see : Value → Option Cell) → Stay look see → (x : BoundArgument) → ShareOnce look x → ShareOnce see x
share_stays look see k (One v) h = tt
share_stays look see k (Rest xs) h = tt
share_stays look see k (Names ns) h = (named_stays look see k ns h.0, h.1)

pub shares_stay : (look see : Value → Option Cell) → Stay look see → (xs : List (Name × BoundArgument)) → SharesOnce look xs → SharesOnce see xs
shares_stay look see k [] h = tt
shares_stay look see k (x ∷ xs) h = (share_stays look see k x.1 h.0, shares_stay look see k xs h.1)

pub named_append : (look : Value → Option Cell) (ms ns : List KeywordArgument) → NamedAll look ms → NamedAll look ns → NamedAll look (ms ++ ns)
named_append look [] ns h k = k
named_append look (m ∷ ms) ns h k = (h.0, named_append look ms ns h.1 k)

-- ---- a string is there

pub text_there : (look : Value → Option Cell) (v : Value) (t : List ℕ) → IsText look v t → IsThere look v
text_there look (value.Ref h a) t e = subst LeadsToFixed (sym e) tt
text_there look value.NoneValue t e = tt
text_there look (value.Bool b) t e = tt
text_there look (value.Int n) t e = tt
text_there look (value.Builtin b) t e = tt

-- ---- entries whose keys are the strings of names

abbrev pub KeysAre : (Value → Option Cell) → List KeywordArgument → List (Value × Value) → Type 0
KeysAre look [] [] = Unit {0}
KeysAre look (n ∷ ns) (e ∷ es) = IsText look e.0 n.name × KeysAre look ns es
KeysAre look _ _ = ⊥

pub neither : (a b : Bool) → (a || b) ≡ false → (a ≡ false) × (b ≡ false)
neither true b h = absurd (let no : ⊥ = cc in no)
neither false b h = (refl, h)

true_is_false : (b : Bool) → b ≡ false → b ≡ true → ⊥
true_is_false true h k = let no : ⊥ = cc in no
true_is_false false h k = let no : ⊥ = cc in no

text_of_cell : (look : Value → Option Cell) (v : Value) (t u : List ℕ) → IsText look v t → text_in (cell_of look v) ≡ Some u → t ≡ u
text_of_cell look (value.Ref h a) t u e f = let k : text_in (Some (cell.Text t)) ≡ Some u = ap text_in (sym e) ∙ f in let l : Some t ≡ Some u = k in cc
text_of_cell look value.NoneValue t u e f = absurd (let no : ⊥ = cc in no)
text_of_cell look (value.Bool b) t u e f = absurd (let no : ⊥ = cc in no)
text_of_cell look (value.Int n) t u e f = absurd (let no : ⊥ = cc in no)
text_of_cell look (value.Builtin b) t u e f = absurd (let no : ⊥ = cc in no)

pub texts_apart : (look : Value → Option Cell) (x y : Value) (t u : List ℕ) → IsText look x t → IsText look y u → same_name u t ≡ false → Apart look x y
texts_apart look x y t u a b other z p q = true_is_false (same_name u t) other ((bytes_eq-Decides u t).1 (text_of_cell look y u z b q ∙ sym (text_of_cell look x t z a p)))

names_apart : (look : Value → Option Cell) (x : Value) (t : List ℕ) (ns : List KeywordArgument) (es : List (Value × Value)) → IsText look x t → is_given t ns ≡ false → KeysAre look ns es → ApartFrom look x es
names_apart look x t [] [] a free k = tt
names_apart look x t [] (e ∷ es) a free k = absurd k
names_apart look x t (n ∷ ns) [] a free k = absurd k
names_apart look x t (n ∷ ns) (e ∷ es) a free k =
    let two = neither (same_name n.name t) (is_given t ns) free in
    (texts_apart look x e.0 t n.name a k.0 two.0, names_apart look x t ns es a two.1 k.1)

pub names_differ : (look : Value → Option Cell) (ns : List KeywordArgument) (es : List (Value × Value)) → comes_twice ns ≡ false → KeysAre look ns es → Differ look es
names_differ look [] [] once k = tt
names_differ look [] (e ∷ es) once k = absurd k
names_differ look (n ∷ ns) [] once k = absurd k
names_differ look (n ∷ ns) (e ∷ es) once k =
    let two = neither (is_given n.name ns) (comes_twice ns) once in
    (text_there look e.0 n.name k.0, names_apart look e.0 n.name ns es k.0 two.0 k.1, names_differ look ns es two.1 k.1)

pub keys_stay : (look see : Value → Option Cell) → Stay look see → (ns : List KeywordArgument) (es : List (Value × Value)) → KeysAre look ns es → KeysAre see ns es
keys_stay look see k [] [] h = tt
keys_stay look see k [] (e ∷ es) h = absurd h
keys_stay look see k (n ∷ ns) [] h = absurd h
keys_stay look see k (n ∷ ns) (e ∷ es) h = (k e.0 (cell.Text n.name) h.0 tt, keys_stay look see k ns es h.1)

-- ---- binding gives `**name` some of the values by name

filter_named : (look : Value → Option Cell) (f : KeywordArgument → Bool) (ns : List KeywordArgument) → NamedAll look ns → NamedAll look (filter f ns)
filter_named look f [] h = tt
filter_named look f (n ∷ ns) h =
    let rest = filter_named look f ns h.1 in
    with_or_without (λ ms. NamedAll look ms) (f n) n (filter f ns) (h.0, rest) rest

not_given : (t : List ℕ) (f : KeywordArgument → Bool) (ns : List KeywordArgument) → is_given t ns ≡ false → is_given t (filter f ns) ≡ false
not_given t f [] h = refl
not_given t f (n ∷ ns) h =
    let two = neither (same_name n.name t) (is_given t ns) h in
    let rest = not_given t f ns two.1 in
    with_or_without (λ ms. is_given t ms ≡ false) (f n) n (filter f ns) (ap (λ b. b || is_given t (filter f ns)) two.0 ∙ rest) rest

filter_once : (f : KeywordArgument → Bool) (ns : List KeywordArgument) → comes_twice ns ≡ false → comes_twice (filter f ns) ≡ false
filter_once f [] h = refl
filter_once f (n ∷ ns) h =
    let two = neither (is_given n.name ns) (comes_twice ns) h in
    let rest = filter_once f ns two.1 in
    with_or_without (λ ms. comes_twice ms ≡ false) (f n) n (filter f ns) (ap (λ b. b || comes_twice (filter f ns)) (not_given n.name f ns two.0) ∙ rest) rest

-- the shares of a step
abbrev StepOnce : (Value → Option Cell) → Option (List (Name × BoundArgument) × BindingState) → Type 0
StepOnce look o = (r : List (Name × BoundArgument) × BindingState) → o ≡ Some r → SharesOnce look r.0

one_once : (look : Value → Option Cell) (n : Name) (q : BindingState) (x : BoundArgument) → ShareOnce look x → StepOnce look (Some ((n, x) ∷ [], q))
one_once look n q x h r e = let same : ((n, x) ∷ [], q) ≡ r = cc in subst (λ (z : List (Name × BoundArgument) × BindingState). SharesOnce look z.0) same (h, tt)

shared_once : (look : Value → Option Cell) (n : Name) (q : BindingState) (o : Option Value) → StepOnce look (shared n q o)
shared_once look n q None = λ r e. absurd (let no : ⊥ = cc in no)
shared_once look n q (Some v) = one_once look n q (One v) tt

if_given : (look : Value → Option Cell) (b : Bool) (n : Name) (q : BindingState) (x : Value) → StepOnce look (if b then None else Some ((n, One x) ∷ [], q))
if_given look true n q x = λ r e. absurd (let no : ⊥ = cc in no)
if_given look false n q x = one_once look n q (One x) tt

share_of_once : (look : Value → Option Cell) (n : Name) (ns : List KeywordArgument) (d : Option Value) (q : BindingState) (xs : List Value) → StepOnce look (argument_of n ns d q xs)
share_of_once look n ns d q [] = shared_once look n q (else_default (value_named n.text ns) d)
share_of_once look n ns d q (x ∷ xs) = if_given look (is_given n.text ns) n (record q { positional = xs }) x

share_by_once : (look : Value → Option Cell) (n : Name) (ns : List KeywordArgument) (d : Option Value) (q : BindingState) → StepOnce look (argument_by n ns d q)
share_by_once look n ns d q = by q.by_name
  where
    by : (b : Bool) → StepOnce look (if b then shared n q (else_default (value_named n.text ns) d) else argument_of n ns d q q.positional)
    by true = shared_once look n q (else_default (value_named n.text ns) d)
    by false = share_of_once look n ns d q q.positional

step_once : (look : Value → Option Cell) (ns left : List KeywordArgument) (q : BindingState) (p : ParameterForm) → NamedOnce look left → StepOnce look (step ns left q p)
step_once look ns left q (tree.Plain n) h = share_by_once look n ns None q
step_once look ns left q (tree.Default n e) h = share_by_once look n ns (first_of_row q.defaults) (record q { defaults = rest_of_row q.defaults })
step_once look ns left q (tree.Parameter-F.Parameter::Star n) h = one_once look n (record q { by_name = true; positional = [] }) (Rest q.positional) tt
step_once look ns left q tree.BareStar h = λ r e. let same : ([], record q { by_name = true }) ≡ r = cc in subst (λ (z : List (Name × BoundArgument) × BindingState). SharesOnce look z.0) same tt
step_once look ns left q (tree.Parameter-F.Parameter::StarStar n) h = one_once look n q (Names left) h

shares_append : (look : Value → Option Cell) (xs ys : List (Name × BoundArgument)) → SharesOnce look xs → SharesOnce look ys → SharesOnce look (xs ++ ys)
shares_append look [] ys h k = k
shares_append look (x ∷ xs) ys h k = (h.0, shares_append look xs ys h.1 k)

abbrev AllOnce : (Value → Option Cell) → Option (List (Name × BoundArgument)) → Type 0
AllOnce look o = (xs : List (Name × BoundArgument)) → o ≡ Some xs → SharesOnce look xs

also_once : (look : Value → Option Cell) (xs : List (Name × BoundArgument)) (o : Option (List (Name × BoundArgument))) → SharesOnce look xs → AllOnce look o → AllOnce look (also xs o)
also_once look xs None h k zs e = absurd (let no : ⊥ = cc in no)
also_once look xs (Some ys) h k zs e = let same : xs ++ ys ≡ zs = cc in subst (SharesOnce look) same (shares_append look xs ys h (k ys refl))

stepped : (look : Value → Option Cell) (o : Option (List (Name × BoundArgument) × BindingState)) (f : List (Name × BoundArgument) × BindingState → Option (List (Name × BoundArgument))) → StepOnce look o → ((q : List (Name × BoundArgument) × BindingState) → AllOnce look (f q)) → AllOnce look (option_and_then (λ r. also r.0 (f r)) o)
stepped look None f h k = λ zs e. absurd (let no : ⊥ = cc in no)
stepped look (Some r) f h k = also_once look r.0 (f r) (h r refl) (k r)

empty_once : (look : Value → Option Cell) (b : Bool) → AllOnce look (if b then Some [] else None)
empty_once look true zs e = let same : [] ≡ zs = cc in subst (SharesOnce look) same tt
empty_once look false zs e = absurd (let no : ⊥ = cc in no)

shares_once : (look : Value → Option Cell) (ns left : List KeywordArgument) (ps : List Parameter) (q : BindingState) → NamedOnce look left → AllOnce look (shares ns left ps q)
shares_once look ns left [] q h = empty_once look (nat_eq (length q.positional) 0)
shares_once look ns left (p ∷ ps) q h = stepped look (step ns left q (parameter p)) (λ r. shares ns left ps r.1) (step_once look ns left q (parameter p) h) (λ r. shares_once look ns left ps r.1 h)

chosen : (look : Value → Option Cell) (b : Bool) (o : Option (List (Name × BoundArgument))) → AllOnce look o → AllOnce look (if b then o else None)
chosen look true o h = h
chosen look false o h = λ zs e. absurd (let no : ⊥ = cc in no)

pub bound_once : (look : Value → Option Cell) (ps : List Parameter) (defaults : List Value) (g : Arguments) → NamedOnce look g.named → (xs : List (Name × BoundArgument)) → bound_to ps defaults g ≡ Some xs → SharesOnce look xs
unfolding bound_to
bound_once look ps defaults g h =
    chosen look (nat_eq (length (extra_keywords ps g.named)) 0 || list_any (λ p. takes_names (parameter p)) ps) (shares g.named (extra_keywords ps g.named) ps (record { by_name = false; positional = g.positional; defaults = defaults }))
    (shares_once look g.named (extra_keywords ps g.named) ps (record { by_name = false; positional = g.positional; defaults = defaults }) (filter_named look _ g.named h.0, filter_once _ g.named h.1))
