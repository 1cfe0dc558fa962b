-- The binding of visible arguments: the shares of the parameters are visible, and their values are built alike over two shelves.
use Rattle.std.proofs.Common.{ℕ, Bool, true, false, cond, ◌||◌, List, [], ◌∷◌, length, nat_eq, Option, Some, None, if◌then◌else◌}
use Rattle.std.specs.List.{filter, find, list_any}
use Rattle.std.specs.Option.{option_and_then}
use Rattle.star_store.specs.declared.values.Value.{Value}
use Rattle.star_tree.specs.declared.tree.Name.{Name}
use Rattle.star_tree.specs.declared.tree.Parameter.{Parameter}
use Rattle.star_tree.specs.declared.tree.Argument.TheOpen as tree
use Rattle.star_outline.specs.Names.{same_name}
use Rattle.star_outline.specs.Syntax.{ParameterForm, parameter}
use Rattle.star_meaning.specs.declared.given.Arguments.{Arguments}
use Rattle.star_meaning.specs.declared.given.KeywordArgument.{KeywordArgument}
use Rattle.star_meaning.specs.Program.{Setting}
use Rattle.star_meaning.specs.Arguments.{is_given}
use Rattle.star_meaning.specs.Binding.{BindingState, BoundArgument, Names, One, Rest, Step, also, argument_by, argument_of, bound_to, build_argument, build_arguments, else_default, extra_keywords, first_of_row, is_extra, key_and_value, keywords_of, rest_of_row, shared, shares, step, takes_names, value_named}
use Rattle.star_unseen.specs.Veil.{AreVisible, Every, Hides, IsVisible, Maybe, VisibleIfThere, PairIsVisible}
use Rattle.star_unseen.specs.Shelves.{Veil}
use Rattle.star_unseen.proofs.Rows.{every_append, maybe_map}
use Rattle.star_unseen.proofs.Visible.{ArgumentsAreVisible, BindingIsVisible, BoundIsVisible, KeywordIsVisible, KeywordsAreVisible, ShareIsVisible}
use Rattle.star_unseen.proofs.Alike.{Alike, alike_each, alike_give, alike_then}
use Rattle.star_unseen.proofs.Values.{alike-new_dict, alike-new_tuple}
use Rattle.star_unseen.proofs.Arguments.{alike-key_for}

-- ---- rows

with_or_without : {A : Type 0} (P : A → Type 0) (b : Bool) (x : A) (xs : List A) → P x → Every P xs → Every P (cond b (x ∷ xs) xs)
with_or_without P true x xs h k = (h, k)
with_or_without P false x xs h k = k

pub every_filter : {A : Type 0} (P : A → Type 0) (test : A → Bool) (xs : List A) → Every P xs → Every P (filter test xs)
every_filter P test [] h = tt
every_filter P test (x ∷ xs) h = with_or_without P (test x) x (filter test xs) h.0 (every_filter P test xs h.1)

this_or_that : {A : Type 0} (P : A → Type 0) (b : Bool) (x : A) (o : Option A) → P x → Maybe P o → Maybe P (cond b (Some x) o)
this_or_that P true x o h k = h
this_or_that P false x o h k = k

pub every_find : {A : Type 0} (P : A → Type 0) (test : A → Bool) (xs : List A) → Every P xs → Maybe P (find test xs)
every_find P test [] h = tt
every_find P test (x ∷ xs) h = this_or_that P (test x) x (find test xs) h.0 (every_find P test xs h.1)

-- ---- keyword arguments and defaults

pub visible-extra_keywords : {w : Setting} (k : Veil w) (ps : List Parameter) (ns : List KeywordArgument) → KeywordsAreVisible k.hides ns → KeywordsAreVisible k.hides (extra_keywords ps ns)
visible-extra_keywords k ps ns h = every_filter (KeywordIsVisible k.hides) (is_extra (keywords_of ps)) ns h

pub visible-value_named : {w : Setting} (k : Veil w) (name : List ℕ) (ns : List KeywordArgument) → KeywordsAreVisible k.hides ns → VisibleIfThere k.hides (value_named name ns)
visible-value_named k name ns h = maybe_map (KeywordIsVisible k.hides) (IsVisible k.hides) (λ n. n.value) (λ n p. p.1) (find (λ n. same_name n.name name) ns) (every_find (KeywordIsVisible k.hides) (λ n. same_name n.name name) ns h)

pub visible-else_default : {w : Setting} (k : Veil w) (o d : Option Value) → VisibleIfThere k.hides o → VisibleIfThere k.hides d → VisibleIfThere k.hides (else_default o d)
visible-else_default k (Some v) d h l = h
visible-else_default k None d h l = l

pub visible-first_of_row : {w : Setting} (k : Veil w) (xs : List Value) → AreVisible k.hides xs → VisibleIfThere k.hides (first_of_row xs)
visible-first_of_row k [] h = tt
visible-first_of_row k (x ∷ xs) h = h.0

pub visible-rest_of_row : {w : Setting} (k : Veil w) (xs : List Value) → AreVisible k.hides xs → AreVisible k.hides (rest_of_row xs)
visible-rest_of_row k [] h = tt
visible-rest_of_row k (x ∷ xs) h = h.1

-- ---- shares

abbrev pub SharesAreVisible : Hides → List (Name × BoundArgument) → Type 0
SharesAreVisible hides = Every (ShareIsVisible hides)

abbrev pub StepIsVisible : Hides → Step → Type 0
StepIsVisible hides = Maybe (λ r. SharesAreVisible hides r.0 × BindingIsVisible hides r.1)

pub visible-shared : {w : Setting} (k : Veil w) (n : Name) (q : BindingState) (o : Option Value) → BindingIsVisible k.hides q → VisibleIfThere k.hides o → StepIsVisible k.hides (shared n q o)
visible-shared k n q None hq h = tt
visible-shared k n q (Some v) hq h = ((h, tt), hq)

if_given : {w : Setting} (k : Veil w) (b : Bool) (n : Name) (q : BindingState) (x : Value) → BindingIsVisible k.hides q → IsVisible k.hides x → StepIsVisible k.hides (if b then None else Some ((n, One x) ∷ [], q))
if_given k true n q x hq h = tt
if_given k false n q x hq h = ((h, tt), hq)

pub visible-argument_of : {w : Setting} (k : Veil w) (n : Name) (ns : List KeywordArgument) (d : Option Value) (q : BindingState) (xs : List Value) → KeywordsAreVisible k.hides ns → VisibleIfThere k.hides d → BindingIsVisible k.hides q → AreVisible k.hides xs → StepIsVisible k.hides (argument_of n ns d q xs)
visible-argument_of k n ns d q (x ∷ xs) hn hd hq hx = if_given k (is_given n.text ns) n (record q { positional = xs }) x (hx.1, hq.1) hx.0
visible-argument_of k n ns d q [] hn hd hq hx = visible-shared k n q (else_default (value_named n.text ns) d) hq (visible-else_default k (value_named n.text ns) d (visible-value_named k n.text ns hn) hd)

by_name_or_not : {w : Setting} (k : Veil w) (b : Bool) (o p : Step) → StepIsVisible k.hides o → StepIsVisible k.hides p → StepIsVisible k.hides (if b then o else p)
by_name_or_not k true o p h l = h
by_name_or_not k false o p h l = l

pub visible-argument_by : {w : Setting} (k : Veil w) (n : Name) (ns : List KeywordArgument) (d : Option Value) (q : BindingState) → KeywordsAreVisible k.hides ns → VisibleIfThere k.hides d → BindingIsVisible k.hides q → StepIsVisible k.hides (argument_by n ns d q)
visible-argument_by k n ns d q hn hd hq = by_name_or_not k q.by_name _ _ (visible-shared k n q (else_default (value_named n.text ns) d) hq (visible-else_default k (value_named n.text ns) d (visible-value_named k n.text ns hn) hd)) (visible-argument_of k n ns d q q.positional hn hd hq hq.0)

pub visible-step : {w : Setting} (k : Veil w) (ns left : List KeywordArgument) (q : BindingState) (p : ParameterForm) → KeywordsAreVisible k.hides ns → KeywordsAreVisible k.hides left → BindingIsVisible k.hides q → StepIsVisible k.hides (step ns left q p)
visible-step k ns left q (tree.Plain n) hn hl hq = visible-argument_by k n ns None q hn tt hq
visible-step k ns left q (tree.Default n e) hn hl hq = visible-argument_by k n ns (first_of_row q.defaults) (record q { defaults = rest_of_row q.defaults }) hn (visible-first_of_row k q.defaults hq.1) (hq.0, visible-rest_of_row k q.defaults hq.1)
visible-step k ns left q (tree.Parameter-F.Parameter::Star n) hn hl hq = ((hq.0, tt), (tt, hq.1))
visible-step k ns left q tree.BareStar hn hl hq = (tt, hq)
visible-step k ns left q (tree.Parameter-F.Parameter::StarStar n) hn hl hq = ((hl, tt), hq)

pub visible-also : {w : Setting} (k : Veil w) (xs : List (Name × BoundArgument)) (o : Option (List (Name × BoundArgument))) → SharesAreVisible k.hides xs → Maybe (SharesAreVisible k.hides) o → Maybe (SharesAreVisible k.hides) (also xs o)
visible-also k xs None h l = tt
visible-also k xs (Some ys) h l = every_append (ShareIsVisible k.hides) xs ys h l

none_left : {w : Setting} (k : Veil w) (b : Bool) → Maybe (SharesAreVisible k.hides) (if b then Some [] else None)
none_left k true = tt
none_left k false = tt

-- after a step, the shares of the other parameters
stepped : {w : Setting} (k : Veil w) (f : BindingState → Option (List (Name × BoundArgument))) (o : Step) → StepIsVisible k.hides o → ((q : BindingState) → BindingIsVisible k.hides q → Maybe (SharesAreVisible k.hides) (f q)) → Maybe (SharesAreVisible k.hides) (option_and_then (λ r. also r.0 (f r.1)) o)
stepped k f None h l = tt
stepped k f (Some r) h l = visible-also k r.0 (f r.1) h.0 (l r.1 h.1)

pub visible-shares : {w : Setting} (k : Veil w) (ns left : List KeywordArgument) (ps : List Parameter) (q : BindingState) → KeywordsAreVisible k.hides ns → KeywordsAreVisible k.hides left → BindingIsVisible k.hides q → Maybe (SharesAreVisible k.hides) (shares ns left ps q)
visible-shares k ns left [] q hn hl hq = none_left k (nat_eq (length q.positional) 0)
visible-shares k ns left (p ∷ ps) q hn hl hq = stepped k (shares ns left ps) (step ns left q (parameter p)) (visible-step k ns left q (parameter p) hn hl hq) (λ r hr. visible-shares k ns left ps r hn hl hr)

fitting : {w : Setting} (k : Veil w) (b : Bool) (o : Option (List (Name × BoundArgument))) → Maybe (SharesAreVisible k.hides) o → Maybe (SharesAreVisible k.hides) (if b then o else None)
fitting k true o h = h
fitting k false o h = tt

pub visible-bound_to : {w : Setting} (k : Veil w) (ps : List Parameter) (defaults : List Value) (g : Arguments) → AreVisible k.hides defaults → ArgumentsAreVisible k.hides g → Maybe (Every (ShareIsVisible k.hides)) (bound_to ps defaults g)
unfolding bound_to
visible-bound_to k ps defaults g hd hg = fitting k (nat_eq (length (extra_keywords ps g.named)) 0 || list_any (λ p. takes_names (parameter p)) ps) _
    (visible-shares k g.named (extra_keywords ps g.named) ps (record { by_name = false; positional = g.positional; defaults = defaults }) hg.1 (visible-extra_keywords k ps g.named hg.1) (hg.0, hd))

-- ---- shares as values

pub alike-key_and_value : {w : Setting} (k : Veil w) (line : ℕ) (n : KeywordArgument) → KeywordIsVisible k.hides n → Alike k (PairIsVisible k.hides) (key_and_value line n) (key_and_value line n)
alike-key_and_value k line n h = alike_then (alike-key_for k line n h) (λ key hk. alike_give (PairIsVisible k.hides) (key, n.value) (hk, h.1))

pub alike-build_argument : {w : Setting} (k : Veil w) (line : ℕ) (x : BoundArgument) → BoundIsVisible k.hides x → Alike k (IsVisible k.hides) (build_argument line x) (build_argument line x)
alike-build_argument k line (One v) h = alike_give (IsVisible k.hides) v h
alike-build_argument k line (Rest xs) h = alike-new_tuple k line xs h
alike-build_argument k line (Names ns) h = alike_then (alike_each (KeywordIsVisible k.hides) (PairIsVisible k.hides) (key_and_value line) (key_and_value line) ns h (λ n p. alike-key_and_value k line n p)) (λ es hes. alike-new_dict k line es hes)

pub alike-build_arguments : {w : Setting} (k : Veil w) (line : ℕ) (xs : List (Name × BoundArgument)) → Every (ShareIsVisible k.hides) xs → Alike k (Every (λ x. IsVisible k.hides x.1)) (build_arguments line xs) (build_arguments line xs)
unfolding build_arguments
alike-build_arguments k line xs h = alike_each (ShareIsVisible k.hides) (λ (x : Name × Value). IsVisible k.hides x.1) _ _ xs h (λ x p. alike_then (alike-build_argument k line x.1 p) (λ v hv. alike_give (λ (y : Name × Value). IsVisible k.hides y.1) (x.0, v) hv))
