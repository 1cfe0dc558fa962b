-- Calls, by places and by names: the function that is called fits, so its body does the same in its own chain of
-- frames.
use Rattle.std.proofs.Common.{◌≡◌, ℕ, ◌+◌, List, [], ◌∷◌, ◌++◌, length, not, nat_eq, Option, Some, None, refl, ap, subst, Bool, true, false, if◌then◌else◌, map}
use Rattle.std.specs.List.{Contains}
use Rattle.std.specs.Option.{option_and_then}
use Rattle.star_store.specs.declared.values.Value.{Value}
use Rattle.star_store.specs.declared.values.Value.TheVariants as value
use Rattle.star_store.specs.declared.values.Cell.{Cell}
use Rattle.star_store.specs.declared.values.Cell.TheVariants as cell
use Rattle.star_store.specs.declared.values.Function.{Function}
use Rattle.star_tree.specs.declared.tree.Argument.{Argument}
use Rattle.star_tree.specs.declared.tree.Expression.{Expression}
use Rattle.star_tree.specs.declared.tree.Name.{Name}
use Rattle.star_tree.specs.declared.tree.Parameter.{Parameter}
use Rattle.star_tree.specs.declared.tree.Statement.{Statement}
use Rattle.star_tree.specs.declared.tree.Argument.TheOpen as tree
use Rattle.star_outline.specs.Definitions.{Body, Statements, Answer, Definition}
use Rattle.star_outline.specs.Syntax.{ArgumentForm, ParameterForm, argument, parameter}
use Rattle.star_scope.specs.Uses.{Defined, Named, Use, all_uses, in_argument, in_expression, in_parameters, in_statement, inner_of, uses}
use Rattle.star_meaning.specs.declared.fault.FaultCode.TheVariants as code
use Rattle.star_meaning.specs.declared.site.Site.{Site}
use Rattle.star_meaning.specs.Run.{State, Outcome, Done, Failed, Action, and_then, ◌>>=◌, give, found, check, each, all_of}
use Rattle.star_meaning.specs.Program.{Setting, definition_of, seen}
use Rattle.star_meaning.specs.Variables.{bind_name, by_names}
use Rattle.star_meaning.specs.Values.{Content, Held, BuiltInFunction, content, held}
use Rattle.star_meaning.specs.declared.given.Arguments.{Arguments}
use Rattle.star_meaning.specs.declared.given.KeywordArgument.{KeywordArgument}
use Rattle.star_meaning.specs.Arguments.{EvaluatedArgument, Plain, Named as NamedArgument, Star, StarStar, given, is_given}
use Rattle.star_meaning.specs.Semantics.{Semantics}
use Rattle.star_meaning.specs.Binding.{BindingState, BoundArgument, One, Step, also, bound_to, else_default, first_of_row, build_argument, build_arguments, rest_of_row, argument_of, shared, shares, step, extra_keywords, value_named}
use Rattle.star_meaning.specs.Calls.{AFunction, ABuiltIn, AMethod, Callee, activate, answer_of, deactivate, call_node, best_by_key, called, called_built_in, called_by_key, called_plainly, callee, key_of, keyed, only, sorted_by_key, takes_key, with_keys, callee_of, function_callee, is_active, pass, pass_form, run, run_body}
use Rattle.star_meaning.specs.Local.{Trees}
use Rattle.star_meaning.specs.Places.{AllFit, FitsChain, FitsFunction, Stands, Tables, bind_spot, by_places}
use Rattle.std.specs.Ordering.{is_gt, is_lt}
use Rattle.std.specs.declared.cmp.Ordering.{Ordering}
use Rattle.star_store.specs.declared.names.BuiltIn.{BuiltIn}
use Rattle.star_store.specs.declared.names.BuiltIn.TheVariants as built_in
use Rattle.star_store.specs.Names.{is_function}
use Rattle.star_meaning.specs.Orders.{by_itself}
use Rattle.star_meaning.proofs.KeepsOrders.{respects-asked_for_best, respects-asked_to_sort, respects-best_by, respects-sort_by}
use Rattle.star_meaning.proofs.Agree.{Agree, Every, Good, agree_all_of, agree_bind, agree_block, agree_each, agree_fail, agree_frame, agree_give, agree_kept, agree_quiet, agree_such, agree_then, carries_follows, chain_carries, fit_follows, good_on}
use Rattle.star_meaning.proofs.AgreeParts.{AllAgree, Known, Scene, body_uses}
use Rattle.star_meaning.proofs.UsesOf.{Sub, argument_level, by, every, first, inner_level, left, of_argument, of_inner, right}
use Rattle.star_meaning.proofs.Quiet as quiet
use Rattle.star_meaning.proofs.Keeps.{kept_by}
use Rattle.star_meaning.proofs.KeepsArguments.{keeps-given}
use Rattle.star_meaning.proofs.KeepsBinding.{keeps-build_arguments}
use Rattle.star_meaning.proofs.KeepsBuiltIns.{keeps-call_built_in}
use Rattle.star_meaning.proofs.KeepsMethods.{respects-call_method}
use Rattle.star_meaning.proofs.KeepsCallee.{respects-callee}

-- ---- the effects of an action that ends well

then_done : {A B : Type 0} (o : Outcome A) (f : A → Action B) (y : B) (t : State) → and_then o f ≡ Done y t → (x : A) × (u : State) × (o ≡ Done x u) × (f x u ≡ Done y t)
then_done (Done x u) f y t h = (x, u, refl, h)
then_done (Failed e lines) f y t h = cc

done_is : {A : Type 0} (x y : A) (s t : State) → Done x s ≡ Done y t → x ≡ y
done_is x y s t h = cc

some_is : {A : Type 0} (x y : A) → Some x ≡ Some y → x ≡ y
some_is x y h = cc

-- ---- the names of shares

-- each item of the one list and of the other
both : {A : Type 0} (P : A → Type 0) (xs ys : List A) → Every P xs → Every P ys → Every P (xs ++ ys)
both P [] ys h k = k
both P (x ∷ xs) ys h k = (h.0, both P xs ys h.1 k)

abbrev pub InBlock : List Use → List ℕ → Name × BoundArgument → Type 0
InBlock us chain x = Contains us (Named x.0 chain)

abbrev pub SharesIn : List Use → List ℕ → List (Name × BoundArgument) → Type 0
SharesIn us chain xs = Every (InBlock us chain) xs

shared_in : (us : List Use) (chain : List ℕ) (x : Name) (q : BindingState) (o : Option Value) (r : List (Name × BoundArgument) × BindingState) → Contains us (Named x chain) → shared x q o ≡ Some r → SharesIn us chain r.0
shared_in us chain x q None r h e = cc
shared_in us chain x q (Some v) r h e = subst (λ (z : List (Name × BoundArgument) × BindingState). SharesIn us chain z.0) (some_is ((x, One v) ∷ [], q) r e) (h, tt)

picked_in : (us : List Use) (chain : List ℕ) (x : Name) (b : Bool) (v : Value) (q : BindingState) (r : List (Name × BoundArgument) × BindingState) → Contains us (Named x chain) → (if b then None else Some ((x, One v) ∷ [], q)) ≡ Some r → SharesIn us chain r.0
picked_in us chain x true v q r h e = cc
picked_in us chain x false v q r h e = subst (λ (z : List (Name × BoundArgument) × BindingState). SharesIn us chain z.0) (some_is ((x, One v) ∷ [], q) r e) (h, tt)

share_in : (us : List Use) (chain : List ℕ) (x : Name) (ns : List KeywordArgument) (d : Option Value) (q : BindingState) (vs : List Value) (r : List (Name × BoundArgument) × BindingState) → Contains us (Named x chain) → argument_of x ns d q vs ≡ Some r → SharesIn us chain r.0
share_in us chain x ns d q (v ∷ vs) r h e = picked_in us chain x (is_given x.text ns) v (record q { positional = vs }) r h e
share_in us chain x ns d q [] r h e = shared_in us chain x q (else_default (value_named x.text ns) d) r h e

chosen_in : (us : List Use) (chain : List ℕ) (x : Name) (ns : List KeywordArgument) (d : Option Value) (q : BindingState) (b : Bool) (r : List (Name × BoundArgument) × BindingState) → Contains us (Named x chain)
    → (if b then shared x q (else_default (value_named x.text ns) d) else argument_of x ns d q q.positional) ≡ Some r → SharesIn us chain r.0
chosen_in us chain x ns d q true r h e = shared_in us chain x q (else_default (value_named x.text ns) d) r h e
chosen_in us chain x ns d q false r h e = share_in us chain x ns d q q.positional r h e

step_in : (us : List Use) (chain : List ℕ) (ns more : List KeywordArgument) (q : BindingState) (x : ParameterForm) (r : List (Name × BoundArgument) × BindingState) → Sub (inner_level x chain) us → step ns more q x ≡ Some r → SharesIn us chain r.0
step_in us chain ns more q (tree.Plain x) r h e = chosen_in us chain x ns None q q.by_name r (first _ _ us h) e
step_in us chain ns more q (tree.Default x d) r h e = chosen_in us chain x ns (first_of_row q.defaults) (record q { defaults = rest_of_row q.defaults }) q.by_name r (first _ _ us h) e
step_in us chain ns more q (tree.Parameter-F.Parameter::Star x) r h e = subst (λ (z : List (Name × BoundArgument) × BindingState). SharesIn us chain z.0) (some_is _ r e) (first _ _ us h, tt)
step_in us chain ns more q tree.BareStar r h e = subst (λ (z : List (Name × BoundArgument) × BindingState). SharesIn us chain z.0) (some_is _ r e) tt
step_in us chain ns more q (tree.Parameter-F.Parameter::StarStar x) r h e = subst (λ (z : List (Name × BoundArgument) × BindingState). SharesIn us chain z.0) (some_is _ r e) (first _ _ us h, tt)

none_left : (us : List Use) (chain : List ℕ) (b : Bool) (xs : List (Name × BoundArgument)) → (if b then Some [] else None) ≡ Some xs → SharesIn us chain xs
none_left us chain true xs e = subst (λ z. SharesIn us chain z) (some_is [] xs e) tt
none_left us chain false xs e = cc

joined_in : (us : List Use) (chain : List ℕ) (xs : List (Name × BoundArgument)) (o : Option (List (Name × BoundArgument))) (ys : List (Name × BoundArgument)) → SharesIn us chain xs → ((zs : List (Name × BoundArgument)) → o ≡ Some zs → SharesIn us chain zs) → also xs o ≡ Some ys → SharesIn us chain ys
joined_in us chain xs None ys h k e = cc
joined_in us chain xs (Some zs) ys h k e = subst (λ z. SharesIn us chain z) (some_is (xs ++ zs) ys e) (both (InBlock us chain) xs zs h (k zs refl))

next_in : (us : List Use) (chain : List ℕ) (ns more : List KeywordArgument) (ps : List Parameter) (o : Step) (ys : List (Name × BoundArgument)) → ((r : List (Name × BoundArgument) × BindingState) → o ≡ Some r → SharesIn us chain r.0)
    → ((q : BindingState) (zs : List (Name × BoundArgument)) → shares ns more ps q ≡ Some zs → SharesIn us chain zs)
    → option_and_then (λ r. also r.0 (shares ns more ps r.1)) o ≡ Some ys → SharesIn us chain ys
next_in us chain ns more ps None ys h k e = cc
next_in us chain ns more ps (Some r) ys h k e = joined_in us chain r.0 (shares ns more ps r.1) ys (h r refl) (k r.1) e

shares_in : (us : List Use) (chain : List ℕ) (ns more : List KeywordArgument) (ps : List Parameter) (q : BindingState) (xs : List (Name × BoundArgument)) → Sub (inner_of (in_parameters ps) chain) us → shares ns more ps q ≡ Some xs → SharesIn us chain xs
shares_in us chain ns more [] q xs h e = none_left us chain (nat_eq (length q.positional) 0) xs e
shares_in us chain ns more (x ∷ ps) q xs h e =
    next_in us chain ns more ps (step ns more q (parameter x)) xs (λ r f. step_in us chain ns more q (parameter x) r (by _ _ us (of_inner x chain) (left _ _ us h)) f) (λ z zs f. shares_in us chain ns more ps z zs (right _ _ us h) f) e

if_shares : (b : Bool) (o : Option (List (Name × BoundArgument))) (xs : List (Name × BoundArgument)) → (if b then o else None) ≡ Some xs → o ≡ Some xs
if_shares true o xs e = e
if_shares false o xs e = cc

pub bound_in : (us : List Use) (chain : List ℕ) (ps : List Parameter) (ds : List Value) (g : Arguments) (xs : List (Name × BoundArgument)) → Sub (inner_of (in_parameters ps) chain) us → bound_to ps ds g ≡ Some xs → SharesIn us chain xs
unfolding bound_to
bound_in us chain ps ds g xs h e = shares_in us chain g.named (extra_keywords ps g.named) ps (record { by_name = false; positional = g.positional; defaults = ds }) xs h (if_shares _ _ xs e)

-- the values of shares have the same names
abbrev made_share : ℕ → Name × BoundArgument → Action (Name × Value)
made_share line x = build_argument line x.1 >>= λ v. give (x.0, v)

each_made : (P : Name → Type 0) (line : ℕ) (xs : List (Name × BoundArgument)) (ys : List (Name × Value)) (s t : State) → Every (λ x. P x.0) xs → each (made_share line) xs s ≡ Done ys t → Every (λ y. P y.0) ys
each_made P line [] ys s t h e = subst (λ z. Every (λ y. P y.0) z) (done_is [] ys s t e) tt
each_made P line (x ∷ xs) ys s t h e =
    let a = then_done (made_share line x s) (λ y. each (made_share line) xs >>= λ ys. give (y ∷ ys)) ys t e in
    let b = then_done (each (made_share line) xs a.1) (λ ys. give (a.0 ∷ ys)) ys t a.3 in
    let c = then_done (build_argument line x.1 s) (λ v. give (x.0, v)) a.0 a.1 a.2 in
    let named : P (a.0).0 = subst (λ (z : Name × Value). P z.0) (done_is (x.0, c.0) a.0 c.1 a.1 c.3) h.0 in
    subst (λ z. Every (λ y. P y.0) z) (done_is (a.0 ∷ b.0) ys b.1 t b.3) (named, each_made P line xs b.0 a.1 b.1 h.1 b.2)

pub made_in : (P : Name → Type 0) (line : ℕ) (xs : List (Name × BoundArgument)) (ys : List (Name × Value)) (s t : State) → Every (λ x. P x.0) xs → build_arguments line xs s ≡ Done ys t → Every (λ y. P y.0) ys
unfolding build_arguments
made_in P line xs ys s t h e = each_made P line xs ys s t h e

-- ---- the callee

abbrev pub Callable : Setting → State → Callee → Type 0
Callable w s (AFunction f d) = ((v : Value) × (seen w s v ≡ Some (cell.Func f))) × (definition_of w f.file f.definition ≡ Some d)
Callable w s _ = Unit {0}

found_function : (w : Setting) (line : ℕ) (f : Function) (o : Option Definition) (u t : State) (c : Callee) → and_then (found code.BadType line o u) (λ d. give (AFunction f d)) ≡ Done c t → (d : Definition) × (AFunction f d ≡ c) × (o ≡ Some d)
found_function w line f None u t c e = cc
found_function w line f (Some d) u t c e = (d, done_is (AFunction f d) c u t e, refl)

function_is : (w : Setting) (line : ℕ) (f : Function) (s t : State) (c : Callee) → function_callee w line f s ≡ Done c t → (d : Definition) × (AFunction f d ≡ c) × (definition_of w f.file f.definition ≡ Some d)
function_is w line f s t c e =
    let a = then_done (check code.Recursion line (not (is_active s f)) s) (λ _. found code.BadType line (definition_of w f.file f.definition) >>= λ d. give (AFunction f d)) c t e in
    found_function w line f (definition_of w f.file f.definition) a.1 t c a.3

held_is : (o : Option Cell) (c : Cell) → held o ≡ Held c → o ≡ Some c
held_is None c e = cc
held_is (Some x) c e = let h : x ≡ c = cc in ap Some h

pub content_is : (w : Setting) (s : State) (v : Value) (c : Cell) → content w s v ≡ Held c → seen w s v ≡ Some c
content_is w s value.NoneValue c e = cc
content_is w s (value.Bool b) c e = cc
content_is w s (value.Int n) c e = cc
content_is w s (value.Builtin b) c e = cc
content_is w s (value.Ref home at) c e = held_is (seen w s (value.Ref home at)) c e

built_in_is : (line : ℕ) (s t : State) (b : BuiltIn) (c : Callee) (x : Bool) → (check code.BadType line x >>= λ _. give (ABuiltIn b)) s ≡ Done c t → ABuiltIn b ≡ c
built_in_is line s t b c true e = done_is (ABuiltIn b) c s t e
built_in_is line s t b c false e = cc

content_callee : (w : Setting) (line : ℕ) (s t : State) (v : Value) (x : Content) (c : Callee) → content w s v ≡ x → callee_of w line x s ≡ Done c t → Callable w s c
content_callee w line s t v (Held (cell.Func f)) c h e = let a = function_is w line f s t c e in subst (Callable w s) a.1 ((v, content_is w s v (cell.Func f) h), a.2)
content_callee w line s t v (BuiltInFunction b) c h e = subst (Callable w s) (built_in_is line s t b c (is_function b) e) tt
content_callee w line s t v (Held (cell.Bound m x)) c h e = subst (Callable w s) (done_is (AMethod m x) c s t e) tt
content_callee w line s t v _ c h e = cc

pub callable : (w : Setting) (line : ℕ) (s t : State) (v : Value) (c : Callee) → callee w line v s ≡ Done c t → Callable w s c
unfolding callee
callable w line s t v c e = content_callee w line s t v (content w s v) c refl e

pub agree-pass_form : (tables : Tables) (trees : Trees) (w : Setting) (m n : Semantics) (p : Site) (ss : List Statement) (chain : List ℕ) → Scene tables trees w m n p ss chain → (x : ArgumentForm) → Sub (argument_level x chain) (uses ss) → Agree trees w p.file chain (Some p.frame) (pass_form m p x) (pass_form n p x)
agree-pass_form tables trees w m n p ss chain h (tree.Positional e) k = agree_then trees w p.file chain (Some p.frame) _ _ _ _ (h.parts.expr p e ss chain h.stands (k)) (λ v. agree_give trees w p.file chain (Some p.frame) (Plain v))
agree-pass_form tables trees w m n p ss chain h (tree.Named x e) k = agree_then trees w p.file chain (Some p.frame) _ _ _ _ (h.parts.expr p e ss chain h.stands (k)) (λ v. agree_give trees w p.file chain (Some p.frame) (NamedArgument x.text v))
agree-pass_form tables trees w m n p ss chain h (tree.Argument-F.Argument::Star e) k = agree_then trees w p.file chain (Some p.frame) _ _ _ _ (h.parts.expr p e ss chain h.stands (k)) (λ v. agree_give trees w p.file chain (Some p.frame) (Star v))
agree-pass_form tables trees w m n p ss chain h (tree.Argument-F.Argument::StarStar e) k = agree_then trees w p.file chain (Some p.frame) _ _ _ _ (h.parts.expr p e ss chain h.stands (k)) (λ v. agree_give trees w p.file chain (Some p.frame) (StarStar v))

pub agree-pass : (tables : Tables) (trees : Trees) (w : Setting) (m n : Semantics) (p : Site) (ss : List Statement) (chain : List ℕ) → Scene tables trees w m n p ss chain → (a : Argument) → Sub (in_argument a chain) (uses ss) → Agree trees w p.file chain (Some p.frame) (pass m p a) (pass n p a)
agree-pass tables trees w m n p ss chain h a k = agree-pass_form tables trees w m n p ss chain h (argument a) (by _ _ (uses ss) (of_argument a chain) k)

-- a function that fits is called in its own chain
call_found : (tables : Tables) (trees : Trees) (w : Setting) (m n : Semantics) (p : Site) (ss : List Statement) (chain : List ℕ) → Scene tables trees w m n p ss chain → (f : Function) (d : Definition) (g : Arguments) (us : List Statement) (bs : List ℕ) → Stands trees f.file us → Contains (uses us) (Defined f.definition bs) → definition_of w f.file f.definition ≡ Some d
    → (o : Option (List (Name × BoundArgument))) → bound_to d.parameters f.defaults g ≡ o
    → Agree trees w f.file bs (Some f.frame) (found code.Args p.line o >>= m.call p f d) (found code.Args p.line o >>= n.call p f d)
call_found tables trees w m n p ss chain h f d g us bs stands there known None e = agree_fail Value trees w f.file bs (Some f.frame) code.Args p.line
call_found tables trees w m n p ss chain h f d g us bs stands there known (Some xs) e =
    let named = bound_in (uses us) ((1 + f.definition) ∷ bs) d.parameters f.defaults g xs (h.known.definitions f.file us f.definition bs d stands there known).0 e in
    record { holds = (h.parts.call p f d xs us bs stands there known named).holds }

call_function : (tables : Tables) (trees : Trees) (w : Setting) (m n : Semantics) (p : Site) (ss : List Statement) (chain : List ℕ) → Scene tables trees w m n p ss chain → (levels : ℕ) (f : Function) (d : Definition) (ps : List EvaluatedArgument) (us : List Statement) (bs : List ℕ) → Stands trees f.file us → Contains (uses us) (Defined f.definition bs) → definition_of w f.file f.definition ≡ Some d
    → Agree trees w f.file bs (Some f.frame) (given w p.line ps >>= called w levels m p (AFunction f d)) (given w p.line ps >>= called w levels n p (AFunction f d))
call_function tables trees w m n p ss chain h levels f d ps us bs stands there known =
    agree_then trees w f.file bs (Some f.frame) _ _ _ _ (agree_kept trees w f.file bs (Some f.frame) _ (keeps-given w p.line ps)) (λ g. call_found tables trees w m n p ss chain h f d g us bs stands there known (bound_to d.parameters f.defaults g) refl)

pub nothing_asked : (xs : List Value) → Every (λ x. Unit {0}) xs
nothing_asked [] = tt
nothing_asked (x ∷ xs) = (tt, nothing_asked xs)

-- a plain call with these arguments, of what a value is
plain_then : (tables : Tables) (trees : Trees) (w : Setting) (m n : Semantics) (p : Site) (ss : List Statement) (chain : List ℕ) → Scene tables trees w m n p ss chain → (levels : ℕ) (g : Arguments) (s : State) (fit : AllFit trees w s) (fits : FitsChain w s p.file chain (Some p.frame)) (v : Value) (o : Outcome Callee) → callee w p.line v s ≡ o → quiet.Followed s o
    → (and_then o (λ c. called_plainly w levels m p c g) ≡ and_then o (λ c. called_plainly w levels n p c g)) × Good trees w s (and_then o (λ c. called_plainly w levels n p c g))
plain_then tables trees w m n p ss chain h levels g s fit fits v (Failed e lines) is k = (refl, tt)
plain_then tables trees w m n p ss chain h levels g s fit fits v (Done (AFunction f d) t) is k =
    let c = callable w p.line s t v (AFunction f d) is in
    let fitting : FitsFunction trees w s f = fit (c.0).0 f (c.0).1 in
    let now = chain_carries w s t (carries_follows s t k) f.file fitting.chain (Some f.frame) fitting.fits in
    let r = (call_found tables trees w m n p ss chain h f d g fitting.statements fitting.chain fitting.stands fitting.is_there c.1 (bound_to d.parameters f.defaults g) refl).holds t (fit_follows trees w s t k fit) now in
    (r.0, good_on trees w s t (carries_follows s t k) _ r.1)
plain_then tables trees w m n p ss chain h levels g s fit fits v (Done (ABuiltIn b) t) is k =
    let r = (agree_kept trees w p.file chain (Some p.frame) _ (keeps-call_built_in w levels p.line b g)).holds t (fit_follows trees w s t k fit) (chain_carries w s t (carries_follows s t k) p.file chain (Some p.frame) fits) in
    (r.0, good_on trees w s t (carries_follows s t k) _ r.1)
plain_then tables trees w m n p ss chain h levels g s fit fits v (Done (AMethod b x) t) is k =
    let r = (agree_kept trees w p.file chain (Some p.frame) _ (kept_by w (respects-call_method w levels p.line b x g))).holds t (fit_follows trees w s t k fit) (chain_carries w s t (carries_follows s t k) p.file chain (Some p.frame) fits) in
    (r.0, good_on trees w s t (carries_follows s t k) _ r.1)

agree-key_of : (tables : Tables) (trees : Trees) (w : Setting) (m n : Semantics) (p : Site) (ss : List Statement) (chain : List ℕ) → Scene tables trees w m n p ss chain → (levels : ℕ) (f x : Value) → Agree trees w p.file chain (Some p.frame) (key_of w levels m p f x) (key_of w levels n p f x)
agree-key_of tables trees w m n p ss chain h levels f x = record { holds = λ s fit fits. plain_then tables trees w m n p ss chain h levels (only x) s fit fits f (callee w p.line f s) refl (((kept_by w (respects-callee w p.line f)).follows refl).holds s) }

agree-keyed : (tables : Tables) (trees : Trees) (w : Setting) (m n : Semantics) (p : Site) (ss : List Statement) (chain : List ℕ) → Scene tables trees w m n p ss chain → (levels : ℕ) (f x : Value) → Agree trees w p.file chain (Some p.frame) (keyed w levels m p f x) (keyed w levels n p f x)
agree-keyed tables trees w m n p ss chain h levels f x = agree_then trees w p.file chain (Some p.frame) _ _ _ _ (agree-key_of tables trees w m n p ss chain h levels f x) (λ k. agree_give trees w p.file chain (Some p.frame) (k, x))

agree-with_keys : (tables : Tables) (trees : Trees) (w : Setting) (m n : Semantics) (p : Site) (ss : List Statement) (chain : List ℕ) → Scene tables trees w m n p ss chain → (levels : ℕ) (o : Option Value) (xs : List Value) → Agree trees w p.file chain (Some p.frame) (with_keys w levels m p o xs) (with_keys w levels n p o xs)
agree-with_keys tables trees w m n p ss chain h levels None xs = agree_give trees w p.file chain (Some p.frame) (map by_itself xs)
agree-with_keys tables trees w m n p ss chain h levels (Some f) xs = agree_each trees w p.file chain (Some p.frame) (λ x. Unit {0}) _ _ (λ x _. agree-keyed tables trees w m n p ss chain h levels f x) xs (nothing_asked xs)

agree-sorted_by_key : (tables : Tables) (trees : Trees) (w : Setting) (m n : Semantics) (p : Site) (ss : List Statement) (chain : List ℕ) → Scene tables trees w m n p ss chain → (levels : ℕ) (g : Arguments) → Agree trees w p.file chain (Some p.frame) (sorted_by_key w levels m p g) (sorted_by_key w levels n p g)
agree-sorted_by_key tables trees w m n p ss chain h levels g = agree_then trees w p.file chain (Some p.frame) _ _ _ _ (agree_kept trees w p.file chain (Some p.frame) _ (kept_by w (respects-asked_to_sort w p.line g))) (λ a. agree_then trees w p.file chain (Some p.frame) _ _ _ _ (agree-with_keys tables trees w m n p ss chain h levels a.1 a.0) (λ ps. agree_kept trees w p.file chain (Some p.frame) _ (kept_by w (respects-sort_by w levels p.line a.2 ps))))

agree-best_by_key : (tables : Tables) (trees : Trees) (w : Setting) (m n : Semantics) (p : Site) (ss : List Statement) (chain : List ℕ) → Scene tables trees w m n p ss chain → (levels : ℕ) (better : Ordering → Bool) (g : Arguments) → Agree trees w p.file chain (Some p.frame) (best_by_key w levels m p better g) (best_by_key w levels n p better g)
agree-best_by_key tables trees w m n p ss chain h levels better g = agree_then trees w p.file chain (Some p.frame) _ _ _ _ (agree_kept trees w p.file chain (Some p.frame) _ (kept_by w (respects-asked_for_best w p.line g))) (λ a. agree_then trees w p.file chain (Some p.frame) _ _ _ _ (agree-with_keys tables trees w m n p ss chain h levels a.1 a.0) (λ ps. agree_kept trees w p.file chain (Some p.frame) _ (kept_by w (respects-best_by w levels p.line better ps))))

agree-called_by_key : (tables : Tables) (trees : Trees) (w : Setting) (m n : Semantics) (p : Site) (ss : List Statement) (chain : List ℕ) → Scene tables trees w m n p ss chain → (levels : ℕ) (b : BuiltIn) (g : Arguments) → Agree trees w p.file chain (Some p.frame) (called_by_key w levels m p b g) (called_by_key w levels n p b g)
agree-called_by_key tables trees w m n p ss chain h levels built_in.Sorted g = agree-sorted_by_key tables trees w m n p ss chain h levels g
agree-called_by_key tables trees w m n p ss chain h levels built_in.Max g = agree-best_by_key tables trees w m n p ss chain h levels is_gt g
agree-called_by_key tables trees w m n p ss chain h levels built_in.Min g = agree-best_by_key tables trees w m n p ss chain h levels is_lt g
agree-called_by_key tables trees w m n p ss chain h levels b g = agree_kept trees w p.file chain (Some p.frame) _ (keeps-call_built_in w levels p.line b g)

agree-called_built_in : (tables : Tables) (trees : Trees) (w : Setting) (m n : Semantics) (p : Site) (ss : List Statement) (chain : List ℕ) → Scene tables trees w m n p ss chain → (levels : ℕ) (b : BuiltIn) (g : Arguments) (c : Bool) → Agree trees w p.file chain (Some p.frame) (called_built_in w levels m p b g c) (called_built_in w levels n p b g c)
agree-called_built_in tables trees w m n p ss chain h levels b g true = agree-called_by_key tables trees w m n p ss chain h levels b g
agree-called_built_in tables trees w m n p ss chain h levels b g false = agree_kept trees w p.file chain (Some p.frame) _ (keeps-call_built_in w levels p.line b g)

abbrev pub after : Setting → ℕ → Semantics → Site → List EvaluatedArgument → Callee → Action Value
after w levels m p ps c = given w p.line ps >>= λ g. called w levels m p c g

called_then : (tables : Tables) (trees : Trees) (w : Setting) (m n : Semantics) (p : Site) (ss : List Statement) (chain : List ℕ) → Scene tables trees w m n p ss chain → (levels : ℕ) (ps : List EvaluatedArgument) (s : State) (fit : AllFit trees w s) (fits : FitsChain w s p.file chain (Some p.frame)) (v : Value) (o : Outcome Callee) → callee w p.line v s ≡ o → quiet.Followed s o
    → (and_then o (after w levels m p ps) ≡ and_then o (after w levels n p ps)) × Good trees w s (and_then o (after w levels n p ps))
called_then tables trees w m n p ss chain h levels ps s fit fits v (Failed e lines) is k = (refl, tt)
called_then tables trees w m n p ss chain h levels ps s fit fits v (Done (AFunction f d) t) is k =
    let c = callable w p.line s t v (AFunction f d) is in
    let fitting : FitsFunction trees w s f = fit (c.0).0 f (c.0).1 in
    let now = chain_carries w s t (carries_follows s t k) f.file fitting.chain (Some f.frame) fitting.fits in
    let r = (call_function tables trees w m n p ss chain h levels f d ps fitting.statements fitting.chain fitting.stands fitting.is_there c.1).holds t (fit_follows trees w s t k fit) now in
    (r.0, good_on trees w s t (carries_follows s t k) _ r.1)
called_then tables trees w m n p ss chain h levels ps s fit fits v (Done (ABuiltIn b) t) is k =
    let r = (agree_then trees w p.file chain (Some p.frame) _ _ _ _ (agree_kept trees w p.file chain (Some p.frame) _ (keeps-given w p.line ps)) (λ g. agree-called_built_in tables trees w m n p ss chain h levels b g (takes_key w.language.dialect g))).holds t (fit_follows trees w s t k fit) (chain_carries w s t (carries_follows s t k) p.file chain (Some p.frame) fits) in
    (r.0, good_on trees w s t (carries_follows s t k) _ r.1)
called_then tables trees w m n p ss chain h levels ps s fit fits v (Done (AMethod b x) t) is k =
    let r = (agree_then trees w p.file chain (Some p.frame) _ _ _ _ (agree_kept trees w p.file chain (Some p.frame) _ (keeps-given w p.line ps)) (λ g. agree_kept trees w p.file chain (Some p.frame) _ (kept_by w (respects-call_method w levels p.line b x g)))).holds t (fit_follows trees w s t k fit) (chain_carries w s t (carries_follows s t k) p.file chain (Some p.frame) fits) in
    (r.0, good_on trees w s t (carries_follows s t k) _ r.1)

pub agree-callee : (tables : Tables) (trees : Trees) (w : Setting) (m n : Semantics) (p : Site) (ss : List Statement) (chain : List ℕ) → Scene tables trees w m n p ss chain → (levels : ℕ) (ps : List EvaluatedArgument) (v : Value) → Agree trees w p.file chain (Some p.frame) (callee w p.line v >>= after w levels m p ps) (callee w p.line v >>= after w levels n p ps)
agree-callee tables trees w m n p ss chain h levels ps v = record { holds = λ s fit fits. called_then tables trees w m n p ss chain h levels ps s fit fits v (callee w p.line v s) refl (((kept_by w (respects-callee w p.line v)).follows refl).holds s) }

pub agree-call_node : (tables : Tables) (trees : Trees) (w : Setting) (m n : Semantics) (p : Site) (ss : List Statement) (chain : List ℕ) → Scene tables trees w m n p ss chain → (levels : ℕ) (f : Expression) (es : List Argument) → Sub (in_expression f chain) (uses ss) → Sub (all_uses in_argument es chain) (uses ss) → Agree trees w p.file chain (Some p.frame) (call_node w levels m p f es) (call_node w levels n p f es)
agree-call_node tables trees w m n p ss chain h levels f es k l = agree_then trees w p.file chain (Some p.frame) _ _ _ _ (h.parts.expr p f ss chain h.stands (k)) (λ v. agree_then trees w p.file chain (Some p.frame) _ _ _ _ (agree_each trees w p.file chain (Some p.frame) (λ a. Sub (in_argument a chain) (uses ss)) _ _ (λ a j. agree-pass tables trees w m n p ss chain h a j) es (every in_argument es chain (uses ss) l)) (λ ps. agree-callee tables trees w m n p ss chain h levels ps v))

pub agree-run_body : (tables : Tables) (trees : Trees) (w : Setting) (m n : Semantics) (p : Site) (ss : List Statement) (chain : List ℕ) → Scene tables trees w m n p ss chain → (b : Body) → Sub (body_uses b chain) (uses ss) → Agree trees w p.file chain (Some p.frame) (run_body m p b) (run_body n p b)
agree-run_body tables trees w m n p ss chain h (Statements body) k = agree_then trees w p.file chain (Some p.frame) _ _ _ _ (agree_block trees w p.file chain (Some p.frame) (λ x. Sub (in_statement x chain) (uses ss)) _ _ (λ x j. h.parts.stmt p x ss chain h.stands j) body (every in_statement body chain (uses ss) k)) (λ f. agree_give trees w p.file chain (Some p.frame) (answer_of f))
agree-run_body tables trees w m n p ss chain h (Answer e) k = h.parts.expr p e ss chain h.stands (k)

run_inside : (tables : Tables) (trees : Trees) (w : Setting) (m n : Semantics) (p : Site) (f : Function) (d : Definition) (values : List (Name × Value)) (v : Value) (ss : List Statement) (chain : List ℕ)
    → Known tables trees w → AllAgree trees w m n → Stands trees f.file ss → Contains (uses ss) (Defined f.definition chain) → definition_of w f.file f.definition ≡ Some d
    → Every (λ y. Contains (uses ss) (Named y.0 ((1 + f.definition) ∷ chain))) values
    → Agree trees w f.file ((1 + f.definition) ∷ chain) (Some v) (all_of (λ x. bind_spot tables (record { file = f.file; frame = v; line = p.line }) x.0 x.1) values >>= λ _. activate f >>= λ _. run_body m (record { file = f.file; frame = v; line = p.line }) d.body >>= λ u. deactivate >>= λ _. give u)
    (all_of (λ x. bind_name w (record { file = f.file; frame = v; line = p.line }) x.0 x.1) values >>= λ _. activate f >>= λ _. run_body n (record { file = f.file; frame = v; line = p.line }) d.body >>= λ u. deactivate >>= λ _. give u)
run_inside tables trees w m n p f d values v ss chain known parts stands there is named =
    let body = (known.definitions f.file ss f.definition chain d stands there is).1 in
    let scene : Scene tables trees w m n (record { file = f.file; frame = v; line = p.line }) ss ((1 + f.definition) ∷ chain) = record { known = known; parts = parts; stands = stands } in
    agree_then trees w f.file ((1 + f.definition) ∷ chain) (Some v) _ _ _ _ (agree_all_of trees w f.file ((1 + f.definition) ∷ chain) (Some v) (λ x. Contains (uses ss) (Named x.0 ((1 + f.definition) ∷ chain))) _ _ (λ x k. agree_bind tables trees w known.resolved (record { file = f.file; frame = v; line = p.line }) x.0 x.1 ss ((1 + f.definition) ∷ chain) stands k) values named)
    (λ _. agree_then trees w f.file ((1 + f.definition) ∷ chain) (Some v) _ _ _ _ (agree_quiet trees w f.file ((1 + f.definition) ∷ chain) (Some v) _ (quiet.keeps_activate f))
    (λ _. agree_then trees w f.file ((1 + f.definition) ∷ chain) (Some v) _ _ _ _ (agree-run_body tables trees w m n (record { file = f.file; frame = v; line = p.line }) ss ((1 + f.definition) ∷ chain) scene d.body body)
    (λ u. agree_then trees w f.file ((1 + f.definition) ∷ chain) (Some v) _ _ _ _ (agree_quiet trees w f.file ((1 + f.definition) ∷ chain) (Some v) _ quiet.keeps_deactivate) (λ _. agree_give trees w f.file ((1 + f.definition) ∷ chain) (Some v) u))))

pub agree-run : (tables : Tables) (trees : Trees) (w : Setting) (m n : Semantics) (p : Site) (f : Function) (d : Definition) (xs : List (Name × BoundArgument)) (ss : List Statement) (chain : List ℕ)
    → Known tables trees w → AllAgree trees w m n → Stands trees f.file ss → Contains (uses ss) (Defined f.definition chain) → definition_of w f.file f.definition ≡ Some d
    → Every (λ x. Contains (uses ss) (Named x.0 ((1 + f.definition) ∷ chain))) xs
    → Agree trees w f.file chain (Some f.frame) (run (by_places tables w) m p f d xs) (run (by_names w) n p f d xs)
agree-run tables trees w m n p f d xs ss chain known parts stands there is named =
    agree_such trees w f.file chain (Some f.frame) _ _ _ _ (agree_kept trees w f.file chain (Some f.frame) _ (keeps-build_arguments p.line xs)) (λ s values t e.
    agree_then trees w f.file chain (Some f.frame) _ _ _ _ (agree_quiet trees w f.file chain (Some f.frame) _ (quiet.keeps_pay p.line 1)) (λ _.
    agree_frame tables trees w known.resolved f.file (1 + f.definition) ss chain (Some f.frame) _ _ stands (λ v.
    run_inside tables trees w m n p f d values v ss chain known parts stands there is (made_in (λ x. Contains (uses ss) (Named x ((1 + f.definition) ∷ chain))) p.line xs values s t named e))))
