-- Calls, by places with other outlines, and by names: the function that is called fits, so its body does the same in
-- its own chain of frames.
use Rattle.std.proofs.Common.{◌≡◌, ℕ, ◌+◌, List, ◌∷◌, not, Option, Some, None, refl, ap, ◌∙◌, Bool, true, false, map}
use Rattle.std.specs.List.{Contains}
use Rattle.std.specs.Option.{option_and_then}
use Rattle.star_store.specs.declared.values.Value.{Value}
use Rattle.star_store.specs.declared.values.Cell.TheVariants as cell
use Rattle.star_store.specs.declared.values.Function.{Function}
use Rattle.star_tree.specs.declared.tree.Argument.{Argument}
use Rattle.star_tree.specs.declared.tree.Expression.{Expression}
use Rattle.star_tree.specs.declared.tree.Name.{Name}
use Rattle.star_tree.specs.declared.tree.Statement.{Statement}
use Rattle.star_tree.specs.declared.tree.Argument.TheOpen as tree
use Rattle.star_outline.specs.Definitions.{Body, Statements, Answer, Definition}
use Rattle.star_outline.specs.Syntax.{ArgumentForm, argument}
use Rattle.star_scope.specs.Uses.{Defined, Named, all_uses, in_argument, in_expression, in_statement, uses}
use Rattle.star_meaning.specs.declared.fault.FaultCode.TheVariants as code
use Rattle.star_meaning.specs.declared.site.Site.{Site}
use Rattle.star_meaning.specs.Run.{State, Outcome, Done, Failed, Action, and_then, ◌>>=◌, give, found, check, all_of, seeing}
use Rattle.star_meaning.specs.Program.{Setting, definition_of}
use Rattle.star_meaning.specs.Variables.{bind_name, by_names}
use Rattle.star_meaning.specs.Values.{Content, Held, BuiltInFunction, content}
use Rattle.star_meaning.specs.declared.given.Arguments.{Arguments}
use Rattle.star_meaning.specs.Arguments.{EvaluatedArgument, Plain, Named as NamedArgument, Star, StarStar, given}
use Rattle.star_meaning.specs.Semantics.{Semantics}
use Rattle.star_meaning.specs.Binding.{BoundArgument, bound_to}
use Rattle.star_meaning.specs.Calls.{AFunction, ABuiltIn, AMethod, Callee, activate, answer_of, deactivate, call_node, best_by_key, called, called_built_in, called_by_key, called_plainly, callee, key_of, keyed, only, sorted_by_key, takes_key, with_keys, callee_of, is_active, pass, pass_form, run, run_body}
use Rattle.star_meaning.specs.Local.{Trees}
use Rattle.star_meaning.specs.Places.{AllFit, FitsChain, FitsFunction, Stands, Tables, bind_spot, by_places}
use Rattle.std.specs.Ordering.{is_gt, is_lt}
use Rattle.std.specs.declared.cmp.Ordering.{Ordering}
use Rattle.star_store.specs.declared.names.BuiltIn.{BuiltIn}
use Rattle.star_store.specs.declared.names.BuiltIn.TheVariants as built_in
use Rattle.star_meaning.specs.Orders.{by_itself}
use Rattle.star_meaning.proofs.KeepsOrders.{respects-asked_for_best, respects-asked_to_sort, respects-best_by, respects-sort_by}
use Rattle.star_meaning.proofs.Agree.{Agree, Every, Good, agree_all_of, agree_bind, agree_block, agree_each, agree_fail, agree_frame, agree_give, agree_kept, agree_quiet, agree_such, agree_then, carries_follows, chain_carries, fit_follows, good_on}
use Rattle.star_meaning.proofs.AgreeParts.{AllAgree, Known, Scene, body_uses}
use Rattle.star_meaning.proofs.UsesOf.{Sub, argument_level, by, every, of_argument}
use Rattle.star_meaning.proofs.Quiet as quiet
use Rattle.star_meaning.proofs.Keeps.{kept_by}
use Rattle.star_meaning.proofs.KeepsArguments.{keeps-given}
use Rattle.star_meaning.proofs.KeepsBinding.{keeps-build_arguments}
use Rattle.star_meaning.proofs.KeepsBuiltIns.{keeps-call_built_in}
use Rattle.star_meaning.proofs.KeepsMethods.{respects-call_method}
use Rattle.star_meaning.proofs.KeepsCallee.{respects-callee}
use Rattle.star_meaning.proofs.AgreeCalls.{bound_in, made_in, content_is, callable, nothing_asked, after}
use Rattle.star_outline.specs.Outlines.{Outline}
use Rattle.star_outline.specs.Definitions.{definition_in}
use Rattle.star_needs.proofs.Outlines.{with_outlines}
use Rattle.star_needs.proofs.Sight.{Sight, alike}
use Rattle.star_needs.proofs.Same.{same-asked_for_best, same-asked_to_sort, same-best_by, same-call_built_in, same-call_method, same-given, same-sort_by}

pub agree-pass_form : (tables : Tables) (trees : Trees) (w : Setting) (sight : Sight trees w) (m n : Semantics) (p : Site) (ss : List Statement) (chain : List ℕ) → Scene tables trees w m n p ss chain → (x : ArgumentForm) → Sub (argument_level x chain) (uses ss) → Agree trees w p.file chain (Some p.frame) (pass_form m p x) (pass_form n p x)
agree-pass_form tables trees w sight m n p ss chain h (tree.Positional e) k = agree_then trees w p.file chain (Some p.frame) _ _ _ _ (h.parts.expr p e ss chain h.stands (k)) (λ v. agree_give trees w p.file chain (Some p.frame) (Plain v))
agree-pass_form tables trees w sight m n p ss chain h (tree.Named x e) k = agree_then trees w p.file chain (Some p.frame) _ _ _ _ (h.parts.expr p e ss chain h.stands (k)) (λ v. agree_give trees w p.file chain (Some p.frame) (NamedArgument x.text v))
agree-pass_form tables trees w sight m n p ss chain h (tree.Argument-F.Argument::Star e) k = agree_then trees w p.file chain (Some p.frame) _ _ _ _ (h.parts.expr p e ss chain h.stands (k)) (λ v. agree_give trees w p.file chain (Some p.frame) (Star v))
agree-pass_form tables trees w sight m n p ss chain h (tree.Argument-F.Argument::StarStar e) k = agree_then trees w p.file chain (Some p.frame) _ _ _ _ (h.parts.expr p e ss chain h.stands (k)) (λ v. agree_give trees w p.file chain (Some p.frame) (StarStar v))

pub agree-pass : (tables : Tables) (trees : Trees) (w : Setting) (sight : Sight trees w) (m n : Semantics) (p : Site) (ss : List Statement) (chain : List ℕ) → Scene tables trees w m n p ss chain → (a : Argument) → Sub (in_argument a chain) (uses ss) → Agree trees w p.file chain (Some p.frame) (pass m p a) (pass n p a)
agree-pass tables trees w sight m n p ss chain h a k = agree-pass_form tables trees w sight m n p ss chain h (argument a) (by _ _ (uses ss) (of_argument a chain) k)

-- a function that fits is called in its own chain
call_found : (tables : Tables) (trees : Trees) (w : Setting) (sight : Sight trees w) (m n : Semantics) (p : Site) (ss : List Statement) (chain : List ℕ) → Scene tables trees w m n p ss chain → (f : Function) (d : Definition) (g : Arguments) (us : List Statement) (bs : List ℕ) → Stands trees f.file us → Contains (uses us) (Defined f.definition bs) → definition_of w f.file f.definition ≡ Some d
    → (o : Option (List (Name × BoundArgument))) → bound_to d.parameters f.defaults g ≡ o
    → Agree trees w f.file bs (Some f.frame) (found code.Args p.line o >>= m.call p f d) (found code.Args p.line o >>= n.call p f d)
call_found tables trees w sight m n p ss chain h f d g us bs stands there known None e = agree_fail Value trees w f.file bs (Some f.frame) code.Args p.line
call_found tables trees w sight m n p ss chain h f d g us bs stands there known (Some xs) e =
    let named = bound_in (uses us) ((1 + f.definition) ∷ bs) d.parameters f.defaults g xs (h.known.definitions f.file us f.definition bs d stands there known).0 e in
    record { holds = (h.parts.call p f d xs us bs stands there known named).holds }

call_function : (tables : Tables) (trees : Trees) (w : Setting) (sight : Sight trees w) (m n : Semantics) (p : Site) (ss : List Statement) (chain : List ℕ) → Scene tables trees w m n p ss chain → (levels : ℕ) (f : Function) (d : Definition) (ps : List EvaluatedArgument) (us : List Statement) (bs : List ℕ) → Stands trees f.file us → Contains (uses us) (Defined f.definition bs) → definition_of w f.file f.definition ≡ Some d
    → Agree trees w f.file bs (Some f.frame) (given (with_outlines sight.outlines w) p.line ps >>= called (with_outlines sight.outlines w) levels m p (AFunction f d)) (given w p.line ps >>= called w levels n p (AFunction f d))
call_function tables trees w sight m n p ss chain h levels f d ps us bs stands there known =
    agree_then trees w f.file bs (Some f.frame) _ _ _ _ (alike trees w f.file bs (Some f.frame) _ _ (same-given sight.outlines w p.line ps) (keeps-given w p.line ps)) (λ g. call_found tables trees w sight m n p ss chain h f d g us bs stands there known (bound_to d.parameters f.defaults g) refl)

-- the same may be called
abbrev callee_by : ℕ → Function → Option Outline → Action Callee
callee_by line f o = do
  _ ← seeing (λ s. check code.Recursion line (not (is_active s f)))
  d ← found code.BadType line (option_and_then (λ o. definition_in o.definitions f.definition) o)
  give (AFunction f d)

callee-of : (trees : Trees) (w : Setting) (sight : Sight trees w) (s : State) → AllFit trees w s → (line : ℕ) (v : Value) (x : Content) → content w s v ≡ x → callee_of (with_outlines sight.outlines w) line x s ≡ callee_of w line x s
callee-of trees w sight s fit line v (Held (cell.Func f)) e =
    let fits : FitsFunction trees w s f = fit v f (content_is w s v (cell.Func f) e) in
    ap (λ o. callee_by line f o s) (sight.same f.file fits.statements fits.stands)
callee-of trees w sight s fit line v (BuiltInFunction b) e = refl
callee-of trees w sight s fit line v _ e = refl

callee-same : (trees : Trees) (w : Setting) (sight : Sight trees w) (s : State) → AllFit trees w s → (line : ℕ) (v : Value) → callee (with_outlines sight.outlines w) line v s ≡ callee w line v s
unfolding callee
callee-same trees w sight s fit line v = callee-of trees w sight s fit line v (content w s v) refl

-- a plain call with these arguments, of what a value is
plain_then : (tables : Tables) (trees : Trees) (w : Setting) (sight : Sight trees w) (m n : Semantics) (p : Site) (ss : List Statement) (chain : List ℕ) → Scene tables trees w m n p ss chain → (levels : ℕ) (g : Arguments) (s : State) (fit : AllFit trees w s) (fits : FitsChain w s p.file chain (Some p.frame)) (v : Value) (o : Outcome Callee) → callee w p.line v s ≡ o → quiet.Followed s o
    → (and_then o (λ c. called_plainly (with_outlines sight.outlines w) levels m p c g) ≡ and_then o (λ c. called_plainly w levels n p c g)) × Good trees w s (and_then o (λ c. called_plainly w levels n p c g))
plain_then tables trees w sight m n p ss chain h levels g s fit fits v (Failed e lines) is k = (refl, tt)
plain_then tables trees w sight m n p ss chain h levels g s fit fits v (Done (AFunction f d) t) is k =
    let c = callable w p.line s t v (AFunction f d) is in
    let fitting : FitsFunction trees w s f = fit (c.0).0 f (c.0).1 in
    let now = chain_carries w s t (carries_follows s t k) f.file fitting.chain (Some f.frame) fitting.fits in
    let r = (call_found tables trees w sight m n p ss chain h f d g fitting.statements fitting.chain fitting.stands fitting.is_there c.1 (bound_to d.parameters f.defaults g) refl).holds t (fit_follows trees w s t k fit) now in
    (r.0, good_on trees w s t (carries_follows s t k) _ r.1)
plain_then tables trees w sight m n p ss chain h levels g s fit fits v (Done (ABuiltIn b) t) is k =
    let r = (alike trees w p.file chain (Some p.frame) _ _ (same-call_built_in sight.outlines w levels p.line b g) (keeps-call_built_in w levels p.line b g)).holds t (fit_follows trees w s t k fit) (chain_carries w s t (carries_follows s t k) p.file chain (Some p.frame) fits) in
    (r.0, good_on trees w s t (carries_follows s t k) _ r.1)
plain_then tables trees w sight m n p ss chain h levels g s fit fits v (Done (AMethod b x) t) is k =
    let r = (alike trees w p.file chain (Some p.frame) _ _ (same-call_method sight.outlines w levels p.line b x g) (kept_by w (respects-call_method w levels p.line b x g))).holds t (fit_follows trees w s t k fit) (chain_carries w s t (carries_follows s t k) p.file chain (Some p.frame) fits) in
    (r.0, good_on trees w s t (carries_follows s t k) _ r.1)

agree-key_of : (tables : Tables) (trees : Trees) (w : Setting) (sight : Sight trees w) (m n : Semantics) (p : Site) (ss : List Statement) (chain : List ℕ) → Scene tables trees w m n p ss chain → (levels : ℕ) (f x : Value) → Agree trees w p.file chain (Some p.frame) (key_of (with_outlines sight.outlines w) levels m p f x) (key_of w levels n p f x)
agree-key_of tables trees w sight m n p ss chain h levels f x = record {
  holds = λ s fit fits. (let r = plain_then tables trees w sight m n p ss chain h levels (only x) s fit fits f (callee w p.line f s) refl (((kept_by w (respects-callee w p.line f)).follows refl).holds s) in (ap (λ o. and_then o (λ c. called_plainly (with_outlines sight.outlines w) levels m p c (only x))) (callee-same trees w sight s fit p.line f) ∙ r.0, r.1));
}

agree-keyed : (tables : Tables) (trees : Trees) (w : Setting) (sight : Sight trees w) (m n : Semantics) (p : Site) (ss : List Statement) (chain : List ℕ) → Scene tables trees w m n p ss chain → (levels : ℕ) (f x : Value) → Agree trees w p.file chain (Some p.frame) (keyed (with_outlines sight.outlines w) levels m p f x) (keyed w levels n p f x)
agree-keyed tables trees w sight m n p ss chain h levels f x = agree_then trees w p.file chain (Some p.frame) _ _ _ _ (agree-key_of tables trees w sight m n p ss chain h levels f x) (λ k. agree_give trees w p.file chain (Some p.frame) (k, x))

agree-with_keys : (tables : Tables) (trees : Trees) (w : Setting) (sight : Sight trees w) (m n : Semantics) (p : Site) (ss : List Statement) (chain : List ℕ) → Scene tables trees w m n p ss chain → (levels : ℕ) (o : Option Value) (xs : List Value) → Agree trees w p.file chain (Some p.frame) (with_keys (with_outlines sight.outlines w) levels m p o xs) (with_keys w levels n p o xs)
agree-with_keys tables trees w sight m n p ss chain h levels None xs = agree_give trees w p.file chain (Some p.frame) (map by_itself xs)
agree-with_keys tables trees w sight m n p ss chain h levels (Some f) xs = agree_each trees w p.file chain (Some p.frame) (λ x. Unit {0}) _ _ (λ x _. agree-keyed tables trees w sight m n p ss chain h levels f x) xs (nothing_asked xs)

agree-sorted_by_key : (tables : Tables) (trees : Trees) (w : Setting) (sight : Sight trees w) (m n : Semantics) (p : Site) (ss : List Statement) (chain : List ℕ) → Scene tables trees w m n p ss chain → (levels : ℕ) (g : Arguments) → Agree trees w p.file chain (Some p.frame) (sorted_by_key (with_outlines sight.outlines w) levels m p g) (sorted_by_key w levels n p g)
agree-sorted_by_key tables trees w sight m n p ss chain h levels g = agree_then trees w p.file chain (Some p.frame) _ _ _ _ (alike trees w p.file chain (Some p.frame) _ _ (same-asked_to_sort sight.outlines w p.line g) (kept_by w (respects-asked_to_sort w p.line g))) (λ a. agree_then trees w p.file chain (Some p.frame) _ _ _ _ (agree-with_keys tables trees w sight m n p ss chain h levels a.1 a.0) (λ ps. alike trees w p.file chain (Some p.frame) _ _ (same-sort_by sight.outlines w levels p.line a.2 ps) (kept_by w (respects-sort_by w levels p.line a.2 ps))))

agree-best_by_key : (tables : Tables) (trees : Trees) (w : Setting) (sight : Sight trees w) (m n : Semantics) (p : Site) (ss : List Statement) (chain : List ℕ) → Scene tables trees w m n p ss chain → (levels : ℕ) (better : Ordering → Bool) (g : Arguments) → Agree trees w p.file chain (Some p.frame) (best_by_key (with_outlines sight.outlines w) levels m p better g) (best_by_key w levels n p better g)
agree-best_by_key tables trees w sight m n p ss chain h levels better g = agree_then trees w p.file chain (Some p.frame) _ _ _ _ (alike trees w p.file chain (Some p.frame) _ _ (same-asked_for_best sight.outlines w p.line g) (kept_by w (respects-asked_for_best w p.line g))) (λ a. agree_then trees w p.file chain (Some p.frame) _ _ _ _ (agree-with_keys tables trees w sight m n p ss chain h levels a.1 a.0) (λ ps. alike trees w p.file chain (Some p.frame) _ _ (same-best_by sight.outlines w levels p.line better ps) (kept_by w (respects-best_by w levels p.line better ps))))

agree-called_by_key : (tables : Tables) (trees : Trees) (w : Setting) (sight : Sight trees w) (m n : Semantics) (p : Site) (ss : List Statement) (chain : List ℕ) → Scene tables trees w m n p ss chain → (levels : ℕ) (b : BuiltIn) (g : Arguments) → Agree trees w p.file chain (Some p.frame) (called_by_key (with_outlines sight.outlines w) levels m p b g) (called_by_key w levels n p b g)
agree-called_by_key tables trees w sight m n p ss chain h levels built_in.Sorted g = agree-sorted_by_key tables trees w sight m n p ss chain h levels g
agree-called_by_key tables trees w sight m n p ss chain h levels built_in.Max g = agree-best_by_key tables trees w sight m n p ss chain h levels is_gt g
agree-called_by_key tables trees w sight m n p ss chain h levels built_in.Min g = agree-best_by_key tables trees w sight m n p ss chain h levels is_lt g
agree-called_by_key tables trees w sight m n p ss chain h levels b g = alike trees w p.file chain (Some p.frame) _ _ (same-call_built_in sight.outlines w levels p.line b g) (keeps-call_built_in w levels p.line b g)

agree-called_built_in : (tables : Tables) (trees : Trees) (w : Setting) (sight : Sight trees w) (m n : Semantics) (p : Site) (ss : List Statement) (chain : List ℕ) → Scene tables trees w m n p ss chain → (levels : ℕ) (b : BuiltIn) (g : Arguments) (c : Bool) → Agree trees w p.file chain (Some p.frame) (called_built_in (with_outlines sight.outlines w) levels m p b g c) (called_built_in w levels n p b g c)
agree-called_built_in tables trees w sight m n p ss chain h levels b g true = agree-called_by_key tables trees w sight m n p ss chain h levels b g
agree-called_built_in tables trees w sight m n p ss chain h levels b g false = alike trees w p.file chain (Some p.frame) _ _ (same-call_built_in sight.outlines w levels p.line b g) (keeps-call_built_in w levels p.line b g)

called_then : (tables : Tables) (trees : Trees) (w : Setting) (sight : Sight trees w) (m n : Semantics) (p : Site) (ss : List Statement) (chain : List ℕ) → Scene tables trees w m n p ss chain → (levels : ℕ) (ps : List EvaluatedArgument) (s : State) (fit : AllFit trees w s) (fits : FitsChain w s p.file chain (Some p.frame)) (v : Value) (o : Outcome Callee) → callee w p.line v s ≡ o → quiet.Followed s o
    → (and_then o (after (with_outlines sight.outlines w) levels m p ps) ≡ and_then o (after w levels n p ps)) × Good trees w s (and_then o (after w levels n p ps))
called_then tables trees w sight m n p ss chain h levels ps s fit fits v (Failed e lines) is k = (refl, tt)
called_then tables trees w sight m n p ss chain h levels ps s fit fits v (Done (AFunction f d) t) is k =
    let c = callable w p.line s t v (AFunction f d) is in
    let fitting : FitsFunction trees w s f = fit (c.0).0 f (c.0).1 in
    let now = chain_carries w s t (carries_follows s t k) f.file fitting.chain (Some f.frame) fitting.fits in
    let r = (call_function tables trees w sight m n p ss chain h levels f d ps fitting.statements fitting.chain fitting.stands fitting.is_there c.1).holds t (fit_follows trees w s t k fit) now in
    (r.0, good_on trees w s t (carries_follows s t k) _ r.1)
called_then tables trees w sight m n p ss chain h levels ps s fit fits v (Done (ABuiltIn b) t) is k =
    let r = (agree_then trees w p.file chain (Some p.frame) _ _ _ _ (alike trees w p.file chain (Some p.frame) _ _ (same-given sight.outlines w p.line ps) (keeps-given w p.line ps)) (λ g. agree-called_built_in tables trees w sight m n p ss chain h levels b g (takes_key w.language.dialect g))).holds t (fit_follows trees w s t k fit) (chain_carries w s t (carries_follows s t k) p.file chain (Some p.frame) fits) in
    (r.0, good_on trees w s t (carries_follows s t k) _ r.1)
called_then tables trees w sight m n p ss chain h levels ps s fit fits v (Done (AMethod b x) t) is k =
    let r = (agree_then trees w p.file chain (Some p.frame) _ _ _ _ (alike trees w p.file chain (Some p.frame) _ _ (same-given sight.outlines w p.line ps) (keeps-given w p.line ps)) (λ g. alike trees w p.file chain (Some p.frame) _ _ (same-call_method sight.outlines w levels p.line b x g) (kept_by w (respects-call_method w levels p.line b x g)))).holds t (fit_follows trees w s t k fit) (chain_carries w s t (carries_follows s t k) p.file chain (Some p.frame) fits) in
    (r.0, good_on trees w s t (carries_follows s t k) _ r.1)

pub agree-callee : (tables : Tables) (trees : Trees) (w : Setting) (sight : Sight trees w) (m n : Semantics) (p : Site) (ss : List Statement) (chain : List ℕ) → Scene tables trees w m n p ss chain → (levels : ℕ) (ps : List EvaluatedArgument) (v : Value) → Agree trees w p.file chain (Some p.frame) (callee (with_outlines sight.outlines w) p.line v >>= after (with_outlines sight.outlines w) levels m p ps) (callee w p.line v >>= after w levels n p ps)
agree-callee tables trees w sight m n p ss chain h levels ps v = record {
  holds = λ s fit fits. (let r = called_then tables trees w sight m n p ss chain h levels ps s fit fits v (callee w p.line v s) refl (((kept_by w (respects-callee w p.line v)).follows refl).holds s) in (ap (λ o. and_then o (after (with_outlines sight.outlines w) levels m p ps)) (callee-same trees w sight s fit p.line v) ∙ r.0, r.1));
}

pub agree-call_node : (tables : Tables) (trees : Trees) (w : Setting) (sight : Sight trees w) (m n : Semantics) (p : Site) (ss : List Statement) (chain : List ℕ) → Scene tables trees w m n p ss chain → (levels : ℕ) (f : Expression) (es : List Argument) → Sub (in_expression f chain) (uses ss) → Sub (all_uses in_argument es chain) (uses ss) → Agree trees w p.file chain (Some p.frame) (call_node (with_outlines sight.outlines w) levels m p f es) (call_node w levels n p f es)
agree-call_node tables trees w sight m n p ss chain h levels f es k l = agree_then trees w p.file chain (Some p.frame) _ _ _ _ (h.parts.expr p f ss chain h.stands (k)) (λ v. agree_then trees w p.file chain (Some p.frame) _ _ _ _ (agree_each trees w p.file chain (Some p.frame) (λ a. Sub (in_argument a chain) (uses ss)) _ _ (λ a j. agree-pass tables trees w sight m n p ss chain h a j) es (every in_argument es chain (uses ss) l)) (λ ps. agree-callee tables trees w sight m n p ss chain h levels ps v))

pub agree-run_body : (tables : Tables) (trees : Trees) (w : Setting) (sight : Sight trees w) (m n : Semantics) (p : Site) (ss : List Statement) (chain : List ℕ) → Scene tables trees w m n p ss chain → (b : Body) → Sub (body_uses b chain) (uses ss) → Agree trees w p.file chain (Some p.frame) (run_body m p b) (run_body n p b)
agree-run_body tables trees w sight m n p ss chain h (Statements body) k = agree_then trees w p.file chain (Some p.frame) _ _ _ _ (agree_block trees w p.file chain (Some p.frame) (λ x. Sub (in_statement x chain) (uses ss)) _ _ (λ x j. h.parts.stmt p x ss chain h.stands j) body (every in_statement body chain (uses ss) k)) (λ f. agree_give trees w p.file chain (Some p.frame) (answer_of f))
agree-run_body tables trees w sight m n p ss chain h (Answer e) k = h.parts.expr p e ss chain h.stands (k)

run_inside : (tables : Tables) (trees : Trees) (w : Setting) (sight : Sight trees w) (m n : Semantics) (p : Site) (f : Function) (d : Definition) (values : List (Name × Value)) (v : Value) (ss : List Statement) (chain : List ℕ)
    → Known tables trees w → AllAgree trees w m n → Stands trees f.file ss → Contains (uses ss) (Defined f.definition chain) → definition_of w f.file f.definition ≡ Some d
    → Every (λ y. Contains (uses ss) (Named y.0 ((1 + f.definition) ∷ chain))) values
    → Agree trees w f.file ((1 + f.definition) ∷ chain) (Some v) (all_of (λ x. bind_spot tables (record { file = f.file; frame = v; line = p.line }) x.0 x.1) values >>= λ _. activate f >>= λ _. run_body m (record { file = f.file; frame = v; line = p.line }) d.body >>= λ u. deactivate >>= λ _. give u)
    (all_of (λ x. bind_name w (record { file = f.file; frame = v; line = p.line }) x.0 x.1) values >>= λ _. activate f >>= λ _. run_body n (record { file = f.file; frame = v; line = p.line }) d.body >>= λ u. deactivate >>= λ _. give u)
run_inside tables trees w sight m n p f d values v ss chain known parts stands there is named =
    let body = (known.definitions f.file ss f.definition chain d stands there is).1 in
    let scene : Scene tables trees w m n (record { file = f.file; frame = v; line = p.line }) ss ((1 + f.definition) ∷ chain) = record { known = known; parts = parts; stands = stands } in
    agree_then trees w f.file ((1 + f.definition) ∷ chain) (Some v) _ _ _ _ (agree_all_of trees w f.file ((1 + f.definition) ∷ chain) (Some v) (λ x. Contains (uses ss) (Named x.0 ((1 + f.definition) ∷ chain))) _ _ (λ x k. agree_bind tables trees w known.resolved (record { file = f.file; frame = v; line = p.line }) x.0 x.1 ss ((1 + f.definition) ∷ chain) stands k) values named)
    (λ _. agree_then trees w f.file ((1 + f.definition) ∷ chain) (Some v) _ _ _ _ (agree_quiet trees w f.file ((1 + f.definition) ∷ chain) (Some v) _ (quiet.keeps_activate f))
    (λ _. agree_then trees w f.file ((1 + f.definition) ∷ chain) (Some v) _ _ _ _ (agree-run_body tables trees w sight m n (record { file = f.file; frame = v; line = p.line }) ss ((1 + f.definition) ∷ chain) scene d.body body)
    (λ u. agree_then trees w f.file ((1 + f.definition) ∷ chain) (Some v) _ _ _ _ (agree_quiet trees w f.file ((1 + f.definition) ∷ chain) (Some v) _ quiet.keeps_deactivate) (λ _. agree_give trees w f.file ((1 + f.definition) ∷ chain) (Some v) u))))

pub agree-run : (tables : Tables) (trees : Trees) (w : Setting) (sight : Sight trees w) (m n : Semantics) (p : Site) (f : Function) (d : Definition) (xs : List (Name × BoundArgument)) (ss : List Statement) (chain : List ℕ)
    → Known tables trees w → AllAgree trees w m n → Stands trees f.file ss → Contains (uses ss) (Defined f.definition chain) → definition_of w f.file f.definition ≡ Some d
    → Every (λ x. Contains (uses ss) (Named x.0 ((1 + f.definition) ∷ chain))) xs
    → Agree trees w f.file chain (Some f.frame) (run (by_places tables (with_outlines sight.outlines w)) m p f d xs) (run (by_names w) n p f d xs)
agree-run tables trees w sight m n p f d xs ss chain known parts stands there is named =
    agree_such trees w f.file chain (Some f.frame) _ _ _ _ (agree_kept trees w f.file chain (Some f.frame) _ (keeps-build_arguments p.line xs)) (λ s values t e.
    agree_then trees w f.file chain (Some f.frame) _ _ _ _ (agree_quiet trees w f.file chain (Some f.frame) _ (quiet.keeps_pay p.line 1)) (λ _.
    agree_frame tables trees w known.resolved f.file (1 + f.definition) ss chain (Some f.frame) _ _ stands (λ v.
    run_inside tables trees w sight m n p f d values v ss chain known parts stands there is (made_in (λ x. Contains (uses ss) (Named x ((1 + f.definition) ∷ chain))) p.line xs values s t named e))))
